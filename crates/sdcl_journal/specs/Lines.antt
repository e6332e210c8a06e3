-- The lines of events.
use Rattle.std.specs.Prelude.{ℕ, List, ◌++◌, codes, decimal}
use Rattle.std.specs.List.{flat_map}
use Rattle.sdcl_proof.specs.Lines.{literal_text, literals_text}
use Rattle.sdcl_journal.specs.Machine.{Event, Decide, NoWitness, InnerSpent, Learn, LearnWitness, Back, Forget, Empty, Model, Unknown}

-- the line of an event
unfoldable pub event_line : Event → List ℕ
event_line (Decide l) = codes "decide " ++ (literal_text l ++ codes "\n")
event_line NoWitness = codes "no-witness\n"
event_line (InnerSpent v) = codes "inner-spent " ++ (decimal v ++ codes "\n")
event_line (Learn c) = codes "learn " ++ (literals_text c ++ codes "0\n")
event_line (LearnWitness c w) = codes "learn-witness " ++ (literals_text c ++ (literals_text w ++ codes "0\n"))
event_line (Back k) = codes "back " ++ (decimal k ++ codes "\n")
event_line (Forget d) = codes "forget " ++ (literals_text d ++ codes "0\n")
event_line Empty = codes "empty\n"
event_line Model = codes "model\n"
event_line Unknown = codes "unknown\n"

-- the text of a journal
unfoldable pub journal_text : List Event → List ℕ
journal_text events = flat_map event_line events

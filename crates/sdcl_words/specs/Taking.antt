-- Which words each command takes, as `clap` reads them.
use Rattle.std.specs.Prelude.{List, [], ◌∷◌, ◌++◌, map, fold, codes, Option, Some, None, true}
use Rattle.std.specs.Prelude.{string_bytes}
use Rattle.std.specs.declared.string.String.{String}
use Rattle.std.specs.declared.alloc.Global.{Global}
use Rattle.clap.specs.Words.{App, Row, Rule, Text, matches_of, new_app, new_rule, with_rule}
use Rattle.clap.specs.Faults.{fault_of}
use Rattle.clap.specs.Kinds.{Kinds}
use Rattle.clap.specs.declared.builder.ArgAction.TheVariants.{Set}
use Rattle.sdcl_words.specs.declared.verb.Verb.{Verb}
use Rattle.sdcl_words.specs.declared.verb.Verb.TheVariants as verb

-- a positional argument that has to be there
abbrev pub wanted_rule : Text → Rule
wanted_rule id = record (new_rule id) { required = true; action = Some Set }

-- a positional argument that may be missing
abbrev pub optional_rule : Text → Rule
optional_rule id = record (new_rule id) { action = Some Set }

-- an option `--id=VALUE`
abbrev pub option_rule : Text → Rule
option_rule id = record (new_rule id) { long = Some id; action = Some Set }

-- a command with one argument more
unfoldable pub with_argument : App → Rule → App
with_argument app rule = with_rule app rule

-- a command with these arguments more
abbrev pub with_arguments : App → List Rule → App
with_arguments app rules = fold with_argument app rules

-- a command with these arguments
abbrev pub app_with : List Rule → App
app_with rules = with_arguments (new_app (codes "sdcl")) rules

-- the options of `solve` whose values are numbers, and those whose values are words
abbrev pub number_rules : List Rule
number_rules =
    option_rule (codes "budget") ∷ option_rule (codes "depth") ∷ option_rule (codes "inner-budget")
    ∷ []

abbrev pub word_rules : List Rule
word_rules =
    option_rule (codes "reduct") ∷ option_rule (codes "decide") ∷ option_rule (codes "restart") ∷ []

-- `solve`
abbrev pub solve_app : App
solve_app = app_with (wanted_rule (codes "cnf") ∷ optional_rule (codes "proof")
    ∷ option_rule (codes "journal") ∷ number_rules ++ word_rules)

-- `check` and `drat`
abbrev pub judge_app : App
judge_app = app_with (wanted_rule (codes "cnf") ∷ wanted_rule (codes "proof") ∷ [])

-- `convert`
abbrev pub convert_app : App
convert_app = app_with (wanted_rule (codes "cnf") ∷ wanted_rule (codes "proof")
    ∷ wanted_rule (codes "out") ∷ [])

-- `drill`
abbrev pub drill_app : App
drill_app = app_with (wanted_rule (codes "holes") ∷ [])

-- the words that a command takes
abbrev pub app_for : Verb → App
app_for verb.Solve = solve_app
app_for verb.Check = judge_app
app_for verb.Drat = judge_app
app_for verb.Convert = convert_app
app_for verb.Drill = drill_app

-- the words as `clap` takes them
abbrev pub word_texts : List (String Global) → List Text
word_texts = map string_bytes

-- the rows, where nothing is refused
abbrev pub unless_refused : Kinds → List Row → Option (List Row)
unless_refused [] rows = Some rows
unless_refused (k ∷ ks) rows = None

-- the rows that `clap` gives for the words of a command, where it takes them
abbrev pub rows_taken : App → List (String Global) → Option (List Row)
rows_taken app words =
    unless_refused (fault_of app (word_texts words)) (matches_of app (word_texts words))

-- Words that are taken, and words that are refused.
use Rattle.std.proofs.Common.{◌≡◌, List, [], ◌∷◌, Some, None, true, refl, inl, inr, sym, ap, ◌∙◌}
use Rattle.std.specs.declared.string.String.{String}
use Rattle.std.specs.declared.alloc.Global.{Global}
use Rattle.clap.specs.Words.{App, HasKind, HasMatchesOf, IsAmong, Row, found_of, kind_of, rows_of}
use Rattle.clap.specs.Faults.{fault_of, is_simple_and_free}
use Rattle.clap.specs.Kinds.{Kinds}
use Rattle.clap.specs.declared.parser.matches.ArgMatches.{ArgMatches}
use Rattle.clap.specs.declared.error.Error.{Error}
use Rattle.clap.specs.declared.error.kind.ErrorKind.{ErrorKind}
use Rattle.clap.specs.declared.error.kind.ErrorKind.TheVariants.{OutOfMemory}
use Rattle.sdcl_words.proofs.Simple.{simple, free}
use Rattle.sdcl_words.specs.Taking.{app_for, rows_taken, unless_refused, word_texts}
use Rattle.sdcl_words.specs.declared.verb.Verb.{Verb}

unrefused : (kinds : Kinds) (rows : List Row) → kinds ≡ [] → unless_refused kinds rows ≡ Some rows
unrefused kinds rows none = rw (none)

among : (kinds : Kinds) (rows : List Row) (k : ErrorKind) → IsAmong k kinds → unless_refused kinds rows ≡ None
among [] rows k h = absurd h
among (x ∷ xs) rows k h = refl

refused_by : (kinds : Kinds) (rows : List Row) (e : Error) → HasKind kinds e → (kind_of e ≡ OutOfMemory → ⊥) → unless_refused kinds rows ≡ None
refused_by kinds rows e has other = elim has [ inl memory ↦ absurd (other memory) | inr h ↦ among kinds rows (kind_of e) h ]

-- the words of a command are taken, and its matches have the rows
pub taken : (a : App) (v : Verb) (words : List (String Global)) (m : ArgMatches) → a ≡ app_for v → HasMatchesOf a (word_texts words) m
    → (is_simple_and_free a ≡ true → fault_of a (word_texts words) ≡ []) → rows_taken (app_for v) words ≡ Some (rows_of (found_of m))
taken a v words m is matches whole =
    let has : HasMatchesOf (app_for v) (word_texts words) m = rw is at matches in
    let none : is_simple_and_free (app_for v) ≡ true → fault_of (app_for v) (word_texts words) ≡ [] = rw is at whole in
    unrefused _ _ (none (free v)) ∙ ap (λ (r : List Row). Some r) (sym (has (simple v)).0)

-- the words of a command are refused, where it was not for want of memory
pub refused : (a : App) (v : Verb) (words : List (String Global)) (e : Error) → a ≡ app_for v
    → (is_simple_and_free a ≡ true → HasKind (fault_of a (word_texts words)) e) → (kind_of e ≡ OutOfMemory → ⊥) → rows_taken (app_for v) words ≡ None
refused a v words e is has other =
    let kinds : is_simple_and_free (app_for v) ≡ true → HasKind (fault_of (app_for v) (word_texts words)) e = rw is at has in
    refused_by _ _ e (kinds (free v)) other

-- The clause of the decisions with a witness.
use Rattle.std.specs.Prelude.{◌≡◌, ℕ, Bool, true, not, List, [], ◌∷◌, Option, is_some, refl}
use Rattle.std.specs.List.{filter}
use Rattle.std.specs.Coded.{Coded, code_by, coded×, coded_ℕ, coded_list}
use Rattle.sdcl_base.specs.Literal.{Literal, Clause, negated, without, complements}
use Rattle.sdcl_base.specs.Truth.{makes_true}
use Rattle.sdcl_base.specs.Sets.{In}
use Rattle.sdcl_base.specs.Values.{value_of, truth_of}
use Rattle.sdcl_base.specs.contracts.lit.Lit as lit
use Rattle.sdcl_trail.specs.Levels.{Levels, decisions}

-- the greatest variable that may come, the clause and the witness
pub record Pair : Type 0 where
  pub room : ℕ
  pub clause : List Literal
  pub lits : List Literal

abbrev lits_code : Coded (List Literal)
lits_code = coded_list lit.the_row.coded

abbrev pub pair_code : Coded Pair
pair_code = code_by (ℕ × (List Literal × List Literal)) (coded× coded_ℕ (coded× lits_code lits_code))
    (λ w. (w.room, (w.clause, w.lits)))
    (λ p. record { room = p.0; clause = p.1.0; lits = p.1.1 }) (λ _. refl)

-- each literal's variable has a value
abbrev pub IsTotalOn : List (Option Bool) → Clause → Type 0
IsTotalOn values a = (l : Literal) → In a l → is_some (value_of values l.var) ≡ true

-- two empty lists
abbrev pub bare_pair : ℕ → Pair
bare_pair room = record { room = room; clause = []; lits = [] }

-- the literals of a that v makes false
abbrev pub turned : (ℕ → Bool) → Clause → Clause
turned v a = filter (λ l. not (makes_true v l)) a

-- d's complement in front, and then those of c's other literals
abbrev pub complements_after : Literal → Clause → Clause
complements_after d c = negated d ∷ complements (without c d)

-- the complements of c's literals, that of the first literal of `ls` in front
abbrev pub complements_from : Clause → Clause → Clause
complements_from [] c = complements c
complements_from (d ∷ ls) c = complements_after d c

-- the clause of the complements of the decisions, and the witness of the literals that v makes true
-- and the trail false: the complement of the first decision that v makes false stands in front of
-- both
abbrev pub extracted : ℕ → (ℕ → Bool) → Clause → Clause → Pair
extracted room v ds a = record {
  room = room;
  clause = complements_from (turned v ds) ds;
  lits = complements_from (turned v ds) (turned v a);
}

-- the same, of a model and a trail, in the place of what stood there
abbrev pub extracted_for : Pair → List (Option Bool) → Levels → Pair
extracted_for out values t = extracted out.room (truth_of values) (decisions t) t.lits

-- the literals of a that the assignment makes false
abbrev pub turned_by : List (Option Bool) → Clause → Clause
turned_by values a = turned (truth_of values) a

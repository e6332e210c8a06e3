-- What an analysis gives.
use Rattle.std.specs.Prelude.{◌≡◌, ◌≤◌, ℕ, true, List, ◌∷◌, ◌++◌, map, length}
use Rattle.sdcl_base.specs.Literal.{Literal, Clause, negated, same_set, no_variable_twice}
use Rattle.sdcl_base.specs.Propagation.{distinct}
use Rattle.sdcl_base.specs.declared.lit.ClauseId.{ClauseId}
use Rattle.sdcl_store.specs.Slots.{Slots, clause_of, live}
use Rattle.sdcl_store.specs.Fitting.{Level}
use Rattle.sdcl_store.specs.Analysis.{analysis}
use Rattle.sdcl_store.specs.Trails.{level_of, back_level, Asserts}
use Rattle.sdcl_store.specs.Laws.{Learned}
use Rattle.sdcl_trail.specs.Levels.{Levels}
use Rattle.sdcl_prop.specs.Seeing.{levels_seen}
use Rattle.sdcl_analyze.specs.Numbers.{AllDiffer, has_number}
use Rattle.sdcl_analyze.specs.Walking.{resolved_from}

-- the number of levels on which complements of the literals stand
abbrev pub levels_of_clause : List Level → Clause → ℕ
levels_of_clause levels c = length (distinct (map (λ m. level_of levels (negated m)) c))

-- the clause is what analysis gives of the levels and the false clause d. It may be learned over f,
-- and asserts its first literal at the back level
pub record IsLearned (f : List Clause) (levels : List Level) (d clause : Clause)
    (back glue : ℕ) : Type 0 where
  pub is : same_set clause (analysis levels d) ≡ true
  pub apart : no_variable_twice clause ≡ true
  pub sound : Learned f levels clause
  pub first : Literal
  pub rest : Clause
  pub parts : clause ≡ first ∷ rest
  pub asserts : Asserts levels clause back first
  pub back_is : back ≡ back_level levels clause
  pub glue_is : glue ≡ levels_of_clause levels clause

-- the same of a trail over clauses with ids, and the id of the false clause
abbrev pub LearnsFrom : Slots → Levels → ClauseId → Clause → ℕ → ℕ → Type 0
LearnsFrom slots t id clause back glue =
    IsLearned (live slots) (levels_seen slots t) (clause_of slots id.0) clause back glue

-- the variables on which the analysis of the false clause d resolves, and those of the clause that
-- it gives
abbrev pub variables_seen : List Level → Clause → Clause → List ℕ
variables_seen levels d clause = resolved_from levels d ++ map (λ l. l.var) clause

-- the numbers are exactly these, each once, and up to n
pub record ListsSeen (levels : List Level) (d clause : Clause) (n : ℕ)
    (seen : List ℕ) : Type 0 where
  pub exactly : (x : ℕ) → has_number seen x ≡ has_number (variables_seen levels d clause) x
  pub differ : AllDiffer seen
  pub range : (x : ℕ) → has_number seen x ≡ true → (1 ≤ x) × (x ≤ n)

-- the same of a trail over clauses with ids, and the id of the false clause
abbrev pub ListsFrom : Slots → Levels → ClauseId → Clause → List ℕ → Type 0
ListsFrom slots t id clause seen =
    ListsSeen (levels_seen slots t) (clause_of slots id.0) clause t.variables seen

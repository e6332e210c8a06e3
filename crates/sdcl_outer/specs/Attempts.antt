-- How an attempt ends.
use Rattle.std.specs.Prelude.{◌≡◌, ◌≢◌, ◌^◌, ◌<◌, ℕ, Bool, true, List, [], length, slice_get, ⊤}
use Rattle.std.specs.List.{list_all}
use Rattle.sdcl_base.specs.Literal.{Literal, Clause, names, same_set, complements}
use Rattle.sdcl_base.specs.Sets.{In}
use Rattle.sdcl_base.specs.Truth.{meets, Unsatisfiable}
use Rattle.sdcl_base.specs.Redundancy.{pr}
use Rattle.sdcl_base.specs.Reduct.{reduct, HasModel, ShowsLong}
use Rattle.sdcl_base.specs.Laws.{HasWitness}
use Rattle.sdcl_base.specs.declared.mode.ReductMode.{ReductMode}
use Rattle.sdcl_base.specs.declared.mode.ReductMode.TheVariants as mode
use Rattle.sdcl_trail.specs.Levels.{Levels, lits_of, decisions}
use Rattle.sdcl_witness.specs.Witnesses.{Pair, turned, extracted}
use Rattle.sdcl_outer.specs.declared.attempted.Attempt.{Attempt}
use Rattle.sdcl_outer.specs.declared.attempted.Attempt.TheVariants as attempt

-- the mode's reduct at the trail's decisions
abbrev pub reduct_here : ReductMode → List Clause → Levels → List Clause
reduct_here mode f t = reduct mode f (decisions t)

-- the clause of the complements of the decisions is PR with the witness, which is over the trail's
-- variables
pub record IsWitness (f : List Clause) (t : Levels) (out : Pair) : Type 0 where
  pub own : same_set out.clause (complements (decisions t)) ≡ true
  pub over : list_all (names (lits_of t)) out.lits ≡ true
  pub is_pr : pr f out.clause out.lits ≡ true
  pub first : slice_get out.lits 0 ≡ slice_get out.clause 0

-- the inner budget was spent on the reduct r over the trail's variables, so it was small
abbrev pub IsLong : List Clause → Levels → ℕ → ℕ → List Clause → Type 0
IsLong r t budget variables kept =
    (variables ≡ length (lits_of t)) × ShowsLong r (lits_of t) budget kept
    × (budget < 3 ^ length (lits_of t))

-- the answer is right of the mode's reduct
abbrev pub Attempted : ReductMode → List Clause → Levels → ℕ → Pair → Attempt → Type 0
Attempted mode f t budget out attempt.Witnessed =
    HasModel (reduct_here mode f t) × IsWitness f t out
Attempted mode f t budget out attempt.NoWitness = ¬ HasModel (reduct_here mode f t)
Attempted mode f t budget out (attempt.InnerSpent variables kept) =
    IsLong (reduct_here mode f t) t budget variables kept

-- where the filtered reduct has no model, no witness over the closure of the decisions makes the
-- clause of their complements PR
abbrev pub Exhausts : ReductMode → List Clause → Levels → Attempt → Type 0
Exhausts m f t attempt.Witnessed = ⊤
Exhausts m f t attempt.NoWitness = m ≡ mode.Filtered → ¬ HasWitness f (decisions t)
Exhausts m f t (attempt.InnerSpent variables kept) = ⊤

-- the clauses are over a's variables
abbrev pub AreOver : Clause → List Clause → Type 0
AreOver a r = (d : Clause) (l : Literal) → In r d → In d l → names a l ≡ true

-- the answer is right of the clauses r, of which the last is that of the complements of the
-- decisions
abbrev pub EndsReduct : List Clause → Levels → ℕ → ℕ → Pair → Attempt → Type 0
EndsReduct r t budget room out attempt.Witnessed = (v : ℕ → Bool) × (meets v r ≡ true)
    × (turned v (decisions t) ≢ [])
    × (out ≡ extracted room v (decisions t) (lits_of t))
EndsReduct r t budget room out attempt.NoWitness = Unsatisfiable r
EndsReduct r t budget room out (attempt.InnerSpent variables kept) =
    (variables ≡ length (lits_of t)) × ShowsLong r (lits_of t) budget kept

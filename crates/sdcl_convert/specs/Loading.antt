-- What the loading of a proof gives.
use Rattle.std.specs.Prelude.{◌≡◌, ◌⊎◌, ⊤, ◌<◌, ◌≤◌, ℕ, false, List, Result, Ok, Err, IfOk, map}
use Rattle.sdcl_base.specs.Literal.{Clause}
use Rattle.sdcl_base.specs.declared.lit.TheConstants.{MAX_VARIABLE}
use Rattle.std.specs.List.{list_any}
use Rattle.sdcl_io.specs.Step.{Step, All, End, Verified, judge, adds_empty}
use Rattle.sdcl_proof.specs.Steps.{step_of}
use Rattle.sdcl_proof.specs.declared.step.Step.{Step as Coded}
use Rattle.sdcl_proof.specs.declared.fault.ProofError.{ProofError}
use Rattle.sdcl_proof.specs.Stepping.{Stepping}
use Rattle.sdcl_prcheck.specs.Checking.{Checks, EndsEmpty}
use Rattle.sdcl_prcheck.specs.declared.verdict.Verdict.{Verdict}
use Rattle.sdcl_prcheck.specs.declared.verdict.Verdict.TheVariants as verdict
use Rattle.sdcl_convert.specs.Checked.{needed}
use Rattle.sdcl_convert.specs.declared.loading.Loaded.{Loaded}
use Rattle.sdcl_convert.specs.declared.loading.Loaded.TheVariants as loaded

-- what a checker finds of the same proof
abbrev pub found_in : Loaded → Verdict
found_in (loaded.Valid c) = verdict.Verified
found_in (loaded.NotVerified k) = verdict.NotVerified k
found_in (loaded.TooManyVariables n) = verdict.Verified

-- what a checker says of the same proof
abbrev pub verdict_of : Result Loaded ProofError → Result Verdict ProofError
verdict_of (Ok l) = Ok (found_in l)
verdict_of (Err e) = Err e

-- The formula and the steps that were taken are kept, and there are variables enough; or the conversion would need this variable,
-- which is too great.
abbrev pub KeepsProof : ℕ → List Clause → List Step → Loaded → Type 0
KeepsProof n f taken (loaded.Valid p) = (p ≡ record { variables = n; formula = f; steps = taken }) × (needed n taken ≤ MAX_VARIABLE)
KeepsProof n f taken (loaded.NotVerified k) = ⊤
KeepsProof n f taken (loaded.TooManyVariables m) = (m ≡ needed n taken) × (MAX_VARIABLE < m)

-- it was verified
abbrev pub SaysVerified : Loaded → Type 0
SaysVerified (loaded.Valid p) = ⊤
SaysVerified (loaded.NotVerified k) = ⊥
SaysVerified (loaded.TooManyVariables m) = ⊤

-- The steps refute the formula, and end with the first that adds the empty clause, where one does.
pub record IsRefutation (f : List Clause) (ss : List Step) : Type 0 where
  pub refuted : judge All f ss End ≡ Verified
  pub ends : EndsEmpty ss ⊎ (list_any adds_empty ss ≡ false)

-- What the loading of a proof over n variables did: it is judged as by a checker, and the steps that were taken are kept.
pub record LoadsProof (n : ℕ) (f : List Clause) (r s : Stepping) (result : Result Loaded ProofError) : Type 0 where
  pub clauses : List Clause
  pub checks : Checks f clauses r s (verdict_of result)
  pub keeps : IfOk result (λ l. KeepsProof n f checks.taken l)

-- A proof was judged, and where it was verified, the steps that were taken are these.
pub record Collects (f : List Clause) (kept : List Coded) (r s : Stepping) (result : Result Verdict ProofError) : Type 0 where
  pub clauses : List Clause
  pub checks : Checks f clauses r s result
  pub collected : IfOk result (λ v. v ≡ verdict.Verified → checks.taken ≡ map step_of kept)

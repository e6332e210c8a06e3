-- The judgement of a proof as a table of cases, by the lists of its first steps.
use Rattle.std.specs.Prelude.{◌≡◌, ◌≢◌, ◌↔◌, ◌⊎◌, ◌<◌, ℕ, ◌+◌, Bool, true, false, List, [], length, take}
use Rattle.std.specs.List.{list_any}
use Rattle.sdcl_base.specs.Literal.{Clause}
use Rattle.sdcl_base.specs.Propagation.{refutes}
use Rattle.sdcl_io.specs.Step.{Step, All, Ending, End, Verified, NotVerified, Ended, adds_empty, apply_all, judge, ValidSteps}

-- The steps are valid, and none of them adds the empty clause.
pub record Goes (f : List Clause) (steps : List Step) : Type 0 where
  pub valid : ValidSteps f steps
  pub none_adds : list_any adds_empty steps ≡ false

-- The first n steps are valid and add no empty clause, and the step behind them is not valid.
pub record FailsBehind (f : List Clause) (steps : List Step) (n : ℕ) : Type 0 where
  pub there : n < length steps
  pub before : Goes f (take n steps)
  pub not_valid : ValidSteps f (take (n + 1) steps) → ⊥

-- The first n steps are valid and add no empty clause, and the step behind them is valid and adds it.
pub record ClosesBehind (f : List Clause) (steps : List Step) (n : ℕ) : Type 0 where
  pub there : n < length steps
  pub before : Goes f (take n steps)
  pub valid : ValidSteps f (take (n + 1) steps)
  pub adds : list_any adds_empty (take (n + 1) steps) ≡ true

-- All steps are valid and add no empty clause, no fault follows them, and whether the empty set refutes what they leave is this.
pub record EndsWith (f : List Clause) (steps : List Step) (ending : Ending) (refuted : Bool) : Type 0 where
  pub through : Goes f steps
  pub at_end : ending ≡ End
  pub is : refutes (apply_all All f steps) [] ≡ refuted

-- a proof is verified exactly where a step closes it, or its end does
abbrev pub VerifiedExactly : Type 0
VerifiedExactly = (f : List Clause) (steps : List Step) (ending : Ending)
    → (judge All f steps ending ≡ Verified) ↔ (((n : ℕ) × ClosesBehind f steps n) ⊎ EndsWith f steps ending true)

-- a proof is not verified at step k exactly where step k is the first that fails, or k is one more than its last and its end does not close it
abbrev pub NotVerifiedExactly : Type 0
NotVerifiedExactly = (f : List Clause) (steps : List Step) (ending : Ending) (k : ℕ)
    → (judge All f steps ending ≡ NotVerified k)
    ↔ (((n : ℕ) × FailsBehind f steps n × (k ≡ n + 1)) ⊎ (EndsWith f steps ending false × (k ≡ length steps + 1)))

-- a fault or the limit ends a proof exactly where all its steps are valid and add no empty clause
abbrev pub EndedExactly : Type 0
EndedExactly = (f : List Clause) (steps : List Step) (ending e : Ending)
    → (judge All f steps ending ≡ Ended e) ↔ (Goes f steps × (ending ≡ e) × (e ≢ End))

-- A formula with a proof of it, and the variables that the conversion needs.
use Rattle.std.specs.Prelude.{◌≡◌, ◌⊎◌, ◌≤◌, ℕ, ◌+◌, max, Bool, true, false, List, [], ◌∷◌, map, refl, Option, None, Some}
use Rattle.std.specs.List.{list_any}
use Rattle.std.specs.Coded.{Coded, code_by, coded×, coded_ℕ, coded_bool, coded_list, coded_option}
use Rattle.sdcl_base.specs.Literal.{Clause}
use Rattle.sdcl_base.specs.Sets.{WithinVariables}
use Rattle.sdcl_base.specs.declared.lit.TheConstants.{MAX_VARIABLE}
use Rattle.sdcl_base.specs.contracts.lit.Lit as lit
use Rattle.sdcl_io.specs.Step.{Step, Add, AddWitness, Delete, All, End, Verified, judge, adds_empty}
use Rattle.sdcl_proof.specs.Steps.{step_of}
use Rattle.sdcl_proof.specs.declared.step.Step.{Step as StepCode}
use Rattle.sdcl_store.specs.Stores.{Stored, clauses_in}
use Rattle.sdcl_prcheck.specs.Checking.{EndsEmpty}

-- the variables of the header, the formula, and the steps of a proof
pub record Proven : Type 0 where
  pub variables : ℕ
  pub formula : List Clause
  pub steps : List Step

-- the greatest of n and the clause's variables
abbrev pub greatest_from : ℕ → Clause → ℕ
greatest_from n [] = n
greatest_from n (l ∷ ls) = greatest_from (max n l.var) ls

-- the greatest of n and the step's variables
abbrev pub greatest_with : ℕ → Step → ℕ
greatest_with n (Add c) = greatest_from n c
greatest_with n (AddWitness c w) = greatest_from (greatest_from n c) w
greatest_with n (Delete c) = greatest_from n c

-- the greatest of n and all variables of the steps
abbrev pub greatest_over : ℕ → List Step → ℕ
greatest_over n [] = n
greatest_over n (s ∷ ss) = greatest_over (greatest_with n s) ss

-- the number of additions with a witness
abbrev pub witnesses : List Step → ℕ
witnesses [] = 0
witnesses (Add c ∷ ss) = witnesses ss
witnesses (AddWitness c w ∷ ss) = 1 + witnesses ss
witnesses (Delete c ∷ ss) = witnesses ss

-- the greatest variable of the converted proof, where the steps are those of a proof over n variables
abbrev pub needed : ℕ → List Step → ℕ
needed n ss = greatest_over n ss + witnesses ss

-- the variable of the first block
abbrev pub first_new : Proven → ℕ
first_new p = greatest_over p.variables p.steps + 1

-- The steps refute the formula, which has no other variables than the header, and end with the first that adds the empty
-- clause, where one does; and there are variables enough for the blocks.
pub record IsProven (p : Proven) : Type 0 where
  pub within : WithinVariables p.variables p.formula
  pub refuted : judge All p.formula p.steps End ≡ Verified
  pub ends : EndsEmpty p.steps ⊎ (list_any adds_empty p.steps ≡ false)
  pub enough : needed p.variables p.steps ≤ MAX_VARIABLE

-- the same, with the greatest variable of the header, the formula and the steps
pub record IsProvenUpTo (greatest : ℕ) (p : Proven) : Type 0 where
  pub checked : IsProven p
  pub greatest_is : greatest ≡ greatest_over p.variables p.steps

-- what is seen of the variables, the store and the steps of the code
abbrev pub proven_of : ℕ → Stored → List StepCode → Proven
proven_of n formula steps = record { variables = n; formula = clauses_in formula; steps = map step_of steps }

-- ---- the code of a proof

abbrev pub coded_clause : Coded Clause
coded_clause = coded_list lit.the_row.coded

abbrev pub step_parts : Step → Bool × (Clause × Option Clause)
step_parts (Add c) = (true, (c, None))
step_parts (AddWitness c w) = (true, (c, Some w))
step_parts (Delete c) = (false, (c, None))

abbrev pub step_from : Bool × (Clause × Option Clause) → Step
step_from (false, (c, w)) = Delete c
step_from (true, (c, None)) = Add c
step_from (true, (c, Some w)) = AddWitness c w

pub step_back : (s : Step) → step_from (step_parts s) ≡ s
step_back (Add c) = refl
step_back (AddWitness c w) = refl
step_back (Delete c) = refl

abbrev pub step_code : Coded Step
step_code = code_by (Bool × (Clause × Option Clause)) (coded× coded_bool (coded× coded_clause (coded_option coded_clause))) step_parts step_from step_back

abbrev pub proven_code : Coded Proven
proven_code =
    code_by (ℕ × (List Clause × List Step)) (coded× coded_ℕ (coded× (coded_list coded_clause) (coded_list step_code))) (λ p. (p.variables, (p.formula, p.steps)))
    (λ q. record { variables = q.0; formula = q.1.0; steps = q.1.1 }) (λ _. refl)

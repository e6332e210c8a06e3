-- What a conversion did.
use Rattle.std.specs.Prelude.{◌≡◌, ◌⊎◌, ◌≤◌, ◌+◌, ℕ, false, List, length, Option, None}
use Rattle.std.specs.List.{list_any}
use Rattle.sdcl_base.specs.Literal.{Clause}
use Rattle.sdcl_base.specs.declared.lit.TheConstants.{MAX_VARIABLE}
use Rattle.sdcl_io.specs.Step.{Step, All, End, Verified, judge, adds_empty}
use Rattle.sdcl_prcheck.specs.Checking.{EndsEmpty}
use Rattle.sdcl_convert.specs.Laws.{AllBelow, StepsBelow}
use Rattle.sdcl_convert.specs.Checked.{Proven, first_new, witnesses}
use Rattle.sdcl_convert.specs.Conversion.{converted_apart, has_witness}
use Rattle.sdcl_io.specs.Telling.{IsTold}
use Rattle.sdcl_convert.specs.declared.converting.Converted.{Converted}

-- the converted proof
abbrev pub lines_for : Proven → List Step
lines_for p = converted_apart All p.formula p.steps (first_new p)

-- The next variable is above those of the formula and the additions, only the last step may add the empty clause, and there
-- are variables enough.
pub record MayBeConverted (f : List Clause) (ss : List Step) (greatest : ℕ) : Type 0 where
  pub formula : AllBelow (greatest + 1) f
  pub steps : StepsBelow (greatest + 1) ss
  pub ends : EndsEmpty ss ⊎ (list_any adds_empty ss ≡ false)
  pub enough : greatest + witnesses ss ≤ MAX_VARIABLE

-- The sink took the converted proof, and the counts are those of it.
pub record WritesLines {S : Type 0} (tells : S → List Step → Option Step → Type 0) (old new : S) (f : List Clause) (ss : List Step) (x : ℕ) (counts : Converted) : Type 0 where
  pub told : IsTold tells old new (converted_apart All f ss x) None
  pub steps : counts.steps ≡ length ss
  pub lines : counts.lines ≡ length (converted_apart All f ss x)
  pub new_variables : counts.new_variables ≡ witnesses ss

-- The converted proof has no witness and refutes the formula, and the counts are those of it.
pub record IsConversion (p : Proven) (counts : Converted) : Type 0 where
  pub plain : list_any has_witness (lines_for p) ≡ false
  pub refuted : judge All p.formula (lines_for p) End ≡ Verified
  pub steps : counts.steps ≡ length p.steps
  pub lines : counts.lines ≡ length (lines_for p)
  pub new_variables : counts.new_variables ≡ witnesses p.steps

-- The sink took the converted proof.
pub record Converts {S : Type 0} (tells : S → List Step → Option Step → Type 0) (old new : S) (p : Proven) (counts : Converted) : Type 0 where
  pub told : IsTold tells old new (lines_for p) None
  pub is : IsConversion p counts

-- A checked proof is converted whole.
use Rattle.std.proofs.Common.{◌≡◌, ◌+◌, ℕ, List, Option, Result, Ok, Err, ap, subst, arith}
use Rattle.std.specs.Prelude.{IfOk, OnErr}
use Rattle.sdcl_base.specs.Literal.{Clause}
use Rattle.sdcl_io.specs.Step.{Step, All, End, Verified, judge}
use Rattle.sdcl_convert.specs.Conversion.{converted_apart}
use Rattle.sdcl_convert.specs.Checked.{Proven, IsProven, greatest_over, first_new}
use Rattle.sdcl_convert.specs.Converting.{MayBeConverted, WritesLines, Converts, lines_for}
use Rattle.sdcl_convert.specs.Begun.{AreFirstOf}
use Rattle.sdcl_convert.specs.declared.converting.Converted.{Converted}
use Rattle.sdcl_convert.specs.declared.writing.ConvertError.{ConvertError}
use Rattle.sdcl_convert.proofs.Apart.{steps_within, formula_within, over_at_least}
use Rattle.sdcl_convert.proofs.Whole.{apart_law}
use Rattle.sdcl_convert.proofs.Plain.{apart_plain_law}

abbrev pub proven_with : ℕ → List Clause → List Step → Proven
proven_with n f ss = record { variables = n; formula = f; steps = ss }

pub may_convert : (n : ℕ) (f : List Clause) (ss : List Step) (greatest : ℕ) → IsProven (proven_with n f ss) → greatest ≡ greatest_over n ss → MayBeConverted f ss greatest
may_convert n f ss greatest h e = record {
  formula = formula_within n greatest f h.within (omega (arith, e, over_at_least n ss));
  steps = steps_within n greatest ss (omega (arith, e));
  ends = h.ends;
  enough = omega (arith, e, h.enough);
}

first_is : (n : ℕ) (f : List Clause) (ss : List Step) (greatest : ℕ) → greatest ≡ greatest_over n ss → greatest + 1 ≡ first_new (proven_with n f ss)
first_is n f ss greatest e = ap (λ m. m + 1) e

when_ok : {A E : Type 0} (r : Result A E) (P Q : A → Type 0) → ((a : A) → P a → Q a) → IfOk r P → IfOk r Q
when_ok (Ok a) P Q h k = h a k
when_ok (Err e) P Q h k = tt

one_run : {S : Type 0} (tells : S → List Step → Option Step → Type 0) (old new : S) (n : ℕ) (f : List Clause) (ss : List Step) (greatest : ℕ) (c : Converted)
    → IsProven (proven_with n f ss) → greatest ≡ greatest_over n ss → WritesLines tells old new f ss (greatest + 1) c → Converts tells old new (proven_with n f ss) c
one_run tells old new n f ss greatest c h e w =
    let m : MayBeConverted f ss greatest = may_convert n f ss greatest h e in
    let v : WritesLines tells old new f ss (first_new (proven_with n f ss)) c = subst (λ x. WritesLines tells old new f ss x c) (first_is n f ss greatest e) w in
    record {
      told = v.told;
      is = record {
        plain = apart_plain_law All f ss (first_new (proven_with n f ss));
        refuted = subst (λ x. judge All f (converted_apart All f ss x) End ≡ Verified) (first_is n f ss greatest e) (apart_law All f ss (greatest + 1) m.formula m.steps h.refuted);
        steps = v.steps;
        lines = v.lines;
        new_variables = v.new_variables;
      };
    }

module _ {S : Type 0} (tells : S → List Step → Option Step → Type 0) (old new : S) (n : ℕ) (f : List Clause) (ss : List Step) (greatest : ℕ) (r : Result Converted ConvertError) where
  pub converts : IsProven (proven_with n f ss) → greatest ≡ greatest_over n ss → IfOk r (λ c. WritesLines tells old new f ss (greatest + 1) c) → IfOk r (λ c. Converts tells old new (proven_with n f ss) c)
  converts h e k = when_ok r (λ c. WritesLines tells old new f ss (greatest + 1) c) (λ c. Converts tells old new (proven_with n f ss) c) (λ c w. one_run tells old new n f ss greatest c h e w) k

  pub first_lines : greatest ≡ greatest_over n ss → OnErr r (AreFirstOf tells old new (converted_apart All f ss (greatest + 1))) → OnErr r (AreFirstOf tells old new (lines_for (proven_with n f ss)))
  first_lines e k = subst (λ x. OnErr r (AreFirstOf tells old new (converted_apart All f ss x))) (first_is n f ss greatest e) k

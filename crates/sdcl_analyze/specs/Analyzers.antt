-- What an analyzer keeps, and what an analysis gives.
use Rattle.std.specs.Prelude.{◌≡◌, ◌≤◌, ◌+◌, ℕ, List, vec_capacity, refl}
use Rattle.std.specs.declared.vec.Vec.{Vec}
use Rattle.std.specs.declared.alloc.Global.{Global}
use Rattle.std.specs.Coded.{Coded, code_by, coded×, coded_ℕ, coded_list}
use Rattle.sdcl_base.specs.declared.lit.TheConstants.{MAX_VARIABLE}
use Rattle.sdcl_base.specs.Literal.{Literal}
use Rattle.sdcl_base.specs.contracts.lit.Lit as lit
use Rattle.sdcl_analyze.specs.declared.minimising.Frame.{Frame}
use Rattle.sdcl_analyze.specs.Numbers.{Numbers}

-- the greatest variable, and the last result
pub record Analyzed : Type 0 where
  pub variables : ℕ
  pub clause : List Literal
  pub back : ℕ
  pub glue : ℕ
  pub seen : List ℕ

abbrev pub analyzed_code : Coded Analyzed
analyzed_code =
    code_by (ℕ × (List Literal × (ℕ × (ℕ × List ℕ))))
    (coded× coded_ℕ (coded× (coded_list lit.the_row.coded)
    (coded× coded_ℕ (coded× coded_ℕ (coded_list coded_ℕ)))))
    (λ a. (a.variables, (a.clause, (a.back, (a.glue, a.seen)))))
    (λ p. record {
      variables = p.0;
      clause = p.1.0;
      back = p.1.1.0;
      glue = p.1.1.1.0;
      seen = p.1.1.1.1;
    })
    (λ _. refl)

-- there is room for each variable
pub record IsRoomy (n : ℕ) (marked entered covered seen levels : Numbers)
    (lower clause : Vec Literal Global) (stack : Vec Frame Global) : Type 0 where
  pub rooms : (marked.room ≡ n + 1) × (entered.room ≡ n + 1) × (covered.room ≡ n + 1)
      × (seen.room ≡ n + 1) × (levels.room ≡ n + 2)
  pub memory : (n + 1 ≤ vec_capacity lower) × (n + 2 ≤ vec_capacity clause)
      × (n + 1 ≤ vec_capacity stack)
  pub small : n ≤ MAX_VARIABLE

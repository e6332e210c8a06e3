-- Rankings in step with a trail.
use Rattle.std.proofs.Common.{ℕ, ◌≡◌, ◌+◌, ◌≤◌, Bool, false, List, sym, ◌∙◌, ap, ⊎_elim, arith, get_or, set, length, replicate, get_or-set_same, get_or-set_other}
use Rattle.std.proofs.lemmas.Bool.{cases_eq, cases_lt, cases_Bool, false≢true}
use Rattle.std.proofs.lemmas.List.{get_or-replicate, get_or_past, length-replicate, set_past}
use Rattle.sdcl_decide.specs.Queue.{was_passed}
use Rattle.sdcl_decide.specs.InStep.{InStepStarts, InStepSettles, InStepPutsBack, InStepTurns}

no_one_passed : (width x : ℕ) → get_or (replicate width false) x false ≡ false
no_one_passed width x =
    ⊎_elim
    (λ within. get_or-replicate width x false false within)
    (λ past. get_or_past (replicate width false) x false
    (omega (arith, past, length-replicate width false)))
    (cases_lt x width)

pub in_step_starts : InStepStarts
in_step_starts variables lits x low high passed =
    absurd (false≢true (sym (no_one_passed (variables + 1) x) ∙ passed))

pub in_step_settles : InStepSettles
in_step_settles r s lits settles h x low high passed =
    let high_before : x ≤ r.variables = omega (arith, ap (λ q. q.variables) settles.same, high) in
    ⊎_elim
    (λ before. h x low high_before before)
    (λ left. settles.only x left passed)
    (cases_Bool (was_passed r x))

put_back_at : (passed : List Bool) (x : ℕ) → get_or (set passed x false) x false ≡ false
put_back_at passed x =
    ⊎_elim
    (λ within. get_or-set_same passed x false false within)
    (λ past. ap (λ p. get_or p x false) (set_past passed x false past)
    ∙ get_or_past passed x false past)
    (cases_lt x (length passed))

pub in_step_puts_back : InStepPutsBack
in_step_puts_back r lits x h = (
  λ y low high passed. ⊎_elim
      (λ is. absurd
      (false≢true
      (sym (ap (λ k. get_or (set r.passed x false) k false) is ∙ put_back_at r.passed x)
      ∙ passed)))
      (λ differs. h y low high (sym (get_or-set_other r.passed x y false false differs) ∙ passed))
      (cases_eq y x),
  put_back_at r.passed x,
)

pub in_step_turns : InStepTurns
in_step_turns r before after h stays x low high passed = stays x (h x low high passed) passed

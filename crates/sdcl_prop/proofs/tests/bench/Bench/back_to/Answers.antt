use Rattle.std.proofs.Common.{◌≡◌, ◌∙◌, length, take, subst, sym, ap}
use Rattle.sdcl_trail.specs.Levels.{Levels, level_end}
use Rattle.sdcl_prop.specs.Fitting.{IsFront}
use Rattle.sdcl_prop.proofs.Fronts.{front_back}
use Rattle.sdcl_prop.proofs.tests.bench.Bench.back_to.Goals as goal

pub invariant_of-result-2 : goal.invariant_of-result-2
invariant_of-result-2 c =
    let t = c.self.inside.trail in
    let done = c.self.inside.engine.done in
    let at = level_end t c.args.level in
    let count : c.len.result ≡ length (take at t.lits) = c.len.ensures.count ∙ ap (λ (u : Levels). length u.lits) c.pop_to.ensures in
    let remembered : c.cut.new.self.done ≡ take (length (take at t.lits)) done = c.cut.ensures.cuts.done ∙ ap (λ n. take n done) count in (
      c.cut.ensures.covers c.self.inside.store.slots c.self.invariant.0,
      c.cut.ensures.cuts.variables ∙ c.self.invariant.1,
      ap (λ (u : Levels). u.variables) c.pop_to.ensures ∙ c.self.invariant.2,
      subst (λ d. IsFront d c.pop_to.new.self.lits) (sym remembered)
          (subst (λ ls. IsFront (take (length (take at t.lits)) done) ls) (sym (ap (λ (u : Levels). u.lits) c.pop_to.ensures)) (front_back done t.lits at c.self.invariant.3)),
    )

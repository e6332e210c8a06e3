use Rattle.std.proofs.Common.{rules, arith, ◌≡◌, ◌++◌, ◌∷◌, [], sym, ap, subst, ◌∙◌}
use Rattle.sdcl_trail.specs.Levels.{level_in, levels_of}
use Rattle.sdcl_analyze.specs.Numbers.{has_number, adjoined}
use Rattle.sdcl_analyze.proofs.Levels.{option_is, option_not, last_number}
use Rattle.sdcl_analyze.proofs.Counting.{Marks, markable_within, mark_up, mark_down}
use Rattle.sdcl_analyze.proofs.marking.mark.Goals as goal
use Rattle.sdcl_analyze.proofs.marking.mark.Goals.{Then-eq, Else-is_err}

pub contains-requires : goal.contains-requires
contains-requires c = omega (arith, markable_within c.args.trail.now c.args.seen.now.members c.args.l c.level-last.ensures.sound c.requires.on, c.var-var.ensures.value, c.requires.room)

pub insert-requires : goal.insert-requires
insert-requires c = omega (arith, markable_within c.args.trail.now c.args.seen.now.members c.args.l c.level-last.ensures.sound c.requires.on, c.var-var.ensures.value, c.requires.room)

marks_up : (c : Then-eq) → Marks c.args.trail.now c.args.seen.now.members c.insert.new.self.members c.args.lower.now.items c.args.l 1
marks_up c =
    mark_up c.args.trail.now c.args.seen.now.members c.insert.new.self.members c.args.lower.now.items c.args.l c.level-last.result c.level-last.ensures.sound (last_number c.args.trail.now c.level-last.result c.level-last.ensures.value) c.requires.on
    (ap (has_number c.args.seen.now.members) (sym c.var-var.ensures.value) ∙ sym c.contains.ensures ∙ c.if-contains.false)
    (ap (λ s. s.members) c.insert.ensures ∙ ap (adjoined c.args.seen.now.members) c.var-var.ensures.value)
    (ap (level_in (levels_of c.args.trail.now)) (sym c.var-var.ensures.value) ∙ sym c.level_of.ensures ∙ option_is c.level_of.result c.level-last.result (sym c.if-eq.ensures))
    c.requires.gathers

pub returns-then-eq-clause-gathers : goal.returns-then-eq-clause-gathers
returns-then-eq-clause-gathers c = (marks_up c).gathers

pub returns-then-eq-clause-opens : goal.returns-then-eq-clause-opens
returns-then-eq-clause-opens c = (marks_up c).opens

marks_down : (c : Else-is_err) → Marks c.args.trail.now c.args.seen.now.members c.insert.new.self.members c.push.new.self.items c.args.l 0
marks_down c =
    let e : c.push.new.self.items ≡ c.args.lower.now.items ++ c.args.l ∷ [] = search rules in
    subst (λ xs. Marks c.args.trail.now c.args.seen.now.members c.insert.new.self.members xs c.args.l 0) (sym e)
    (mark_down c.args.trail.now c.args.seen.now.members c.insert.new.self.members c.args.lower.now.items c.args.l c.level-last.result c.level-last.ensures.sound (last_number c.args.trail.now c.level-last.result c.level-last.ensures.value) c.requires.on
    (ap (has_number c.args.seen.now.members) (sym c.var-var.ensures.value) ∙ sym c.contains.ensures ∙ c.if-contains.false)
    (ap (λ s. s.members) c.insert.ensures ∙ ap (adjoined c.args.seen.now.members) c.var-var.ensures.value)
    (λ h. option_not c.level_of.result c.level-last.result (sym c.if-eq.ensures) (c.level_of.ensures ∙ ap (level_in (levels_of c.args.trail.now)) c.var-var.ensures.value ∙ h))
    c.requires.gathers)

pub returns-clause-gathers : goal.returns-clause-gathers
returns-clause-gathers c = (marks_down c).gathers

pub returns-clause-opens : goal.returns-clause-opens
returns-clause-opens c = (marks_down c).opens

use Rattle.std.proofs.Common.{rules, arith, ◌≡◌, ◌<◌, length, ◌++◌, ◌∷◌, [], ap, subst, ◌∙◌}
use Rattle.sdcl_base.specs.Literal.{Clause}
use Rattle.sdcl_base.specs.Sets.{In}
use Rattle.sdcl_store.specs.Slots.{clause_of}
use Rattle.sdcl_analyze.specs.Numbers.{Numbers, adjoined_all}
use Rattle.sdcl_analyze.specs.Marking.{back_on, glue_on}
use Rattle.sdcl_analyze.specs.Covering.{uncovered_of}
use Rattle.sdcl_analyze.proofs.Ready.{Ready, ready}
use Rattle.sdcl_analyze.proofs.Learning.{clause_on, clause_range, learned_is, seen_is}
use Rattle.sdcl_analyze.proofs.analyzer.Analyzer.analyse.Goals as goal
use Rattle.sdcl_trail.specs.Levels.{levels_of}
use Rattle.sdcl_trail.proofs.Cutting.{levels_count}

pub note-requires : goal.note-requires
note-requires g c =
    let slots = g.C.Clauses.clauses c.args.clauses.now in
    let t = c.args.trail.now in
    let n : 1 < length (levels_of t) = omega (arith, c.requires.level, levels_count t) in
    let d = clause_of slots c.args.conflict.0 in
    let r : Ready slots t = ready slots t c.level-level.ensures.sound n c.requires.fits in
    let marked = c.first_point-point.new.seen.members in
    let lower = c.first_point-point.new.lower.items in
    let p = c.first_point-point.result in
    let one : c.push.new.self.items ≡ p ∷ [] = search rules in
    let low : c.as_slice.result.now ≡ lower = search rules in
    let e : c.minimise.new.clause.items ≡ p ∷ uncovered_of slots t marked lower =
    c.minimise.ensures.clause ∙ ap (λ (z : Clause). z ++ uncovered_of slots t marked c.as_slice.result.now) one ∙ ap (λ (z : Clause). p ∷ uncovered_of slots t marked z) low in
    let two : c.as_slice-2.result.now ≡ c.minimise.new.clause.items = search rules in
    λ l i. let k = (clause_range slots t d marked p lower c.level-level.ensures.sound r c.first_point-point.ensures.point c.first_point-point.ensures.gathers l (subst (λ (z : Clause). In z l) (two ∙ e) i)).1 in
    let v : c.self.inside.variables ≡ c.args.self.now.variables = ap (λ a. a.variables) c.self.view_is in
    let q : c.clear-5.new.self.room ≡ c.self.inside.seen.room = ap (λ (s : Numbers). s.room) c.clear-5.ensures in
    omega (arith, k, v, q, c.first_point-point.ensures.room.1, c.self.invariant.rooms.3, c.requires.within)

pub back_level-self-inside-requires : goal.back_level-self-inside-requires
back_level-self-inside-requires g c =
    let slots = g.C.Clauses.clauses c.args.clauses.now in
    let t = c.args.trail.now in
    let n : 1 < length (levels_of t) = omega (arith, c.requires.level, levels_count t) in
    let d = clause_of slots c.args.conflict.0 in
    let r : Ready slots t = ready slots t c.level-level.ensures.sound n c.requires.fits in
    let marked = c.first_point-point.new.seen.members in
    let lower = c.first_point-point.new.lower.items in
    let p = c.first_point-point.result in
    let one : c.push.new.self.items ≡ p ∷ [] = search rules in
    let low : c.as_slice.result.now ≡ lower = search rules in
    let e : c.minimise.new.clause.items ≡ p ∷ uncovered_of slots t marked lower =
    c.minimise.ensures.clause ∙ ap (λ (z : Clause). z ++ uncovered_of slots t marked c.as_slice.result.now) one ∙ ap (λ (z : Clause). p ∷ uncovered_of slots t marked z) low in
    let two : c.as_slice-3.result.now ≡ c.minimise.new.clause.items = search rules in
    λ l i. clause_on slots t d marked p lower r c.first_point-point.ensures.point c.first_point-point.ensures.gathers l (subst (λ (z : Clause). In z l) (two ∙ e) i)

pub glue-self-inside-requires-clause-on : goal.glue-self-inside-requires-clause-on
glue-self-inside-requires-clause-on g c =
    let slots = g.C.Clauses.clauses c.args.clauses.now in
    let t = c.args.trail.now in
    let n : 1 < length (levels_of t) = omega (arith, c.requires.level, levels_count t) in
    let d = clause_of slots c.args.conflict.0 in
    let r : Ready slots t = ready slots t c.level-level.ensures.sound n c.requires.fits in
    let marked = c.first_point-point.new.seen.members in
    let lower = c.first_point-point.new.lower.items in
    let p = c.first_point-point.result in
    let one : c.push.new.self.items ≡ p ∷ [] = search rules in
    let low : c.as_slice.result.now ≡ lower = search rules in
    let e : c.minimise.new.clause.items ≡ p ∷ uncovered_of slots t marked lower =
    c.minimise.ensures.clause ∙ ap (λ (z : Clause). z ++ uncovered_of slots t marked c.as_slice.result.now) one ∙ ap (λ (z : Clause). p ∷ uncovered_of slots t marked z) low in
    let two : c.as_slice-4.result.now ≡ c.minimise.new.clause.items = search rules in
    λ l i. clause_on slots t d marked p lower r c.first_point-point.ensures.point c.first_point-point.ensures.gathers l (subst (λ (z : Clause). In z l) (two ∙ e) i)

pub returns-clause-learned : goal.returns-clause-learned
returns-clause-learned g c =
    let slots = g.C.Clauses.clauses c.args.clauses.now in
    let t = c.args.trail.now in
    let n : 1 < length (levels_of t) = omega (arith, c.requires.level, levels_count t) in
    let marked = c.first_point-point.new.seen.members in
    let lower = c.first_point-point.new.lower.items in
    let p = c.first_point-point.result in
    let one : c.push.new.self.items ≡ p ∷ [] = search rules in
    let low : c.as_slice.result.now ≡ lower = search rules in
    let e : c.minimise.new.clause.items ≡ p ∷ uncovered_of slots t marked lower =
    c.minimise.ensures.clause ∙ ap (λ (z : Clause). z ++ uncovered_of slots t marked c.as_slice.result.now) one ∙ ap (λ (z : Clause). p ∷ uncovered_of slots t marked z) low in
    let three : c.as_slice-3.result.now ≡ c.minimise.new.clause.items = search rules in
    let four : c.as_slice-4.result.now ≡ c.minimise.new.clause.items = search rules in
    learned_is slots t c.args.conflict marked p lower c.minimise.new.clause.items c.back_level-self-inside.result c.glue-self-inside.result
    c.level-level.ensures.sound n c.requires.fits c.requires.conflict c.first_point-point.ensures.point c.first_point-point.ensures.gathers e
    (c.back_level-self-inside.ensures ∙ ap (back_on (levels_of t)) three) (c.glue-self-inside.ensures.value ∙ ap (glue_on (levels_of t)) four)

pub returns-clause-seen : goal.returns-clause-seen
returns-clause-seen g c =
    let slots = g.C.Clauses.clauses c.args.clauses.now in
    let t = c.args.trail.now in
    let n : 1 < length (levels_of t) = omega (arith, c.requires.level, levels_count t) in
    let d = clause_of slots c.args.conflict.0 in
    let marked = c.first_point-point.new.seen.members in
    let lower = c.first_point-point.new.lower.items in
    let p = c.first_point-point.result in
    let one : c.push.new.self.items ≡ p ∷ [] = search rules in
    let low : c.as_slice.result.now ≡ lower = search rules in
    let e : c.minimise.new.clause.items ≡ p ∷ uncovered_of slots t marked lower =
    c.minimise.ensures.clause ∙ ap (λ (z : Clause). z ++ uncovered_of slots t marked c.as_slice.result.now) one ∙ ap (λ (z : Clause). p ∷ uncovered_of slots t marked z) low in
    let two : c.as_slice-2.result.now ≡ c.minimise.new.clause.items = search rules in
    let m : c.note.new.seen.members ≡ adjoined_all c.first_point-point.new.resolved.members c.minimise.new.clause.items =
    ap (λ (s : Numbers). s.members) c.note.ensures ∙ ap (λ (z : Clause). adjoined_all c.first_point-point.new.resolved.members z) two in
    seen_is slots t c.args.conflict marked p lower c.minimise.new.clause.items c.first_point-point.new.resolved.members c.note.new.seen.members
    c.level-level.ensures.sound n c.requires.fits c.first_point-point.ensures.point c.first_point-point.ensures.gathers e m c.members-noted.ensures.listed.distinct
    c.first_point-point.ensures.steps c.first_point-point.ensures.range

pub first_point-point-requires-clause-level : goal.first_point-point-requires-clause-level
first_point-point-requires-clause-level g c = omega (arith, c.requires.level, levels_count c.args.trail.now)

pub minimise-requires-clause-fits : goal.minimise-requires-clause-fits
minimise-requires-clause-fits g c = (omega (arith, c.requires.level, levels_count c.args.trail.now), c.requires.fits)

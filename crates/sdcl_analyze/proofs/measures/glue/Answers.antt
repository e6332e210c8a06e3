use Rattle.std.proofs.Common.{rules, arith, ◌≡◌, ◌≤◌, ◌<◌, ◌+◌, ◌++◌, ◌∷◌, [], ℕ, List, map, take, length, sym, ap, ◌∙◌}
use Rattle.std.proofs.lemmas.List.{map-append, take_more}
use Rattle.sdcl_base.specs.Literal.{Literal, Clause, negated}
use Rattle.sdcl_analyze.proofs.Places.{in_place}
use Rattle.sdcl_analyze.specs.Numbers.{Numbers, adjoined}
use Rattle.sdcl_analyze.specs.Marking.{level_on}
use Rattle.sdcl_analyze.proofs.Joining.{joins, joins_end, joins_count}
use Rattle.sdcl_analyze.proofs.Search.{take_all}
use Rattle.sdcl_analyze.proofs.measures.glue.Goals as goal
use Rattle.sdcl_trail.specs.Levels.{levels_of}

pub level-requires : goal.level-requires
level-requires c =
    let h : c.loop-l.l-index < length c.args.lits.now = search rules in
    c.requires.on c.l-item.result (in_place c.args.lits.now c.loop-l.l-index c.l-item.result h c.l-item.is)

pub loop-l-preserved : goal.loop-l-preserved
loop-l-preserved c =
    let d = c.args.lits.now in
    let l = c.l-item.result in
    let f : Literal → ℕ = λ m. level_on (levels_of c.args.trail.now) (negated m) in
    let h : c.loop-l.l-index < length d = search rules in
    let t : map f (take (c.loop-l.l-index + 1) d) ≡ map f (take c.loop-l.l-index d) ++ f l ∷ [] =
    ap (map f) (take_more d c.loop-l.l-index l h ∙ ap (λ (y : Literal). take c.loop-l.l-index d ++ y ∷ []) (sym c.l-item.is)) ∙ map-append f (take c.loop-l.l-index d) (l ∷ []) in
    record {
      room = ap (λ (s : Numbers). s.room) c.insert.ensures ∙ c.loop-l.invariant.room;
      members = ap (λ (s : Numbers). s.members) c.insert.ensures ∙ ap (adjoined c.loop-l.levels.members) c.level.ensures.value ∙ ap (λ (z : List ℕ). adjoined z (f l)) c.loop-l.invariant.members
          ∙ sym (joins_end [] (map f (take c.loop-l.l-index d)) (f l)) ∙ ap (joins []) (sym t);
    }

pub returns-clause-value : goal.returns-clause-value
returns-clause-value c =
    let d = c.args.lits.now in
    let f : Literal → ℕ = λ m. level_on (levels_of c.args.trail.now) (negated m) in
    let q : take c.loop-l.l-index d ≡ d = take_all d c.loop-l.l-index (let o : length d ≤ c.loop-l.l-index = omega (arith, c.loop-l-test.false) in o) in
    let n = joins_count (map f d) c.loop-l.levels.members (c.loop-l.invariant.members ∙ ap (λ (z : Clause). joins [] (map f z)) q) c.members.ensures.listed.distinct in
    ap length c.members.ensures.value ∙ n

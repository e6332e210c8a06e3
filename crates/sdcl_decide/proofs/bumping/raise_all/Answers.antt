use Rattle.std.proofs.Common.{◌≡◌, ◌+◌, ◌<◌, ◌≤◌, ◌^◌, ◌||◌, ltb, sym, refl, ap, ◌∙◌, subst, arith, set, get_or, length, drop}
use Rattle.std.proofs.lemmas.List.{length-set}
use Rattle.sdcl_decide.specs.Deciding.{raised, with_scores, is_high, AreAtMost}
use Rattle.sdcl_decide.proofs.Scores.{is_high-none, is_high-set, raised_more, to_come_more, AreAtMost-set}
use Rattle.sdcl_decide.proofs.bumping.raise_all.Goals as goal
use Rattle.sdcl_decide.proofs.bumping.raise_all.Goals.{then-high, else-high}

pub loop-x-init : goal.loop-x-init
loop-x-init c = record {
  same = refl;
  rest = refl;
  to_come = λ j _ _. c.requires.bounded.1 (get_or c.args.vars.now j 0);
  high = sym (is_high-none c.args.queue.now.scores c.requires.bounded.1);
  low = λ x. omega (arith, c.requires.bounded.1 x);
  width = refl;
}

pub loop-x-preserved : goal.loop-x-preserved
loop-x-preserved c =
    let l = c.loop-x in
    let i = l.x-index in
    let vars = c.args.vars.now in
    let v = get_or vars i 0 in
    let s = l.queue.scores in
    let n = get_or s v 0 + c.args.step in
    let here : get_or s v 0 ≤ 2 ^ 60 = l.invariant.to_come i (omega arith) c.loop-x-test.true in
    let within : v < length s = omega (arith, l.invariant.width) in
    let now : c.raise.new.self ≡ with_scores l.queue (set s v n) =
    c.raise.ensures
    ∙ ap (λ k. with_scores l.queue (set s v (k + c.args.step))) c.score.ensures in
    let scores : c.raise.new.self.scores ≡ set s v n = ap (λ q. q.scores) now in
    let total : is_high c.raise.new.self.scores ≡ (is_high s || ltb (2 ^ 60) n) =
    ap is_high scores ∙ is_high-set s v n within here in
    record {
      same = now ∙ ap (λ q. with_scores q (set s v n)) l.invariant.same
          ∙ ap (with_scores c.args.queue.now) (sym scores);
      rest = ap (raised c.args.step (drop (i + 1) vars)) scores
          ∙ sym (raised_more c.args.step vars s i c.loop-x-test.true) ∙ l.invariant.rest;
      to_come = λ j later below. rw scores
          (to_come_more vars s i n c.requires.distinct l.invariant.to_come j later below);
      high = elim c.if-high.branch [
        | then-high w ↦ w.high-is ∙ w.if-high.true
            ∙ sym (total ∙ ap (λ b. b || ltb (2 ^ 60) n) (sym l.invariant.high ∙ w.if-high.true))
        | else-high w ↦ w.high-is ∙ ap (λ k. ltb (2 ^ 60) (k + c.args.step)) c.score.ensures
            ∙ sym (total ∙ ap (λ b. b || ltb (2 ^ 60) n) (sym l.invariant.high ∙ w.if-high.false))
      ];
      low = subst (AreAtMost (2 ^ 61)) (sym scores)
          (AreAtMost-set (2 ^ 61) s v n l.invariant.low within (omega (arith, here)));
      width = ap length scores ∙ length-set s v n ∙ l.invariant.width;
    }

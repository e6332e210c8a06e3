use Rattle.std.proofs.Common.{ℕ, ◌/◌, ◌^◌, ◌<◌, arith, get_or, length}
use Rattle.std.proofs.lemmas.List.{get_or_default}
use Rattle.std.proofs.lemmas.List.Edits.{map_over_more}
use Rattle.sdcl_decide.proofs.queue.divide_all.Goals as goal

pub loop-score-preserved : goal.loop-score-preserved
loop-score-preserved c =
    let l = c.loop-score in
    let within : l.score-index < length l.scores = omega arith in
    map_over_more (λ (s : ℕ). s / 2 ^ 40) c.args.scores.now l.scores l.score-index
    (get_or l.scores l.score-index 0)
    c.loop-score-test.true l.invariant (get_or_default l.scores l.score-index 0 _ within)

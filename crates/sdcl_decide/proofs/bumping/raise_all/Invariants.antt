use Rattle.std.proofs.Common.{ℕ, ◌≡◌, ◌≤◌, ◌<◌, ◌^◌, drop, length, slice_index}
use Rattle.sdcl_decide.specs.Deciding.{raised, with_scores, is_high, AreAtMost}
use Rattle.sdcl_decide.proofs.bumping.raise_all.Given as goal

abbrev pub invariant-loop-x : goal.invariant-loop-x
invariant-loop-x l = record {
  same : l.queue ≡ with_scores l.fn.queue l.queue.scores;
  rest : raised l.step (drop l.x-index l.vars) l.queue.scores
      ≡ raised l.step l.vars l.fn.queue.scores;
  to_come : (j : ℕ) → l.x-index ≤ j → j < length l.vars
      → slice_index l.queue.scores (slice_index l.vars j) ≤ 2 ^ 60;
  high : l.high ≡ is_high l.queue.scores;
  low : AreAtMost (2 ^ 61) l.queue.scores;
  width : length l.queue.scores ≡ length l.fn.queue.scores;
}

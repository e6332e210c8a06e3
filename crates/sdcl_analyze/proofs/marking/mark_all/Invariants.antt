use Rattle.std.proofs.Common.{◌≡◌, ◌≤◌, take, vec_capacity}
use Rattle.sdcl_store.specs.Slots.{clause_of}
use Rattle.sdcl_analyze.specs.Numbers.{with_variables}
use Rattle.sdcl_analyze.specs.Marking.{Gathers, BecomeSeen, lower_lits, last_lits}
use Rattle.sdcl_analyze.proofs.marking.mark_all.Given as goal
use Rattle.sdcl_trail.specs.Levels.{levels_of}

abbrev pub invariant-loop-at : goal.invariant-loop-at
invariant-loop-at g l = record {
  seen : l.seen ≡ with_variables l.initial.seen (take l.at (clause_of (g.C.Clauses.clauses l.clauses) l.id.0));
  gathers : Gathers (lower_lits (levels_of l.trail)) l.seen.members l.lower.items;
  opens : BecomeSeen (last_lits (levels_of l.trail)) l.initial.seen.members l.seen.members (take l.at (clause_of (g.C.Clauses.clauses l.clauses) l.id.0)) l.opened;
  memory : l.seen.room ≤ vec_capacity l.lower;
  few : l.opened ≤ l.at;
}

-- The course of a solver between its restarts.
use Rattle.std.specs.Prelude.{ℕ, ◌+◌, ◌-◌, ◌*◌, ◌/◌, ◌^◌, Bool, false, ◌&&◌, nat_le, nat_lt}
use Rattle.sdcl_restart.specs.Luby.{luby}
use Rattle.sdcl_restart.specs.declared.restart.RestartKind.{RestartKind}
use Rattle.sdcl_restart.specs.declared.restart.RestartKind.TheVariants as kind

-- the rule, the clauses learned since the last restart, the restarts made, and the two averages
pub record Course : Type 0 where
  pub kind : RestartKind
  pub since : ℕ
  pub made : ℕ
  pub fast : ℕ
  pub slow : ℕ

-- no clause learned and no restart made
abbrev pub course_begun : RestartKind → Course
course_begun rule = record { kind = rule; since = 0; made = 0; fast = 0; slow = 0 }

-- the average that gives a part of itself up and takes that part of g
abbrev pub moved_average : ℕ → ℕ → ℕ → ℕ
moved_average part average g = average - average / part + g / part

-- a clause more is learned, whose glue moves the averages
abbrev pub with_clause_learned : Course → ℕ → Course
with_clause_learned c glue =
    record c {
      since = c.since + 1;
      fast = moved_average 32 c.fast (glue * 2 ^ 20);
      slow = moved_average 4096 c.slow (glue * 2 ^ 20);
    }

-- never; after 64 times the next term of Luby's sequence; after 50 clauses at least, where four
-- times the fast average is above five times the slow
abbrev pub is_due_by : RestartKind → Course → Bool
is_due_by kind.Never c = false
is_due_by kind.Luby c = nat_le (64 * luby (c.made + 1)) c.since
is_due_by kind.Glue c = nat_le 50 c.since && nat_lt (5 * c.slow) (4 * c.fast)

-- whether a restart is due by the rule of the course
abbrev pub is_restart_due : Course → Bool
is_restart_due c = is_due_by c.kind c

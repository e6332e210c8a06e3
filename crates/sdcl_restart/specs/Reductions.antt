-- The counts by which a reduction is due.
use Rattle.std.specs.Prelude.{ℕ, ◌+◌, ◌*◌, Bool, nat_le}

-- the clauses learned since the last reduction, and the reductions made
pub record Counts : Type 0 where
  pub since : ℕ
  pub made : ℕ

-- no clause learned and no reduction made
abbrev pub counts_begun : Counts
counts_begun = record { since = 0; made = 0 }

-- whether 2000 clauses were learned, and 300 more for each reduction made
abbrev pub is_reduction_due : Counts → Bool
is_reduction_due c = nat_le (2000 + 300 * c.made) c.since

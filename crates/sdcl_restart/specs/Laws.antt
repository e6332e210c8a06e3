-- Laws over Luby's sequence, each stated for a public function with an empty body.
use Rattle.std.specs.Prelude.{ℕ, ◌≡◌, ◌+◌, ◌-◌, ◌^◌, ◌≤◌, ◌<◌}
use Rattle.sdcl_restart.specs.Luby.{luby}

-- where k is 2 ^ i - 1, the k-th term is 2 ^ (i - 1)
abbrev pub LubyEndsInAPower : Type 0
LubyEndsInAPower = (i : ℕ) → 1 ≤ i → luby (2 ^ i - 1) ≡ 2 ^ (i - 1)

-- where 2 ^ (i - 1) ≤ k < 2 ^ i - 1, the k-th term is the one at k - 2 ^ (i - 1) + 1
abbrev pub LubyRepeats : Type 0
LubyRepeats = (i k : ℕ) → 1 ≤ i → 2 ^ (i - 1) ≤ k → k < 2 ^ i - 1
    → luby k ≡ luby (k - 2 ^ (i - 1) + 1)

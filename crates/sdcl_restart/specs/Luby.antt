-- Luby's sequence.
use Rattle.std.specs.Prelude.{ℕ, zero, suc, ◌+◌, ◌-◌, ◌^◌, ◌==◌, nat_le, if◌then◌else◌}

-- the place whose term stands at k too: k - 2 ^ i + 1 from 2 ^ i on, and k itself below
abbrev pub repeated : ℕ → ℕ → ℕ
repeated i k = if nat_le (2 ^ i) k then k - 2 ^ i + 1 else k

-- the term at k, where k is below 2 to the first number: 2 ^ i at 2 ^ (i + 1) - 1, and else the
-- repeated term
abbrev pub luby_below : ℕ → ℕ → ℕ
luby_below zero k = 0
luby_below (suc i) k = if k == 2 ^ suc i - 1 then 2 ^ i else luby_below i (repeated i k)

-- the term at k, from 1 on
abbrev pub luby : ℕ → ℕ
luby k = luby_below k k

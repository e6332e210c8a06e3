-- Variables in a heap by their scores. Place 0 belongs to no variable; a place has the places at
-- twice its number, and one more, below it.
use Rattle.std.specs.Prelude.{ℕ, ◌≡◌, ◌≢◌, ◌+◌, ◌-◌, ◌*◌, ◌/◌, ◌^◌, ◌≤◌, ◌<◌, ◌==◌, Bool, false, ◌&&◌, ◌||◌, nat_lt, List, length, slice_index}
use Rattle.sdcl_base.specs.declared.lit.TheConstants.{MAX_VARIABLE}

-- whether x comes before y: its score is greater, or the same, and x is lower
abbrev pub comes_before : List ℕ → ℕ → ℕ → Bool
comes_before scores x y =
    nat_lt (slice_index scores y) (slice_index scores x)
    || (slice_index scores x == slice_index scores y && nat_lt x y)

-- the same as a number, which is greater for what comes before
abbrev pub rank : List ℕ → ℕ → ℕ
rank scores x = slice_index scores x * 2 ^ 22 + (MAX_VARIABLE - x)

-- the rank of the variable at a place
abbrev pub rank_at : List ℕ → List ℕ → ℕ → ℕ
rank_at scores vars i = rank scores (slice_index vars i)

-- each variable stands at its place
pub record AreLinked (vars places : List ℕ) : Type 0 where
  pub sizes : length places ≡ length vars
  pub below : (i : ℕ) → i < length vars → slice_index vars i < length vars
  pub placed : (i : ℕ) → i < length vars → slice_index places (slice_index vars i) ≡ i
  pub within : (x : ℕ) → x < length vars → slice_index places x < length vars
  pub found : (x : ℕ) → x < length vars → slice_index vars (slice_index places x) ≡ x
  pub root : slice_index places 0 ≡ 0

-- no rank of the places up to `size` is above the one over it, where that one is at `start` or
-- behind it
abbrev pub IsHeapFrom : ℕ → ℕ → (ℕ → ℕ) → Type 0
IsHeapFrom start size r = (i : ℕ) → 2 ≤ i → i ≤ size → start ≤ i / 2 → r i ≤ r (i / 2)

-- the same of all places up to `size` but for the rank at k, which may be too great
pub record MayRise (size k : ℕ) (r : ℕ → ℕ) : Type 0 where
  pub others : (i : ℕ) → 2 ≤ i → i ≤ size → i ≢ k → r i ≤ r (i / 2)
  pub over : (i : ℕ) → 2 ≤ k → i ≤ size → i / 2 ≡ k → r i ≤ r (k / 2)

-- the same but for the rank at k, which may be too small
pub record MaySink (start size k : ℕ) (r : ℕ → ℕ) : Type 0 where
  pub others : (i : ℕ) → 2 ≤ i → i ≤ size → start ≤ i / 2 → i / 2 ≢ k → r i ≤ r (i / 2)
  pub over : (i : ℕ) → 2 ≤ k → start ≤ k / 2 → i ≤ size → i / 2 ≡ k → r i ≤ r (k / 2)

-- the same variables stand behind the place `size`
abbrev pub SameBehind : ℕ → List ℕ → List ℕ → Type 0
SameBehind size old new = (x : ℕ)
    → nat_lt size (slice_index new x) ≡ nat_lt size (slice_index old x)

-- variable x stands up to place last + 1 now, and the others on the side on which they stood
pub record Admits (last x : ℕ) (old new : List ℕ) : Type 0 where
  pub here : nat_lt (last + 1) (slice_index new x) ≡ false
  pub others : (y : ℕ) → y ≢ x
      → nat_lt (last + 1) (slice_index new y) ≡ nat_lt last (slice_index old y)

-- The first open variable of those below a number.
use Rattle.std.proofs.Common.{ℕ, ◌≡◌, ◌<◌, ◌≤◌, false, true, List, Option, Some, None}
use Rattle.sdcl_base.specs.Literal.{Clause}
use Rattle.sdcl_decide.specs.Heap.{comes_before}
use Rattle.sdcl_decide.specs.Queue.{is_given}

pub record IsBest (n : ℕ) (lits : Clause) (scores : List ℕ) (x : ℕ) : Type 0 where
  pub low : 1 ≤ x
  pub high : x < n
  pub free : is_given lits x ≡ false
  pub first : (y : ℕ) → 1 ≤ y → y < n → is_given lits y ≡ false → comes_before scores y x ≡ false

abbrev pub IsBestBelow : ℕ → Clause → List ℕ → Option ℕ → Type 0
IsBestBelow n lits scores None = (x : ℕ) → 1 ≤ x → x < n → is_given lits x ≡ true
IsBestBelow n lits scores (Some x) = IsBest n lits scores x

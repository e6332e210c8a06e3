-- Luby's sequence, by halves.
use Rattle.std.proofs.Common.{ℕ, zero, suc, ◌≡◌, ◌+◌, ◌-◌, ◌*◌, ◌/◌, ◌^◌, ◌<◌, ◌≤◌, sym, refl, ap, ◌∙◌, subst, ⊎_elim, arith}
use Rattle.std.proofs.Math.Nat.{pow-succ'}
use Rattle.std.proofs.Math.Pow.{pow_pos, pow_mono}
use Rattle.std.proofs.lemmas.Bool.{lt-leb, le-leb, eq-eqb, ne_eqb, cases_lt}
use Rattle.sdcl_restart.specs.Luby.{luby, luby_below, repeated}

-- ---- a place and the half below it

pub repeated_high : (i k : ℕ) → 2 ^ i ≤ k → repeated i k ≡ k - 2 ^ i + 1
repeated_high i k h = rw (le-leb (2 ^ i) k h) refl

pub repeated_low : (i k : ℕ) → k < 2 ^ i → repeated i k ≡ k
repeated_low i k h = rw (lt-leb (2 ^ i) k h) refl

pub luby_last : (i k : ℕ) → k ≡ 2 ^ suc i - 1 → luby_below (suc i) k ≡ 2 ^ i
luby_last i k e = rw (eq-eqb k (2 ^ suc i - 1) e) refl

pub luby_else : (i k : ℕ) → (k ≡ 2 ^ suc i - 1 → ⊥)
    → luby_below (suc i) k ≡ luby_below i (repeated i k)
luby_else i k h = rw (ne_eqb k (2 ^ suc i - 1) h) refl

-- ---- the bound on the place does not matter

wider_by_one : (i k : ℕ) → 1 ≤ k → k < 2 ^ i → luby_below (suc i) k ≡ luby_below i k
wider_by_one i k one below =
    luby_else i k (λ e. omega (arith, pow-succ' 2 i, e))
    ∙ ap (luby_below i) (repeated_low i k below)

wider : (j i k : ℕ) → i ≤ j → 1 ≤ k → k < 2 ^ i → luby_below j k ≡ luby_below i k
wider zero i k h one below = let e : i ≡ zero = omega arith in rw e refl
wider (suc j) i k h one below =
    ⊎_elim
    (λ l. let le : i ≤ j = omega arith in
    wider_by_one j k one (omega (arith, below, pow_mono le)) ∙ wider j i k le one below)
    (λ g. let e : i ≡ suc j = omega arith in rw e refl)
    (cases_lt i (suc j))

below_power : (k : ℕ) → k < 2 ^ k
below_power zero = pow_pos zero
below_power (suc k) = omega (arith, pow-succ' 2 k, below_power k)

pub luby_at : (i k : ℕ) → 1 ≤ k → k < 2 ^ i → luby k ≡ luby_below i k
luby_at i k one below =
    sym (wider (i + k) k k (omega arith) one (below_power k))
    ∙ wider (i + k) i k (omega arith) one below

-- ---- the two equations of the sequence

pub luby_ends : (i : ℕ) → 1 ≤ i → luby (2 ^ i - 1) ≡ 2 ^ (i - 1)
luby_ends zero h = absurd (omega arith)
luby_ends (suc i) h =
    luby_at (suc i) (2 ^ suc i - 1) (omega (arith, pow-succ' 2 i, pow_pos i))
    (omega (arith, pow_pos (suc i)))
    ∙ luby_last i (2 ^ suc i - 1) refl
    ∙ ap (λ n. 2 ^ n) (omega arith)

repeats_at : (i k : ℕ) → 2 ^ i ≤ k → k < 2 ^ suc i - 1 → luby k ≡ luby (k - 2 ^ i + 1)
repeats_at i k high below =
    luby_at (suc i) k (omega (arith, pow_pos i)) (omega arith)
    ∙ luby_else i k (λ e. omega (arith, e))
    ∙ ap (luby_below i) (repeated_high i k high)
    ∙ sym (luby_at i (k - 2 ^ i + 1) (omega arith) (omega (arith, pow-succ' 2 i)))

pub luby_repeats : (i k : ℕ) → 1 ≤ i → 2 ^ (i - 1) ≤ k → k < 2 ^ i - 1
    → luby k ≡ luby (k - 2 ^ (i - 1) + 1)
luby_repeats zero k h high below = absurd (omega arith)
luby_repeats (suc i) k h high below =
    let e : suc i - 1 ≡ i = omega arith in
    let P : ℕ → Type 0 = λ n. 2 ^ n ≤ k in
    rw e (repeats_at i k (subst P e high) below)

-- ---- the walk from half to half

-- the term at a place is the one at k, which is below twice the half
pub record IsPlace (place k half : ℕ) : Type 0 where
  pub level : ℕ
  pub power : half ≡ 2 ^ level
  pub first : 1 ≤ k
  pub below : k < 2 * half
  pub small : half ≤ 2 ^ 32
  pub term : luby place ≡ luby_below (suc level) k

pub place_first : (place : ℕ) → 1 ≤ place → place < 2 ^ 33 → IsPlace place place 4294967296
place_first place one below =
    record {
      level = 32;
      power = refl;
      first = one;
      below = below;
      small = omega arith;
      term = luby_at 33 place one below;
    }

lower : (i place k half next : ℕ) → half ≡ 2 ^ i → half ≤ 2 ^ 32
    → luby place ≡ luby_below (suc i) k → (k ≡ 2 * half - 1 → ⊥)
    → repeated i k ≡ next → 1 ≤ next → next < half → IsPlace place next (half / 2)
lower zero place k half next power small term other e one below = absurd (omega arith)
lower (suc j) place k half next power small term other e one below =
    record {
      level = j;
      power = omega (arith, pow-succ' 2 j);
      first = one;
      below = omega (arith, pow-succ' 2 j);
      small = omega arith;
      term = term ∙ luby_else (suc j) k (λ is. other (omega (arith, is, pow-succ' 2 (suc j))))
          ∙ ap (luby_below (suc j)) e;
    }

pub place_high : (place k half : ℕ) → IsPlace place k half → (k ≡ 2 * half - 1 → ⊥) → half ≤ k
    → IsPlace place (k - half + 1) (half / 2)
place_high place k half p other high =
    lower p.level place k half (k - half + 1) p.power p.small p.term other
    (repeated_high p.level k (omega (arith, p.power)) ∙ ap (λ n. k - n + 1) (sym p.power))
    (omega arith)
    (omega (arith, p.below, other))

pub place_low : (place k half : ℕ) → IsPlace place k half → (k ≡ 2 * half - 1 → ⊥) → k < half
    → IsPlace place k (half / 2)
place_low place k half p other low =
    lower p.level place k half k p.power p.small p.term other
    (repeated_low p.level k (omega (arith, p.power)))
    p.first
    low

-- Scores under a bump.
use Rattle.std.proofs.Common.{ℕ, zero, suc, ◌≡◌, ◌≢◌, ◌+◌, ◌/◌, ◌^◌, ◌<◌, ◌≤◌, Bool, false, true, ◌||◌, List, [], ◌∷◌, sym, refl, ap, ◌∙◌, ⊎_elim, arith, get_or, set, length, replicate, drop, ltb, ◌==◌, get_or-set_same, get_or-set_other}
use Rattle.std.proofs.lemmas.Bool.{cases_eq, cases_lt, le-ltb}
use Rattle.std.proofs.lemmas.Bool.Decides.{Decides-eqb}
use Rattle.std.proofs.lemmas.List.{get_or-map, get_or_past, length-map, get_or-replicate, length-replicate, at_drop_more}
use Rattle.std.proofs.lemmas.Map.Made.{AllPairs-from_IsDistinct}
use Rattle.std.specs.List.{IsDistinct}
use Rattle.sdcl_decide.specs.declared.decider.DecideKind.{DecideKind}
use Rattle.sdcl_decide.specs.declared.decider.DecideKind.TheVariants as kind
use Rattle.sdcl_decide.specs.Queue.{divided}
use Rattle.sdcl_decide.specs.Deciding.{is_high, raised, first_step, AreAtMost, IsBounded}

-- ---- scores that are too great

pub is_high-none : (scores : List ℕ) → AreAtMost (2 ^ 60) scores → is_high scores ≡ false
is_high-none [] h = refl
is_high-none (s ∷ ss) h = rw (le-ltb (2 ^ 60) s (h 0)) (is_high-none ss (λ x. h (suc x)))

or_swapped : (a b : Bool) → (a || b) ≡ (b || a)
or_swapped true true = refl
or_swapped true false = refl
or_swapped false true = refl
or_swapped false false = refl

or_past : (a b c : Bool) → (a || (b || c)) ≡ ((a || b) || c)
or_past true b c = refl
or_past false b c = refl

-- a score that was not too great becomes n
pub is_high-set : (scores : List ℕ) (x n : ℕ) → x < length scores → get_or scores x 0 ≤ 2 ^ 60
    → is_high (set scores x n) ≡ (is_high scores || ltb (2 ^ 60) n)
is_high-set [] x n within low = absurd (omega arith)
is_high-set (s ∷ ss) zero n within low = rw (le-ltb (2 ^ 60) s low)
    (or_swapped (ltb (2 ^ 60) n) (is_high ss))
is_high-set (s ∷ ss) (suc x) n within low =
    ap (λ b. ltb (2 ^ 60) s || b) (is_high-set ss x n (omega arith) low)
    ∙ or_past (ltb (2 ^ 60) s) (is_high ss) (ltb (2 ^ 60) n)

-- ---- one score more

pub raised_more : (step : ℕ) (vars scores : List ℕ) (i : ℕ) → i < length vars
    → raised step (drop i vars) scores
    ≡ raised step (drop (i + 1) vars)
    (set scores (get_or vars i 0) (get_or scores (get_or vars i 0) 0 + step))
raised_more step vars scores i within = at_drop_more (λ xs. raised step xs scores) vars i 0 within

-- the scores of distinct variables that are to come stay as they are
pub to_come_more : (vars scores : List ℕ) (i n : ℕ) → IsDistinct (λ x y. x == y) vars
    → ((j : ℕ) → i ≤ j → j < length vars → get_or scores (get_or vars j 0) 0 ≤ 2 ^ 60)
    → (j : ℕ) → i + 1 ≤ j → j < length vars
    → get_or (set scores (get_or vars i 0) n) (get_or vars j 0) 0 ≤ 2 ^ 60
to_come_more vars scores i n apart h j later within =
    let differ : get_or vars i 0 ≢ get_or vars j 0 =
    AllPairs-from_IsDistinct Decides-eqb vars apart i j 0 (omega arith) within in
    omega (
      arith,
      get_or-set_other scores (get_or vars i 0) (get_or vars j 0) n 0
          (λ same. differ (sym same)),
      h j (omega arith) within,
    )

pub AreAtMost-set : (most : ℕ) (scores : List ℕ) (v n : ℕ) → AreAtMost most scores
    → v < length scores
    → n ≤ most → AreAtMost most (set scores v n)
AreAtMost-set most scores v n h within low x =
    ⊎_elim
    (λ is. omega
    (arith, ap (λ k. get_or (set scores v n) k 0) is, get_or-set_same scores v n 0 within))
    (λ differs. omega (arith, get_or-set_other scores v x n 0 differs, h x))
    (cases_eq x v)

-- ---- the division

pub AreAtMost-divided : (scores : List ℕ) → AreAtMost (2 ^ 61) scores
    → AreAtMost (2 ^ 60) (divided scores)
AreAtMost-divided scores h x =
    ⊎_elim
    (λ within. omega (arith, get_or-map (λ (s : ℕ). s / 2 ^ 40) scores x 0 0 within, h x))
    (λ past. omega (
      arith,
      get_or_past (divided scores) x 0
          (omega (arith, past, length-map scores (λ (s : ℕ). s / 2 ^ 40))),
    ))
    (cases_lt x (length scores))

-- ---- the start

pub none_above : (width x : ℕ) → get_or (replicate {A = ℕ} width 0) x 0 ≡ 0
none_above width x =
    ⊎_elim
    (λ within. get_or-replicate width x 0 0 within)
    (λ past. get_or_past (replicate width 0) x 0
    (omega (arith, past, length-replicate {A = ℕ} width 0)))
    (cases_lt x width)

pub bounded_first : (rule : DecideKind) (width : ℕ)
    → IsBounded rule (first_step rule) (replicate width 0)
bounded_first kind.Static width = tt
bounded_first kind.MoveToFront width = (omega arith, λ x. omega (arith, none_above width x))
bounded_first kind.Scored width = (omega arith, λ x. omega (arith, none_above width x))

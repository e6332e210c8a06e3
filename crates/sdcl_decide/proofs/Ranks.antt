-- Ranks in a heap.
use Rattle.std.proofs.Common.{ℕ, zero, suc, ◌≡◌, ◌≢◌, ◌+◌, ◌-◌, ◌/◌, ◌<◌, ◌≤◌, List, true, false, ap, ◌∙◌, subst, ⊎_elim, arith}
use Rattle.std.proofs.lemmas.Bool.{cases_eq}
use Rattle.std.proofs.lemmas.Grind.{common_steps}
use Rattle.std.specs.List.{SwappedAt}
use Rattle.sdcl_decide.specs.Heap.{comes_before, rank, rank_at, IsHeapFrom, MayRise, MaySink}

-- ---- the order of the ranks

pub rank-before : (scores : List ℕ) (x y : ℕ) → comes_before scores x y ≡ true
    → rank scores y ≤ rank scores x
rank-before scores x y h = grind (arith, common_steps)

pub rank-not_before : (scores : List ℕ) (x y : ℕ) → comes_before scores x y ≡ false
    → rank scores x ≤ rank scores y
rank-not_before scores x y h = grind (arith, common_steps)

-- ---- an exchange, seen in the ranks

-- s is r, but for a and b, where it has what r has at the other
pub record AreExchanged (a b : ℕ) (r s : ℕ → ℕ) : Type 0 where
  pub first : s a ≡ r b
  pub second : s b ≡ r a
  pub others : (i : ℕ) → i ≢ a → i ≢ b → s i ≡ r i

pub ranks_exchanged : (scores vars ws : List ℕ) (i j : ℕ) → SwappedAt vars ws i j
    → AreExchanged i j (rank_at scores vars) (rank_at scores ws)
ranks_exchanged scores vars ws i j h = record {
  first = ap (rank scores) (h.0 0);
  second = ap (rank scores) (h.1 0);
  others = λ k not_i not_j. ap (rank scores) (h.2 k 0 not_i not_j);
}

-- ---- a rank that is too great goes up

rise_others : (size k : ℕ) (r s : ℕ → ℕ) → AreExchanged k (k / 2) r s → MayRise size k r → 2 ≤ k
    → r (k / 2) ≤ r k
    → (i : ℕ) → 2 ≤ i → i ≤ size → i ≢ k / 2 → s i ≤ s (i / 2)
rise_others size k r s e h two less i low high other =
    ⊎_elim
    (λ is. let at_i : s i ≡ r (k / 2) = ap s is ∙ e.first in
    let over_i : s (i / 2) ≡ r k = ap (λ n. s (n / 2)) is ∙ e.second in
    omega (arith, at_i, over_i))
    (λ differs. let at_i : s i ≡ r i = e.others i differs other in
    ⊎_elim
    (λ over_k. let over_i : s (i / 2) ≡ r (k / 2) = ap s over_k ∙ e.first in
    omega (arith, at_i, over_i, h.over i two high over_k))
    (λ not_k. ⊎_elim
    (λ over_p. let over_i : s (i / 2) ≡ r k = ap s over_p ∙ e.second in
    let old : r i ≤ r (i / 2) = h.others i low high differs in
    let same : r (i / 2) ≡ r (k / 2) = ap r over_p in
    omega (arith, at_i, over_i, old, same))
    (λ not_p. let over_i : s (i / 2) ≡ r (i / 2) = e.others (i / 2) not_k not_p in
    omega (arith, at_i, over_i, h.others i low high differs))
    (cases_eq (i / 2) (k / 2)))
    (cases_eq (i / 2) k))
    (cases_eq i k)

rise_over : (size k : ℕ) (r s : ℕ → ℕ) → AreExchanged k (k / 2) r s → MayRise size k r → 2 ≤ k
    → k ≤ size
    → (i : ℕ) → 2 ≤ k / 2 → i ≤ size → i / 2 ≡ k / 2 → s i ≤ s (k / 2 / 2)
rise_over size k r s e h two within i low high over =
    let top : s (k / 2 / 2) ≡ r (k / 2 / 2) =
    e.others (k / 2 / 2) (λ same. omega (arith, same)) (λ same. omega (arith, same)) in
    let step : r (k / 2) ≤ r (k / 2 / 2) =
    h.others (k / 2) low (omega arith) (λ same. omega (arith, same)) in
    ⊎_elim
    (λ is. let at_i : s i ≡ r (k / 2) = ap s is ∙ e.first in omega (arith, at_i, top, step))
    (λ differs. let at_i : s i ≡ r i = e.others i differs (λ same. omega (arith, same, over)) in
    let old : r i ≤ r (i / 2) = h.others i (omega (arith, over)) high differs in
    let same : r (i / 2) ≡ r (k / 2) = ap r over in
    omega (arith, at_i, top, step, old, same))
    (cases_eq i k)

pub rises_more : (size k : ℕ) (r s : ℕ → ℕ) → AreExchanged k (k / 2) r s → MayRise size k r → 2 ≤ k
    → k ≤ size → r (k / 2) ≤ r k → MayRise size (k / 2) s
rises_more size k r s e h two within less = record {
  others = λ i low high other. rise_others size k r s e h two less i low high other;
  over = λ i low high over. rise_over size k r s e h two within i low high over;
}

-- it is where it belongs at the top, or where the rank over it is as great
pub rises_all : (size k : ℕ) (r : ℕ → ℕ) → MayRise size k r → (2 ≤ k → r k ≤ r (k / 2))
    → IsHeapFrom 1 size r
rises_all size k r h fits i low high over =
    ⊎_elim
    (λ is. let at_i : r i ≡ r k = ap r is in
    let over_i : r (i / 2) ≡ r (k / 2) = ap (λ n. r (n / 2)) is in
    omega (arith, at_i, over_i, fits (omega (arith, is))))
    (λ differs. h.others i low high differs)
    (cases_eq i k)

-- ---- a rank that is too small goes down

sink_others : (start size k c : ℕ) (r s : ℕ → ℕ) → AreExchanged k c r s → MaySink start size k r
    → c / 2 ≡ k → 2 ≤ c → c ≤ size
    → ((i : ℕ) → i ≤ size → i / 2 ≡ k → r i ≤ r c) → r k ≤ r c
    → (i : ℕ) → 2 ≤ i → i ≤ size → start ≤ i / 2 → i / 2 ≢ c → s i ≤ s (i / 2)
sink_others start size k c r s e h half c_low c_high first less i low high from other =
    ⊎_elim
    (λ is_c. let at_i : s i ≡ r k = ap s is_c ∙ e.second in
    let over_i : s (i / 2) ≡ r c = ap (λ n. s (n / 2)) is_c ∙ ap s half ∙ e.first in
    omega (arith, at_i, over_i))
    (λ not_c. ⊎_elim
    (λ is_k. let at_i : s i ≡ r c = ap s is_k ∙ e.first in
    let over_i : s (i / 2) ≡ r (i / 2) =
    e.others (i / 2) (λ same. omega (arith, same, is_k)) other in
    let same : r (i / 2) ≡ r (k / 2) = ap (λ n. r (n / 2)) is_k in
    let old : r c ≤ r (k / 2) =
    h.over c (omega (arith, is_k)) (subst (λ (n : ℕ). start ≤ n / 2) is_k from) c_high half in
    omega (arith, at_i, over_i, same, old))
    (λ not_k. let at_i : s i ≡ r i = e.others i not_k not_c in
    ⊎_elim
    (λ over_k. let over_i : s (i / 2) ≡ r c = ap s over_k ∙ e.first in
    omega (arith, at_i, over_i, first i high over_k))
    (λ not_over. let over_i : s (i / 2) ≡ r (i / 2) = e.others (i / 2) not_over other in
    omega (arith, at_i, over_i, h.others i low high from not_over))
    (cases_eq (i / 2) k))
    (cases_eq i k))
    (cases_eq i c)

sink_over : (start size k c : ℕ) (r s : ℕ → ℕ) → AreExchanged k c r s → MaySink start size k r
    → c / 2 ≡ k → 2 ≤ c
    → (i : ℕ) → start ≤ c / 2 → i ≤ size → i / 2 ≡ c → s i ≤ s (c / 2)
sink_over start size k c r s e h half c_low i from high over =
    let at_i : s i ≡ r i =
    e.others i (λ same. omega (arith, same, over, half)) (λ same. omega (arith, same, over)) in
    let top : s (c / 2) ≡ r c = ap s half ∙ e.first in
    let old : r i ≤ r (i / 2) =
    h.others i (omega (arith, over)) high (omega (arith, over, from))
    (λ same. omega (arith, same, over, half)) in
    let same : r (i / 2) ≡ r c = ap r over in
    omega (arith, at_i, top, old, same)

pub sinks_more : (start size k c : ℕ) (r s : ℕ → ℕ) → AreExchanged k c r s → MaySink start size k r
    → c / 2 ≡ k → 2 ≤ c → c ≤ size
    → ((i : ℕ) → i ≤ size → i / 2 ≡ k → r i ≤ r c) → r k ≤ r c → MaySink start size c s
sinks_more start size k c r s e h half c_low c_high first less = record {
  others = sink_others start size k c r s e h half c_low c_high first less;
  over = λ i low from high over. sink_over start size k c r s e h half c_low i from high over;
}

-- ---- the top

top_within : (n size : ℕ) (r : ℕ → ℕ) → IsHeapFrom 1 size r → (i : ℕ) → 1 ≤ i → i ≤ n → i ≤ size
    → r i ≤ r 1
top_within zero size r h i low below high = absurd (omega arith)
top_within (suc n) size r h i low below high =
    ⊎_elim
    (λ is. omega (arith, ap r is))
    (λ differs. omega (
      arith,
      h i (omega (arith, differs)) high (omega (arith, differs)),
      top_within n size r h (i / 2) (omega (arith, differs)) (omega arith) (omega arith),
    ))
    (cases_eq i 1)

-- no rank is above the one at place 1
pub top_greatest : (size : ℕ) (r : ℕ → ℕ) → IsHeapFrom 1 size r → (i : ℕ) → 1 ≤ i → i ≤ size
    → r i ≤ r 1
top_greatest size r h i low high = top_within size size r h i low high high

-- ---- one place more, and one less

pub rises_new : (last at : ℕ) (r s : ℕ → ℕ) → AreExchanged at (last + 1) r s → last < at
    → IsHeapFrom 1 last r → MayRise (last + 1) (last + 1) s
rises_new last at r s e behind h = record {
  others = λ i low high other.
      let at_i : s i ≡ r i = e.others i (λ same. omega (arith, same, other)) other in
      let over_i : s (i / 2) ≡ r (i / 2) =
      e.others (i / 2) (λ same. omega (arith, same, other)) (λ same. omega (arith, same)) in
      omega (arith, at_i, over_i, h i low (omega (arith, other)) (omega arith));
  over = λ i two high over. absurd (omega (arith, over));
}

pub sinks_first : (last : ℕ) (r s : ℕ → ℕ) → AreExchanged 1 last r s → IsHeapFrom 1 last r
    → MaySink 1 (last - 1) 1 s
sinks_first last r s e h = record {
  others = λ i low high from other.
      let at_i : s i ≡ r i =
      e.others i (λ same. omega (arith, same)) (λ same. omega (arith, same)) in
      let over_i : s (i / 2) ≡ r (i / 2) = e.others (i / 2) other (λ same. omega (arith, same)) in
      omega (arith, at_i, over_i, h i low (omega arith) from);
  over = λ i two from high over. absurd (omega arith);
}

-- ---- ranks and the order of variables

pub not_before-rank : (scores : List ℕ) (x y : ℕ) → x ≤ 4194303 → y ≤ 4194303
    → rank scores y ≤ rank scores x → comes_before scores y x ≡ false
not_before-rank scores x y x_small y_small h = grind (arith, common_steps)

-- variables with one rank are one
pub same_rank : (scores : List ℕ) (x y : ℕ) → x ≤ 4194303 → y ≤ 4194303
    → rank scores x ≡ rank scores y → x ≡ y
same_rank scores x y x_small y_small h = omega arith

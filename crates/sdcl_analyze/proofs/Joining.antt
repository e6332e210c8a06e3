-- How many different numbers there are in a list, by a set that is filled.
use Rattle.std.proofs.Common.{◌≡◌, ◌≤◌, ◌==◌, ℕ, Bool, true, false, not, cond, List, [], ◌∷◌, ◌++◌, length, ◌⊎◌, inl, inr, refl, sym, ap, subst, ◌∙◌, arith}
use Rattle.std.specs.Cmp.{nat_eq_equiv}
use Rattle.std.specs.List.{AllByRecursion, IsDistinct, filter}
use Rattle.std.proofs.lemmas.Bool.{cases_Bool, eqb-true, eq-eqb, false≢true, not_from_false}
use Rattle.std.proofs.lemmas.Map.Keys.{IsDistinct-head, IsDistinct-tail, IsDistinct-cons}
use Rattle.std.proofs.lemmas.Map.Made.{length-le_from_is_member}
use Rattle.sdcl_base.specs.Propagation.{distinct}
use Rattle.sdcl_base.specs.Sets.{In}
use Rattle.sdcl_base.proofs.In.{in_filter, in_filter_from, any_in, any_from}
use Rattle.sdcl_analyze.specs.Numbers.{has_number, adjoined, AllDiffer}
use Rattle.sdcl_analyze.proofs.Numbers.{joined_holds, joined_own, joined_from}

-- the numbers put in one after another
abbrev pub joins : List ℕ → List ℕ → List ℕ
joins xs [] = xs
joins xs (y ∷ ys) = joins (adjoined xs y) ys

pub joins_end : (xs ys : List ℕ) (y : ℕ) → joins xs (ys ++ y ∷ []) ≡ adjoined (joins xs ys) y
joins_end xs [] y = refl
joins_end xs (z ∷ ys) y = joins_end (adjoined xs z) ys y

joins_holds : (xs ys : List ℕ) (q : ℕ) → has_number xs q ≡ true → has_number (joins xs ys) q ≡ true
joins_holds xs [] q h = h
joins_holds xs (y ∷ ys) q h = joins_holds (adjoined xs y) ys q (joined_holds xs y q h)

joins_own : (xs ys : List ℕ) (q : ℕ) → In ys q → has_number (joins xs ys) q ≡ true
joins_own xs [] q i = absurd i
joins_own xs (y ∷ ys) q (inl e) = joins_holds (adjoined xs y) ys q (ap (has_number (adjoined xs y)) e ∙ joined_own xs y)
joins_own xs (y ∷ ys) q (inr i) = joins_own (adjoined xs y) ys q i

joins_from : (xs ys : List ℕ) (q : ℕ) → has_number (joins xs ys) q ≡ true → (has_number xs q ≡ true) ⊎ In ys q
joins_from xs [] q h = inl h
joins_from xs (y ∷ ys) q h =
    elim (joins_from (adjoined xs y) ys q h) [
      | inl k ↦ elim (joined_from xs y q k) [ inl a ↦ inl a | inr e ↦ inr (inl e) ]
      | inr k ↦ inr (inr k)
    ]

number_in : (xs : List ℕ) (q : ℕ) → has_number xs q ≡ true → In xs q
number_in xs q h =
    let r : (x : ℕ) × In xs x × ((q == x) ≡ true) = any_from (λ y. q == y) xs h in
    subst (In xs) (sym (eqb-true q r.0 r.2)) r.1

in_number : (xs : List ℕ) (q : ℕ) → In xs q → has_number xs q ≡ true
in_number xs q i = any_in (λ y. q == y) xs q i (eq-eqb q q refl)

distinct_from : (xs : List ℕ) (q : ℕ) → In (distinct xs) q → In xs q
distinct_from [] q i = i
distinct_from (x ∷ xs) q (inl e) = inl e
distinct_from (x ∷ xs) q (inr i) = inr (distinct_from xs q (in_filter_from (λ y. not (x == y)) (distinct xs) q i).0)

distinct_in : (xs : List ℕ) (q : ℕ) → In xs q → In (distinct xs) q
distinct_in [] q i = i
distinct_in (x ∷ xs) q (inl e) = inl e
distinct_in (x ∷ xs) q (inr i) =
    elim (cases_Bool (x == q)) [
      | inl e ↦ inl (sym (eqb-true x q e))
      | inr e ↦ inr (in_filter (λ y. not (x == y)) (distinct xs) q (distinct_in xs q i) (not_from_false (x == q) e))
    ]

all_rec : (P : ℕ → Type 0) (xs : List ℕ) → ((y : ℕ) → In xs y → P y) → AllByRecursion P xs
all_rec P [] h = tt
all_rec P (x ∷ xs) h = (h x (inl refl), all_rec P xs (λ y i. h y (inr i)))

rec_all : (P : ℕ → Type 0) (xs : List ℕ) → AllByRecursion P xs → (y : ℕ) → In xs y → P y
rec_all P [] a y i = absurd i
rec_all P (x ∷ xs) a y (inl e) = subst P (sym e) a.0
rec_all P (x ∷ xs) a y (inr i) = rec_all P xs a.1 y i

differ_by : (b : Bool) (x : ℕ) (xs : List ℕ) → AllByRecursion (λ y. (x == y) ≡ false) xs → AllDiffer xs → AllDiffer (cond b (x ∷ xs) xs)
differ_by true x xs h a = IsDistinct-cons (λ p q. p == q) x xs h a
differ_by false x xs h a = a

differ_nil : AllDiffer []
unfolding IsDistinct
differ_nil = tt

differ_filter : (p : ℕ → Bool) (xs : List ℕ) → AllDiffer xs → AllDiffer (filter p xs)
differ_filter p [] a = a
differ_filter p (x ∷ xs) a =
    differ_by (p x) x (filter p xs)
    (all_rec (λ y. (x == y) ≡ false) (filter p xs) (λ y i. rec_all (λ z. (x == z) ≡ false) xs (IsDistinct-head (λ p q. p == q) x xs a) y (in_filter_from p xs y i).0))
    (differ_filter p xs (IsDistinct-tail (λ p q. p == q) x xs a))

turned : (b : Bool) → not b ≡ true → b ≡ false
turned true h = absurd (false≢true h)
turned false h = refl

differ_distinct : (xs : List ℕ) → AllDiffer (distinct xs)
differ_distinct [] = differ_nil
differ_distinct (x ∷ xs) =
    IsDistinct-cons (λ p q. p == q) x (filter (λ y. not (x == y)) (distinct xs))
    (all_rec (λ y. (x == y) ≡ false) (filter (λ y. not (x == y)) (distinct xs)) (λ y i. turned (x == y) (in_filter_from (λ z. not (x == z)) (distinct xs) y i).1))
    (differ_filter (λ y. not (x == y)) (distinct xs) (differ_distinct xs))

none_has : (q : ℕ) → has_number [] q ≡ true → ⊥
none_has q h = false≢true h

pub joins_count : (xs members : List ℕ) → members ≡ joins [] xs → AllDiffer members → length members ≡ length (distinct xs)
joins_count xs members e a =
    let up : length members ≤ length (distinct xs) = length-le_from_is_member nat_eq_equiv members (distinct xs) a (λ q h.
    in_number (distinct xs) q (distinct_in xs q (elim (joins_from [] xs q (sym (ap (λ z. has_number z q) e) ∙ h)) [ inl k ↦ absurd (none_has q k) | inr k ↦ k ]))) in
    let down : length (distinct xs) ≤ length members = length-le_from_is_member nat_eq_equiv (distinct xs) members (differ_distinct xs) (λ q h.
    ap (λ z. has_number z q) e ∙ joins_own [] xs q (distinct_from xs q (number_in (distinct xs) q h))) in
    omega (arith, up, down)

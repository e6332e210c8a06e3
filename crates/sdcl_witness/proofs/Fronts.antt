-- The complements of some literals, one of them in front.
use Rattle.std.proofs.Common.{◌≡◌, ◌≤◌, ◌<◌, ◌+◌, ℕ, Bool, true, false, not, cond, List, [], ◌∷◌, ◌++◌, length, take, drop, get_or, slice_get, Option, Some, None, is_some, refl, sym, ap, subst, ◌∙◌, inl, inr, arith, append-nil, length-append}
use Rattle.std.specs.List.{filter}
use Rattle.std.proofs.lemmas.Bool.{and_parts, and_from, not-true, not_from_false, cond-true, cond-false, true≢false, cases_lt}
use Rattle.std.proofs.lemmas.List.{take-append-drop, length-map, map-append}
use Rattle.std.proofs.lemmas.List.{get_or_past}
use Rattle.sdcl_base.specs.Literal.{Literal, Clause, negated, same, has, without, complements}
use Rattle.sdcl_base.specs.Truth.{makes_true}
use Rattle.sdcl_base.specs.Marks.{no_repeats}
use Rattle.sdcl_base.specs.Sets.{In, Sub}
use Rattle.sdcl_base.proofs.In.{in_map_from, in_filter, in_filter_from, negated_negated, same_refl}
use Rattle.sdcl_base.proofs.Apart.{absent, absent_from}
use Rattle.sdcl_witness.specs.Witnesses.{turned, complements_after, complements_from}

-- ---- tests on lists

kept_append : (b : Bool) (x : Literal) (xs ys zs : Clause) → zs ≡ xs ++ ys → cond b (x ∷ zs) zs ≡ cond b (x ∷ xs) xs ++ ys
kept_append true x xs ys zs e = ap (λ z. x ∷ z) e
kept_append false x xs ys zs e = e

pub filter_append : (p : Literal → Bool) (xs ys : Clause) → filter p (xs ++ ys) ≡ filter p xs ++ filter p ys
filter_append p [] ys = refl
filter_append p (x ∷ xs) ys = kept_append (p x) x (filter p xs) (filter p ys) (filter p (xs ++ ys)) (filter_append p xs ys)

kept_short : (b : Bool) (x : Literal) (xs : Clause) → length (cond b (x ∷ xs) xs) ≤ length xs + 1
kept_short true x xs = omega arith
kept_short false x xs = omega arith

pub filter_short : (p : Literal → Bool) (xs : Clause) → length (filter p xs) ≤ length xs
filter_short p [] = omega arith
filter_short p (x ∷ xs) = omega (arith, kept_short (p x) x (filter p xs), filter_short p xs)

kept_once : (p : Literal → Bool) (b : Bool) (m : Literal) (d : Clause) → (In d m → ⊥) → no_repeats (filter p d) ≡ true → no_repeats (cond b (m ∷ filter p d) (filter p d)) ≡ true
kept_once p true m d n h =
    and_from (not (has (filter p d) m)) (no_repeats (filter p d)) (not_from_false (has (filter p d) m) (absent_from (filter p d) m (λ i. n (in_filter_from p d m i).0))) h
kept_once p false m d n h = h

pub filter_once : (p : Literal → Bool) (d : Clause) → no_repeats d ≡ true → no_repeats (filter p d) ≡ true
filter_once p [] h = refl
filter_once p (m ∷ d) h =
    let q : (not (has d m) ≡ true) × (no_repeats d ≡ true) = and_parts (not (has d m)) (no_repeats d) h in
    kept_once p (p m) m d (absent d m (not-true (has d m) q.0)) (filter_once p d q.1)

-- ---- without the one in front

less_cons : (b : Bool) (x : Literal) (xs : Clause) → b ≡ false → length (cond b (x ∷ xs) xs) ≤ length xs
less_cons true x xs e = absurd (true≢false e)
less_cons false x xs e = omega arith

pub without_less : (d : Literal) (c : Clause) → In c d → length (without c d) + 1 ≤ length c
without_less d [] i = absurd i
without_less d (x ∷ c) (inl e) =
    let n : not (same d x) ≡ false = ap (λ (m : Literal). not (same d m)) (sym e) ∙ ap not (same_refl d) in
    omega (arith, less_cons (not (same d x)) x (without c d) n, filter_short (λ m. not (same d m)) c)
without_less d (x ∷ c) (inr i) = omega (arith, kept_short (not (same d x)) x (without c d), without_less d c i)

pub after_append : (d : Literal) (xs ys : Clause) → complements_after d (xs ++ ys) ≡ complements_after d xs ++ complements (without ys d)
after_append d xs ys =
    ap (λ x. negated d ∷ complements x) (filter_append (λ m. not (same d m)) xs ys) ∙ ap (λ x. negated d ∷ x) (map-append negated (without xs d) (without ys d))

after_length : (d : Literal) (c : Clause) → length (complements_after d c) ≡ length (without c d) + 1
after_length d c = omega (arith, length-map (without c d) negated)

-- there is place for one literal more
pub after_fits : (d : Literal) (c xs ys zs : Clause) → c ≡ (xs ++ ys) ++ zs → In c d → length (complements_after d xs) + length (without ys d) ≤ length c
after_fits d c xs ys zs e i =
    let w : length (without c d) ≡ (length (without xs d) + length (without ys d)) + length (without zs d) =
    ap (λ x. length (without x d)) e ∙ ap length (filter_append (λ m. not (same d m)) (xs ++ ys) zs) ∙ length-append (without (xs ++ ys) d) (without zs d)
    ∙ ap (λ (x : Clause). length x + length (without zs d)) (filter_append (λ m. not (same d m)) xs ys) ∙ ap (λ n. n + length (without zs d)) (length-append (without xs d) (without ys d)) in
    omega (arith, w, without_less d c i, after_length d xs)

-- ---- none twice

complements_once : (c : Clause) → no_repeats c ≡ true → no_repeats (complements c) ≡ true
complements_once [] h = refl
complements_once (m ∷ c) h =
    let p : (not (has c m) ≡ true) × (no_repeats c ≡ true) = and_parts (not (has c m)) (no_repeats c) h in
    and_from (not (has (complements c) (negated m))) (no_repeats (complements c))
    (not_from_false (has (complements c) (negated m)) (absent_from (complements c) (negated m) (λ i.
    let r : (l : Literal) × In c l × (negated m ≡ negated l) = in_map_from negated c (negated m) i in
    absent c m (not-true (has c m) p.0) (subst (In c) (sym (negated_negated r.0) ∙ ap negated (sym r.2) ∙ negated_negated m) r.1))))
    (complements_once c p.1)

pub after_once : (d : Literal) (c : Clause) → no_repeats c ≡ true → no_repeats (complements_after d c) ≡ true
after_once d c h =
    and_from (not (has (complements (without c d)) (negated d))) (no_repeats (complements (without c d)))
    (not_from_false (has (complements (without c d)) (negated d)) (absent_from (complements (without c d)) (negated d) (λ i.
    let r : (l : Literal) × In (without c d) l × (negated d ≡ negated l) = in_map_from negated (without c d) (negated d) i in
    let e : r.0 ≡ d = sym (negated_negated r.0) ∙ ap negated (sym r.2) ∙ negated_negated d in
    let n : not (same d d) ≡ true = subst (λ (l : Literal). not (same d l) ≡ true) e (in_filter_from (λ m. not (same d m)) c r.0 r.1).1 in
    true≢false (sym n ∙ ap not (same_refl d)))))
    (complements_once (without c d) (filter_once (λ m. not (same d m)) c h))

-- ---- the literals that a model makes false

pub turned_yes : (v : ℕ → Bool) (a : Clause) (d : Literal) → not (makes_true v d) ≡ true → turned v (a ++ d ∷ []) ≡ turned v a ++ d ∷ []
turned_yes v a d h = filter_append (λ l. not (makes_true v l)) a (d ∷ []) ∙ ap (λ x. turned v a ++ x) (cond-true (not (makes_true v d)) (d ∷ []) [] h)

pub turned_no : (v : ℕ → Bool) (a : Clause) (d : Literal) → not (makes_true v d) ≡ false → turned v (a ++ d ∷ []) ≡ turned v a
turned_no v a d h =
    filter_append (λ l. not (makes_true v l)) a (d ∷ []) ∙ ap (λ x. turned v a ++ x) (cond-false (not (makes_true v d)) (d ∷ []) [] h) ∙ append-nil (turned v a)

pub turned_rest : (v : ℕ → Bool) (a : Clause) (n : ℕ) → turned v a ≡ turned v (take n a) ++ turned v (drop n a)
turned_rest v a n = ap (turned v) (sym (take-append-drop n a)) ∙ filter_append (λ l. not (makes_true v l)) (take n a) (drop n a)

pub first_in : (c : Clause) (d : Literal) → slice_get c 0 ≡ Some d → In c d
first_in [] d h = absurd (cc h)
first_in (x ∷ c) d h = let e : x ≡ d = cc in inl (sym e)

pub turned_in : (v : ℕ → Bool) (a b : Clause) (d : Literal) → Sub a b → In (turned v a) d → In (turned v b) d
turned_in v a b d s i = let r : In a d × (not (makes_true v d) ≡ true) = in_filter_from (λ l. not (makes_true v l)) a d i in in_filter (λ l. not (makes_true v l)) b d (s d r.0) r.1

pub from_first : (ls c : Clause) (d : Literal) → slice_get ls 0 ≡ Some d → complements_from ls c ≡ complements_after d c
from_first [] c d h = absurd (cc h)
from_first (x ∷ ls) c d h = let e : x ≡ d = cc in ap (λ y. complements_after y c) e

pub front_first : (ls ms : Clause) (d : Literal) → ls ≡ [] → slice_get ((ls ++ d ∷ []) ++ ms) 0 ≡ Some d
front_first ls ms d e = ap (λ x. slice_get ((x ++ d ∷ []) ++ ms) 0) e

-- ---- values

pub some_within : {A : Type 0} (xs : List (Option A)) (i : ℕ) → is_some (get_or xs i None) ≡ true → i < length xs
some_within xs i h = elim (cases_lt i (length xs)) [ inl k ↦ k | inr k ↦ absurd (true≢false (sym h ∙ ap is_some (get_or_past xs i None k))) ]

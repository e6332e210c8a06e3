-- Marks of one variable more, and how many of a part are seen.
use Rattle.std.proofs.Common.{◌≡◌, ◌≤◌, ◌==◌, ◌+◌, ℕ, Bool, true, false, ◌||◌, cond, List, [], ◌∷◌, ◌++◌, length, Some, ◌⊎◌, inl, inr, refl, sym, ap, subst, ◌∙◌, arith}
use Rattle.std.proofs.lemmas.Bool.{or_cases, or_left, or_right, eqb-true, eq-eqb, ne_eqb, true≢false, false≢true}
use Rattle.std.proofs.lemmas.List.{length-append}
use Rattle.sdcl_base.specs.Literal.{Literal, Clause, negated, no_variable_twice}
use Rattle.sdcl_base.specs.Sets.{In}
use Rattle.sdcl_base.proofs.In.{in_append_left, in_append_right, in_append_cases, negated_negated}
use Rattle.sdcl_base.proofs.Apart.{apart_parts, apart_more}
use Rattle.sdcl_trail.specs.Levels.{Levels, IsSound, lits_of, level_in, levels_of}
use Rattle.sdcl_analyze.specs.Numbers.{has_number, adjoined}
use Rattle.sdcl_analyze.specs.Marking.{IsMarkable, Gathers, BecomeSeen, seen_among, lower_lits, last_lits}
use Rattle.sdcl_analyze.proofs.Numbers.{has_more, joined_new}
use Rattle.sdcl_analyze.proofs.Levels.{same_var, sign_cases, apart_two, apart_left, at_last, not_at_last, trail_split}

has_from : (seen : List ℕ) (x y : ℕ) → has_number (seen ++ x ∷ []) y ≡ true → (has_number seen y ≡ true) ⊎ (y ≡ x)
has_from seen x y h = elim (or_cases (has_number seen y) (y == x) (sym (has_more seen x y) ∙ h)) [ inl k ↦ inl k | inr k ↦ inr (eqb-true y x k) ]

has_still : (seen : List ℕ) (x y : ℕ) → has_number seen y ≡ true → has_number (seen ++ x ∷ []) y ≡ true
has_still seen x y h = has_more seen x y ∙ or_left (has_number seen y) (y == x) h

has_own : (seen : List ℕ) (x : ℕ) → has_number (seen ++ x ∷ []) x ≡ true
has_own seen x = has_more seen x x ∙ or_right (has_number seen x) (x == x) (eq-eqb x x refl)

-- a variable of the last level
pub gathers_up : (low lower : Clause) (seen : List ℕ) (x : ℕ) → Gathers low seen lower → ((k : Literal) → In low k → k.var ≡ x → ⊥) → Gathers low (seen ++ x ∷ []) lower
gathers_up low lower seen x g n = record {
  sound = λ l i. ((g.sound l i).0, has_still seen x l.var (g.sound l i).1);
  all = λ l i h. elim (has_from seen x l.var h) [ inl k ↦ g.all l i k | inr e ↦ absurd (n (negated l) i e) ];
  apart = g.apart;
  few = omega (arith, g.few, length-append seen (x ∷ []));
}

-- a literal that is false below it
pub gathers_down : (low lower : Clause) (seen : List ℕ) (l : Literal) → Gathers low seen lower → no_variable_twice low ≡ true → In low (negated l) → has_number seen l.var ≡ false
    → Gathers low (seen ++ l.var ∷ []) (lower ++ l ∷ [])
gathers_down low lower seen l g a i f = record {
  sound = λ k j. elim (in_append_cases lower (l ∷ []) k j) [
    | inl q ↦ ((g.sound k q).0, has_still seen l.var k.var (g.sound k q).1)
    | inr (inl e) ↦ (subst (λ z. In low (negated z)) (sym e) i, ap (λ (z : Literal). has_number (seen ++ l.var ∷ []) z.var) e ∙ has_own seen l.var)
    | inr (inr q) ↦ absurd q
  ];
  all = λ k j h. elim (has_from seen l.var k.var h) [
    | inl q ↦ in_append_left lower (l ∷ []) k (g.all k j q)
    | inr e ↦ in_append_right lower (l ∷ []) k (inl (sym (negated_negated k) ∙ ap negated (same_var low a (negated k) (negated l) j i e) ∙ negated_negated l))
  ];
  apart = apart_more lower l g.apart (λ j. true≢false (sym (g.sound l j).1 ∙ f)) (λ j. true≢false (sym (g.sound (negated l) j).1 ∙ f));
  few = omega (arith, g.few, length-append seen (l.var ∷ []), length-append lower (l ∷ []));
}

-- ---- counts

one_more : (b c : Bool) (k : Literal) (xs ys : Clause) → b ≡ c → length xs ≡ length ys → length (cond b (k ∷ xs) xs) ≡ length (cond c (k ∷ ys) ys)
one_more true true k xs ys e h = omega (arith, h)
one_more false false k xs ys e h = h
one_more true false k xs ys e h = absurd (true≢false e)
one_more false true k xs ys e h = absurd (false≢true e)

or_other : (b : Bool) (x y : ℕ) → (x ≡ y → ⊥) → (b || (x == y)) ≡ b
or_other true x y n = refl
or_other false x y n = ne_eqb x y n

pub count_same : (x : ℕ) (part : Clause) (seen : List ℕ) → ((k : Literal) → In part k → k.var ≡ x → ⊥) → length (seen_among part (seen ++ x ∷ [])) ≡ length (seen_among part seen)
count_same x [] seen n = refl
count_same x (k ∷ part) seen n =
    one_more (has_number (seen ++ x ∷ []) k.var) (has_number seen k.var) k (seen_among part (seen ++ x ∷ [])) (seen_among part seen)
    (has_more seen x k.var ∙ or_other (has_number seen k.var) k.var x (n k (inl refl))) (count_same x part seen (λ m i. n m (inr i)))

first_more : (b c : Bool) (k : Literal) (xs ys : Clause) → b ≡ true → c ≡ false → length xs ≡ length ys → length (cond b (k ∷ xs) xs) ≡ length (cond c (k ∷ ys) ys) + 1
first_more true false k xs ys p q h = omega (arith, h)
first_more true true k xs ys p q h = absurd (true≢false q)
first_more false c k xs ys p q h = absurd (false≢true p)

later_more : (b c : Bool) (k : Literal) (xs ys : Clause) → b ≡ c → length xs ≡ length ys + 1 → length (cond b (k ∷ xs) xs) ≡ length (cond c (k ∷ ys) ys) + 1
later_more true true k xs ys e h = omega (arith, h)
later_more false false k xs ys e h = h
later_more true false k xs ys e h = absurd (true≢false e)
later_more false true k xs ys e h = absurd (false≢true e)

pub count_one : (l : Literal) (part : Clause) (seen : List ℕ) → no_variable_twice part ≡ true → In part l → has_number seen l.var ≡ false
    → length (seen_among part (seen ++ l.var ∷ [])) ≡ length (seen_among part seen) + 1
count_one l [] seen a i f = absurd i
count_one l (k ∷ part) seen a (inl e) f =
    let p : (In part k → ⊥) × (In part (negated k) → ⊥) × (no_variable_twice part ≡ true) = apart_parts k part a in
    first_more (has_number (seen ++ l.var ∷ []) k.var) (has_number seen k.var) k (seen_among part (seen ++ l.var ∷ [])) (seen_among part seen)
    (ap (λ (z : Literal). has_number (seen ++ l.var ∷ []) z.var) (sym e) ∙ has_own seen l.var) (ap (λ (z : Literal). has_number seen z.var) (sym e) ∙ f)
    (count_same l.var part seen (λ m i q. elim (sign_cases m k (q ∙ ap (λ (z : Literal). z.var) e)) [ inl r ↦ p.0 (subst (In part) r i) | inr r ↦ p.1 (subst (In part) r i) ]))
count_one l (k ∷ part) seen a (inr i) f =
    let p : (In part k → ⊥) × (In part (negated k) → ⊥) × (no_variable_twice part ≡ true) = apart_parts k part a in
    later_more (has_number (seen ++ l.var ∷ []) k.var) (has_number seen k.var) k (seen_among part (seen ++ l.var ∷ [])) (seen_among part seen)
    (has_more seen l.var k.var ∙ or_other (has_number seen k.var) k.var l.var (λ q. elim (sign_cases l k (sym q)) [ inl r ↦ p.0 (subst (In part) r i) | inr r ↦ p.1 (subst (In part) r i) ]))
    (count_one l part seen p.2 i f)

-- ---- how many became seen

pub opens_down : (last : Clause) (seen : List ℕ) (l : Literal) → ((k : Literal) → In last k → k.var ≡ l.var → ⊥) → BecomeSeen last seen (seen ++ l.var ∷ []) (l ∷ []) 0
opens_down last seen l n part s a h = omega (arith, count_same l.var part seen (λ k i. n k (s k i)))

pub opens_up : (last : Clause) (seen : List ℕ) (l : Literal) → In last (negated l) → has_number seen l.var ≡ false → BecomeSeen last seen (seen ++ l.var ∷ []) (l ∷ []) 1
opens_up last seen l i f part s a h =
    elim (h l (inl refl) i) [
      | inl j ↦ count_one (negated l) part seen a j f
      | inr k ↦ absurd (true≢false (sym k ∙ f))
    ]

-- one literal more
pub opens_more : (last : Clause) (seen more most : List ℕ) (c : Clause) (l : Literal) (n m : ℕ) → ((x : ℕ) → has_number seen x ≡ true → has_number more x ≡ true)
    → BecomeSeen last seen more c n → BecomeSeen last more most (l ∷ []) m → BecomeSeen last seen most (c ++ l ∷ []) (n + m)
opens_more last seen more most c l n m g o p part s a h =
    omega (
      arith,
      o part s a (λ k i. h k (in_append_left c (l ∷ []) k i)),
      p part s a (λ k i j. elim (h k (in_append_right c (l ∷ []) k i) j) [ inl q ↦ inl q | inr q ↦ inr (g k.var q) ]),
    )

-- ---- one mark

pub markable_within : (t : Levels) (seen : List ℕ) (l : Literal) → IsSound t → IsMarkable (lits_of t) seen l → l.var ≤ t.variables
markable_within t seen l s (inl i) = (s.within (negated l) i).1
markable_within t seen l s (inr p) = (s.within l p.0).1

unseen : (t : Clause) (seen : List ℕ) (l : Literal) → IsMarkable t seen l → has_number seen l.var ≡ false → In t (negated l)
unseen t seen l (inl i) f = i
unseen t seen l (inr p) f = absurd (true≢false (sym p.1 ∙ f))

pub record Marks (t : Levels) (seen more : List ℕ) (lower : Clause) (l : Literal) (n : ℕ) : Type 0 where
  pub gathers : Gathers (lower_lits (levels_of t)) more lower
  pub opens : BecomeSeen (last_lits (levels_of t)) seen more (l ∷ []) n

pub mark_up : (t : Levels) (seen more : List ℕ) (lower : Clause) (l : Literal) (n : ℕ) → IsSound t → length (levels_of t) ≡ n + 1 → IsMarkable (lits_of t) seen l → has_number seen l.var ≡ false
    → more ≡ adjoined seen l.var → level_in (levels_of t) l.var ≡ Some n → Gathers (lower_lits (levels_of t)) seen lower → Marks t seen more lower l 1
mark_up t seen more lower l n s e o f m v g =
    let split : lits_of t ≡ lower_lits (levels_of t) ++ last_lits (levels_of t) = trail_split t in
    let a : no_variable_twice (lower_lits (levels_of t) ++ last_lits (levels_of t)) ≡ true = subst (λ c. no_variable_twice c ≡ true) split s.apart in
    let i : In (last_lits (levels_of t)) (negated l) = at_last (levels_of t) (negated l) n e (subst (λ c. In c (negated l)) split (unseen (lits_of t) seen l o f)) v in
    let q : more ≡ seen ++ l.var ∷ [] = m ∙ joined_new seen l.var f in
    record {
      gathers = subst (λ xs. Gathers (lower_lits (levels_of t)) xs lower) (sym q)
          (gathers_up (lower_lits (levels_of t)) lower seen l.var g (λ k j x. apart_two (lower_lits (levels_of t)) (last_lits (levels_of t)) a k (negated l) j i x));
      opens = subst (λ xs. BecomeSeen (last_lits (levels_of t)) seen xs (l ∷ []) 1) (sym q) (opens_up (last_lits (levels_of t)) seen l i f);
    }

pub mark_down : (t : Levels) (seen more : List ℕ) (lower : Clause) (l : Literal) (n : ℕ) → IsSound t → length (levels_of t) ≡ n + 1 → IsMarkable (lits_of t) seen l → has_number seen l.var ≡ false
    → more ≡ adjoined seen l.var → (level_in (levels_of t) l.var ≡ Some n → ⊥) → Gathers (lower_lits (levels_of t)) seen lower → Marks t seen more (lower ++ l ∷ []) l 0
mark_down t seen more lower l n s e o f m v g =
    let split : lits_of t ≡ lower_lits (levels_of t) ++ last_lits (levels_of t) = trail_split t in
    let a : no_variable_twice (lower_lits (levels_of t) ++ last_lits (levels_of t)) ≡ true = subst (λ c. no_variable_twice c ≡ true) split s.apart in
    let i : In (lower_lits (levels_of t)) (negated l) = not_at_last (levels_of t) (negated l) n e a (subst (λ c. In c (negated l)) split (unseen (lits_of t) seen l o f)) v in
    let q : more ≡ seen ++ l.var ∷ [] = m ∙ joined_new seen l.var f in
    record {
      gathers = subst (λ xs. Gathers (lower_lits (levels_of t)) xs (lower ++ l ∷ [])) (sym q)
          (gathers_down (lower_lits (levels_of t)) lower seen l g (apart_left (lower_lits (levels_of t)) (last_lits (levels_of t)) a) i f);
      opens = subst (λ xs. BecomeSeen (last_lits (levels_of t)) seen xs (l ∷ []) 0) (sym q)
          (opens_down (last_lits (levels_of t)) seen l (λ k j x. apart_two (lower_lits (levels_of t)) (last_lits (levels_of t)) a (negated l) k i j (sym x)));
    }

pub markable_more : (t : Clause) (seen more : List ℕ) (l : Literal) → IsMarkable t seen l → (has_number seen l.var ≡ true → has_number more l.var ≡ true) → IsMarkable t more l
markable_more t seen more l (inl i) h = inl i
markable_more t seen more l (inr p) h = inr (p.0, h p.1)

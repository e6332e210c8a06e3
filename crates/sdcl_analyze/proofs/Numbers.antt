-- Sets of numbers: none, one more, and the variables of a clause.
use Rattle.std.proofs.Common.{◌≡◌, ◌≤◌, ◌<◌, ◌+◌, ◌==◌, ℕ, Bool, true, false, ◌||◌, cond, List, [], ◌∷◌, ◌++◌, append-nil, length, map, get_or, vec_capacity, replicate, ◌⊎◌, inl, inr, refl, sym, ap, subst, ◌∙◌, arith}
use Rattle.std.specs.declared.vec.Vec.{Vec}
use Rattle.std.specs.declared.alloc.Global.{Global}
use Rattle.std.specs.Cmp.{nat_eq_equiv}
use Rattle.std.specs.List.{IsDistinct}
use Rattle.std.proofs.Math.ListN.{set, length-set}
use Rattle.std.proofs.lemmas.Bool.{cases_lt, cases_eq, cases_Bool, or_cases, or_left, or_right, eqb-true, eq-eqb, ne_eqb, true≢false}
use Rattle.std.proofs.lemmas.List.{get_or_past, get_or-set_same, get_or-set_other, get_or-replicate, length-replicate, length-append}
use Rattle.std.proofs.lemmas.List.Folds.{list_any-append}
use Rattle.std.proofs.lemmas.Map.Keys.{IsDistinct-push}
use Rattle.std.proofs.lemmas.Map.Steps.{length-le_from_distinct_below}
use Rattle.sdcl_base.specs.declared.lit.TheConstants.{MAX_VARIABLE}
use Rattle.sdcl_base.specs.Literal.{Literal, Clause}
use Rattle.sdcl_base.specs.Sets.{In}
use Rattle.sdcl_analyze.specs.Numbers.{has_number, adjoined, adjoined_all, AllDiffer, IsListed, IsMarked}

or_false : (b : Bool) → (b || false) ≡ b
or_false true = refl
or_false false = refl

pub has_more : (xs : List ℕ) (x y : ℕ) → has_number (xs ++ x ∷ []) y ≡ (has_number xs y || (y == x))
has_more xs x y = list_any-append (λ z. y == z) xs (x ∷ []) ∙ ap (λ b. has_number xs y || b) (or_false (y == x))

pub few_of : (n : ℕ) (xs : List ℕ) → AllDiffer xs → ((x : ℕ) → has_number xs x ≡ true → x < n) → length xs ≤ n
few_of n xs d w = length-le_from_distinct_below xs n d w

pub marked_below : (marks : List Bool) (members : Vec ℕ Global) → IsMarked marks members → (x : ℕ) → has_number members.items x ≡ true → x < length marks
marked_below marks members m x h =
    elim (cases_lt x (length marks)) [ inl k ↦ k | inr k ↦ absurd (true≢false (sym h ∙ sym (m.exact x) ∙ get_or_past marks x false k)) ]

pub listed_of : (marks : List Bool) (members : Vec ℕ Global) → IsMarked marks members → IsListed (record { room = length marks; members = members.items })
listed_of marks members m = record {
  distinct = m.distinct;
  below = marked_below marks members m;
  few = few_of (length marks) members.items m.distinct (marked_below marks members m);
  small = m.small;
}

-- one number more
pub marked_more : (marks : List Bool) (members more : Vec ℕ Global) (x : ℕ) → IsMarked marks members → x < length marks → has_number members.items x ≡ false
    → more.items ≡ members.items ++ x ∷ [] → length marks ≤ vec_capacity more → IsMarked (set marks x true) more
marked_more marks members more x m h f e k = record {
  exact = λ y. elim (cases_eq y x) [
    | inl q ↦
        ap (λ z. get_or (set marks x true) z false) q ∙ get_or-set_same marks x true false h
        ∙ sym (ap (λ xs. has_number xs y) e ∙ has_more members.items x y ∙ or_right (has_number members.items y) (y == x) (eq-eqb y x q))
    | inr n ↦
        get_or-set_other marks x y true false n ∙ m.exact y
        ∙ sym (ap (λ xs. has_number xs y) e ∙ has_more members.items x y ∙ ap (λ b. has_number members.items y || b) (ne_eqb y x n) ∙ or_false (has_number members.items y))
  ];
  distinct = subst AllDiffer (sym e) (IsDistinct-push nat_eq_equiv members.items x m.distinct f);
  memory = subst (λ (n : ℕ). n ≤ vec_capacity more) (sym (length-set marks x true)) k;
  small = subst (λ (n : ℕ). n ≤ MAX_VARIABLE + 2) (sym (length-set marks x true)) m.small;
}

pub joined_new : (xs : List ℕ) (x : ℕ) → has_number xs x ≡ false → adjoined xs x ≡ xs ++ x ∷ []
joined_new xs x h = ap (λ b. cond b xs (xs ++ x ∷ [])) h

pub joined_old : (xs : List ℕ) (x : ℕ) → has_number xs x ≡ true → adjoined xs x ≡ xs
joined_old xs x h = ap (λ b. cond b xs (xs ++ x ∷ [])) h

pub joined_holds : (xs : List ℕ) (x y : ℕ) → has_number xs y ≡ true → has_number (adjoined xs x) y ≡ true
joined_holds xs x y h =
    elim (cases_Bool (has_number xs x)) [
      | inl e ↦ ap (λ zs. has_number zs y) (joined_old xs x e) ∙ h
      | inr e ↦ ap (λ zs. has_number zs y) (joined_new xs x e) ∙ has_more xs x y ∙ or_left (has_number xs y) (y == x) h
    ]

pub joined_own : (xs : List ℕ) (x : ℕ) → has_number (adjoined xs x) x ≡ true
joined_own xs x =
    elim (cases_Bool (has_number xs x)) [
      | inl e ↦ ap (λ zs. has_number zs x) (joined_old xs x e) ∙ e
      | inr e ↦ ap (λ zs. has_number zs x) (joined_new xs x e) ∙ has_more xs x x ∙ or_right (has_number xs x) (x == x) (eq-eqb x x refl)
    ]

pub joined_from : (xs : List ℕ) (x y : ℕ) → has_number (adjoined xs x) y ≡ true → (has_number xs y ≡ true) ⊎ (y ≡ x)
joined_from xs x y h =
    elim (cases_Bool (has_number xs x)) [
      | inl e ↦ inl (ap (λ zs. has_number zs y) (sym (joined_old xs x e)) ∙ h)
      | inr e ↦ elim (or_cases (has_number xs y) (y == x) (sym (ap (λ zs. has_number zs y) (joined_new xs x e) ∙ has_more xs x y) ∙ h)) [
        | inl k ↦ inl k
        | inr k ↦ inr (eqb-true y x k)
      ]
    ]

or_absorbs : (a b : Bool) → (b ≡ true → a ≡ true) → a ≡ (a || b)
or_absorbs true b h = refl
or_absorbs false true h = h refl
or_absorbs false false h = refl

pub joined_has : (xs : List ℕ) (x y : ℕ) → has_number (adjoined xs x) y ≡ (has_number xs y || (y == x))
joined_has xs x y =
    elim (cases_Bool (has_number xs x)) [
      | inl e ↦ ap (λ zs. has_number zs y) (joined_old xs x e) ∙ or_absorbs (has_number xs y) (y == x) (λ h. ap (has_number xs) (eqb-true y x h) ∙ e)
      | inr e ↦ ap (λ zs. has_number zs y) (joined_new xs x e) ∙ has_more xs x y
    ]

pub joined_end : (xs : List ℕ) (c : Clause) (l : Literal) → adjoined_all xs (c ++ l ∷ []) ≡ adjoined (adjoined_all xs c) l.var
joined_end xs [] l = refl
joined_end xs (m ∷ c) l = joined_end (adjoined xs m.var) c l

or_moved : (a b c : Bool) → ((a || b) || c) ≡ (a || (b || c))
or_moved true b c = refl
or_moved false b c = refl

pub all_has : (xs : List ℕ) (c : Clause) (y : ℕ) → has_number (adjoined_all xs c) y ≡ has_number (xs ++ map (λ l. l.var) c) y
all_has xs [] y = ap (λ (zs : List ℕ). has_number zs y) (sym (append-nil xs))
all_has xs (l ∷ c) y =
    all_has (adjoined xs l.var) c y
    ∙ list_any-append (λ z. y == z) (adjoined xs l.var) (map (λ l. l.var) c)
    ∙ ap (λ b. b || has_number (map (λ l. l.var) c) y) (joined_has xs l.var y)
    ∙ or_moved (has_number xs y) (y == l.var) (has_number (map (λ l. l.var) c) y)
    ∙ sym (list_any-append (λ z. y == z) xs (l.var ∷ map (λ l. l.var) c))

pub has_other : (xs ys zs : List ℕ) → ((y : ℕ) → has_number xs y ≡ has_number ys y) → (y : ℕ) → has_number (xs ++ zs) y ≡ has_number (ys ++ zs) y
has_other xs ys zs h y =
    list_any-append (λ z. y == z) xs zs ∙ ap (λ b. b || has_number zs y) (h y) ∙ sym (list_any-append (λ z. y == z) ys zs)

pub all_holds : (xs : List ℕ) (c : Clause) (y : ℕ) → has_number xs y ≡ true → has_number (adjoined_all xs c) y ≡ true
all_holds xs [] y h = h
all_holds xs (m ∷ c) y h = all_holds (adjoined xs m.var) c y (joined_holds xs m.var y h)

pub all_own : (xs : List ℕ) (c : Clause) (l : Literal) → In c l → has_number (adjoined_all xs c) l.var ≡ true
all_own xs [] l i = absurd i
all_own xs (m ∷ c) l (inl e) = all_holds (adjoined xs m.var) c l.var (ap (λ (k : Literal). has_number (adjoined xs m.var) k.var) e ∙ joined_own xs m.var)
all_own xs (m ∷ c) l (inr i) = all_own (adjoined xs m.var) c l i

-- a number that is there then
pub all_from : (xs : List ℕ) (c : Clause) (y : ℕ) → has_number (adjoined_all xs c) y ≡ true → (has_number xs y ≡ true) ⊎ ((l : Literal) × In c l × (y ≡ l.var))
all_from xs [] y h = inl h
all_from xs (m ∷ c) y h =
    elim (all_from (adjoined xs m.var) c y h) [
      | inl k ↦ elim (joined_from xs m.var y k) [ inl a ↦ inl a | inr e ↦ inr (m, inl refl, e) ]
      | inr k ↦ inr (k.0, inr k.1, k.2)
    ]

-- ---- none

differ_none : AllDiffer []
unfolding IsDistinct
differ_none = tt

pub marked_none : (marks : List Bool) (members : Vec ℕ Global) → members.items ≡ [] → ((x : ℕ) → get_or marks x false ≡ true → ⊥) → length marks ≤ vec_capacity members → length marks ≤ MAX_VARIABLE + 2 → IsMarked marks members
marked_none marks members e n k s = record {
  exact = λ x. elim (cases_Bool (get_or marks x false)) [ inl h ↦ absurd (n x h) | inr h ↦ h ∙ sym (ap (λ xs. has_number xs x) e) ];
  distinct = subst AllDiffer (sym e) differ_none;
  memory = k;
  small = s;
}

pub unmarked : (n x : ℕ) → get_or (replicate n false) x false ≡ true → ⊥
unmarked n x h =
    elim (cases_lt x n) [
      | inl k ↦ true≢false (sym h ∙ get_or-replicate n x false false k)
      | inr k ↦ true≢false (sym h ∙ get_or_past (replicate n false) x false (subst (λ (m : ℕ). m ≤ x) (sym (length-replicate n false)) k))
    ]

-- one mark less
pub unmarked_more : (marks : List Bool) (items front : List ℕ) (n x : ℕ) → items ≡ front ++ n ∷ [] → ((y : ℕ) → get_or marks y false ≡ true → has_number items y ≡ true)
    → n < length marks → get_or (set marks n false) x false ≡ true → has_number front x ≡ true
unmarked_more marks items front n x e h k m =
    elim (cases_eq x n) [
      | inl q ↦ absurd (true≢false (sym m ∙ ap (λ z. get_or (set marks n false) z false) q ∙ get_or-set_same marks n false false k))
      | inr q ↦ elim (or_cases (has_number front x) (x == n) (sym (ap (λ xs. has_number xs x) e ∙ has_more front n x) ∙ h x (sym (get_or-set_other marks n x false false q) ∙ m))) [
        | inl a ↦ a
        | inr a ↦ absurd (q (eqb-true x n a))
      ]
    ]

pub front_has : (items front : List ℕ) (n x : ℕ) → items ≡ front ++ n ∷ [] → has_number front x ≡ true → has_number items x ≡ true
front_has items front n x e h = ap (λ xs. has_number xs x) e ∙ has_more front n x ∙ or_left (has_number front x) (x == n) h

pub end_has : (items front : List ℕ) (n : ℕ) → items ≡ front ++ n ∷ [] → has_number items n ≡ true
end_has items front n e = ap (λ xs. has_number xs n) e ∙ has_more front n n ∙ or_right (has_number front n) (n == n) (eq-eqb n n refl)

-- there is room for one more
pub room_for : (marks : List Bool) (members : Vec ℕ Global) (x : ℕ) → IsMarked marks members → x < length marks → has_number members.items x ≡ false → length members.items < length marks
room_for marks members x m h f =
    omega (
      arith,
      length-append members.items (x ∷ []),
      few_of (length marks) (members.items ++ x ∷ []) (IsDistinct-push nat_eq_equiv members.items x m.distinct f)
          (λ y k. elim (or_cases (has_number members.items y) (y == x) (sym (has_more members.items x y) ∙ k)) [
            | inl a ↦ marked_below marks members m y a
            | inr a ↦ subst (λ (z : ℕ). z < length marks) (sym (eqb-true y x a)) h
          ]),
    )

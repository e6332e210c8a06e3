-- The variables of the live clauses, as slots come and go.
use Rattle.std.proofs.Common.{◌≡◌, ℕ, ◌≤◌, ◌<◌, List, [], ◌∷◌, ◌++◌, length, Some, true, sym, subst, inl, inr, arith}
use Rattle.std.specs.Prelude.{All}
use Rattle.std.proofs.lemmas.List.Elements.{All-head, All-tail}
use Rattle.sdcl_base.specs.Literal.{Literal, Clause}
use Rattle.sdcl_base.specs.Sets.{In}
use Rattle.sdcl_base.specs.Marks.{firsts}
use Rattle.sdcl_base.proofs.In.{in_append_left, in_append_right, in_append_cases}
use Rattle.sdcl_base.proofs.Marking.{firsts_all}
use Rattle.sdcl_store.specs.Slots.{Slots, is_alive, clause_of, live, emptied, live_before, live_behind}
use Rattle.sdcl_store.specs.Stores.{AreUpTo}
use Rattle.sdcl_store.proofs.Slots.{live_append, live_split, live_emptied}

all_at : {A : Type 0} (P : A → Type 0) (xs : List A) (x : A) → All P xs → In xs x → P x
all_at P [] x a i = absurd i
all_at P (y ∷ ys) x a (inl e) = subst P (sym e) (All-head P y ys a)
all_at P (y ∷ ys) x a (inr i) = all_at P ys x (All-tail P y ys a) i

raised : (n m : ℕ) (c : Clause) → n ≤ m → ((l : Literal) → In c l → l.var ≤ n) → (l : Literal) → In c l → l.var ≤ m
raised n m c h k l i = let low : l.var ≤ n = k l i in omega arith

-- a clause more, whose variables are bounded as well
pub up_to_more : (n k m : ℕ) (s : Slots) (lits : Clause) → AreUpTo n (live s) → All (λ l. l.var ≤ k) lits → n ≤ m → k ≤ m
    → AreUpTo m (live (s ++ Some (firsts lits) ∷ []))
up_to_more n k m s lits a b h i d l j x =
    let among : In (live s ++ firsts lits ∷ []) d = subst (λ f. In f d) (live_append s (Some (firsts lits) ∷ [])) j in
    elim (in_append_cases (live s) (firsts lits ∷ []) d among) [
      | inl old ↦ raised n m d h (λ l x. a d l old x) l x
      | inr new ↦
          elim new [
            | inl e ↦ raised k m (firsts lits) i (λ m. all_at (λ l. l.var ≤ k) (firsts lits) m (firsts_all (λ l. l.var ≤ k) lits b)) l (subst (λ c. In c l) e x)
            | inr none ↦ absurd none
          ]
    ]

-- an id's clause less
pub up_to_fewer : (n : ℕ) (s : Slots) (i : ℕ) → i < length s → is_alive s i ≡ true → AreUpTo n (live s) → AreUpTo n (live (emptied s i))
up_to_fewer n s i h k a d l j x =
    let among : In (live_before s i ++ live_behind s i) d = subst (λ f. In f d) (live_emptied s i h) j in
    let there : In (live s) d = subst (λ f. In f d) (sym (live_split s i k))
    (elim (in_append_cases (live_before s i) (live_behind s i) d among) [
      | inl before ↦ in_append_left (live_before s i) (clause_of s i ∷ live_behind s i) d before
      | inr behind ↦ in_append_right (live_before s i) (clause_of s i ∷ live_behind s i) d (inr behind)
    ]) in
    a d l there x

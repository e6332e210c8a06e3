-- A node leaves a list: the link to it goes over to the node behind it.
use Rattle.std.proofs.Common.{◌≡◌, ◌≢◌, ◌∙◌, ℕ, suc, ◌-◌, ◌<◌, ◌≤◌, List, [], ◌∷◌, ◌++◌, length, get_or, set, Some, None, refl, sym, ap, subst, arith, inl, inr, get_or-set_other, get_or-set_same}
use Rattle.std.proofs.lemmas.List.{length-set, append_assoc, append-nil}
use Rattle.sdcl_base.specs.Literal.{Literal}
use Rattle.sdcl_base.specs.Sets.{In}
use Rattle.sdcl_base.proofs.In.{in_append_left, in_append_right, in_append_cases}
use Rattle.sdcl_prop.specs.Chains.{Chain, Distinct, list_from, lists_from, Links, list_of, PutAt, WithoutNode, run, IsRun, IsBefore}
use Rattle.sdcl_prop.proofs.Linked.{walk_chain, chain_set, chain_below, few_nodes, view_at, with_list, put_at, links_with, Popped}

-- ---- the node before another one is sought

pub record Seek (links ws : List ℕ) (w at : ℕ) : Type 0 where
  pub front : List ℕ
  pub rest : List ℕ
  pub whole : ws ≡ front ++ rest
  pub chain : Chain links at rest
  pub short : length rest ≤ length links
  pub gone : In front w → ⊥
  pub ahead : at ≡ suc w → ⊥

pub seek_start : (links : List ℕ) (h w : ℕ) → IsRun links h → (h ≡ suc w → ⊥) → Seek links (run links h) w h
seek_start links h w k ne = record {
  front = [];
  rest = run links h;
  whole = refl;
  chain = k.chain;
  short = few_nodes links h (run links h) k.chain k.distinct;
  gone = λ i. absurd i;
  ahead = ne;
}

chain_tail : (links : List ℕ) (h w : ℕ) (ws : List ℕ) → Chain links h (w ∷ ws) → Chain links (get_or links w 0) ws
chain_tail links h w ws c = c.2

-- what one step finds
pub record Step (links ws : List ℕ) (w at next : ℕ) : Type 0 where
  pub below : at - 1 < length links
  pub found : next ≡ suc w → IsBefore ws w (Some (at - 1))
  pub further : (next ≡ suc w → ⊥) → Seek links ws w next
  pub shorter : length (run links next) < length (run links at)

ends_at : (links : List ℕ) (h w : ℕ) (xs : List ℕ) → Chain links h xs → h ≡ suc w → (ys : List ℕ) × (xs ≡ w ∷ ys)
ends_at links h w [] c e = let q : h ≡ 0 = c in absurd (omega arith)
ends_at links h w (y ∷ ys) c e =
    let q : h ≡ suc y = c.0 in
    let r : y ≡ w = omega arith in
    (ys, rw r refl)

step_rest : (links ws : List ℕ) (w at next : ℕ) (front rest : List ℕ) → ws ≡ front ++ rest → Chain links at rest → length rest ≤ length links → (In front w → ⊥) → (at ≡ suc w → ⊥) → (at ≡ 0 → ⊥) → next ≡ get_or links (at - 1) 0 → Step links ws w at next
step_rest links ws w at next front [] whole c short gone ahead ne e = absurd (ne c)
step_rest links ws w at next front (x ∷ xs) whole c short gone ahead ne e =
    let q : at ≡ suc x = c.0 in
    let p : at - 1 ≡ x = omega arith in
    let link : next ≡ get_or links x 0 = e ∙ ap (λ n. get_or links n 0) p in
    let t : Chain links next xs = rw link (chain_tail links at x xs c) in
    let here : run links at ≡ x ∷ xs = walk_chain links (length links) at (x ∷ xs) c short in
    let there : run links next ≡ xs = walk_chain links (length links) next xs t (omega arith) in
    record {
      below = rw p c.1;
      found = λ f.
          let r : (ys : List ℕ) × (xs ≡ w ∷ ys) = ends_at links next w xs t f in
          (front, r.0, whole ∙ ap (λ zs. front ++ x ∷ zs) r.1 ∙ ap (λ n. front ++ n ∷ w ∷ r.0) (sym p));
      further = λ f. record {
        front = front ++ x ∷ [];
        rest = xs;
        whole = whole ∙ sym (append_assoc front (x ∷ []) xs);
        chain = t;
        short = omega arith;
        gone = λ i. elim (in_append_cases front (x ∷ []) w i) [
          | inl j ↦ gone j
          | inr (inl j) ↦ ahead (q ∙ ap (λ n. suc n) (sym j))
          | inr (inr j) ↦ absurd j
        ];
        ahead = f;
      };
      shorter = omega (arith, ap length here, ap length there);
    }

pub seek_step : (links ws : List ℕ) (w at next : ℕ) → Seek links ws w at → (at ≡ 0 → ⊥) → next ≡ get_or links (at - 1) 0 → Step links ws w at next
seek_step links ws w at next s ne e = step_rest links ws w at next s.front s.rest s.whole s.chain s.short s.gone s.ahead ne e

end_rest : (links ws : List ℕ) (w at : ℕ) (front rest : List ℕ) → ws ≡ front ++ rest → Chain links at rest → (In front w → ⊥) → at ≡ 0 → In ws w → ⊥
end_rest links ws w at front [] whole c gone e i = gone (subst (λ xs. In xs w) (whole ∙ append-nil front) i)
end_rest links ws w at front (x ∷ xs) whole c gone e i = let q : at ≡ suc x = c.0 in absurd (omega arith)

pub seek_end : (links ws : List ℕ) (w at : ℕ) → Seek links ws w at → at ≡ 0 → IsBefore ws w None
seek_end links ws w at s e = end_rest links ws w at s.front s.rest s.whole s.chain s.gone e

-- ---- a list without the node

pub without : (heads links heads' links' : List ℕ) (ls : List Literal) (l w : ℕ) (xs : List ℕ) → length heads' ≡ length heads → Links heads' links' (with_list (list_from heads links) l xs)
    → ((v : ℕ) → In xs v → In (list_from heads links l) v × (v ≡ w → ⊥)) → ((v : ℕ) → In (list_from heads links l) v → (v ≡ w → ⊥) → In xs v) → WithoutNode (ls, lists_from heads links) (ls, lists_from heads' links') l w
without heads links heads' links' ls l w xs count k fewer rest =
    let p : PutAt (ls, lists_from heads links) (ls, lists_from heads' links') l xs = put_at heads links heads' links' ls l xs count k in
    let old = view_at heads links ls l in
    record {
      nodes = refl;
      lists = p.lists;
      others = p.others;
      fewer = λ v i. rw old (fewer v (rw p.here at i));
      rest = λ v i n. rw p.here (rest v (rw old at i) n);
    }

pub without_none : (heads links : List ℕ) (ls : List Literal) (l w : ℕ) → IsBefore (list_from heads links l) w None → WithoutNode (ls, lists_from heads links) (ls, lists_from heads links) l w
without_none heads links ls l w none = record {
  nodes = refl;
  lists = refl;
  others = λ m n. refl;
  fewer = λ v i. (i, λ e. none (rw (view_at heads links ls l) at (subst (λ u. In (list_of (ls, lists_from heads links) l) u) e i)));
  rest = λ v i n. i;
}

-- the first node
pub without_first : (heads links : List ℕ) (ls : List Literal) (l w x : ℕ) (ws : List ℕ) → Popped heads links l w x ws → Distinct (w ∷ ws) → WithoutNode (ls, lists_from heads links) (ls, lists_from (set heads l x) links) l w
without_first heads links ls l w x ws p d =
    without heads links (set heads l x) links ls l w ws (length-set heads l x) p.rest
    (λ v i. (rw p.front (inr i), λ e. d.0 (subst (λ u. In ws u) e i)))
    (λ v i n. elim (subst (λ zs. In zs v) p.front i) [ inl e ↦ absurd (n e) | inr j ↦ j ])

more : (xs : List ℕ) (v w : ℕ) (ys : List ℕ) (u : ℕ) → In (xs ++ v ∷ ys) u → In (xs ++ v ∷ w ∷ ys) u
more xs v w ys u i = elim (in_append_cases xs (v ∷ ys) u i) [
  | inl j ↦ in_append_left xs (v ∷ w ∷ ys) u j
  | inr (inl e) ↦ in_append_right xs (v ∷ w ∷ ys) u (inl e)
  | inr (inr j) ↦ in_append_right xs (v ∷ w ∷ ys) u (inr (inr j))
]

-- a node behind another one
record Parts (xs : List ℕ) (v w : ℕ) (ys : List ℕ) : Type 0 where
  before : In xs v → ⊥
  behind : In (w ∷ ys) v → ⊥
  first : In xs w → ⊥
  last : In ys w → ⊥
  distinct : Distinct (xs ++ v ∷ ys)

parts : (xs : List ℕ) (v w : ℕ) (ys : List ℕ) → Distinct (xs ++ v ∷ w ∷ ys) → Parts xs v w ys
parts [] v w ys d = record {
  before = λ i. absurd i;
  behind = d.0;
  first = λ i. absurd i;
  last = d.1.0;
  distinct = (λ i. d.0 (inr i), d.1.1);
}
parts (x ∷ xs) v w ys d =
    let r : Parts xs v w ys = parts xs v w ys d.1 in
    record {
      before = λ i. elim i [ inl e ↦ d.0 (in_append_right xs (v ∷ w ∷ ys) x (inl (sym e))) | inr j ↦ r.before j ];
      behind = r.behind;
      first = λ i. elim i [ inl e ↦ d.0 (in_append_right xs (v ∷ w ∷ ys) x (inr (inl (sym e)))) | inr j ↦ r.first j ];
      last = r.last;
      distinct = (
        (λ i. d.0 (more xs v w ys x i)),
        r.distinct,
      );
    }

fewer : (xs : List ℕ) (v w : ℕ) (ys : List ℕ) (u : ℕ) → In (xs ++ v ∷ w ∷ ys) u → (u ≡ w → ⊥) → In (xs ++ v ∷ ys) u
fewer xs v w ys u i n = elim (in_append_cases xs (v ∷ w ∷ ys) u i) [
  | inl j ↦ in_append_left xs (v ∷ ys) u j
  | inr (inl e) ↦ in_append_right xs (v ∷ ys) u (inl e)
  | inr (inr (inl e)) ↦ absurd (n e)
  | inr (inr (inr j)) ↦ in_append_right xs (v ∷ ys) u (inr j)
]

other : (xs : List ℕ) (v w : ℕ) (ys : List ℕ) (u : ℕ) → Parts xs v w ys → In (xs ++ v ∷ ys) u → u ≡ w → ⊥
other xs v w ys u p i e = elim (in_append_cases xs (v ∷ ys) u i) [
  | inl j ↦ p.first (subst (λ z. In xs z) e j)
  | inr (inl q) ↦ p.behind (inl (sym q ∙ e))
  | inr (inr j) ↦ p.last (subst (λ z. In ys z) e j)
]

unlinked : (links : List ℕ) (h : ℕ) (xs : List ℕ) (v w u : ℕ) (ys : List ℕ) → Chain links h (xs ++ v ∷ w ∷ ys) → (In xs v → ⊥) → (In (w ∷ ys) v → ⊥) → u ≡ get_or links w 0 → Chain (set links v u) h (xs ++ v ∷ ys)
unlinked links h [] v w u ys c a b q =
    let t : Chain links (get_or links v 0) (w ∷ ys) = chain_tail links h v (w ∷ ys) c in
    let r : Chain links (get_or links w 0) ys = chain_tail links (get_or links v 0) w ys t in
    (c.0, omega (arith, c.1, length-set links v u), subst (λ z. Chain (set links v u) z ys) (sym (get_or-set_same links v u 0 c.1 ∙ q)) (chain_set links (get_or links w 0) ys v u r (λ i. b (inr i))))
unlinked links h (x ∷ xs) v w u ys c a b q =
    let ne : x ≢ v = λ e. a (inl (sym e)) in
    let e : get_or (set links v u) x 0 ≡ get_or links x 0 = get_or-set_other links v x u 0 ne in
    (c.0, omega (arith, c.1, length-set links v u), rw e (unlinked links (get_or links x 0) xs v w u ys (chain_tail links h x (xs ++ v ∷ w ∷ ys) c) (λ i. a (inr i)) b q))

pub record Unlinks (heads links : List ℕ) (ls : List Literal) (l v w u : ℕ) : Type 0 where
  pub list : List ℕ
  pub links_are : Links heads (set links v u) (with_list (list_from heads links) l list)
  pub below : v < length links
  pub result : WithoutNode (ls, lists_from heads links) (ls, lists_from heads (set links v u)) l w

pub unlinks : (heads links : List ℕ) (ls : List Literal) (l v w u : ℕ) → Links heads links (list_from heads links) → IsBefore (list_from heads links l) w (Some v) → u ≡ get_or links w 0 → Unlinks heads links ls l v w u
unlinks heads links ls l v w u k b q =
    let xs : List ℕ = b.0 in
    let ys : List ℕ = b.1 in
    let whole : list_from heads links l ≡ xs ++ v ∷ w ∷ ys = b.2 in
    let p : Parts xs v w ys = parts xs v w ys (rw whole at (k.distinct l)) in
    let c : Chain links (get_or heads l 0) (xs ++ v ∷ w ∷ ys) = rw whole at (k.chains l) in
    let inside : In (list_from heads links l) v = rw whole (in_append_right xs (v ∷ w ∷ ys) v (inl refl)) in
    let new : Links heads (set links v u) (with_list (list_from heads links) l (xs ++ v ∷ ys)) =
    links_with heads links heads (set links v u) (list_from heads links) l (xs ++ v ∷ ys) k
    (unlinked links (get_or heads l 0) xs v w u ys c p.before p.behind q)
    p.distinct
    (λ m x ne i j. ne (k.apart m l x j (rw whole (more xs v w ys x i))))
    (λ m ne. chain_set links (get_or heads m 0) (list_from heads links m) v u (k.chains m) (λ i. ne (k.apart m l v i inside))) in
    record {
      list = xs ++ v ∷ ys;
      links_are = new;
      below = chain_below links (get_or heads l 0) (list_from heads links l) v (k.chains l) inside;
      result = without heads links heads (set links v u) ls l w (xs ++ v ∷ ys) refl new
          (λ x i. (rw whole (more xs v w ys x i), other xs v w ys x p i))
          (λ x i n. fewer xs v w ys x (rw whole at i) n);
    }

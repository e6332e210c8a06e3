-- The decisions of a trail, level by level.
use Rattle.std.proofs.Common.{◌≡◌, ◌≤◌, ◌<◌, ◌+◌, ℕ, true, not, List, [], ◌∷◌, ◌++◌, map, length, take, drop, Some, None, refl, sym, ap, subst, ◌∙◌, inl, inr, arith, append-nil, length-append}
use Rattle.std.proofs.lemmas.Bool.{and_parts, and_from, not-true, not_from_false}
use Rattle.std.proofs.lemmas.List.{take_more, take_all, length-map, length-take, take-append-drop}
use Rattle.sdcl_base.specs.Literal.{Literal, Clause, negated, has, no_variable_twice}
use Rattle.sdcl_base.specs.Marks.{no_repeats}
use Rattle.sdcl_base.specs.Sets.{In, Sub}
use Rattle.sdcl_base.proofs.Apart.{absent, absent_from, apart_parts}
use Rattle.sdcl_trail.specs.Levels.{Levels, Entry, entries, levels_of, firsts_of, decisions_of, decisions, level_at, first_of}
use Rattle.sdcl_trail.proofs.Cutting.{levels_lits, levels_count}

firsts_append : (ls ms : List (List Entry)) → firsts_of (ls ++ ms) ≡ firsts_of ls ++ firsts_of ms
firsts_append [] ms = refl
firsts_append ([] ∷ ls) ms = firsts_append ls ms
firsts_append ((e ∷ es) ∷ ls) ms = ap (λ x. e.lit ∷ x) (firsts_append ls ms)

decided_append : (ls ms : List (List Entry)) → 1 ≤ length ls → decisions_of (ls ++ ms) ≡ decisions_of ls ++ firsts_of ms
decided_append [] ms h = absurd (omega (arith, h))
decided_append (root ∷ ls) ms h = firsts_append ls ms

-- the decisions of the levels below level k
abbrev pub below : Levels → ℕ → Clause
below t k = decisions_of (take k (levels_of t))

firsts_one : (l : List Entry) (d : Literal) → first_of l ≡ Some d → firsts_of (l ∷ []) ≡ d ∷ []
firsts_one [] d h = absurd (cc h)
firsts_one (e ∷ es) d h = let k : e.lit ≡ d = cc in ap (λ x. x ∷ []) k

firsts_none : (l : List Entry) → first_of l ≡ None → firsts_of (l ∷ []) ≡ []
firsts_none [] h = refl
firsts_none (e ∷ es) h = absurd (cc h)

below_more : (t : Levels) (k : ℕ) → 1 ≤ k → k ≤ length t.starts → below t (k + 1) ≡ below t k ++ firsts_of (level_at t k ∷ [])
below_more t k a b =
    let h : k < length (levels_of t) = omega (arith, b, levels_count t) in
    ap decisions_of (take_more (levels_of t) k [] h) ∙ decided_append (take k (levels_of t)) (level_at t k ∷ []) (omega (arith, a, h, length-take k (levels_of t)))

pub below_yes : (t : Levels) (k : ℕ) (d : Literal) → 1 ≤ k → k ≤ length t.starts → first_of (level_at t k) ≡ Some d → below t (k + 1) ≡ below t k ++ d ∷ []
below_yes t k d a b h = below_more t k a b ∙ ap (λ x. below t k ++ x) (firsts_one (level_at t k) d h)

pub below_no : (t : Levels) (k : ℕ) → 1 ≤ k → k ≤ length t.starts → first_of (level_at t k) ≡ None → below t (k + 1) ≡ below t k
below_no t k a b h = below_more t k a b ∙ ap (λ x. below t k ++ x) (firsts_none (level_at t k) h) ∙ append-nil (below t k)

root_alone : (ls : List (List Entry)) → decisions_of (take 1 ls) ≡ []
root_alone [] = refl
root_alone (root ∷ ls) = refl

pub below_none : (t : Levels) → below t 1 ≡ []
below_none t = root_alone (levels_of t)

pub below_all : (t : Levels) (k : ℕ) → length t.starts < k → below t k ≡ decisions t
below_all t k h = ap decisions_of (take_all k (levels_of t) (omega (arith, h, levels_count t)))

-- the decisions of these levels are some of all
pub below_rest : (t : Levels) (k : ℕ) → 1 ≤ k → (rest : Clause) × (decisions t ≡ below t k ++ rest)
below_rest t k h = (
  firsts_of (drop k (levels_of t)),
  sym (ap decisions_of (take-append-drop k (levels_of t)))
      ∙ decided_append (take k (levels_of t)) (drop k (levels_of t)) (omega (arith, h, length-take k (levels_of t), levels_count t)),
)

-- ---- the decisions are on the trail, and none twice

abbrev lits : List Entry → Clause
lits es = map (λ (e : Entry). e.lit) es

in_behind : (es fs : List Entry) (l : Literal) → In (lits fs) l → In (lits (es ++ fs)) l
in_behind [] fs l i = i
in_behind (e ∷ es) fs l i = inr (in_behind es fs l i)

firsts_in : (ls : List (List Entry)) → Sub (firsts_of ls) (lits (entries ls))
firsts_in [] l i = absurd i
firsts_in ([] ∷ ls) l i = firsts_in ls l i
firsts_in ((e ∷ es) ∷ ls) l (inl q) = inl q
firsts_in ((e ∷ es) ∷ ls) l (inr i) = inr (in_behind es (entries ls) l (firsts_in ls l i))

decided_in : (ls : List (List Entry)) → Sub (decisions_of ls) (lits (entries ls))
decided_in [] l i = absurd i
decided_in (root ∷ ls) l i = in_behind root (entries ls) l (firsts_in ls l i)

pub decisions_in : (t : Levels) → Sub (decisions t) t.lits
decisions_in t l i = subst (λ (c : Clause). In c l) (levels_lits t) (decided_in (levels_of t) l i)

firsts_few : (ls : List (List Entry)) → length (firsts_of ls) ≤ length (entries ls)
firsts_few [] = omega arith
firsts_few ([] ∷ ls) = firsts_few ls
firsts_few ((e ∷ es) ∷ ls) = omega (arith, firsts_few ls, length-append es (entries ls))

decided_few : (ls : List (List Entry)) → length (decisions_of ls) ≤ length (entries ls)
decided_few [] = omega arith
decided_few (root ∷ ls) = omega (arith, firsts_few ls, length-append root (entries ls))

pub decisions_few : (t : Levels) → length (decisions t) ≤ length t.lits
decisions_few t = omega (arith, decided_few (levels_of t), length-map (entries (levels_of t)) (λ (e : Entry). e.lit), ap length (levels_lits t))

once_behind : (es fs : List Entry) → no_repeats (lits (es ++ fs)) ≡ true → no_repeats (lits fs) ≡ true
once_behind [] fs h = h
once_behind (e ∷ es) fs h = once_behind es fs (and_parts (not (has (lits (es ++ fs)) e.lit)) (no_repeats (lits (es ++ fs))) h).1

firsts_once : (ls : List (List Entry)) → no_repeats (lits (entries ls)) ≡ true → no_repeats (firsts_of ls) ≡ true
firsts_once [] h = refl
firsts_once ([] ∷ ls) h = firsts_once ls h
firsts_once ((e ∷ es) ∷ ls) h =
    let p : (not (has (lits (es ++ entries ls)) e.lit) ≡ true) × (no_repeats (lits (es ++ entries ls)) ≡ true) =
    and_parts (not (has (lits (es ++ entries ls)) e.lit)) (no_repeats (lits (es ++ entries ls))) h in
    and_from (not (has (firsts_of ls) e.lit)) (no_repeats (firsts_of ls))
    (not_from_false (has (firsts_of ls) e.lit)
    (absent_from (firsts_of ls) e.lit (λ i. absent (lits (es ++ entries ls)) e.lit (not-true (has (lits (es ++ entries ls)) e.lit) p.0) (in_behind es (entries ls) e.lit (firsts_in ls e.lit i)))))
    (firsts_once ls (once_behind es (entries ls) p.1))

decided_once : (ls : List (List Entry)) → no_repeats (lits (entries ls)) ≡ true → no_repeats (decisions_of ls) ≡ true
decided_once [] h = refl
decided_once (root ∷ ls) h = firsts_once ls (once_behind root (entries ls) h)

pub once_apart : (c : Clause) → no_variable_twice c ≡ true → no_repeats c ≡ true
once_apart [] h = refl
once_apart (l ∷ c) h =
    let p : (In c l → ⊥) × (In c (negated l) → ⊥) × (no_variable_twice c ≡ true) = apart_parts l c h in
    and_from (not (has c l)) (no_repeats c) (not_from_false (has c l) (absent_from c l p.0)) (once_apart c p.2)

pub decisions_once : (t : Levels) → no_variable_twice t.lits ≡ true → no_repeats (decisions t) ≡ true
decisions_once t h = decided_once (levels_of t) (subst (λ (c : Clause). no_repeats c ≡ true) (sym (levels_lits t)) (once_apart t.lits h))

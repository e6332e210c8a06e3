-- What the fit of a trail says of its last level.
use Rattle.std.proofs.Common.{◌≡◌, ◌<◌, ℕ, true, false, ◌&&◌, cond, List, [], ◌∷◌, ◌++◌, length, map, Option, Some, None, is_some, unwrap_or, inl, inr, refl, sym, ap, subst, ◌∙◌, append_assoc, append-nil, arith}
use Rattle.std.proofs.lemmas.Bool.{and_parts, ne_eqb, eq-eqb, false≢true}
use Rattle.std.proofs.lemmas.List.{map-append}
use Rattle.sdcl_base.specs.Literal.{Literal, Clause, same_set, no_variable_twice}
use Rattle.sdcl_base.specs.Propagation.{closure, refutes}
use Rattle.sdcl_base.specs.Sets.{In}
use Rattle.sdcl_base.specs.declared.lit.ClauseId.{ClauseId}
use Rattle.sdcl_base.proofs.In.{in_append_right}
use Rattle.sdcl_store.specs.Slots.{Slots, slot_at, is_alive, clause_of, live, live_before, live_behind}
use Rattle.sdcl_store.specs.Fitting.{Level, literals, justifies, all_justified, opens_with, levels_fit, trail_fits, last_level, lower_levels}
use Rattle.sdcl_store.specs.Fitting as seen
use Rattle.sdcl_store.proofs.Analysing.{Reason, reason_from, LastFit, last_fit, literals_append}
use Rattle.sdcl_store.proofs.Slots.{live_split}
use Rattle.sdcl_trail.specs.Levels.{Levels, entries, lits_of, decisions, reason_in, IsSound, Entry, levels_of}
use Rattle.sdcl_prop.specs.Seeing.{reason_seen, entries_seen, FitsOver}
use Rattle.sdcl_prop.proofs.Seeing.{seen_lits}
use Rattle.sdcl_analyze.specs.Marking.{lits, last_of, last_lits, lower_of, lower_lits}
use Rattle.sdcl_analyze.proofs.Levels.{trail_split}

pub last_seen : (slots : Slots) (ls : List (List Entry)) → last_level (map (entries_seen slots) ls) ≡ entries_seen slots (last_of ls)
last_seen slots [] = refl
last_seen slots (l ∷ []) = refl
last_seen slots (l ∷ m ∷ ls) = last_seen slots (m ∷ ls)

pub lower_seen : (slots : Slots) (ls : List (List Entry)) → literals (seen.all_reasoned (lower_levels (map (entries_seen slots) ls))) ≡ lower_lits ls
lower_seen slots [] = refl
lower_seen slots (l ∷ []) = refl
lower_seen slots (l ∷ m ∷ ls) =
    literals_append (entries_seen slots l) (seen.all_reasoned (lower_levels (map (entries_seen slots) (m ∷ ls))))
    ∙ ap (λ (c : Clause). c ++ literals (seen.all_reasoned (lower_levels (map (entries_seen slots) (m ∷ ls))))) (seen_lits slots l)
    ∙ ap (λ (c : Clause). lits l ++ c) (lower_seen slots (m ∷ ls))

-- the last level above those below it
pub record Ready (slots : Slots) (t : Levels) : Type 0 where
  pub split : lits_of t ≡ lower_lits (levels_of t) ++ last_lits (levels_of t)
  pub apart : no_variable_twice (lower_lits (levels_of t) ++ last_lits (levels_of t)) ≡ true
  pub decision : Literal
  pub opens : opens_with (live slots) (lower_lits (levels_of t)) decision (entries_seen slots (last_of (levels_of t))) ≡ true
  pub made : Clause
  pub consistent : refutes (live slots) made ≡ false
  pub closed : same_set (lower_lits (levels_of t)) (closure (live slots) made) ≡ true

ready_of : (slots : Slots) (n : ℕ) (ls : List (List Entry)) (ds : Clause) → 1 < length ls → trail_fits (live slots) ds (map (entries_seen slots) ls) ≡ true
    → (g : Literal × Clause)
    × ((opens_with (live slots) (lower_lits ls) g.0 (entries_seen slots (last_of ls)) ≡ true) × (refutes (live slots) g.1 ≡ false) × (same_set (lower_lits ls) (closure (live slots) g.1) ≡ true))
unfolding trail_fits
ready_of slots n [] ds h f = absurd (omega arith)
ready_of slots n (l ∷ []) ds h f = absurd (omega arith)
ready_of slots n (root ∷ l ∷ ls) ds h f =
    let a : ((all_justified (live slots) [] (entries_seen slots root) && levels_fit (live slots) [] (literals (entries_seen slots root)) (map (entries_seen slots) (l ∷ ls)) ds) ≡ true) × _
    = and_parts (all_justified (live slots) [] (entries_seen slots root) && levels_fit (live slots) [] (literals (entries_seen slots root)) (map (entries_seen slots) (l ∷ ls)) ds) _ f in
    let g : LastFit (live slots) (literals (entries_seen slots root)) (map (entries_seen slots) (l ∷ ls))
    = last_fit (live slots) [] (literals (entries_seen slots root)) (entries_seen slots l) (map (entries_seen slots) ls) ds (and_parts (all_justified (live slots) [] (entries_seen slots root)) _ a.0).1 in
    let u : g.under ≡ lower_lits (root ∷ l ∷ ls) =
    g.under_is ∙ ap (λ (c : Clause). c ++ literals (seen.all_reasoned (lower_levels (map (entries_seen slots) (l ∷ ls))))) (seen_lits slots root) ∙ ap (λ (c : Clause). lits root ++ c) (lower_seen slots (l ∷ ls)) in (
      (g.decision, g.made),
      (
        subst (λ (c : Clause). opens_with (live slots) c g.decision (entries_seen slots (last_of (l ∷ ls))) ≡ true) u
            (subst (λ (e : Level). opens_with (live slots) g.under g.decision e ≡ true) (last_seen slots (l ∷ ls)) g.opens),
        g.consistent,
        subst (λ (c : Clause). same_set c (closure (live slots) g.made) ≡ true) u g.closed,
      ),
    )

pub ready : (slots : Slots) (t : Levels) → IsSound t → 1 < length (levels_of t) → FitsOver slots t → Ready slots t
ready slots t s h f =
    let r : (g : Literal × Clause)
    × ((opens_with (live slots) (lower_lits (levels_of t)) g.0 (entries_seen slots (last_of (levels_of t))) ≡ true) × (refutes (live slots) g.1 ≡ false) × (same_set (lower_lits (levels_of t)) (closure (live slots) g.1) ≡ true))
    = ready_of slots 0 (levels_of t) (decisions t) h f in
    record {
      split = trail_split t;
      apart = subst (λ (c : Clause). no_variable_twice c ≡ true) (trail_split t) s.apart;
      decision = r.0.0;
      opens = r.1.0;
      made = r.0.1;
      consistent = r.1.1;
      closed = r.1.2;
    }

-- ---- reasons

justified_at : (f : List Clause) (before : Clause) (xs : List seen.Reasoned) (e : seen.Reasoned) (ys : List seen.Reasoned) → all_justified f before (xs ++ (e ∷ ys)) ≡ true
    → justifies f (before ++ literals xs) e.literal e.reason ≡ true
justified_at f before [] e ys h = subst (λ (c : Clause). justifies f c e.literal e.reason ≡ true) (sym (append-nil before)) (and_parts (justifies f before e.literal e.reason) _ h).0
justified_at f before (x ∷ xs) e ys h =
    subst (λ (c : Clause). justifies f c e.literal e.reason ≡ true) (append_assoc before (x.literal ∷ []) (literals xs))
    (justified_at f (before ++ x.literal ∷ []) xs e ys (and_parts (justifies f before x.literal x.reason) _ h).1)

pub opens_at : (f : List Clause) (before : Clause) (d : Literal) (xs : List seen.Reasoned) (e : seen.Reasoned) (ys : List seen.Reasoned) → 0 < length xs → opens_with f before d (xs ++ (e ∷ ys)) ≡ true
    → justifies f (before ++ literals xs) e.literal e.reason ≡ true
opens_at f before d [] e ys n h = absurd (omega arith)
opens_at f before d (x ∷ xs) e ys n h =
    subst (λ (c : Clause). justifies f c e.literal e.reason ≡ true) (append_assoc before (x.literal ∷ []) (literals xs))
    (justified_at f (before ++ x.literal ∷ []) xs e ys (and_parts _ (all_justified f (before ++ x.literal ∷ []) (xs ++ (e ∷ ys))) h).1)

-- the clause that is an entry's reason
pub record Why (slots : Slots) (before : Clause) (l : Literal) (o : Option ClauseId) : Type 0 where
  pub id : ClauseId
  pub is : o ≡ Some id
  pub why : Reason (live slots) before l (clause_of slots id.0)

pub why_of : (slots : Slots) (before : Clause) (l : Literal) (o : Option ClauseId) → justifies (live slots) before l (reason_seen slots o) ≡ true → Why slots before l o
why_of slots before l None h = absurd (false≢true h)
why_of slots before l (Some id) h = record { id = id; is = refl; why = reason_from (live slots) before l (clause_of slots id.0) h }

alive_by : (o : Option Clause) (l : Literal) → In (unwrap_or o []) l → is_some o ≡ true
alive_by None l i = absurd i
alive_by (Some c) l i = refl

pub alive_from : (slots : Slots) (i : ℕ) (l : Literal) → In (clause_of slots i) l → is_alive slots i ≡ true
alive_from slots i l h = alive_by (slot_at slots i) l h

pub alive_in : (slots : Slots) (i : ℕ) → is_alive slots i ≡ true → In (live slots) (clause_of slots i)
alive_in slots i h = subst (λ (f : List Clause). In f (clause_of slots i)) (sym (live_split slots i h)) (in_append_right (live_before slots i) (clause_of slots i ∷ live_behind slots i) (clause_of slots i) (inl refl))

pub reason_at : (pre : List Entry) (e : Entry) (post : List Entry) → ((k : Literal) → In (lits pre) k → k.var ≡ e.lit.var → ⊥) → reason_in (pre ++ (e ∷ post)) e.lit.var ≡ e.reason
reason_at [] e post n = ap (λ b. cond b e.reason (reason_in post e.lit.var)) (eq-eqb e.lit.var e.lit.var refl)
reason_at (x ∷ pre) e post n =
    ap (λ b. cond b x.reason (reason_in (pre ++ (e ∷ post)) e.lit.var)) (ne_eqb x.lit.var e.lit.var (n x.lit (inl refl)))
    ∙ reason_at pre e post (λ k i. n k (inr i))

-- ---- the entries below the last level

pub entries_split : (ls : List (List Entry)) → entries ls ≡ lower_of ls ++ last_of ls
entries_split [] = refl
entries_split (l ∷ []) = append-nil l
entries_split (l ∷ m ∷ ls) = ap (λ (x : List Entry). l ++ x) (entries_split (m ∷ ls)) ∙ sym (append_assoc l (lower_of (m ∷ ls)) (last_of (m ∷ ls)))

pub lower_lits_of : (ls : List (List Entry)) → lits (lower_of ls) ≡ lower_lits ls
lower_lits_of [] = refl
lower_lits_of (l ∷ []) = refl
lower_lits_of (l ∷ m ∷ ls) = map-append (λ (e : Entry). e.lit) l (lower_of (m ∷ ls)) ∙ ap (λ (c : Clause). lits l ++ c) (lower_lits_of (m ∷ ls))

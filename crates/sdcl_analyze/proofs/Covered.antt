-- Which literals below the last level are covered, one entry at a time.
use Rattle.std.proofs.Common.{◌≡◌, ◌<◌, ◌+◌, ℕ, Bool, true, false, not, ◌&&◌, ◌||◌, cond, List, [], ◌∷◌, ◌++◌, length, map, take, get_or, Option, Some, None, ◌⊎◌, inl, inr, refl, sym, ap, subst, ◌∙◌, append_assoc, append-nil, arith}
use Rattle.std.specs.List.{list_all, filter}
use Rattle.std.proofs.lemmas.Bool.{and_parts, or_cases, or_left, or_right, true≢false, false≢true, false_from_ne_true}
use Rattle.std.proofs.lemmas.List.{map-append, take_more}
use Rattle.std.proofs.lemmas.List.Elements.{filter-append}
use Rattle.sdcl_base.specs.Literal.{Literal, Clause, negated, same, has, without, no_variable_twice}
use Rattle.sdcl_base.specs.Sets.{In}
use Rattle.sdcl_base.specs.declared.lit.ClauseId.{ClauseId}
use Rattle.sdcl_base.proofs.In.{in_append_left, in_append_right, in_map, in_map_from, in_filter, in_filter_from, all_in, all_from, has_in, in_has, same_refl, negated_negated}
use Rattle.sdcl_base.proofs.Apart.{apart_parts}
use Rattle.sdcl_base.proofs.SameSets.{in_without}
use Rattle.sdcl_store.specs.Slots.{Slots, clause_of, live}
use Rattle.sdcl_store.specs.Fitting.{literals, justifies, all_justified, levels_fit, trail_fits}
use Rattle.sdcl_store.specs.Fitting as fit
use Rattle.sdcl_store.specs.Analysis.{leads_back, covered}
use Rattle.sdcl_store.proofs.Analysing.{Reason, Ordered, levels_ordered, covered_holds, covered_from, in_added, added_from}
use Rattle.sdcl_trail.specs.Levels.{Levels, entries, decisions, reason_in, IsSound, Entry, levels_of}
use Rattle.sdcl_prop.specs.Seeing.{reason_seen, entry_seen, entries_seen, FitsOver}
use Rattle.sdcl_prop.proofs.Seeing.{seen_lits}
use Rattle.sdcl_analyze.specs.Numbers.{has_number}
use Rattle.sdcl_analyze.specs.Marking.{seen_among, lits, last_of, last_lits, lower_of, lower_lits}
use Rattle.sdcl_analyze.specs.Covering.{root_of, middle_of, lower_kept, covered_of, uncovered_of, IsFine}
use Rattle.sdcl_analyze.proofs.Levels.{apart_two, apart_left, apart_right, trail_split}
use Rattle.sdcl_analyze.proofs.Ready.{Why, why_of, reason_at, entries_split, lower_lits_of}

-- ---- the levels below the last

pub record Grounds (slots : Slots) (t : Levels) : Type 0 where
  pub ordered : Ordered (live slots) (lits (root_of (levels_of t))) (entries_seen slots (middle_of (levels_of t)))
  pub low : lower_lits (levels_of t) ≡ lits (root_of (levels_of t)) ++ lits (middle_of (levels_of t))
  pub apart : no_variable_twice (lower_lits (levels_of t)) ≡ true
  pub all : entries (levels_of t) ≡ (root_of (levels_of t) ++ middle_of (levels_of t)) ++ last_of (levels_of t)

ordered_front : (f : List Clause) (before : Clause) (xs ys : List fit.Reasoned) → Ordered f before (xs ++ ys) → Ordered f before xs
ordered_front f before [] ys o = tt
ordered_front f before (x ∷ xs) ys o = (o.0, ordered_front f (before ++ x.literal ∷ []) xs ys o.1)

pub seen_entries : (slots : Slots) (ls : List (List Entry)) → fit.all_reasoned (map (entries_seen slots) ls) ≡ entries_seen slots (entries ls)
seen_entries slots [] = refl
seen_entries slots (l ∷ ls) = ap (λ x. entries_seen slots l ++ x) (seen_entries slots ls) ∙ sym (map-append (entry_seen slots) l (entries ls))

grounds_ordered : (slots : Slots) (ls : List (List Entry)) (ds : Clause) → trail_fits (live slots) ds (map (entries_seen slots) ls) ≡ true → Ordered (live slots) (lits (root_of ls)) (entries_seen slots (middle_of ls))
unfolding trail_fits
grounds_ordered slots [] ds f = tt
grounds_ordered slots (root ∷ ls) ds f =
    let a : ((all_justified (live slots) [] (entries_seen slots root) && levels_fit (live slots) [] (literals (entries_seen slots root)) (map (entries_seen slots) ls) ds) ≡ true) × _
    = and_parts (all_justified (live slots) [] (entries_seen slots root) && levels_fit (live slots) [] (literals (entries_seen slots root)) (map (entries_seen slots) ls) ds) _ f in
    let o = levels_ordered (live slots) [] (literals (entries_seen slots root)) (map (entries_seen slots) ls) ds (and_parts (all_justified (live slots) [] (entries_seen slots root)) _ a.0).1 in
    let p : Ordered (live slots) (lits root) (entries_seen slots (lower_of ls) ++ entries_seen slots (last_of ls)) =
    subst (λ es. Ordered (live slots) (lits root) es) (seen_entries slots ls ∙ ap (entries_seen slots) (entries_split ls) ∙ map-append (entry_seen slots) (lower_of ls) (last_of ls))
    (subst (λ (c : Clause). Ordered (live slots) c (fit.all_reasoned (map (entries_seen slots) ls))) (seen_lits slots root) o) in
    ordered_front (live slots) (lits root) (entries_seen slots (lower_of ls)) (entries_seen slots (last_of ls)) p

grounds_low : (ls : List (List Entry)) → 1 < length ls → lower_lits ls ≡ lits (root_of ls) ++ lits (middle_of ls)
grounds_low [] h = absurd (omega arith)
grounds_low (l ∷ []) h = absurd (omega arith)
grounds_low (l ∷ m ∷ ls) h = ap (λ (c : Clause). lits l ++ c) (sym (lower_lits_of (m ∷ ls)))

grounds_all : (ls : List (List Entry)) → 1 < length ls → entries ls ≡ (root_of ls ++ middle_of ls) ++ last_of ls
grounds_all [] h = absurd (omega arith)
grounds_all (l ∷ []) h = absurd (omega arith)
grounds_all (l ∷ m ∷ ls) h = ap (λ (z : List Entry). l ++ z) (entries_split (m ∷ ls)) ∙ sym (append_assoc l (lower_of (m ∷ ls)) (last_of (m ∷ ls)))

pub grounds : (slots : Slots) (t : Levels) → IsSound t → 1 < length (levels_of t) → FitsOver slots t → Grounds slots t
grounds slots t s h f = record {
  ordered = grounds_ordered slots (levels_of t) (decisions t) f;
  low = grounds_low (levels_of t) h;
  apart = apart_left (lower_lits (levels_of t)) (last_lits (levels_of t)) (subst (λ (c : Clause). no_variable_twice c ≡ true) (trail_split t) s.apart);
  all = grounds_all (levels_of t) h;
}

-- ---- one entry among them

pub record Site (slots : Slots) (t : Levels) (k : Literal) : Type 0 where
  pub pre : List Entry
  pub e : Entry
  pub post : List Entry
  pub split : middle_of (levels_of t) ≡ pre ++ (e ∷ post)
  pub lit : k ≡ e.lit
  pub reason : reason_in (entries (levels_of t)) k.var ≡ e.reason
  pub why : (e.reason ≡ None) ⊎ Why slots (lits (root_of (levels_of t)) ++ lits pre) k e.reason
  pub parts : lower_lits (levels_of t) ≡ (lits (root_of (levels_of t)) ++ lits pre) ++ (k ∷ lits post)

in_split : (es : List Entry) (k : Literal) → In (lits es) k → (pre : List Entry) × (e : Entry) × (post : List Entry) × (es ≡ pre ++ (e ∷ post)) × (k ≡ e.lit)
in_split [] k i = absurd i
in_split (e ∷ es) k (inl q) = ([], e, es, refl, q)
in_split (e ∷ es) k (inr i) =
    let r : (pre : List Entry) × (x : Entry) × (post : List Entry) × (es ≡ pre ++ (x ∷ post)) × (k ≡ x.lit) = in_split es k i in
    (e ∷ r.0, r.1, r.2, ap (λ (z : List Entry). e ∷ z) r.3, r.4)

ordered_at : (f : List Clause) (before : Clause) (xs : List fit.Reasoned) (e : fit.Reasoned) (ys : List fit.Reasoned) → Ordered f before (xs ++ (e ∷ ys))
    → (e.reason ≡ None) ⊎ (justifies f (before ++ literals xs) e.literal e.reason ≡ true)
ordered_at f before [] e ys o = subst (λ (c : Clause). (e.reason ≡ None) ⊎ (justifies f c e.literal e.reason ≡ true)) (sym (append-nil before)) o.0
ordered_at f before (x ∷ xs) e ys o =
    subst (λ (c : Clause). (e.reason ≡ None) ⊎ (justifies f c e.literal e.reason ≡ true)) (append_assoc before (x.literal ∷ []) (literals xs)) (ordered_at f (before ++ x.literal ∷ []) xs e ys o.1)

unseen_none : (slots : Slots) (o : Option ClauseId) → reason_seen slots o ≡ None → o ≡ None
unseen_none slots None h = refl
unseen_none slots (Some id) h = cc

pub site : (slots : Slots) (t : Levels) (k : Literal) → Grounds slots t → In (lits (middle_of (levels_of t))) k → Site slots t k
site slots t k g i =
    let p : (pre : List Entry) × (e : Entry) × (post : List Entry) × (middle_of (levels_of t) ≡ pre ++ (e ∷ post)) × (k ≡ e.lit) = in_split (middle_of (levels_of t)) k i in
    let root = root_of (levels_of t) in
    let o : Ordered (live slots) (lits root) (entries_seen slots p.0 ++ (entry_seen slots p.1 ∷ entries_seen slots p.2)) =
    subst (λ es. Ordered (live slots) (lits root) es) (ap (entries_seen slots) p.3 ∙ map-append (entry_seen slots) p.0 (p.1 ∷ p.2)) g.ordered in
    let w = ordered_at (live slots) (lits root) (entries_seen slots p.0) (entry_seen slots p.1) (entries_seen slots p.2) o in
    let parts : lower_lits (levels_of t) ≡ (lits root ++ lits p.0) ++ (k ∷ lits p.2) =
    g.low ∙ ap (λ (z : List Entry). lits root ++ lits z) p.3 ∙ ap (λ (z : Clause). lits root ++ z) (map-append (λ (x : Entry). x.lit) p.0 (p.1 ∷ p.2))
    ∙ sym (append_assoc (lits root) (lits p.0) (p.1.lit ∷ lits p.2)) ∙ ap (λ (z : Literal). (lits root ++ lits p.0) ++ (z ∷ lits p.2)) (sym p.4) in
    let a : no_variable_twice ((lits root ++ lits p.0) ++ (k ∷ lits p.2)) ≡ true = subst (λ (c : Clause). no_variable_twice c ≡ true) parts g.apart in
    let es : entries (levels_of t) ≡ (root ++ p.0) ++ (p.1 ∷ (p.2 ++ last_of (levels_of t))) =
    g.all ∙ ap (λ (z : List Entry). (root ++ z) ++ last_of (levels_of t)) p.3 ∙ ap (λ (z : List Entry). z ++ last_of (levels_of t)) (sym (append_assoc root p.0 (p.1 ∷ p.2)))
    ∙ append_assoc (root ++ p.0) (p.1 ∷ p.2) (last_of (levels_of t)) in
    record {
      pre = p.0;
      e = p.1;
      post = p.2;
      split = p.3;
      lit = p.4;
      reason = ap (reason_in (entries (levels_of t))) (ap (λ (z : Literal). z.var) p.4) ∙ ap (λ (z : List Entry). reason_in z p.1.lit.var) es
          ∙ reason_at (root ++ p.0) p.1 (p.2 ++ last_of (levels_of t)) (λ x j q.
          apart_two (lits root ++ lits p.0) (k ∷ lits p.2) a x k (subst (λ (z : Clause). In z x) (map-append (λ (y : Entry). y.lit) root p.0) j) (inl refl) (q ∙ ap (λ (z : Literal). z.var) (sym p.4)));
      why = elim w [
        | inl e ↦ inl (unseen_none slots p.1.reason e)
        | inr j ↦ inr (subst (λ (z : Literal). Why slots (lits root ++ lits p.0) z p.1.reason) (sym p.4) (why_of slots (lits root ++ lits p.0) p.1.lit p.1.reason
            (subst (λ (z : Clause). justifies (live slots) (lits root ++ z) p.1.lit (reason_seen slots p.1.reason) ≡ true) (seen_lits slots p.0) j)))
      ];
      parts = parts;
    }

-- ---- covered literals

pub covered_append : (u done : Clause) (xs ys : List fit.Reasoned) → covered u done (xs ++ ys) ≡ covered u (covered u done xs) ys
covered_append u done [] ys = refl
covered_append u done (e ∷ xs) ys = covered_append u (cond (leads_back u done e.literal e.reason) (done ++ e.literal ∷ []) done) xs ys

-- what is covered up to the entry
abbrev pub up_to_site : (slots : Slots) (t : Levels) (seen : List ℕ) (k : Literal) → Site slots t k → Clause
up_to_site slots t seen k s = covered (lower_kept t seen) (lits (root_of (levels_of t))) (entries_seen slots s.pre)

at_site : (slots : Slots) (t : Levels) (seen : List ℕ) (k : Literal) → (s : Site slots t k)
    → covered_of slots t seen ≡ covered (lower_kept t seen) (up_to_site slots t seen k s) (entry_seen slots s.e ∷ entries_seen slots s.post)
at_site slots t seen k s =
    ap (λ (z : List Entry). covered (lower_kept t seen) (lits (root_of (levels_of t))) (entries_seen slots z)) s.split
    ∙ ap (covered (lower_kept t seen) (lits (root_of (levels_of t)))) (map-append (entry_seen slots) s.pre (s.e ∷ s.post))
    ∙ covered_append (lower_kept t seen) (lits (root_of (levels_of t))) (entries_seen slots s.pre) (entry_seen slots s.e ∷ entries_seen slots s.post)

up_to_from : (slots : Slots) (t : Levels) (seen : List ℕ) (k x : Literal) → (s : Site slots t k) → In (up_to_site slots t seen k s) x → In (lits (root_of (levels_of t)) ++ lits s.pre) x
up_to_from slots t seen k x s i =
    elim (covered_from (lower_kept t seen) (lits (root_of (levels_of t))) (entries_seen slots s.pre) x i) [
      | inl j ↦ in_append_left (lits (root_of (levels_of t))) (lits s.pre) x j
      | inr j ↦ in_append_right (lits (root_of (levels_of t))) (lits s.pre) x (subst (λ (z : Clause). In z x) (seen_lits slots s.pre) j)
    ]

pub apart_site : (slots : Slots) (t : Levels) (k : Literal) → Grounds slots t → (s : Site slots t k) → no_variable_twice ((lits (root_of (levels_of t)) ++ lits s.pre) ++ (k ∷ lits s.post)) ≡ true
apart_site slots t k g s = subst (λ (c : Clause). no_variable_twice c ≡ true) s.parts g.apart

-- the entry's own literal
own_covered : (slots : Slots) (t : Levels) (seen : List ℕ) (k : Literal) → Grounds slots t → (s : Site slots t k) → has (covered_of slots t seen) k ≡ true
    → leads_back (lower_kept t seen) (up_to_site slots t seen k s) k (reason_seen slots s.e.reason) ≡ true
own_covered slots t seen k g s h =
    let d = up_to_site slots t seen k s in
    let b = leads_back (lower_kept t seen) d s.e.lit (reason_seen slots s.e.reason) in
    let a = apart_site slots t k g s in
    let i : In (covered (lower_kept t seen) (cond b (d ++ s.e.lit ∷ []) d) (entries_seen slots s.post)) k = subst (λ (c : Clause). In c k) (at_site slots t seen k s) (has_in (covered_of slots t seen) k h) in
    elim (covered_from (lower_kept t seen) (cond b (d ++ s.e.lit ∷ []) d) (entries_seen slots s.post) k i) [
      | inl j ↦ elim (added_from b d s.e.lit k j) [
        | inl m ↦ absurd (apart_two (lits (root_of (levels_of t)) ++ lits s.pre) (k ∷ lits s.post) a k k (up_to_from slots t seen k k s m) (inl refl) refl)
        | inr m ↦ subst (λ (z : Literal). leads_back (lower_kept t seen) d z (reason_seen slots s.e.reason) ≡ true) (sym s.lit) m.0
      ]
      | inr j ↦ absurd ((apart_parts k (lits s.post) (apart_right (lits (root_of (levels_of t)) ++ lits s.pre) (k ∷ lits s.post) a)).0 (subst (λ (z : Clause). In z k) (seen_lits slots s.post) j))
    ]

covered_own : (slots : Slots) (t : Levels) (seen : List ℕ) (k : Literal) → (s : Site slots t k) → leads_back (lower_kept t seen) (up_to_site slots t seen k s) k (reason_seen slots s.e.reason) ≡ true
    → has (covered_of slots t seen) k ≡ true
covered_own slots t seen k s h =
    let d = up_to_site slots t seen k s in
    let b : leads_back (lower_kept t seen) d s.e.lit (reason_seen slots s.e.reason) ≡ true = subst (λ (z : Literal). leads_back (lower_kept t seen) d z (reason_seen slots s.e.reason) ≡ true) s.lit h in
    in_has (covered_of slots t seen) k (subst (λ (c : Clause). In c k) (sym (at_site slots t seen k s))
    (covered_holds (lower_kept t seen) (cond (leads_back (lower_kept t seen) d s.e.lit (reason_seen slots s.e.reason)) (d ++ s.e.lit ∷ []) d) (entries_seen slots s.post) k
    (subst (λ (x : Bool). In (cond x (d ++ s.e.lit ∷ []) d) k) (sym b) (in_append_right d (s.e.lit ∷ []) k (inl s.lit)))))

-- an earlier literal
earlier_covered : (slots : Slots) (t : Levels) (seen : List ℕ) (k x : Literal) → Grounds slots t → (s : Site slots t k) → In (lits (root_of (levels_of t)) ++ lits s.pre) x → has (covered_of slots t seen) x ≡ true
    → In (up_to_site slots t seen k s) x
earlier_covered slots t seen k x g s i h =
    let d = up_to_site slots t seen k s in
    let b = leads_back (lower_kept t seen) d s.e.lit (reason_seen slots s.e.reason) in
    let a = apart_site slots t k g s in
    let j : In (covered (lower_kept t seen) (cond b (d ++ s.e.lit ∷ []) d) (entries_seen slots s.post)) x = subst (λ (c : Clause). In c x) (at_site slots t seen k s) (has_in (covered_of slots t seen) x h) in
    elim (covered_from (lower_kept t seen) (cond b (d ++ s.e.lit ∷ []) d) (entries_seen slots s.post) x j) [
      | inl m ↦ elim (added_from b d s.e.lit x m) [
        | inl n ↦ n
        | inr n ↦ absurd (apart_two (lits (root_of (levels_of t)) ++ lits s.pre) (k ∷ lits s.post) a x k i (inl refl) (ap (λ (z : Literal). z.var) (n.1 ∙ sym s.lit)))
      ]
      | inr m ↦ absurd (apart_two (lits (root_of (levels_of t)) ++ lits s.pre) (k ∷ lits s.post) a x x i (inr (subst (λ (z : Clause). In z x) (seen_lits slots s.post) m)) refl)
    ]

covered_earlier : (slots : Slots) (t : Levels) (seen : List ℕ) (k x : Literal) → (s : Site slots t k) → In (up_to_site slots t seen k s) x → has (covered_of slots t seen) x ≡ true
covered_earlier slots t seen k x s i =
    let d = up_to_site slots t seen k s in
    let b = leads_back (lower_kept t seen) d s.e.lit (reason_seen slots s.e.reason) in
    in_has (covered_of slots t seen) x (subst (λ (c : Clause). In c x) (sym (at_site slots t seen k s))
    (covered_holds (lower_kept t seen) (cond b (d ++ s.e.lit ∷ []) d) (entries_seen slots s.post) x (in_added b d s.e.lit x i)))

-- ---- what is kept

pub kept_in : (t : Levels) (seen : List ℕ) (m : Literal) → In (lower_lits (levels_of t)) (negated m) → has_number seen m.var ≡ true → In (lower_kept t seen) m
kept_in t seen m i h =
    subst (In (lower_kept t seen)) (negated_negated m) (in_map negated (seen_among (lower_lits (levels_of t)) seen) (negated m) (in_filter (λ l. has_number seen l.var) (lower_lits (levels_of t)) (negated m) i h))

pub in_kept : (t : Levels) (seen : List ℕ) (m : Literal) → In (lower_kept t seen) m → has_number seen m.var ≡ true
in_kept t seen m i =
    let p : (x : Literal) × In (seen_among (lower_lits (levels_of t)) seen) x × (m ≡ negated x) = in_map_from negated (seen_among (lower_lits (levels_of t)) seen) m i in
    ap (λ (z : Literal). has_number seen z.var) p.2 ∙ (in_filter_from (λ l. has_number seen l.var) (lower_lits (levels_of t)) p.0 p.1).1

pub before_low : (slots : Slots) (t : Levels) (k x : Literal) → (s : Site slots t k) → In (lits (root_of (levels_of t)) ++ lits s.pre) x → In (lower_lits (levels_of t)) x
before_low slots t k x s i = subst (λ (z : Clause). In z x) (sym s.parts) (in_append_left (lits (root_of (levels_of t)) ++ lits s.pre) (k ∷ lits s.post) x i)

pub not_without : (c : Clause) (m l : Literal) → In (without c m) l → In c l × (l ≡ m → ⊥)
not_without c m l i =
    let p : In c l × (not (same m l) ≡ true) = in_filter_from (λ x. not (same m x)) c l i in
    (p.0, λ e. true≢false (sym p.1 ∙ ap not (ap (same m) e ∙ same_refl m)))

-- ---- the answers

none_some : {a : ClauseId} → None ≡ Some a → ⊥
none_some e = cc

some_same_id : {a b : ClauseId} → Some a ≡ Some b → a ≡ b
some_same_id e = cc

pub why_at : (slots : Slots) (before : Clause) (k : Literal) (o : Option ClauseId) (id : ClauseId) → (o ≡ None) ⊎ Why slots before k o → o ≡ Some id → Reason (live slots) before k (clause_of slots id.0)
why_at slots before k o id (inl n) e = absurd (none_some (sym n ∙ e))
why_at slots before k o id (inr w) e = subst (λ (z : ClauseId). Reason (live slots) before k (clause_of slots z.0)) (some_same_id (sym w.is ∙ e)) w.why

pub is_root : (slots : Slots) (t : Levels) (seen : List ℕ) (k : Literal) → In (lits (root_of (levels_of t))) k → has (covered_of slots t seen) k ≡ true
is_root slots t seen k i = in_has (covered_of slots t seen) k (covered_holds (lower_kept t seen) (lits (root_of (levels_of t))) (entries_seen slots (middle_of (levels_of t))) k i)

pub all_fine : (slots : Slots) (t : Levels) (seen : List ℕ) (k : Literal) (id : ClauseId) → Grounds slots t → In (lits (middle_of (levels_of t))) k → reason_in (entries (levels_of t)) k.var ≡ Some id
    → ((m : Literal) → In (clause_of slots id.0) m → (m ≡ k → ⊥) → IsFine slots t seen m) → has (covered_of slots t seen) k ≡ true
all_fine slots t seen k id g i q h =
    let s : Site slots t k = site slots t k g i in
    let e : s.e.reason ≡ Some id = sym s.reason ∙ q in
    let w : Reason (live slots) (lits (root_of (levels_of t)) ++ lits s.pre) k (clause_of slots id.0) = why_at slots (lits (root_of (levels_of t)) ++ lits s.pre) k s.e.reason id s.why e in
    let d = up_to_site slots t seen k s in
    covered_own slots t seen k s
    (ap (λ o. leads_back (lower_kept t seen) d k (reason_seen slots o)) e
    ∙ all_from (λ m. has (lower_kept t seen) m || has d (negated m)) (without (clause_of slots id.0) k) (λ m j.
    let p : In (clause_of slots id.0) m × (m ≡ k → ⊥) = not_without (clause_of slots id.0) k m j in
    let b : In (lits (root_of (levels_of t)) ++ lits s.pre) (negated m) = w.others m p.0 p.1 in
    elim (h m p.0 p.1) [
      | inl f ↦ or_left (has (lower_kept t seen) m) (has d (negated m)) (in_has (lower_kept t seen) m (kept_in t seen m (before_low slots t k (negated m) s b) f))
      | inr f ↦ or_right (has (lower_kept t seen) m) (has d (negated m)) (in_has d (negated m) (earlier_covered slots t seen k (negated m) g s b f))
    ]))

pub one_not : (slots : Slots) (t : Levels) (seen : List ℕ) (k m : Literal) (id : ClauseId) → Grounds slots t → In (lits (middle_of (levels_of t))) k → reason_in (entries (levels_of t)) k.var ≡ Some id
    → In (clause_of slots id.0) m → (m ≡ k → ⊥) → has_number seen m.var ≡ false → has (covered_of slots t seen) (negated m) ≡ false → has (covered_of slots t seen) k ≡ false
one_not slots t seen k m id g i q j n f c =
    let s : Site slots t k = site slots t k g i in
    let e : s.e.reason ≡ Some id = sym s.reason ∙ q in
    let d = up_to_site slots t seen k s in
    false_from_ne_true (has (covered_of slots t seen) k) (λ h.
    let b : list_all (λ x. has (lower_kept t seen) x || has d (negated x)) (without (clause_of slots id.0) k) ≡ true =
    sym (ap (λ o. leads_back (lower_kept t seen) d k (reason_seen slots o)) e) ∙ own_covered slots t seen k g s h in
    let a : (has (lower_kept t seen) m || has d (negated m)) ≡ true = all_in (λ x. has (lower_kept t seen) x || has d (negated x)) (without (clause_of slots id.0) k) m b (in_without (clause_of slots id.0) k m j n) in
    elim (or_cases (has (lower_kept t seen) m) (has d (negated m)) a) [
      | inl x ↦ true≢false (sym (in_kept t seen m (has_in (lower_kept t seen) m x)) ∙ f)
      | inr x ↦ true≢false (sym (covered_earlier slots t seen k (negated m) s (has_in d (negated m) x)) ∙ c)
    ])

pub no_reason : (slots : Slots) (t : Levels) (seen : List ℕ) (k : Literal) → Grounds slots t → In (lits (middle_of (levels_of t))) k → reason_in (entries (levels_of t)) k.var ≡ None → has (covered_of slots t seen) k ≡ false
no_reason slots t seen k g i q =
    let s : Site slots t k = site slots t k g i in
    let e : s.e.reason ≡ None = sym s.reason ∙ q in
    let d = up_to_site slots t seen k s in
    false_from_ne_true (has (covered_of slots t seen) k) (λ h. false≢true (sym (ap (λ o. leads_back (lower_kept t seen) d k (reason_seen slots o)) e) ∙ own_covered slots t seen k g s h))

-- ---- what minimising keeps

kept_by : (b : Bool) (l : Literal) → b ≡ true → ◌≡◌ {A = Clause} (cond b (l ∷ []) []) (l ∷ [])
kept_by true l h = refl
kept_by false l h = absurd (false≢true h)

dropped_by : (b : Bool) (l : Literal) → b ≡ false → ◌≡◌ {A = Clause} (cond b (l ∷ []) []) []
dropped_by true l h = absurd (true≢false h)
dropped_by false l h = refl

pub uncovered_more : (slots : Slots) (t : Levels) (seen : List ℕ) (c : Clause) (i : ℕ) (l : Literal) → i < length c → l ≡ get_or c i l → has (covered_of slots t seen) (negated l) ≡ false
    → uncovered_of slots t seen (take (i + 1) c) ≡ uncovered_of slots t seen (take i c) ++ l ∷ []
uncovered_more slots t seen c i l h e f =
    let p : Literal → Bool = λ x. not (has (covered_of slots t seen) (negated x)) in
    ap (filter p) (take_more c i l h ∙ ap (λ (y : Literal). take i c ++ y ∷ []) (sym e)) ∙ filter-append p (take i c) (l ∷ [])
    ∙ ap (λ (z : Clause). filter p (take i c) ++ z) (kept_by (p l) l (ap not f))

pub covered_more : (slots : Slots) (t : Levels) (seen : List ℕ) (c : Clause) (i : ℕ) (l : Literal) → i < length c → l ≡ get_or c i l → has (covered_of slots t seen) (negated l) ≡ true
    → uncovered_of slots t seen (take (i + 1) c) ≡ uncovered_of slots t seen (take i c)
covered_more slots t seen c i l h e f =
    let p : Literal → Bool = λ x. not (has (covered_of slots t seen) (negated x)) in
    ap (filter p) (take_more c i l h ∙ ap (λ (y : Literal). take i c ++ y ∷ []) (sym e)) ∙ filter-append p (take i c) (l ∷ [])
    ∙ ap (λ (z : Clause). filter p (take i c) ++ z) (dropped_by (p l) l (ap not f)) ∙ append-nil (filter p (take i c))

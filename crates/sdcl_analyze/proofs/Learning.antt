-- The clause of the point without the covered literals is what analysis gives.
use Rattle.std.proofs.Common.{◌≡◌, ◌≤◌, ◌<◌, ℕ, suc, Bool, true, false, not, ◌&&◌, ◌||◌, cond, List, [], ◌∷◌, ◌++◌, length, map, reverse, Option, Some, None, ◌⊎◌, inl, inr, refl, sym, ap, subst, ◌∙◌, arith}
use Rattle.std.specs.List.{list_all, filter}
use Rattle.std.proofs.lemmas.Bool.{true≢false, false≢true, not_from_false}
use Rattle.std.proofs.lemmas.List.{map-append}
use Rattle.sdcl_base.specs.Literal.{Literal, Clause, negated, has, same_set, without, no_variable_twice}
use Rattle.sdcl_base.specs.Propagation.{distinct, falsified}
use Rattle.sdcl_base.specs.declared.lit.ClauseId.{ClauseId}
use Rattle.sdcl_base.specs.Sets.{In, Sub}
use Rattle.sdcl_base.proofs.In.{in_append_left, in_append_right, in_append_cases, in_filter, in_filter_from, has_in, in_has}
use Rattle.sdcl_base.proofs.Apart.{apart_cons, apart_parts}
use Rattle.sdcl_base.proofs.SameSets.{set_from_sub}
use Rattle.sdcl_store.specs.Slots.{Slots, clause_of, live}
use Rattle.sdcl_store.specs.Fitting.{Level, literals, justifies, last_level, lower_levels}
use Rattle.sdcl_store.specs.Fitting as fit
use Rattle.sdcl_store.specs.Analysis.{leads_back, covered, first_point, minimised, analysis}
use Rattle.sdcl_store.specs.Trails.{on_trail, level_of, back_level, greatest}
use Rattle.sdcl_store.proofs.Settling.{fun_same}
use Rattle.sdcl_store.proofs.Analysing.{Reason, reason_from, Ordered, covered_holds, covered_from}
use Rattle.sdcl_trail.specs.Levels.{Levels, IsSound, lits_of, decisions, Entry, levels_of}
use Rattle.sdcl_prop.specs.Seeing.{entry_seen, entries_seen, levels_seen, FitsOver, IsFalsified}
use Rattle.sdcl_prop.proofs.Seeing.{seen_lits, seen_trail}
use Rattle.sdcl_analyze.specs.Numbers.{has_number, adjoined_all, AllDiffer}
use Rattle.sdcl_analyze.specs.Marking.{Gathers, lits, last_of, last_lits, lower_of, lower_lits, level_on, back_on, glue_on}
use Rattle.sdcl_analyze.specs.Walking.{point_clause, point_steps, resolved_on, resolved_from, IsPoint}
use Rattle.sdcl_analyze.specs.Covering.{root_of, middle_of, lower_kept, covered_of, uncovered_of}
use Rattle.sdcl_analyze.specs.Learning.{LearnsFrom, ListsFrom}
use Rattle.sdcl_analyze.proofs.Numbers.{all_from, all_has, has_other}
use Rattle.sdcl_analyze.proofs.Levels.{apart_two}
use Rattle.sdcl_analyze.proofs.Ready.{Ready, ready, last_seen, lower_seen, entries_split}
use Rattle.sdcl_analyze.proofs.Results.{results, some_decision, alive_like}
use Rattle.sdcl_analyze.proofs.Covered.{Grounds, grounds, covered_append, kept_in, in_kept, not_without, seen_entries}

all_agree : (p q : Literal → Bool) (c : Clause) → ((m : Literal) → In c m → p m ≡ q m) → list_all p c ≡ list_all q c
all_agree p q [] h = refl
all_agree p q (m ∷ c) h = ap (λ b. b && list_all p c) (h m (inl refl)) ∙ ap (λ b. q m && b) (all_agree p q c (λ x i. h x (inr i)))

back_same : (f : List Clause) (u v done before low : Clause) (l : Literal) (o : Option Clause) → (o ≡ None) ⊎ (justifies f before l o ≡ true) → Sub before low
    → ((m : Literal) → In low (negated m) → has u m ≡ has v m) → leads_back u done l o ≡ leads_back v done l o
back_same f u v done before low l None w s h = refl
back_same f u v done before low l (Some r) (inl e) s h = cc
back_same f u v done before low l (Some r) (inr j) s h =
    let w : Reason f before l r = reason_from f before l r j in
    all_agree (λ m. has u m || has done (negated m)) (λ m. has v m || has done (negated m)) (without r l) (λ m i.
    let p : In r m × (m ≡ l → ⊥) = not_without r l m i in
    ap (λ b. b || has done (negated m)) (h m (s (negated m) (w.others m p.0 p.1))))

covered_same : (f : List Clause) (u v done before low : Clause) (es : List fit.Reasoned) → Ordered f before es → Sub before low → Sub (literals es) low
    → ((m : Literal) → In low (negated m) → has u m ≡ has v m) → covered u done es ≡ covered v done es
covered_same f u v done before low [] o s t h = refl
covered_same f u v done before low (e ∷ es) o s t h =
    ap (λ b. covered u (cond b (done ++ e.literal ∷ []) done) es) (back_same f u v done before low e.literal e.reason o.0 s h)
    ∙ covered_same f u v (cond (leads_back v done e.literal e.reason) (done ++ e.literal ∷ []) done) (before ++ e.literal ∷ []) low es o.1
    (λ m i. elim (in_append_cases before (e.literal ∷ []) m i) [ inl j ↦ s m j | inr (inl j) ↦ t m (inl j) | inr (inr j) ↦ absurd j ])
    (λ m i. t m (inr i)) h

same_truth : (a b : Bool) → (a ≡ true → b ≡ true) → (b ≡ true → a ≡ true) → a ≡ b
same_truth true b f g = sym (f refl)
same_truth false true f g = g refl
same_truth false false f g = refl

-- below the last level, the clause of the point has what is seen
point_seen : (slots : Slots) (t : Levels) (d : Clause) (seen : List ℕ) (p : Literal) → Ready slots t → IsPoint slots t d seen p → (m : Literal) → In (lower_lits (levels_of t)) (negated m)
    → has (point_clause slots t d) m ≡ has (lower_kept t seen) m
point_seen slots t d seen p r w m i =
    same_truth (has (point_clause slots t d) m) (has (lower_kept t seen) m)
    (λ h. elim (w.sound m (has_in (point_clause slots t d) m h)) [
      | inl e ↦ absurd (apart_two (lower_lits (levels_of t)) (last_lits (levels_of t)) r.apart (negated m) (negated p) i w.at_last (ap (λ (z : Literal). z.var) e))
      | inr q ↦ in_has (lower_kept t seen) m (kept_in t seen m i q.1)
    ])
    (λ h. in_has (point_clause slots t d) m (w.all m i (in_kept t seen m (has_in (lower_kept t seen) m h))))

-- what analysis takes for covered
abbrev pub full_covered : Slots → List (List Entry) → Clause → Clause
full_covered slots [] u = []
full_covered slots (l ∷ ls) u = covered u (literals (entries_seen slots l)) (fit.all_reasoned (map (entries_seen slots) ls))

full_is : (slots : Slots) (ls : List (List Entry)) (u : Clause) → 1 < length ls
    → full_covered slots ls u ≡ covered u (covered u (lits (root_of ls)) (entries_seen slots (middle_of ls))) (entries_seen slots (last_of ls))
full_is slots [] u h = absurd (omega arith)
full_is slots (l ∷ []) u h = absurd (omega arith)
full_is slots (l ∷ m ∷ ls) u h =
    ap (λ (c : Clause). covered u c (fit.all_reasoned (map (entries_seen slots) (m ∷ ls)))) (seen_lits slots l)
    ∙ ap (covered u (lits l)) (seen_entries slots (m ∷ ls) ∙ ap (entries_seen slots) (entries_split (m ∷ ls)) ∙ map-append (entry_seen slots) (lower_of (m ∷ ls)) (last_of (m ∷ ls)))
    ∙ covered_append u (lits l) (entries_seen slots (lower_of (m ∷ ls))) (entries_seen slots (last_of (m ∷ ls)))

-- below the last level both are the same
pub covers_same : (slots : Slots) (t : Levels) (d : Clause) (seen : List ℕ) (p : Literal) → 1 < length (levels_of t) → Ready slots t → Grounds slots t → IsPoint slots t d seen p
    → (x : Literal) → In (lower_lits (levels_of t)) x → has (full_covered slots (levels_of t) (point_clause slots t d)) x ≡ has (covered_of slots t seen) x
covers_same slots t d seen p n r g w x i =
    let u = point_clause slots t d in
    let low = lower_lits (levels_of t) in
    let root = lits (root_of (levels_of t)) in
    let e : covered u root (entries_seen slots (middle_of (levels_of t))) ≡ covered_of slots t seen =
    covered_same (live slots) u (lower_kept t seen) root root low (entries_seen slots (middle_of (levels_of t))) g.ordered
    (λ m j. subst (λ (c : Clause). In c m) (sym g.low) (in_append_left root (lits (middle_of (levels_of t))) m j))
    (λ m j. subst (λ (c : Clause). In c m) (sym g.low) (in_append_right root (lits (middle_of (levels_of t))) m (subst (λ (c : Clause). In c m) (seen_lits slots (middle_of (levels_of t))) j)))
    (point_seen slots t d seen p r w) in
    let f : full_covered slots (levels_of t) u ≡ covered u (covered_of slots t seen) (entries_seen slots (last_of (levels_of t))) =
    full_is slots (levels_of t) u n ∙ ap (λ (c : Clause). covered u c (entries_seen slots (last_of (levels_of t)))) e in
    ap (λ (c : Clause). has c x) f
    ∙ same_truth (has (covered u (covered_of slots t seen) (entries_seen slots (last_of (levels_of t)))) x) (has (covered_of slots t seen) x)
    (λ h. elim (covered_from u (covered_of slots t seen) (entries_seen slots (last_of (levels_of t))) x (has_in (covered u (covered_of slots t seen) (entries_seen slots (last_of (levels_of t)))) x h)) [
      | inl j ↦ in_has (covered_of slots t seen) x j
      | inr j ↦ absurd (apart_two low (last_lits (levels_of t)) r.apart x x i (subst (λ (c : Clause). In c x) (seen_lits slots (last_of (levels_of t))) j) refl)
    ])
    (λ h. in_has (covered u (covered_of slots t seen) (entries_seen slots (last_of (levels_of t)))) x
    (covered_holds u (covered_of slots t seen) (entries_seen slots (last_of (levels_of t))) x (has_in (covered_of slots t seen) x h)))

minimised_is : (slots : Slots) (ls : List (List Entry)) (u : Clause) → 1 < length ls
    → minimised (map (entries_seen slots) ls) u ≡ filter (λ l. not (has (full_covered slots ls u) (negated l) && has (lower_lits ls) (negated l))) u
minimised_is slots [] u h = absurd (omega arith)
minimised_is slots (l ∷ ls) u h = ap (λ (c : Clause). filter (λ x. not (has (full_covered slots (l ∷ ls) u) (negated x) && has c (negated x))) u) (lower_seen slots (l ∷ ls))

analysis_is : (slots : Slots) (t : Levels) (d : Clause) → 1 < length (levels_of t)
    → analysis (levels_seen slots t) d ≡ filter (λ l. not (has (full_covered slots (levels_of t) (point_clause slots t d)) (negated l) && has (lower_lits (levels_of t)) (negated l))) (point_clause slots t d)
unfolding analysis
analysis_is slots t d h =
    ap (λ (z : Level). minimised (levels_seen slots t) (first_point z (reverse z) d)) (last_seen slots (levels_of t)) ∙ minimised_is slots (levels_of t) (point_clause slots t d) h

not_both : (a b : Bool) → b ≡ true → not (a && b) ≡ true → a ≡ false
not_both true true e h = absurd (false≢true h)
not_both true false e h = absurd (false≢true e)
not_both false b e h = refl

both_not : (a b : Bool) → (b ≡ true → a ≡ false) → not (a && b) ≡ true
both_not true true h = absurd (true≢false (h refl))
both_not true false h = refl
both_not false b h = refl

turned : (b : Bool) → not b ≡ true → b ≡ false
turned true h = absurd (false≢true h)
turned false h = refl

pub learned_same : (slots : Slots) (t : Levels) (d : Clause) (seen : List ℕ) (p : Literal) (lower : Clause) → 1 < length (levels_of t) → Ready slots t → Grounds slots t → IsPoint slots t d seen p
    → Gathers (lower_lits (levels_of t)) seen lower → same_set (p ∷ uncovered_of slots t seen lower) (analysis (levels_seen slots t) d) ≡ true
learned_same slots t d seen p lower n r g w q =
    let u = point_clause slots t d in
    let low = lower_lits (levels_of t) in
    let keeps : Literal → Bool = λ l. not (has (full_covered slots (levels_of t) u) (negated l) && has low (negated l)) in
    let sub : (a : Literal) → In (p ∷ uncovered_of slots t seen lower) a → In (filter keeps u) a = λ a i. elim i [
      | inl e ↦ subst (In (filter keeps u)) (sym e) (in_filter keeps u p w.own (both_not (has (full_covered slots (levels_of t) u) (negated p)) (has low (negated p)) (λ h.
          absurd (apart_two low (last_lits (levels_of t)) r.apart (negated p) (negated p) (has_in low (negated p) h) w.at_last refl))))
      | inr j ↦
          let k : In lower a × (not (has (covered_of slots t seen) (negated a)) ≡ true) = in_filter_from (λ l. not (has (covered_of slots t seen) (negated l))) lower a j in
          let b : In low (negated a) × (has_number seen a.var ≡ true) = q.sound a k.0 in
          in_filter keeps u a (w.all a b.0 b.1) (both_not (has (full_covered slots (levels_of t) u) (negated a)) (has low (negated a)) (λ h.
          covers_same slots t d seen p n r g w (negated a) b.0 ∙ turned (has (covered_of slots t seen) (negated a)) k.1))
    ] in
    let sup : (a : Literal) → In (filter keeps u) a → In (p ∷ uncovered_of slots t seen lower) a = λ a i.
    let k : In u a × (keeps a ≡ true) = in_filter_from keeps u a i in
    elim (w.sound a k.0) [
      | inl e ↦ inl e
      | inr b ↦ inr (in_filter (λ l. not (has (covered_of slots t seen) (negated l))) lower a (q.all a b.0 b.1)
          (not_from_false (has (covered_of slots t seen) (negated a))
          (sym (covers_same slots t d seen p n r g w (negated a) b.0) ∙ not_both (has (full_covered slots (levels_of t) u) (negated a)) (has low (negated a)) (in_has low (negated a) b.0) k.1)))
    ] in
    subst (λ (c : Clause). same_set (p ∷ uncovered_of slots t seen lower) c ≡ true) (sym (analysis_is slots t d n)) (set_from_sub (p ∷ uncovered_of slots t seen lower) (filter keeps u) sub sup)

apart_by : (b : Bool) (l : Literal) (c : Clause) → (In c l → ⊥) → (In c (negated l) → ⊥) → no_variable_twice c ≡ true → no_variable_twice (cond b (l ∷ c) c) ≡ true
apart_by true l c h k a = apart_cons l c h k a
apart_by false l c h k a = a

filter_apart : (p : Literal → Bool) (c : Clause) → no_variable_twice c ≡ true → no_variable_twice (filter p c) ≡ true
filter_apart p [] h = refl
filter_apart p (l ∷ c) h =
    let a : (In c l → ⊥) × (In c (negated l) → ⊥) × (no_variable_twice c ≡ true) = apart_parts l c h in
    apart_by (p l) l (filter p c) (λ i. a.0 (in_filter_from p c l i).0) (λ i. a.1 (in_filter_from p c (negated l) i).0) (filter_apart p c a.2)

pub learned_apart : (slots : Slots) (t : Levels) (d : Clause) (seen : List ℕ) (p : Literal) (lower : Clause) → Ready slots t → IsPoint slots t d seen p
    → Gathers (lower_lits (levels_of t)) seen lower → no_variable_twice (p ∷ uncovered_of slots t seen lower) ≡ true
learned_apart slots t d seen p lower r w q =
    let keeps : Literal → Bool = λ l. not (has (covered_of slots t seen) (negated l)) in
    let no : (k : Literal) → In (filter keeps lower) k → k.var ≡ p.var → ⊥ = λ k i e.
    apart_two (lower_lits (levels_of t)) (last_lits (levels_of t)) r.apart (negated k) (negated p) (q.sound k (in_filter_from keeps lower k i).0).0 w.at_last e in
    apart_cons p (filter keeps lower) (λ i. no p i refl) (λ i. no (negated p) i refl) (filter_apart keeps lower q.apart)

pub learned_lower : (slots : Slots) (t : Levels) (seen : List ℕ) (lower : Clause) → Gathers (lower_lits (levels_of t)) seen lower → (m : Literal) → In (uncovered_of slots t seen lower) m → In (lower_lits (levels_of t)) (negated m)
learned_lower slots t seen lower q m i = (q.sound m (in_filter_from (λ l. not (has (covered_of slots t seen) (negated l))) lower m i).0).0

-- ---- what an analysis gives

pub clause_on : (slots : Slots) (t : Levels) (d : Clause) (seen : List ℕ) (p : Literal) (lower : Clause) → Ready slots t → IsPoint slots t d seen p → Gathers (lower_lits (levels_of t)) seen lower
    → (l : Literal) → In (p ∷ uncovered_of slots t seen lower) l → In (lits_of t) (negated l)
clause_on slots t d seen p lower r w q l i =
    subst (λ (c : Clause). In c (negated l)) (sym r.split) (elim i [
      | inl e ↦ in_append_right (lower_lits (levels_of t)) (last_lits (levels_of t)) (negated l) (subst (λ (z : Literal). In (last_lits (levels_of t)) (negated z)) (sym e) w.at_last)
      | inr j ↦ in_append_left (lower_lits (levels_of t)) (last_lits (levels_of t)) (negated l) (learned_lower slots t seen lower q l j)
    ])

level_same : (slots : Slots) (ls : List (List Entry)) (k : Literal) → level_of (map (entries_seen slots) ls) k ≡ level_on ls k
level_same slots [] k = refl
level_same slots (l ∷ ls) k =
    ap (λ (c : Clause). cond (has c k) 0 (suc (level_of (map (entries_seen slots) ls) k))) (seen_lits slots l) ∙ ap (λ (n : ℕ). cond (has (lits l) k) 0 (suc n)) (level_same slots ls k)

pub back_same_level : (slots : Slots) (t : Levels) (c : Clause) → back_on (levels_of t) c ≡ back_level (levels_seen slots t) c
back_same_level slots t c =
    ap (λ (x : Clause). greatest (map (λ m. level_on (levels_of t) (negated m)) (filter (λ m. has x (negated m)) c))) (sym (lower_seen slots (levels_of t)))
    ∙ ap (λ (f : Literal → ℕ). greatest (map f (filter (λ m. has (on_trail (lower_levels (levels_seen slots t))) (negated m)) c)))
    (fun_same (λ m. level_on (levels_of t) (negated m)) (λ m. level_of (levels_seen slots t) (negated m)) (λ m. sym (level_same slots (levels_of t) (negated m))))

pub clause_range : (slots : Slots) (t : Levels) (d : Clause) (seen : List ℕ) (p : Literal) (lower : Clause) → IsSound t → Ready slots t → IsPoint slots t d seen p → Gathers (lower_lits (levels_of t)) seen lower
    → (l : Literal) → In (p ∷ uncovered_of slots t seen lower) l → (1 ≤ l.var) × (l.var ≤ t.variables)
clause_range slots t d seen p lower s r w q l i =
    s.within (negated l) (subst (λ (c : Clause). In c (negated l)) (sym r.split) (elim i [
      | inl e ↦ in_append_right (lower_lits (levels_of t)) (last_lits (levels_of t)) (negated l) (subst (λ (z : Literal). In (last_lits (levels_of t)) (negated z)) (sym e) w.at_last)
      | inr j ↦ in_append_left (lower_lits (levels_of t)) (last_lits (levels_of t)) (negated l) (learned_lower slots t seen lower q l j)
    ]))

pub learned_is : (slots : Slots) (t : Levels) (id : ClauseId) (marked : List ℕ) (p : Literal) (lower clause : Clause) (back glue : ℕ) → IsSound t → 1 < length (levels_of t) → FitsOver slots t
    → IsFalsified slots (lits_of t) id → IsPoint slots t (clause_of slots id.0) marked p → Gathers (lower_lits (levels_of t)) marked lower → clause ≡ p ∷ uncovered_of slots t marked lower
    → back ≡ back_on (levels_of t) clause → glue ≡ glue_on (levels_of t) clause → LearnsFrom slots t id clause back glue
learned_is slots t id marked p lower clause back glue s n f y w q e b v =
    let d = clause_of slots id.0 in
    let levels = levels_seen slots t in
    let r : Ready slots t = ready slots t s n f in
    let g : Grounds slots t = grounds slots t s n f in
    results (live slots) (decisions t) levels d clause back glue p (uncovered_of slots t marked lower)
    (some_decision slots t n f) f (alive_like slots id.0 y.0) (subst (λ (c : Clause). falsified c d ≡ true) (sym (seen_trail slots t)) y.1)
    (subst (λ (c : Clause). same_set c (analysis levels d) ≡ true) (sym e) (learned_same slots t d marked p lower n r g w q))
    (subst (λ (c : Clause). no_variable_twice c ≡ true) (sym e) (learned_apart slots t d marked p lower r w q))
    e
    (in_has (literals (last_level levels)) (negated p)
    (subst (λ (z : Level). In (literals z) (negated p)) (sym (last_seen slots (levels_of t))) (subst (λ (c : Clause). In c (negated p)) (sym (seen_lits slots (last_of (levels_of t)))) w.at_last)))
    (b ∙ back_same_level slots t clause)
    (v ∙ ap (λ (k : Literal → ℕ). length (distinct (map k clause)))
    (fun_same (λ x. level_on (levels_of t) (negated x)) (λ x. level_of levels (negated x)) (λ x. sym (level_same slots (levels_of t) (negated x)))))

steps_seen : (slots : Slots) (t : Levels) (d : Clause) → point_steps slots t d ≡ resolved_from (levels_seen slots t) d
steps_seen slots t d = ap (λ (z : Level). resolved_on z (reverse z) d) (sym (last_seen slots (levels_of t)))

pub seen_is : (slots : Slots) (t : Levels) (id : ClauseId) (marked : List ℕ) (p : Literal) (lower clause : Clause) (steps noted : List ℕ) → IsSound t → 1 < length (levels_of t) → FitsOver slots t
    → IsPoint slots t (clause_of slots id.0) marked p → Gathers (lower_lits (levels_of t)) marked lower → clause ≡ p ∷ uncovered_of slots t marked lower → noted ≡ adjoined_all steps clause → AllDiffer noted
    → ((x : ℕ) → has_number steps x ≡ has_number (point_steps slots t (clause_of slots id.0)) x) → ((x : ℕ) → has_number steps x ≡ true → (1 ≤ x) × (x ≤ t.variables)) → ListsFrom slots t id clause noted
seen_is slots t id marked p lower clause steps noted s n f w q e m a h k =
    let d = clause_of slots id.0 in
    let r : Ready slots t = ready slots t s n f in
    record {
      exactly = λ x. ap (λ (z : List ℕ). has_number z x) m ∙ all_has steps clause x ∙ has_other steps (point_steps slots t d) (map (λ l. l.var) clause) h x
          ∙ ap (λ (z : List ℕ). has_number (z ++ map (λ l. l.var) clause) x) (steps_seen slots t d);
      differ = a;
      range = λ x i. elim (all_from steps clause x (sym (ap (λ (z : List ℕ). has_number z x) m) ∙ i)) [
        | inl j ↦ k x j
        | inr j ↦ subst (λ (z : ℕ). (1 ≤ z) × (z ≤ t.variables)) (sym j.2) (clause_range slots t d marked p lower s r w q j.0 (subst (λ (c : Clause). In c j.0) e j.1))
      ];
    }

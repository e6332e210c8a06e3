-- The walk back along the last level, up to the first unique implication point.
use Rattle.std.proofs.Common.{◌≡◌, ◌≤◌, ◌<◌, ◌+◌, ◌-◌, ℕ, zero, suc, ◌==◌, Bool, true, false, not, ◌&&◌, ◌||◌, cond, List, [], ◌∷◌, ◌++◌, length, reverse, get_or, Some, ◌⊎◌, inl, inr, refl, sym, ap, subst, ◌∙◌, append_assoc, append-nil, arith}
use Rattle.std.proofs.lemmas.Bool.{cases_Bool, true≢false, false≢true, false_from_ne_true, not_from_false, and_from}
use Rattle.std.proofs.lemmas.List.{map-append, length-append, reverse-append}
use Rattle.sdcl_base.specs.Literal.{Literal, Clause, negated, same, has, without, union, no_variable_twice}
use Rattle.sdcl_base.specs.Propagation.{falsified}
use Rattle.sdcl_base.specs.Sets.{In, Sub}
use Rattle.sdcl_base.specs.declared.lit.ClauseId.{ClauseId}
use Rattle.sdcl_base.proofs.In.{in_append_left, in_append_right, in_append_cases, in_map, in_map_from, in_filter_from, all_in, any_in, any_from, has_in, in_has, same_refl, same_true, negated_negated, in_union_left, in_union_right, in_union_cases}
use Rattle.sdcl_base.proofs.Apart.{absent_from}
use Rattle.sdcl_base.proofs.SameSets.{set_sub, in_without}
use Rattle.sdcl_base.proofs.Reducts.{clause_refuted}
use Rattle.sdcl_store.specs.Slots.{Slots, is_alive, clause_of, live}
use Rattle.sdcl_store.specs.Fitting.{literals, justifies, opens_with}
use Rattle.sdcl_store.specs.Fitting as fit
use Rattle.sdcl_store.specs.Analysis.{holds_another, resolved, first_point}
use Rattle.sdcl_store.proofs.Analysing.{Reason, in_reverse}
use Rattle.sdcl_trail.specs.Levels.{Levels, entries, lits_of, reason_in, Entry, levels_of}
use Rattle.sdcl_prop.specs.Seeing.{reason_seen, entry_seen, entries_seen}
use Rattle.sdcl_prop.proofs.Seeing.{seen_lits}
use Rattle.sdcl_analyze.specs.Numbers.{has_number, adjoined, adjoined_all}
use Rattle.sdcl_analyze.specs.Marking.{IsMarkable, BecomeSeen, seen_among, lits, last_of, last_lits, lower_of, lower_lits}
use Rattle.sdcl_analyze.specs.Walking.{resolved_on, point_clause, point_steps, IsPoint}
use Rattle.sdcl_analyze.proofs.Numbers.{joined_has, all_holds, all_own, all_from}
use Rattle.sdcl_analyze.proofs.Levels.{same_var, apart_two, apart_left, apart_right}
use Rattle.sdcl_trail.proofs.Cutting.{levels_lits}
use Rattle.sdcl_analyze.proofs.Ready.{Ready, Why, why_of, alive_in, alive_from, opens_at, reason_at, entries_split, lower_lits_of}

-- a literal of the levels below the last, or of these entries
abbrev pub Stands : Levels → List Entry → Literal → Type 0
Stands t hs x = In (lower_lits (levels_of t)) x ⊎ In (lits hs) x

-- what is left to visit is `heads`, c is the clause so far, and so many of its literals are still open
pub record Walked (slots : Slots) (t : Levels) (d : Clause) (at : ℕ) (seen done : List ℕ) (opened : ℕ) : Type 0 where
  pub heads : List Entry
  pub tails : List Entry
  pub split : last_of (levels_of t) ≡ heads ++ tails
  pub place : at ≡ length (lower_lits (levels_of t)) + length heads
  pub c : Clause
  pub here : first_point (entries_seen slots (last_of (levels_of t))) (reverse (entries_seen slots heads)) c ≡ point_clause slots t d
  pub past : (x : ℕ) → has_number (point_steps slots t d) x
      ≡ (has_number done x || has_number (resolved_on (entries_seen slots (last_of (levels_of t))) (reverse (entries_seen slots heads)) c) x)
  pub sound : (l : Literal) → In c l → Stands t heads (negated l) × (has_number seen l.var ≡ true)
  pub all : (l : Literal) → Stands t heads (negated l) → has_number seen l.var ≡ true → In c l
  pub count : opened ≡ length (seen_among (lits heads) seen)
  pub some : 1 ≤ opened

-- the same before the last of the heads is visited
pub record Ahead (slots : Slots) (t : Levels) (d : Clause) (at : ℕ) (seen done : List ℕ) (opened : ℕ) (l : Literal) : Type 0 where
  pub hs : List Entry
  pub e : Entry
  pub tails : List Entry
  pub split : last_of (levels_of t) ≡ hs ++ (e ∷ tails)
  pub place : at ≡ length (lower_lits (levels_of t)) + length hs
  pub lit : l ≡ e.lit
  pub c : Clause
  pub here : first_point (entries_seen slots (last_of (levels_of t))) (entry_seen slots e ∷ reverse (entries_seen slots hs)) c ≡ point_clause slots t d
  pub past : (x : ℕ) → has_number (point_steps slots t d) x
      ≡ (has_number done x || has_number (resolved_on (entries_seen slots (last_of (levels_of t))) (entry_seen slots e ∷ reverse (entries_seen slots hs)) c) x)
  pub sound : (k : Literal) → In c k → (Stands t hs (negated k) ⊎ (negated k ≡ l)) × (has_number seen k.var ≡ true)
  pub all : (k : Literal) → Stands t hs (negated k) → has_number seen k.var ≡ true → In c k
  pub own : has_number seen l.var ≡ true → In c (negated l)
  pub count : opened ≡ length (seen_among (lits hs) seen) + cond (has_number seen l.var) 1 0
  pub some : 1 ≤ opened
  pub clear : (x : Literal) → Stands t hs x → x.var ≡ l.var → ⊥

snoc : (xs : List Entry) → 0 < length xs → (hs : List Entry) × (e : Entry) × (xs ≡ hs ++ e ∷ [])
snoc [] h = absurd (omega arith)
snoc (x ∷ []) h = ([], x, refl)
snoc (x ∷ y ∷ xs) h = let r : (hs : List Entry) × (e : Entry) × ((y ∷ xs) ≡ hs ++ e ∷ []) = snoc (y ∷ xs) (omega arith) in (x ∷ r.0, r.1, ap (λ (z : List Entry). x ∷ z) r.2)

get_at : (a : Clause) (x : Literal) (b : Clause) (d : Literal) → get_or (a ++ (x ∷ b)) (length a) d ≡ x
get_at [] x b d = refl
get_at (y ∷ a) x b d = get_at a x b d

seen_count : (b : Bool) (n : ℕ) (x : Literal) → length (cond b (x ∷ []) []) ≡ cond b 1 0
seen_count true n x = refl
seen_count false n x = refl

both : (b : Bool) (y : Literal) (xs ys : Clause) (n : ℕ) → length xs ≡ length ys + n → length (cond b (y ∷ xs) xs) ≡ length (cond b (y ∷ ys) ys) + n
both true y xs ys n h = omega (arith, h)
both false y xs ys n h = h

add_none : (n : ℕ) → n + 0 ≡ n
add_none n = omega arith

lits_length : (es : List Entry) → length (lits es) ≡ length es
lits_length [] = refl
lits_length (e ∷ es) = ap suc (lits_length es)

and_both : (a b : Bool) → (a && b) ≡ true → (a ≡ true) × (b ≡ true)
and_both true b h = (refl, h)
and_both false b h = absurd (false≢true h)

filter_end : (seen : List ℕ) (xs : Clause) (x : Literal) → length (seen_among (xs ++ x ∷ []) seen) ≡ length (seen_among xs seen) + cond (has_number seen x.var) 1 0
filter_end seen [] x = let z = seen_count (has_number seen x.var) 0 x in omega (arith, z)
filter_end seen (y ∷ xs) x = both (has_number seen y.var) y (seen_among (xs ++ x ∷ []) seen) (seen_among xs seen) (cond (has_number seen x.var) 1 0) (filter_end seen xs x)

none_count : (xs : Clause) → length (seen_among xs []) ≡ 0
none_count [] = refl
none_count (x ∷ xs) = none_count xs

some_heads : (es : List Entry) (seen : List ℕ) → 1 ≤ length (seen_among (lits es) seen) → 0 < length es
some_heads [] seen h = absurd (omega arith)
some_heads (e ∷ es) seen h = omega arith

skipped : (b : Bool) (x : Literal) (xs : Clause) → length (cond b (x ∷ xs) xs) ≡ 0 → (b ≡ false) × (length xs ≡ 0)
skipped true x xs h = absurd (omega (arith, h))
skipped false x xs h = (refl, h)

-- where none is seen, no literal is
none_seen : (xs : Clause) (seen : List ℕ) → length (seen_among xs seen) ≡ 0 → (x : Literal) → In xs x → has_number seen x.var ≡ true → ⊥
none_seen [] seen h x i f = i
none_seen (y ∷ xs) seen h x i f =
    let p : (has_number seen y.var ≡ false) × (length (seen_among xs seen) ≡ 0) = skipped (has_number seen y.var) y (seen_among xs seen) h in
    elim i [
      | inl e ↦ true≢false (sym f ∙ ap (λ (z : Literal). has_number seen z.var) e ∙ p.0)
      | inr j ↦ none_seen xs seen p.1 x j f
    ]

-- where some are, one is
some_seen : (xs : Clause) (seen : List ℕ) → 1 ≤ length (seen_among xs seen) → (x : Literal) × In xs x × (has_number seen x.var ≡ true)
some_seen [] seen h = absurd (omega arith)
some_seen (y ∷ xs) seen h =
    elim (cases_Bool (has_number seen y.var)) [
      | inl e ↦ (y, inl refl, e)
      | inr e ↦ let r : (x : Literal) × In xs x × (has_number seen x.var ≡ true) = some_seen xs seen (subst (λ (b : Bool). 1 ≤ length (cond b (y ∷ seen_among xs seen) (seen_among xs seen))) e h) in (r.0, inr r.1, r.2)
    ]

-- where some entry is left, the last of them
pub ahead : (slots : Slots) (t : Levels) (d : Clause) (at : ℕ) (seen done : List ℕ) (opened : ℕ) (l : Literal) → Ready slots t → Walked slots t d (at + 1) seen done opened
    → l ≡ get_or (lits_of t) at l → Ahead slots t d at seen done opened l
ahead slots t d at seen done opened l r w q =
    let n : 0 < length w.heads = some_heads w.heads seen (omega (arith, w.some, w.count)) in
    let p : (hs : List Entry) × (e : Entry) × (w.heads ≡ hs ++ e ∷ []) = snoc w.heads n in
    let s : last_of (levels_of t) ≡ p.0 ++ (p.1 ∷ w.tails) = w.split ∙ ap (λ (z : List Entry). z ++ w.tails) p.2 ∙ append_assoc p.0 (p.1 ∷ []) w.tails in
    let pl : at ≡ length (lower_lits (levels_of t)) + length p.0 = omega (arith, w.place, ap length p.2, length-append p.0 (p.1 ∷ [])) in
    let all_lits : last_lits (levels_of t) ≡ lits p.0 ++ (p.1.lit ∷ lits w.tails) = ap lits s ∙ map-append (λ (x : Entry). x.lit) p.0 (p.1 ∷ w.tails) in
    let whole : lits_of t ≡ (lower_lits (levels_of t) ++ lits p.0) ++ (p.1.lit ∷ lits w.tails) =
    r.split ∙ ap (λ (z : Clause). lower_lits (levels_of t) ++ z) all_lits ∙ sym (append_assoc (lower_lits (levels_of t)) (lits p.0) (p.1.lit ∷ lits w.tails)) in
    let size : length (lower_lits (levels_of t) ++ lits p.0) ≡ at = length-append (lower_lits (levels_of t)) (lits p.0) ∙ ap (λ (z : ℕ). length (lower_lits (levels_of t)) + z) (lits_length p.0) ∙ sym pl in
    let le : l ≡ p.1.lit = q ∙ ap (λ (z : Clause). get_or z at l) whole ∙ ap (λ (i : ℕ). get_or ((lower_lits (levels_of t) ++ lits p.0) ++ (p.1.lit ∷ lits w.tails)) i l) (sym size)
    ∙ get_at (lower_lits (levels_of t) ++ lits p.0) p.1.lit (lits w.tails) l in
    let hl : lits w.heads ≡ lits p.0 ++ p.1.lit ∷ [] = ap lits p.2 ∙ map-append (λ (x : Entry). x.lit) p.0 (p.1 ∷ []) in
    let ap2 : no_variable_twice ((lower_lits (levels_of t) ++ lits p.0) ++ (p.1.lit ∷ lits w.tails)) ≡ true =
    subst (λ (z : Clause). no_variable_twice z ≡ true) (sym r.split ∙ whole) r.apart in
    let up : (x : Literal) → Stands t p.0 x → Stands t w.heads x = λ x i. elim i [ inl j ↦ inl j | inr j ↦ inr (subst (λ (z : Clause). In z x) (sym hl) (in_append_left (lits p.0) (p.1.lit ∷ []) x j)) ] in
    record {
      hs = p.0;
      e = p.1;
      tails = w.tails;
      split = s;
      place = pl;
      lit = le;
      c = w.c;
      here = ap (λ es. first_point (entries_seen slots (last_of (levels_of t))) es w.c)
          (sym (ap (λ es. reverse (entries_seen slots es)) p.2 ∙ ap reverse (map-append (entry_seen slots) p.0 (p.1 ∷ [])) ∙ reverse-append (entries_seen slots p.0) (entry_seen slots p.1 ∷ [])))
          ∙ w.here;
      past = λ x. w.past x ∙ ap (λ es. has_number done x || has_number (resolved_on (entries_seen slots (last_of (levels_of t))) es w.c) x)
          (ap (λ es. reverse (entries_seen slots es)) p.2 ∙ ap reverse (map-append (entry_seen slots) p.0 (p.1 ∷ [])) ∙ reverse-append (entries_seen slots p.0) (entry_seen slots p.1 ∷ []));
      sound = λ k i. (
        elim (w.sound k i).0 [
          | inl j ↦ inl (inl j)
          | inr j ↦ elim (in_append_cases (lits p.0) (p.1.lit ∷ []) (negated k) (subst (λ (z : Clause). In z (negated k)) hl j)) [
            | inl m ↦ inl (inr m)
            | inr (inl m) ↦ inr (m ∙ sym le)
            | inr (inr m) ↦ absurd m
          ]
        ],
        (w.sound k i).1,
      );
      all = λ k i h. w.all k (up (negated k) i) h;
      own = λ h. w.all (negated l) (inr (subst (λ (z : Clause). In z (negated (negated l))) (sym hl) (in_append_right (lits p.0) (p.1.lit ∷ []) (negated (negated l)) (inl (negated_negated l ∙ le))))) h;
      count = w.count ∙ ap (λ (z : Clause). length (seen_among z seen)) hl ∙ filter_end seen (lits p.0) p.1.lit
          ∙ ap (λ (z : Literal). length (seen_among (lits p.0) seen) + cond (has_number seen z.var) 1 0) (sym le);
      some = w.some;
      clear = λ x i v. apart_two (lower_lits (levels_of t) ++ lits p.0) (p.1.lit ∷ lits w.tails) ap2 x p.1.lit
          (elim i [ inl j ↦ in_append_left (lower_lits (levels_of t)) (lits p.0) x j | inr j ↦ in_append_right (lower_lits (levels_of t)) (lits p.0) x j ]) (inl refl) (v ∙ ap (λ (z : Literal). z.var) le);
    }

-- ---- a literal that is not marked

skip_by : (z es : List fit.Reasoned) (c r : Clause) (b h : Bool) → b ≡ false → first_point z es (cond (b && h) r c) ≡ first_point z es c
skip_by z es c r true h e = absurd (true≢false e)
skip_by z es c r false h e = refl

skip_steps : (z es : List fit.Reasoned) (v : ℕ) (c r : Clause) (b h : Bool) → b ≡ false → cond (b && h) (v ∷ resolved_on z es r) (resolved_on z es c) ≡ resolved_on z es c
skip_steps z es v c r true h e = absurd (true≢false e)
skip_steps z es v c r false h e = refl

pub walk_skip : (slots : Slots) (t : Levels) (d : Clause) (at : ℕ) (seen done : List ℕ) (opened : ℕ) (l : Literal) → Ahead slots t d at seen done opened l → has_number seen l.var ≡ false
    → Walked slots t d at seen done opened
walk_skip slots t d at seen done opened l a f =
    let no : (k : Literal) → In a.c k → negated k ≡ l → ⊥ = λ k i e. true≢false (sym (a.sound k i).1 ∙ ap (λ (z : Literal). has_number seen z.var) e ∙ f) in
    let h : has a.c (negated a.e.lit) ≡ false = absent_from a.c (negated a.e.lit) (λ i. no (negated a.e.lit) i (negated_negated a.e.lit ∙ sym a.lit)) in
    record {
      heads = a.hs;
      tails = a.e ∷ a.tails;
      split = a.split;
      place = a.place;
      c = a.c;
      here = sym (skip_by (entries_seen slots (last_of (levels_of t))) (reverse (entries_seen slots a.hs)) a.c (resolved a.e.lit (reason_seen slots a.e.reason) a.c) (has a.c (negated a.e.lit))
          (holds_another (entries_seen slots (last_of (levels_of t))) a.c a.e.lit) h) ∙ a.here;
      past = λ x. a.past x ∙ ap (λ (ys : List ℕ). has_number done x || has_number ys x)
          (skip_steps (entries_seen slots (last_of (levels_of t))) (reverse (entries_seen slots a.hs)) a.e.lit.var a.c (resolved a.e.lit (reason_seen slots a.e.reason) a.c) (has a.c (negated a.e.lit))
          (holds_another (entries_seen slots (last_of (levels_of t))) a.c a.e.lit) h);
      sound = λ k i. (elim (a.sound k i).0 [ inl j ↦ j | inr e ↦ absurd (no k i e) ], (a.sound k i).1);
      all = a.all;
      count = a.count ∙ ap (λ b. length (seen_among (lits a.hs) seen) + cond b 1 0) f ∙ add_none (length (seen_among (lits a.hs) seen));
      some = a.some;
    }

-- ---- the last one

-- where nothing of the clause is ahead, it stays
point_stays : (z es : List fit.Reasoned) (c : Clause) → ((e : fit.Reasoned) → In es e → has c (negated e.literal) ≡ false) → first_point z es c ≡ c
point_stays z [] c n = refl
point_stays z (e ∷ es) c n = skip_by z es c (resolved e.literal e.reason c) (has c (negated e.literal)) (holds_another z c e.literal) (n e (inl refl)) ∙ point_stays z es c (λ x i. n x (inr i))

stop_by : (z es : List fit.Reasoned) (c r : Clause) (b h : Bool) → h ≡ false → first_point z es (cond (b && h) r c) ≡ first_point z es c
stop_by z es c r true true e = absurd (true≢false e)
stop_by z es c r true false e = refl
stop_by z es c r false h e = refl

-- and nothing is resolved on
steps_end : (z es : List fit.Reasoned) (c : Clause) → ((e : fit.Reasoned) → In es e → has c (negated e.literal) ≡ false) → resolved_on z es c ≡ []
steps_end z [] c n = refl
steps_end z (e ∷ es) c n =
    skip_steps z es e.literal.var c (resolved e.literal e.reason c) (has c (negated e.literal)) (holds_another z c e.literal) (n e (inl refl)) ∙ steps_end z es c (λ x i. n x (inr i))

stop_steps : (z es : List fit.Reasoned) (v : ℕ) (c r : Clause) (b h : Bool) → h ≡ false → cond (b && h) (v ∷ resolved_on z es r) (resolved_on z es c) ≡ resolved_on z es c
stop_steps z es v c r true true e = absurd (true≢false e)
stop_steps z es v c r true false e = refl
stop_steps z es v c r false h e = refl

or_none : (b : Bool) → (b || false) ≡ b
or_none true = refl
or_none false = refl

-- the point, and what was resolved on before it
pub record Stops (slots : Slots) (t : Levels) (d : Clause) (seen done : List ℕ) (p : Literal) : Type 0 where
  pub point : IsPoint slots t d seen p
  pub steps : (x : ℕ) → has_number done x ≡ has_number (point_steps slots t d) x

pub walk_stop : (slots : Slots) (t : Levels) (d : Clause) (at : ℕ) (seen done : List ℕ) (opened : ℕ) (l : Literal) → Ready slots t → Ahead slots t d at seen done opened l
    → has_number seen l.var ≡ true → opened ≡ 1 → Stops slots t d seen done (negated l)
walk_stop slots t d at seen done opened l r a f o =
    let cnt : opened ≡ length (seen_among (lits a.hs) seen) + 1 = a.count ∙ ap (λ b. length (seen_among (lits a.hs) seen) + cond b 1 0) f in
    let nil : length (seen_among (lits a.hs) seen) ≡ 0 = omega (arith, cnt, o) in
    let none : (x : Literal) → In (lits a.hs) x → has_number seen x.var ≡ true → ⊥ = none_seen (lits a.hs) seen nil in
    let z = entries_seen slots (last_of (levels_of t)) in
    let in_last : (x : Literal) → In (lits a.hs) x ⊎ (x ≡ l) → In (last_lits (levels_of t)) x = λ x i.
    subst (λ (y : Clause). In y x) (sym (ap lits a.split ∙ map-append (λ (y : Entry). y.lit) a.hs (a.e ∷ a.tails)))
    (elim i [ inl j ↦ in_append_left (lits a.hs) (a.e.lit ∷ lits a.tails) x j | inr e ↦ in_append_right (lits a.hs) (a.e.lit ∷ lits a.tails) x (inl (e ∙ a.lit)) ]) in
    let other : holds_another z a.c a.e.lit ≡ false = false_from_ne_true (holds_another z a.c a.e.lit) (λ h.
    let p : (x : Literal) × In (literals z) x × ((not (same x a.e.lit) && has a.c (negated x)) ≡ true) = any_from (λ x. not (same x a.e.lit) && has a.c (negated x)) (literals z) h in
    let k : (not (same p.0 a.e.lit) ≡ true) × (has a.c (negated p.0) ≡ true) = and_both (not (same p.0 a.e.lit)) (has a.c (negated p.0)) p.2 in
    let i : In a.c (negated p.0) = has_in a.c (negated p.0) k.1 in
    let x_last : In (last_lits (levels_of t)) p.0 = subst (λ (y : Clause). In y p.0) (seen_lits slots (last_of (levels_of t))) p.1 in
    elim (a.sound (negated p.0) i).0 [
      | inl (inl j) ↦ apart_two (lower_lits (levels_of t)) (last_lits (levels_of t)) r.apart (negated (negated p.0)) p.0 j x_last refl
      | inl (inr j) ↦ none (negated (negated p.0)) j (a.sound (negated p.0) i).1
      | inr e ↦ true≢false (sym k.0 ∙ ap not (ap (λ (y : Literal). same y a.e.lit) (sym (negated_negated p.0) ∙ e ∙ a.lit) ∙ same_refl a.e.lit))
    ]) in
    let gone : (x : fit.Reasoned) → In (reverse (entries_seen slots a.hs)) x → has a.c (negated x.literal) ≡ false = λ x i.
    absent_from a.c (negated x.literal) (λ j.
    let m : In (lits a.hs) x.literal = subst (λ (y : Clause). In y x.literal) (seen_lits slots a.hs) (in_map (λ (y : fit.Reasoned). y.literal) (entries_seen slots a.hs) x (in_reverse (entries_seen slots a.hs) x i)) in
    none x.literal m (a.sound (negated x.literal) j).1) in
    let stays : first_point z (reverse (entries_seen slots a.hs)) a.c ≡ a.c = point_stays z (reverse (entries_seen slots a.hs)) a.c gone in
    let end : resolved_on z (entry_seen slots a.e ∷ reverse (entries_seen slots a.hs)) a.c ≡ [] =
    stop_steps z (reverse (entries_seen slots a.hs)) a.e.lit.var a.c (resolved a.e.lit (reason_seen slots a.e.reason) a.c) (has a.c (negated a.e.lit)) (holds_another z a.c a.e.lit) other
    ∙ steps_end z (reverse (entries_seen slots a.hs)) a.c gone in
    let is : a.c ≡ point_clause slots t d =
    sym (stop_by z (reverse (entries_seen slots a.hs)) a.c (resolved a.e.lit (reason_seen slots a.e.reason) a.c) (has a.c (negated a.e.lit)) (holds_another z a.c a.e.lit) other ∙ stays) ∙ a.here in
    record {
      point = record {
        at_last = in_last (negated (negated l)) (inr (negated_negated l));
        own = subst (λ (y : Clause). In y (negated l)) is (a.own f);
        sound = λ k i. let j : In a.c k = subst (λ (y : Clause). In y k) (sym is) i in
            elim (a.sound k j).0 [
              | inl (inl m) ↦ inr (m, (a.sound k j).1)
              | inl (inr m) ↦ absurd (none (negated k) m (a.sound k j).1)
              | inr e ↦ inl (sym (negated_negated k) ∙ ap negated e)
            ];
        all = λ k i h. subst (λ (y : Clause). In y k) is (a.all k (inl i) h);
      };
      steps = λ x. sym (a.past x ∙ ap (λ (ys : List ℕ). has_number done x || has_number ys x) end ∙ or_none (has_number done x));
    }

one_at_least : (n opened : ℕ) → opened ≡ n + 1 → (opened ≡ 1 → ⊥) → 1 ≤ n
one_at_least zero opened e o = absurd (o (omega (arith, e)))
one_at_least (suc n) opened e o = omega arith

not_none : (n : ℕ) → (n ≡ 0 → ⊥) → 1 ≤ n
not_none zero h = absurd (h refl)
not_none (suc n) h = omega arith

seen_length : (slots : Slots) (es : List Entry) → length (entries_seen slots es) ≡ length es
seen_length slots [] = refl
seen_length slots (e ∷ es) = ap suc (seen_length slots es)

stands_by : (low hs : Clause) (x : Literal) → In (low ++ hs) x → In low x ⊎ In hs x
stands_by low hs x i = in_append_cases low hs x i

by_stands : (low hs : Clause) (x : Literal) → In low x ⊎ In hs x → In (low ++ hs) x
by_stands low hs x (inl i) = in_append_left low hs x i
by_stands low hs x (inr i) = in_append_right low hs x i

pub some_id : {a b : ClauseId} → Some a ≡ Some b → a ≡ b
some_id e = cc

-- ---- one that is not the last is resolved on

pub record Resolves (slots : Slots) (t : Levels) (d : Clause) (at : ℕ) (seen done : List ℕ) (opened : ℕ) (l : Literal) (a : Ahead slots t d at seen done opened l) : Type 0 where
  pub why : Why slots (lower_lits (levels_of t) ++ lits a.hs) l a.e.reason
  pub reason : reason_in (entries (levels_of t)) l.var ≡ Some why.id
  pub alive : is_alive slots why.id.0 ≡ true
  pub markable : (k : Literal) → In (clause_of slots why.id.0) k → IsMarkable (lits_of t) seen k
  pub more : 1 ≤ length (seen_among (lits a.hs) seen)

pub walk_reason : (slots : Slots) (t : Levels) (d : Clause) (at : ℕ) (seen done : List ℕ) (opened : ℕ) (l : Literal) → Ready slots t → (a : Ahead slots t d at seen done opened l)
    → has_number seen l.var ≡ true → (opened ≡ 1 → ⊥) → Resolves slots t d at seen done opened l a
walk_reason slots t d at seen done opened l r a f o =
    let cnt : opened ≡ length (seen_among (lits a.hs) seen) + 1 = a.count ∙ ap (λ b. length (seen_among (lits a.hs) seen) + cond b 1 0) f in
    let some : 1 ≤ length (seen_among (lits a.hs) seen) = one_at_least (length (seen_among (lits a.hs) seen)) opened cnt o in
    let n : 0 < length (entries_seen slots a.hs) = omega (arith, some_heads a.hs seen some, seen_length slots a.hs) in
    let s : entries_seen slots (last_of (levels_of t)) ≡ entries_seen slots a.hs ++ (entry_seen slots a.e ∷ entries_seen slots a.tails) = ap (entries_seen slots) a.split ∙ map-append (entry_seen slots) a.hs (a.e ∷ a.tails) in
    let j = opens_at (live slots) (lower_lits (levels_of t)) r.decision (entries_seen slots a.hs) (entry_seen slots a.e) (entries_seen slots a.tails) n
    (subst (λ es. opens_with (live slots) (lower_lits (levels_of t)) r.decision es ≡ true) s r.opens) in
    let w : Why slots (lower_lits (levels_of t) ++ lits a.hs) a.e.lit a.e.reason = why_of slots (lower_lits (levels_of t) ++ lits a.hs) a.e.lit a.e.reason
    (subst (λ (z : Clause). justifies (live slots) (lower_lits (levels_of t) ++ z) a.e.lit (reason_seen slots a.e.reason) ≡ true) (seen_lits slots a.hs) j) in
    let v : Why slots (lower_lits (levels_of t) ++ lits a.hs) l a.e.reason = subst (λ (z : Literal). Why slots (lower_lits (levels_of t) ++ lits a.hs) z a.e.reason) (sym a.lit) w in
    let es : entries (levels_of t) ≡ (lower_of (levels_of t) ++ a.hs) ++ (a.e ∷ a.tails) =
    entries_split (levels_of t) ∙ ap (λ (z : List Entry). lower_of (levels_of t) ++ z) a.split ∙ sym (append_assoc (lower_of (levels_of t)) a.hs (a.e ∷ a.tails)) in
    let pre : lits (lower_of (levels_of t) ++ a.hs) ≡ lower_lits (levels_of t) ++ lits a.hs = map-append (λ (x : Entry). x.lit) (lower_of (levels_of t)) a.hs ∙ ap (λ (z : Clause). z ++ lits a.hs) (lower_lits_of (levels_of t)) in
    let trail : lits_of t ≡ (lower_lits (levels_of t) ++ lits a.hs) ++ (a.e.lit ∷ lits a.tails) =
    sym (levels_lits t) ∙ ap lits es ∙ map-append (λ (x : Entry). x.lit) (lower_of (levels_of t) ++ a.hs) (a.e ∷ a.tails) ∙ ap (λ (z : Clause). z ++ (a.e.lit ∷ lits a.tails)) pre in
    record {
      why = v;
      reason = ap (reason_in (entries (levels_of t))) (ap (λ (z : Literal). z.var) a.lit) ∙ ap (λ (z : List Entry). reason_in z a.e.lit.var) es
          ∙ reason_at (lower_of (levels_of t) ++ a.hs) a.e a.tails (λ k i q. a.clear k (stands_by (lower_lits (levels_of t)) (lits a.hs) k (subst (λ (z : Clause). In z k) pre i)) (q ∙ ap (λ (z : Literal). z.var) (sym a.lit)))
          ∙ v.is;
      alive = alive_from slots v.id.0 l v.why.own;
      markable = λ k i. elim (cases_Bool (same k l)) [
        | inl e ↦
            let q : k ≡ l = same_true k l e in
            inr (subst (λ (z : Clause). In z k) (sym trail) (in_append_right (lower_lits (levels_of t) ++ lits a.hs) (a.e.lit ∷ lits a.tails) k (inl (q ∙ a.lit))), ap (λ (z : Literal). has_number seen z.var) q ∙ f)
        | inr e ↦ inl (subst (λ (z : Clause). In z (negated k)) (sym trail) (in_append_left (lower_lits (levels_of t) ++ lits a.hs) (a.e.lit ∷ lits a.tails) (negated k)
            (v.why.others k i (λ q. true≢false (sym (ap (λ (z : Literal). same k z) (sym q) ∙ same_refl k) ∙ e)))))
      ];
      more = some;
    }

next_by : (z es : List fit.Reasoned) (c r : Clause) (b h : Bool) → b ≡ true → h ≡ true → first_point z es (cond (b && h) r c) ≡ first_point z es r
next_by z es c r true true p q = refl
next_by z es c r true false p q = absurd (false≢true q)
next_by z es c r false h p q = absurd (false≢true p)

next_steps : (z es : List fit.Reasoned) (v : ℕ) (c r : Clause) (b h : Bool) → b ≡ true → h ≡ true → cond (b && h) (v ∷ resolved_on z es r) (resolved_on z es c) ≡ v ∷ resolved_on z es r
next_steps z es v c r true true p q = refl
next_steps z es v c r true false p q = absurd (false≢true q)
next_steps z es v c r false h p q = absurd (false≢true p)

or_pulled : (a b c : Bool) → (a || (b || c)) ≡ ((a || b) || c)
or_pulled true b c = refl
or_pulled false b c = refl

not_in : (c : Clause) (m l : Literal) → In (without c m) l → In c l × (l ≡ m → ⊥)
not_in c m l i =
    let p : In c l × (not (same m l) ≡ true) = in_filter_from (λ x. not (same m x)) c l i in
    (p.0, λ e. true≢false (sym p.1 ∙ ap not (ap (same m) e ∙ same_refl m)))

pub walk_next : (slots : Slots) (t : Levels) (d : Clause) (at : ℕ) (seen more done : List ℕ) (opened n : ℕ) (l : Literal) (id : ClauseId) → Ready slots t → (a : Ahead slots t d at seen done opened l)
    → has_number seen l.var ≡ true → Resolves slots t d at seen done opened l a → reason_in (entries (levels_of t)) l.var ≡ Some id
    → more ≡ adjoined_all seen (clause_of slots id.0) → BecomeSeen (last_lits (levels_of t)) seen more (clause_of slots id.0) n → Walked slots t d at more (adjoined done l.var) (opened - 1 + n)
walk_next slots t d at seen more done opened n l id r a f w q m o =
    let same_id : w.why.id ≡ id = some_id (sym w.reason ∙ q) in
    let c = clause_of slots id.0 in
    let why : Reason (live slots) (lower_lits (levels_of t) ++ lits a.hs) l c = subst (λ (z : ClauseId). Reason (live slots) (lower_lits (levels_of t) ++ lits a.hs) l (clause_of slots z.0)) same_id w.why.why in
    let grows : (x : ℕ) → has_number seen x ≡ true → has_number more x ≡ true = λ x h. ap (λ (z : List ℕ). has_number z x) m ∙ all_holds seen c x h in
    let owns : (k : Literal) → In c k → has_number more k.var ≡ true = λ k i. ap (λ (z : List ℕ). has_number z k.var) m ∙ all_own seen c k i in
    let z = entries_seen slots (last_of (levels_of t)) in
    let hs_last : Sub (lits a.hs) (last_lits (levels_of t)) = λ x i.
    subst (λ (y : Clause). In y x) (sym (ap lits a.split ∙ map-append (λ (y : Entry). y.lit) a.hs (a.e ∷ a.tails))) (in_append_left (lits a.hs) (a.e.lit ∷ lits a.tails) x i) in
    let below : no_variable_twice (lower_lits (levels_of t) ++ lits a.hs) ≡ true =
    apart_left (lower_lits (levels_of t) ++ lits a.hs) (a.e.lit ∷ lits a.tails)
    (subst (λ (y : Clause). no_variable_twice y ≡ true) (ap (λ (y : Clause). lower_lits (levels_of t) ++ y) (ap lits a.split ∙ map-append (λ (y : Entry). y.lit) a.hs (a.e ∷ a.tails))
    ∙ sym (append_assoc (lower_lits (levels_of t)) (lits a.hs) (a.e.lit ∷ lits a.tails))) r.apart) in
    let u : Clause = union (without a.c (negated l)) (without c l) in
    let mine : has a.c (negated a.e.lit) ≡ true = in_has a.c (negated a.e.lit) (subst (λ (y : Literal). In a.c (negated y)) a.lit (a.own f)) in
    let x : (x : Literal) × In (lits a.hs) x × (has_number seen x.var ≡ true) = some_seen (lits a.hs) seen w.more in
    let other : holds_another z a.c a.e.lit ≡ true =
    any_in (λ y. not (same y a.e.lit) && has a.c (negated y)) (literals z) x.0 (subst (λ (y : Clause). In y x.0) (sym (seen_lits slots (last_of (levels_of t)))) (hs_last x.0 x.1))
    (and_from (not (same x.0 a.e.lit)) (has a.c (negated x.0))
    (not_from_false (same x.0 a.e.lit) (false_from_ne_true (same x.0 a.e.lit) (λ h. a.clear x.0 (inr x.1) (ap (λ (y : Literal). y.var) (same_true x.0 a.e.lit h ∙ sym a.lit)))))
    (in_has a.c (negated x.0) (a.all (negated x.0) (inr (subst (In (lits a.hs)) (sym (negated_negated x.0)) x.1)) x.2))) in
    let is : resolved a.e.lit (reason_seen slots a.e.reason) a.c ≡ u =
    ap (λ s. resolved a.e.lit (reason_seen slots s) a.c) (w.why.is ∙ ap Some same_id) ∙ ap (λ (y : Literal). union (without a.c (negated y)) (without c y)) (sym a.lit) in
    let cnt : opened ≡ length (seen_among (lits a.hs) seen) + 1 = a.count ∙ ap (λ b. length (seen_among (lits a.hs) seen) + cond b 1 0) f in
    let part : length (seen_among (lits a.hs) more) ≡ length (seen_among (lits a.hs) seen) + n = o (lits a.hs) hs_last (apart_right (lower_lits (levels_of t)) (lits a.hs) below) (λ k i j.
    elim (cases_Bool (same k l)) [
      | inl e ↦ inr (ap (λ (y : Literal). has_number seen y.var) (same_true k l e) ∙ f)
      | inr e ↦
          elim (in_append_cases (lower_lits (levels_of t)) (lits a.hs) (negated k) (why.others k i (λ p. true≢false (sym (ap (same k) (sym p) ∙ same_refl k) ∙ e)))) [
            | inl b ↦ absurd (apart_two (lower_lits (levels_of t)) (last_lits (levels_of t)) r.apart (negated k) (negated k) b j refl)
            | inr b ↦ inl b
          ]
    ]) in
    record {
      heads = a.hs;
      tails = a.e ∷ a.tails;
      split = a.split;
      place = a.place;
      c = u;
      here = sym (next_by z (reverse (entries_seen slots a.hs)) a.c (resolved a.e.lit (reason_seen slots a.e.reason) a.c) (has a.c (negated a.e.lit)) (holds_another z a.c a.e.lit) mine other
          ∙ ap (first_point z (reverse (entries_seen slots a.hs))) is) ∙ a.here;
      past = λ x. a.past x
          ∙ ap (λ (ys : List ℕ). has_number done x || has_number ys x)
          (next_steps z (reverse (entries_seen slots a.hs)) a.e.lit.var a.c (resolved a.e.lit (reason_seen slots a.e.reason) a.c) (has a.c (negated a.e.lit)) (holds_another z a.c a.e.lit) mine other
          ∙ ap (λ (y : Clause). a.e.lit.var ∷ resolved_on z (reverse (entries_seen slots a.hs)) y) is)
          ∙ or_pulled (has_number done x) (x == a.e.lit.var) (has_number (resolved_on z (reverse (entries_seen slots a.hs)) u) x)
          ∙ ap (λ (b : Bool). b || has_number (resolved_on z (reverse (entries_seen slots a.hs)) u) x)
          (ap (λ (y : Literal). has_number done x || (x == y.var)) (sym a.lit) ∙ sym (joined_has done l.var x));
      sound = λ k i. elim (in_union_cases (without a.c (negated l)) (without c l) k i) [
        | inl j ↦
            let p : In a.c k × (k ≡ negated l → ⊥) = not_in a.c (negated l) k j in (
              elim (a.sound k p.0).0 [ inl b ↦ b | inr e ↦ absurd (p.1 (sym (negated_negated k) ∙ ap negated e)) ],
              grows k.var (a.sound k p.0).1,
            )
        | inr j ↦
            let p : In c k × (k ≡ l → ⊥) = not_in c l k j in
            (stands_by (lower_lits (levels_of t)) (lits a.hs) (negated k) (why.others k p.0 p.1), owns k p.0)
      ];
      all = λ k i h. elim (all_from seen c k.var (sym (ap (λ (y : List ℕ). has_number y k.var) m) ∙ h)) [
        | inl b ↦ in_union_left (without a.c (negated l)) (without c l) k (in_without a.c (negated l) k (a.all k i b) (λ e. a.clear (negated k) i (ap (λ (y : Literal). y.var) e)))
        | inr b ↦
            let ne : b.0 ≡ l → ⊥ = λ e. a.clear (negated k) i (b.2 ∙ ap (λ (y : Literal). y.var) e) in
            let e : negated k ≡ negated b.0 = same_var (lower_lits (levels_of t) ++ lits a.hs) below (negated k) (negated b.0) (by_stands (lower_lits (levels_of t)) (lits a.hs) (negated k) i) (why.others b.0 b.1 ne) b.2 in
            let g : b.0 ≡ k = sym (sym (negated_negated k) ∙ ap negated e ∙ negated_negated b.0) in
            in_union_right (without a.c (negated l)) (without c l) k (subst (In (without c l)) g (in_without c l b.0 b.1 ne))
      ];
      count = omega (arith, cnt, part);
      some = omega (arith, cnt, w.more);
    }

-- ---- the start

pub walk_start : (slots : Slots) (t : Levels) (id : ℕ) (more : List ℕ) (n : ℕ) → Ready slots t → is_alive slots id ≡ true → falsified (lits_of t) (clause_of slots id) ≡ true
    → more ≡ adjoined_all [] (clause_of slots id) → BecomeSeen (last_lits (levels_of t)) [] more (clause_of slots id) n → Walked slots t (clause_of slots id) (length (lits_of t)) more [] n
walk_start slots t id more n r v f m o =
    let d = clause_of slots id in
    let low = lower_lits (levels_of t) in
    let last = last_lits (levels_of t) in
    let on : (l : Literal) → In d l → In (low ++ last) (negated l) = λ l i.
    subst (λ (z : Clause). In z (negated l)) r.split (has_in (lits_of t) (negated l) (all_in (λ l. has (lits_of t) (negated l)) d l f i)) in
    let owns : (k : Literal) → In d k → has_number more k.var ≡ true = λ k i. ap (λ (z : List ℕ). has_number z k.var) m ∙ all_own [] d k i in
    let cnt : length (seen_among last more) ≡ n = omega (arith, o last (λ x i. i) (apart_right low last r.apart) (λ l i j. inl j), none_count last) in
    let some : 1 ≤ n = not_none n (λ e. true≢false (sym (clause_refuted (live slots) r.made d (alive_in slots id v) (λ x i.
    let p : (k : Literal) × In d k × (x ≡ negated k) = in_map_from negated d x i in
    elim (in_append_cases low last (negated p.0) (on p.0 p.1)) [
      | inl j ↦ (set_sub low _ r.closed).0 x (subst (In low) (sym p.2) j)
      | inr j ↦ absurd (none_seen last more (cnt ∙ e) (negated p.0) j (owns p.0 p.1))
    ])) ∙ r.consistent)) in
    record {
      heads = last_of (levels_of t);
      tails = [];
      split = sym (append-nil (last_of (levels_of t)));
      place = ap length r.split ∙ length-append low last ∙ ap (λ (z : ℕ). length low + z) (lits_length (last_of (levels_of t)));
      c = d;
      here = refl;
      past = λ x. refl;
      sound = λ l i. (stands_by low last (negated l) (on l i), owns l i);
      all = λ l i h. elim (all_from [] d l.var (sym (ap (λ (z : List ℕ). has_number z l.var) m) ∙ h)) [
        | inl b ↦ absurd (false≢true b)
        | inr b ↦
            let e : negated l ≡ negated b.0 = same_var (low ++ last) r.apart (negated l) (negated b.0) (by_stands low last (negated l) i) (on b.0 b.1) b.2 in
            subst (In d) (sym (sym (negated_negated l) ∙ ap negated e ∙ negated_negated b.0)) b.1
      ];
      count = sym cnt;
      some = some;
    }

-- ---- as the loop has it

pub ahead_at : (slots : Slots) (t : Levels) (d : Clause) (at : ℕ) (seen done : List ℕ) (opened : ℕ) (all : Clause) (l : Literal) → Ready slots t → Walked slots t d at seen done opened → 0 < at
    → all ≡ lits_of t → l ≡ get_or all (at - 1) l → Ahead slots t d (at - 1) seen done opened l
ahead_at slots t d at seen done opened all l r w h e q =
    let one : at ≡ at - 1 + 1 = omega (arith, h) in
    ahead slots t d (at - 1) seen done opened l r (subst (λ (n : ℕ). Walked slots t d n seen done opened) one w) (q ∙ ap (λ (z : Clause). get_or z (at - 1) l) e)

one_short : (b : Bool) (x : Literal) (xs ys : Clause) → length xs ≤ length ys → length (cond b (x ∷ xs) xs) ≤ length (x ∷ ys)
one_short true x xs ys h = omega (arith, h)
one_short false x xs ys h = omega (arith, h)

seen_short : (xs : Clause) (seen : List ℕ) → length (seen_among xs seen) ≤ length xs
seen_short [] seen = omega arith
seen_short (x ∷ xs) seen = one_short (has_number seen x.var) x (seen_among xs seen) xs (seen_short xs seen)

pub walked_below : (slots : Slots) (t : Levels) (d : Clause) (at : ℕ) (seen done : List ℕ) (opened : ℕ) → Walked slots t d at seen done opened → opened ≤ at
walked_below slots t d at seen done opened w = omega (arith, w.count, w.place, seen_short (lits w.heads) seen, lits_length w.heads)

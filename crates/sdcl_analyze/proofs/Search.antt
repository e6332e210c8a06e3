-- The search for covered literals: what is known, one look, and what the stack keeps.
use Rattle.std.proofs.Common.{◌≡◌, ◌≤◌, ◌<◌, ◌==◌, ◌+◌, ℕ, zero, suc, eqb, Bool, true, false, ◌||◌, cond, List, [], ◌∷◌, ◌++◌, length, take, get_or, Option, Some, None, inl, inr, refl, sym, ap, subst, ◌∙◌, arith}
use Rattle.std.specs.Option.{option_map, option_eq}
use Rattle.std.proofs.lemmas.Bool.{cases_Bool, eqb-true, eq-eqb, ne_eqb, true≢false, false_from_ne_true}
use Rattle.std.proofs.lemmas.List.{length-append}
use Rattle.sdcl_base.specs.Literal.{Literal, Clause, negated, same, has, no_variable_twice}
use Rattle.sdcl_base.specs.Sets.{In}
use Rattle.sdcl_base.specs.declared.lit.ClauseId.{ClauseId}
use Rattle.sdcl_base.proofs.In.{in_append_left, in_append_right, in_append_cases, same_true, same_refl}
use Rattle.sdcl_store.specs.Slots.{Slots, is_alive, clause_of, live}
use Rattle.sdcl_store.proofs.Analysing.{Reason}
use Rattle.sdcl_trail.specs.Levels.{Levels, entries, level_in, reason_in, IsSound, Entry, levels_of}
use Rattle.sdcl_analyze.proofs.Places.{in_more_cases}
use Rattle.sdcl_analyze.specs.declared.minimising.Frame.{Frame}
use Rattle.sdcl_analyze.specs.declared.minimising.Standing.{Standing}
use Rattle.sdcl_analyze.specs.declared.minimising.Standing.TheVariants as standing
use Rattle.sdcl_analyze.specs.declared.minimising.Look.TheVariants as look
use Rattle.sdcl_analyze.specs.Numbers.{has_number, adjoined}
use Rattle.sdcl_analyze.specs.Marking.{lits, lower_lits, last_lits}
use Rattle.sdcl_analyze.specs.Covering.{root_of, middle_of, covered_of, IsFine, height_in}
use Rattle.sdcl_analyze.specs.Searching.{unknown, standing_of, Knows, FrameFits, Stacked, Searched, LookFinds}
use Rattle.sdcl_analyze.proofs.Numbers.{joined_holds, joined_own, joined_from}
use Rattle.sdcl_analyze.proofs.Levels.{same_var, apart_two, stands_in, stands_not, option_is, option_not, trail_split}
use Rattle.sdcl_analyze.proofs.Ready.{alive_from}
use Rattle.sdcl_analyze.proofs.Covered.{Grounds, Site, site, apart_site, before_low, is_root, all_fine, one_not, no_reason, why_at}

-- ---- what is known of one literal

-- what each answer says of the literal
abbrev pub Says : Slots → Levels → List ℕ → List ℕ → Literal → Standing → Type 0
Says slots t seen entered k standing.Covered = has (covered_of slots t seen) k ≡ true
Says slots t seen entered k standing.Uncovered = has (covered_of slots t seen) k ≡ false
Says slots t seen entered k (standing.Unknown id) = In (lits (middle_of (levels_of t))) k × (reason_in (entries (levels_of t)) k.var ≡ Some id) × (has_number entered k.var ≡ false)

not_zero : (o : Option ℕ) → option_map suc o ≡ Some 0 → ⊥
not_zero None h = cc
not_zero (Some n) h = cc

level_root : (ls : List (List Entry)) (k : Literal) → no_variable_twice (lower_lits ls) ≡ true → lower_lits ls ≡ lits (root_of ls) ++ lits (middle_of ls) → In (lower_lits ls) k
    → level_in ls k.var ≡ Some 0 → In (lits (root_of ls)) k
level_root [] k a e i h = absurd i
level_root (l ∷ ls) k a e i h =
    elim (in_append_cases (lits l) (lits (middle_of (l ∷ ls))) k (subst (λ (c : Clause). In c k) e i)) [
      | inl j ↦ j
      | inr j ↦ absurd (not_zero (level_in ls k.var) (sym (ap (λ b. cond b (Some 0) (option_map suc (level_in ls k.var)))
          (stands_not l k.var (λ m n q. apart_two (lits l) (lits (middle_of (l ∷ ls))) (subst (λ (c : Clause). no_variable_twice c ≡ true) e a) m k n j q))) ∙ h))
    ]

level_middle : (ls : List (List Entry)) (k : Literal) → lower_lits ls ≡ lits (root_of ls) ++ lits (middle_of ls) → In (lower_lits ls) k → (level_in ls k.var ≡ Some 0 → ⊥) → In (lits (middle_of ls)) k
level_middle [] k e i h = absurd i
level_middle (l ∷ ls) k e i h =
    elim (in_append_cases (lits l) (lits (middle_of (l ∷ ls))) k (subst (λ (c : Clause). In c k) e i)) [
      | inl j ↦ absurd (h (ap (λ b. cond b (Some 0) (option_map suc (level_in ls k.var))) (stands_in l k j)))
      | inr j ↦ j
    ]

says_unknown : (slots : Slots) (t : Levels) (seen entered : List ℕ) (k : Literal) (o : Option ClauseId) → Grounds slots t → In (lits (middle_of (levels_of t))) k → reason_in (entries (levels_of t)) k.var ≡ o
    → has_number entered k.var ≡ false → Says slots t seen entered k (unknown o)
says_unknown slots t seen entered k None g i e f = no_reason slots t seen k g i e
says_unknown slots t seen entered k (Some id) g i e f = (i, e, f)

says_by : (slots : Slots) (t : Levels) (seen entered covered : List ℕ) (k : Literal) (a b c : Bool) → Grounds slots t → In (lower_lits (levels_of t)) k → Knows slots t seen entered covered k
    → option_eq eqb (level_in (levels_of t) k.var) (Some 0) ≡ a → has_number covered k.var ≡ b → has_number entered k.var ≡ c
    → Says slots t seen entered k (cond (a || b) standing.Covered (cond c standing.Uncovered (unknown (reason_in (entries (levels_of t)) k.var))))
says_by slots t seen entered covered k true b c g i n p q r = is_root slots t seen k (level_root (levels_of t) k g.apart g.low i (option_is (level_in (levels_of t) k.var) 0 p))
says_by slots t seen entered covered k false true c g i n p q r = n.yes q
says_by slots t seen entered covered k false false true g i n p q r = n.no r q
says_by slots t seen entered covered k false false false g i n p q r =
    says_unknown slots t seen entered k (reason_in (entries (levels_of t)) k.var) g (level_middle (levels_of t) k g.low i (option_not (level_in (levels_of t) k.var) 0 p)) refl r

pub says : (slots : Slots) (t : Levels) (seen entered covered : List ℕ) (k : Literal) (s : Standing) → Grounds slots t → In (lower_lits (levels_of t)) k → Knows slots t seen entered covered k
    → s ≡ standing_of t entered covered k.var → Says slots t seen entered k s
says slots t seen entered covered k s g i n e =
    subst (Says slots t seen entered k) (sym e)
    (says_by slots t seen entered covered k (option_eq eqb (level_in (levels_of t) k.var) (Some 0)) (has_number covered k.var) (has_number entered k.var) g i n refl refl refl)

-- ---- places

not_here : (b : Bool) (n : ℕ) → b ≡ false → cond b 0 (suc n) ≡ suc n
not_here true n h = absurd (true≢false h)
not_here false n h = refl

place_at : (pre : Clause) (k : Literal) (post : Clause) → ((x : Literal) → In pre x → x.var ≡ k.var → ⊥) → height_in (pre ++ (k ∷ post)) k.var ≡ length pre
place_at [] k post n = ap (λ b. cond b 0 (suc (height_in post k.var))) (eq-eqb k.var k.var refl)
place_at (x ∷ pre) k post n = not_here (x.var == k.var) (height_in (pre ++ (k ∷ post)) k.var) (ne_eqb x.var k.var (n x (inl refl))) ∙ ap suc (place_at pre k post (λ y i. n y (inr i)))

place_before : (pre rest : Clause) (x : Literal) → In pre x → height_in (pre ++ rest) x.var < length pre
place_before [] rest x i = absurd i
place_before (y ∷ pre) rest x i =
    elim (cases_Bool (y.var == x.var)) [
      | inl e ↦ let z : height_in ((y ∷ pre) ++ rest) x.var ≡ 0 = ap (λ b. cond b 0 (suc (height_in (pre ++ rest) x.var))) e in omega (arith, z)
      | inr e ↦
          let z : height_in ((y ∷ pre) ++ rest) x.var ≡ suc (height_in (pre ++ rest) x.var) = not_here (y.var == x.var) (height_in (pre ++ rest) x.var) e in
          let m : In pre x = elim i [ inl q ↦ absurd (true≢false (sym (eq-eqb y.var x.var (ap (λ (v : Literal). v.var) (sym q))) ∙ e)) | inr j ↦ j ] in
          omega (arith, z, place_before pre rest x m)
    ]

-- what a reason's other literals are
pub record Other (slots : Slots) (t : Levels) (k m : Literal) : Type 0 where
  pub low : In (lower_lits (levels_of t)) (negated m)
  pub earlier : height_in (lower_lits (levels_of t)) m.var < height_in (lower_lits (levels_of t)) k.var

pub other : (slots : Slots) (t : Levels) (k m : Literal) (id : ClauseId) → Grounds slots t → In (lits (middle_of (levels_of t))) k → reason_in (entries (levels_of t)) k.var ≡ Some id
    → In (clause_of slots id.0) m → (m ≡ k → ⊥) → Other slots t k m
other slots t k m id g i q j n =
    let s : Site slots t k = site slots t k g i in
    let before = lits (root_of (levels_of t)) ++ lits s.pre in
    let w : Reason (live slots) before k (clause_of slots id.0) = why_at slots before k s.e.reason id s.why (sym s.reason ∙ q) in
    let b : In before (negated m) = w.others m j n in
    let p : height_in (before ++ (k ∷ lits s.post)) k.var ≡ length before = place_at before k (lits s.post) (λ x y v. apart_two before (k ∷ lits s.post) (apart_site slots t k g s) x k y (inl refl) v) in
    let r : height_in (before ++ (k ∷ lits s.post)) m.var < length before = place_before before (k ∷ lits s.post) (negated m) b in
    record {
      low = before_low slots t k (negated m) s b;
      earlier = subst (λ (c : Clause). height_in c m.var < height_in c k.var) (sym s.parts) (omega (arith, p, r));
    }

pub reason_alive : (slots : Slots) (t : Levels) (k : Literal) (id : ClauseId) → Grounds slots t → In (lits (middle_of (levels_of t))) k → reason_in (entries (levels_of t)) k.var ≡ Some id → is_alive slots id.0 ≡ true
reason_alive slots t k id g i q =
    let s : Site slots t k = site slots t k g i in
    let w : Reason (live slots) (lits (root_of (levels_of t)) ++ lits s.pre) k (clause_of slots id.0) = why_at slots (lits (root_of (levels_of t)) ++ lits s.pre) k s.e.reason id s.why (sym s.reason ∙ q) in
    alive_from slots id.0 k w.own

pub own_literal : (slots : Slots) (t : Levels) (k m : Literal) (id : ClauseId) → Grounds slots t → In (lits (middle_of (levels_of t))) k → reason_in (entries (levels_of t)) k.var ≡ Some id
    → In (clause_of slots id.0) m → m.var ≡ k.var → m ≡ k
own_literal slots t k m id g i q j v =
    elim (cases_Bool (same m k)) [
      | inl e ↦ same_true m k e
      | inr e ↦
          let o : Other slots t k m = other slots t k m id g i q j (λ p. true≢false (sym (ap (same m) (sym p) ∙ same_refl m) ∙ e)) in
          absurd (omega (arith, o.earlier, ap (height_in (lower_lits (levels_of t))) v))
    ]

pub middle_low : (slots : Slots) (t : Levels) (k : Literal) → Grounds slots t → In (lits (middle_of (levels_of t))) k → In (lower_lits (levels_of t)) k
middle_low slots t k g i = subst (λ (c : Clause). In c k) (sym g.low) (in_append_right (lits (root_of (levels_of t))) (lits (middle_of (levels_of t))) k i)

-- ---- one look along a reason

-- all before the place are fine, but the frame's own literal
abbrev pub Past : Slots → Levels → List ℕ → Frame → ℕ → Type 0
Past slots t seen f at =
    (k : Literal) → In (lits (middle_of (levels_of t))) k → k.var ≡ f.var → (m : Literal) → In (take at (clause_of slots f.reason.0)) m → (m ≡ k → ⊥) → IsFine slots t seen m

-- the frame's literal is the only one of its variable
pub one_lit : (slots : Slots) (t : Levels) (seen entered : List ℕ) (f : Frame) → Grounds slots t → (w : FrameFits slots t seen entered f) → (k : Literal) → In (lower_lits (levels_of t)) k → k.var ≡ f.var → k ≡ w.lit
one_lit slots t seen entered f g w k i e = same_var (lower_lits (levels_of t)) g.apart k w.lit i (middle_low slots t w.lit g w.on) (e ∙ sym w.var)

pub past_first : (slots : Slots) (t : Levels) (seen entered : List ℕ) (f : Frame) → Grounds slots t → FrameFits slots t seen entered f → Past slots t seen f f.at
past_first slots t seen entered f g w k i e m j n =
    w.past m j (λ q. n (q ∙ sym (one_lit slots t seen entered f g w k (middle_low slots t k g i) e)))

pub past_more : (slots : Slots) (t : Levels) (seen : List ℕ) (f : Frame) (at : ℕ) (m : Literal) → at < length (clause_of slots f.reason.0) → m ≡ get_or (clause_of slots f.reason.0) at m
    → ((k : Literal) → In (lits (middle_of (levels_of t))) k → k.var ≡ f.var → (m ≡ k → ⊥) → IsFine slots t seen m) → Past slots t seen f at → Past slots t seen f (at + 1)
past_more slots t seen f at m h e n p k i v x j d =
    elim (in_more_cases (clause_of slots f.reason.0) at m x h e j) [
      | inl q ↦ p k i v x q d
      | inr q ↦ subst (IsFine slots t seen) (sym q) (n k i v (λ y. d (q ∙ y)))
    ]

refl_nil : (n : ℕ) → ◌≡◌ {A = Clause} (take n []) []
refl_nil zero = refl
refl_nil (suc n) = refl

pub take_all : (c : Clause) (n : ℕ) → length c ≤ n → take n c ≡ c
take_all [] n h = refl_nil n
take_all (x ∷ c) zero h = absurd (omega (arith, h))
take_all (x ∷ c) (suc n) h = ap (λ (z : Clause). x ∷ z) (take_all c n (omega (arith, h)))

pub looked_all : (slots : Slots) (t : Levels) (seen entered : List ℕ) (f : Frame) (at : ℕ) → Grounds slots t → FrameFits slots t seen entered f → length (clause_of slots f.reason.0) ≤ at → Past slots t seen f at
    → LookFinds slots t seen entered f look.Covered
looked_all slots t seen entered f at g w h p k i e =
    let o : k ≡ w.lit = one_lit slots t seen entered f g w k i e in
    subst (λ (z : Literal). has (covered_of slots t seen) z ≡ true) (sym o)
    (all_fine slots t seen w.lit f.reason g w.on (ap (reason_in (entries (levels_of t))) w.var ∙ w.reason) (λ m j n. p w.lit w.on w.var m (subst (λ (c : Clause). In c m) (sym (take_all (clause_of slots f.reason.0) at h)) j) n))

pub looked_none : (slots : Slots) (t : Levels) (seen entered : List ℕ) (f : Frame) (m : Literal) → Grounds slots t → FrameFits slots t seen entered f → In (clause_of slots f.reason.0) m → (m.var ≡ f.var → ⊥)
    → has_number seen m.var ≡ false → has (covered_of slots t seen) (negated m) ≡ false → LookFinds slots t seen entered f look.Uncovered
looked_none slots t seen entered f m g w j n h c k i e =
    let o : k ≡ w.lit = one_lit slots t seen entered f g w k i e in
    subst (λ (z : Literal). has (covered_of slots t seen) z ≡ false) (sym o)
    (one_not slots t seen w.lit m f.reason g w.on (ap (reason_in (entries (levels_of t))) w.var ∙ w.reason) j (λ q. n (ap (λ (z : Literal). z.var) q ∙ w.var)) h c)

pub frame_other : (slots : Slots) (t : Levels) (seen entered : List ℕ) (f : Frame) (m : Literal) → Grounds slots t → (w : FrameFits slots t seen entered f) → In (clause_of slots f.reason.0) m → (m.var ≡ f.var → ⊥) → Other slots t w.lit m
frame_other slots t seen entered f m g w j n =
    other slots t w.lit m f.reason g w.on (ap (reason_in (entries (levels_of t))) w.var ∙ w.reason) j (λ q. n (ap (λ (z : Literal). z.var) q ∙ w.var))

pub frame_own : (slots : Slots) (t : Levels) (seen entered : List ℕ) (f : Frame) (m k : Literal) → Grounds slots t → FrameFits slots t seen entered f → In (clause_of slots f.reason.0) m → m.var ≡ f.var
    → In (lits (middle_of (levels_of t))) k → k.var ≡ f.var → m ≡ k
frame_own slots t seen entered f m k g w j v i e =
    own_literal slots t w.lit m f.reason g w.on (ap (reason_in (entries (levels_of t))) w.var ∙ w.reason) j (v ∙ sym w.var) ∙ sym (one_lit slots t seen entered f g w k (middle_low slots t k g i) e)

-- ---- the stack

take_none : (c : Clause) → ◌≡◌ {A = Clause} (take 0 c) []
take_none c = refl

stacked_front : (low : Clause) (fs : List Frame) (f : Frame) → Stacked low (fs ++ f ∷ []) → Stacked low fs × ((g : Frame) → In fs g → height_in low f.var < height_in low g.var)
stacked_front low [] f s = (tt, λ g i. absurd i)
stacked_front low (x ∷ fs) f s =
    let r : Stacked low fs × ((g : Frame) → In fs g → height_in low f.var < height_in low g.var) = stacked_front low fs f s.1 in (
      ((λ g i. s.0 g (in_append_left fs (f ∷ []) g i)), r.0),
      λ g i. elim i [
        | inl e ↦ subst (λ (z : Frame). height_in low f.var < height_in low z.var) (sym e) (s.0 f (in_append_right fs (f ∷ []) f (inl refl)))
        | inr j ↦ r.1 g j
      ],
    )

stacked_more : (low : Clause) (fs : List Frame) (f : Frame) → Stacked low fs → ((g : Frame) → In fs g → height_in low f.var < height_in low g.var) → Stacked low (fs ++ f ∷ [])
stacked_more low [] f s h = ((λ g i. absurd i), tt)
stacked_more low (x ∷ fs) f s h = (
  λ g i. elim (in_append_cases fs (f ∷ []) g i) [
    | inl j ↦ s.0 g j
    | inr (inl e) ↦ subst (λ (z : Frame). height_in low z.var < height_in low x.var) (sym e) (h x (inl refl))
    | inr (inr j) ↦ absurd j
  ],
  stacked_more low fs f s.1 (λ g i. h g (inr i)),
)

-- what the search knows while the last frame is looked at
pub knows_below : (slots : Slots) (t : Levels) (seen entered covered : List ℕ) (stack : List Frame) (f : Frame) → Searched slots t seen entered covered (stack ++ f ∷ [])
    → (k : Literal) → In (lower_lits (levels_of t)) k → height_in (lower_lits (levels_of t)) k.var < height_in (lower_lits (levels_of t)) f.var → Knows slots t seen entered covered k
knows_below slots t seen entered covered stack f s k i p =
    let o = stacked_front (lower_lits (levels_of t)) stack f s.order in
    record {
      yes = λ h. s.sound k i h;
      no = λ h c. s.done k i h c (λ x j e. elim (in_append_cases stack (f ∷ []) x j) [
        | inl m ↦ let q = o.1 x m in omega (arith, q, p, ap (height_in (lower_lits (levels_of t))) e)
        | inr (inl m) ↦ omega (arith, p, ap (height_in (lower_lits (levels_of t))) (ap (λ (z : Frame). z.var) (sym m) ∙ e))
        | inr (inr m) ↦ m
      ]);
    }

-- between two searches nothing is on the stack
pub knows_now : (slots : Slots) (t : Levels) (seen entered covered : List ℕ) → Searched slots t seen entered covered [] → (k : Literal) → In (lower_lits (levels_of t)) k → Knows slots t seen entered covered k
knows_now slots t seen entered covered s k i = record { yes = λ h. s.sound k i h; no = λ h c. s.done k i h c (λ x j e. j) }

pub last_fits : (slots : Slots) (t : Levels) (seen entered covered : List ℕ) (stack : List Frame) (f : Frame) → Searched slots t seen entered covered (stack ++ f ∷ []) → FrameFits slots t seen entered f
last_fits slots t seen entered covered stack f s = s.frames f (in_append_right stack (f ∷ []) f (inl refl))

front_fits : (slots : Slots) (t : Levels) (seen entered covered : List ℕ) (stack : List Frame) (f : Frame) → Searched slots t seen entered covered (stack ++ f ∷ []) → (x : Frame) → In stack x → FrameFits slots t seen entered x
front_fits slots t seen entered covered stack f s x i = s.frames x (in_append_left stack (f ∷ []) x i)

front_few : (slots : Slots) (t : Levels) (seen entered covered : List ℕ) (stack : List Frame) (f : Frame) → Searched slots t seen entered covered (stack ++ f ∷ []) → length stack + 1 ≤ length entered
front_few slots t seen entered covered stack f s = omega (arith, s.few, length-append stack (f ∷ []))

-- it is covered
pub search_covered : (slots : Slots) (t : Levels) (seen entered covered more : List ℕ) (stack : List Frame) (f : Frame) → Searched slots t seen entered covered (stack ++ f ∷ [])
    → LookFinds slots t seen entered f look.Covered → more ≡ adjoined covered f.var → Searched slots t seen entered more stack
search_covered slots t seen entered covered more stack f s h e = record {
  sound = λ k i c. elim (joined_from covered f.var k.var (sym (ap (λ (z : List ℕ). has_number z k.var) e) ∙ c)) [ inl q ↦ s.sound k i q | inr q ↦ h k i q ];
  done = λ k i n c o.
      let d : has_number covered k.var ≡ false = false_from_ne_true (has_number covered k.var) (λ q.
      true≢false (sym (ap (λ (z : List ℕ). has_number z k.var) e ∙ joined_holds covered f.var k.var q) ∙ c)) in
      s.done k i n d (λ x j v. elim (in_append_cases stack (f ∷ []) x j) [
        | inl m ↦ o x m v
        | inr (inl m) ↦
            let q : k.var ≡ f.var = sym v ∙ ap (λ (z : Frame). z.var) m in
            true≢false (sym (ap (λ (z : List ℕ). has_number z k.var) e ∙ ap (has_number (adjoined covered f.var)) q ∙ joined_own covered f.var) ∙ c)
        | inr (inr m) ↦ m
      ]);
  frames = front_fits slots t seen entered covered stack f s;
  order = (stacked_front (lower_lits (levels_of t)) stack f s.order).0;
  few = omega (arith, front_few slots t seen entered covered stack f s);
}

-- it is not covered
pub search_uncovered : (slots : Slots) (t : Levels) (seen entered covered : List ℕ) (stack : List Frame) (f : Frame) → Searched slots t seen entered covered (stack ++ f ∷ [])
    → LookFinds slots t seen entered f look.Uncovered → Searched slots t seen entered covered stack
search_uncovered slots t seen entered covered stack f s h = record {
  sound = s.sound;
  done = λ k i n c o. elim (cases_Bool (f.var == k.var)) [
    | inl e ↦ h k i (sym (eqb-true f.var k.var e))
    | inr e ↦ s.done k i n c (λ x j v. elim (in_append_cases stack (f ∷ []) x j) [
      | inl m ↦ o x m v
      | inr (inl m) ↦ true≢false (sym (eq-eqb f.var k.var (ap (λ (z : Frame). z.var) (sym m) ∙ v)) ∙ e)
      | inr (inr m) ↦ m
    ])
  ];
  frames = front_fits slots t seen entered covered stack f s;
  order = (stacked_front (lower_lits (levels_of t)) stack f s.order).0;
  few = omega (arith, front_few slots t seen entered covered stack f s);
}

fits_more : (slots : Slots) (t : Levels) (seen entered more : List ℕ) (f : Frame) → ((x : ℕ) → has_number entered x ≡ true → has_number more x ≡ true) → FrameFits slots t seen entered f → FrameFits slots t seen more f
fits_more slots t seen entered more f g w = record { lit = w.lit; on = w.on; var = w.var; reason = w.reason; there = g f.var w.there; past = w.past }

-- one frame more
pub search_enter : (slots : Slots) (t : Levels) (seen entered covered more : List ℕ) (stack : List Frame) (f : Frame) → Searched slots t seen entered covered stack → has_number entered f.var ≡ false
    → (k : Literal) → In (lits (middle_of (levels_of t))) k → k.var ≡ f.var → reason_in (entries (levels_of t)) f.var ≡ Some f.reason → f.at ≡ 0 → more ≡ adjoined entered f.var → length more ≡ length entered + 1
    → ((g : Frame) → In stack g → height_in (lower_lits (levels_of t)) f.var < height_in (lower_lits (levels_of t)) g.var) → Searched slots t seen more covered (stack ++ f ∷ [])
search_enter slots t seen entered covered more stack f s n k i v r z e l p =
    let grows : (x : ℕ) → has_number entered x ≡ true → has_number more x ≡ true = λ x h. ap (λ (y : List ℕ). has_number y x) e ∙ joined_holds entered f.var x h in
    record {
      sound = s.sound;
      done = λ m j h c o. elim (joined_from entered f.var m.var (sym (ap (λ (y : List ℕ). has_number y m.var) e) ∙ h)) [
        | inl q ↦ s.done m j q c (λ x y w. o x (in_append_left stack (f ∷ []) x y) w)
        | inr q ↦ absurd (o f (in_append_right stack (f ∷ []) f (inl refl)) (sym q))
      ];
      frames = λ x j. elim (in_append_cases stack (f ∷ []) x j) [
        | inl m ↦ fits_more slots t seen entered more x grows (s.frames x m)
        | inr (inl m) ↦ subst (FrameFits slots t seen more) (sym m) (record {
          lit = k;
          on = i;
          var = v;
          reason = r;
          there = ap (λ (y : List ℕ). has_number y f.var) e ∙ joined_own entered f.var;
          past = λ y q. absurd (subst (λ (c : Clause). In c y) (ap (λ (b : ℕ). take b (clause_of slots f.reason.0)) z ∙ take_none (clause_of slots f.reason.0)) q);
        })
        | inr (inr m) ↦ absurd m
      ];
      order = stacked_more (lower_lits (levels_of t)) stack f s.order p;
      few = omega (arith, s.few, l, length-append stack (f ∷ []));
    }

-- the last frame moves on
pub search_moved : (slots : Slots) (t : Levels) (seen entered covered : List ℕ) (stack : List Frame) (f h : Frame) → Grounds slots t → Searched slots t seen entered covered (stack ++ f ∷ []) → h.var ≡ f.var
    → h.reason ≡ f.reason → Past slots t seen f h.at → Searched slots t seen entered covered (stack ++ h ∷ [])
search_moved slots t seen entered covered stack f h g s v r p =
    let w : FrameFits slots t seen entered f = last_fits slots t seen entered covered stack f s in
    let o = stacked_front (lower_lits (levels_of t)) stack f s.order in
    record {
      sound = s.sound;
      done = λ k i n c q. s.done k i n c (λ x j e. elim (in_append_cases stack (f ∷ []) x j) [
        | inl m ↦ q x (in_append_left stack (h ∷ []) x m) e
        | inr (inl m) ↦ q h (in_append_right stack (h ∷ []) h (inl refl)) (v ∙ ap (λ (z : Frame). z.var) (sym m) ∙ e)
        | inr (inr m) ↦ m
      ]);
      frames = λ x j. elim (in_append_cases stack (h ∷ []) x j) [
        | inl m ↦ s.frames x (in_append_left stack (f ∷ []) x m)
        | inr (inl m) ↦ subst (FrameFits slots t seen entered) (sym m) (record {
          lit = w.lit;
          on = w.on;
          var = w.var ∙ sym v;
          reason = ap (reason_in (entries (levels_of t))) v ∙ w.reason ∙ ap Some (sym r);
          there = ap (has_number entered) v ∙ w.there;
          past = λ y q n. p w.lit w.on w.var y (subst (λ (z : ClauseId). In (take h.at (clause_of slots z.0)) y) r q) n;
        })
        | inr (inr m) ↦ absurd m
      ];
      order = stacked_more (lower_lits (levels_of t)) stack h o.0 (λ x i. subst (λ (z : ℕ). height_in (lower_lits (levels_of t)) z < height_in (lower_lits (levels_of t)) x.var) (sym v) (o.1 x i));
      few = omega (arith, s.few, length-append stack (f ∷ []), length-append stack (h ∷ []));
    }

-- the last frame waits for another
pub search_waits : (slots : Slots) (t : Levels) (seen entered covered more : List ℕ) (stack : List Frame) (f h n : Frame) → Grounds slots t → Searched slots t seen entered covered (stack ++ f ∷ [])
    → LookFinds slots t seen entered f (look.Waits h.at n.var n.reason) → h.var ≡ f.var → h.reason ≡ f.reason → n.at ≡ 0 → more ≡ adjoined entered n.var → length more ≡ length entered + 1
    → Searched slots t seen more covered ((stack ++ h ∷ []) ++ n ∷ [])
search_waits slots t seen entered covered more stack f h n g s w v r z e l =
    let o = stacked_front (lower_lits (levels_of t)) stack f s.order in
    search_enter slots t seen entered covered more (stack ++ h ∷ []) n (search_moved slots t seen entered covered stack f h g s v r w.past) w.fresh w.next w.on w.var w.reason z e l
    (λ x i. elim (in_append_cases stack (h ∷ []) x i) [
      | inl m ↦ let q = o.1 x m in omega (arith, q, w.earlier)
      | inr (inl m) ↦ omega (arith, w.earlier, ap (height_in (lower_lits (levels_of t))) (ap (λ (y : Frame). y.var) m ∙ v))
      | inr (inr m) ↦ absurd m
    ])

pub low_within : (t : Levels) → IsSound t → (k : Literal) → In (lower_lits (levels_of t)) k → k.var ≤ t.variables
low_within t s k i = (s.within k (subst (λ (c : Clause). In c k) (sym (trail_split t)) (in_append_left (lower_lits (levels_of t)) (last_lits (levels_of t)) k i))).1

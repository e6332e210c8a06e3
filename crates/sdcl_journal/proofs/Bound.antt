-- A path learns fewer than 9 ^ V clauses.
use Rattle.std.proofs.Common.{◌≡◌, Bool, true, false, not, cond, List, [], ◌∷◌, ◌++◌, length, ◌⊎◌, inl, inr, refl, sym, ap, subst, ◌∙◌, ℕ, zero, suc, ◌==◌, ◌+◌, ◌*◌, ◌≤◌, ◌<◌, arith, take, ◌^◌, nat_le, length-append}
use Rattle.std.proofs.Math.Nat.{pow-succ', mul-le-mul_left}
use Rattle.std.proofs.lemmas.Bool.{and_parts, false≢true, true≢false, cases_Bool, cases_lt, not-true, leb-true}
use Rattle.std.specs.List.{list_any}
use Rattle.sdcl_base.proofs.In.{in_append_right, in_append_cases, in_map_from, all_in, all_from, any_in, any_from, in_has}
use Rattle.sdcl_base.proofs.SameSets.{set_sub, set_sym}
use Rattle.sdcl_base.specs.Literal.{Literal, negated, Clause, has, subset, same_set, has_pair, complements}
use Rattle.sdcl_base.specs.Redundancy.{is_new}
use Rattle.sdcl_base.specs.Sets.{In}
use Rattle.sdcl_io.proofs.Removing.{one, copies, copies_append, in_copies, copies_in, copies_removed, in_removed}
use Rattle.sdcl_io.specs.Step.{remove_clause}
use Rattle.sdcl_journal.proofs.Counting.{length_removed, Clean, at_most}
use Rattle.sdcl_journal.specs.Machine.{Rules, Turn, Search, Back_due, Forgetting, Done, RunState, Event, Decide, NoWitness, InnerSpent, Learn, LearnWitness, Back, Forget, Empty, Model, Unknown, database, start, in_range, reduction_due, may_search, may_forget, Allowed, closed_by_turn, closed, with_learned, turn_after_back, one_more_gone, after, after_all, PathFrom, Path}

-- how many clauses have gone in this turn
abbrev pub gone_of : Turn → ℕ
gone_of Search = 0
gone_of Back_due = 0
gone_of (Forgetting stood gone) = gone
gone_of Done = 0

pub record Inv (r : Rules) (s : RunState) : Type 0 where
  pub decided : (l : Literal) → In s.decisions l → (1 ≤ l.var) × (l.var ≤ r.variables)
  pub clean : (c : Clause) → In s.learned c → Clean r.variables c
  pub apart : (d : Clause) → copies s.learned d ≤ 1
  pub room : length s.learned + gone_of s.turn ≤ 3 ^ r.variables
  pub fresh : s.since ≤ length s.learned + gone_of s.turn
  pub due : (gone_of s.turn ≡ 0) ⊎ (2000 + 300 * s.reductions ≤ s.since)
  pub made : (s.reductions ≡ 0) ⊎ (1700 + 300 * s.reductions ≤ 3 ^ r.variables)
  pub total : s.learned_count ≤ s.reductions * 3 ^ r.variables + s.since

pub start_inv : (r : Rules) (f : List Clause) → Inv r (start f)
start_inv r f = record {
  decided = λ l i. absurd i;
  clean = λ c i. absurd i;
  apart = λ d. omega arith;
  room = omega arith;
  fresh = omega arith;
  due = inl refl;
  made = inl refl;
  total = omega arith;
}

-- a state that the next event of the turn search finds
pub record Ready (r : Rules) (s : RunState) : Type 0 where
  pub inv : Inv r s
  pub none : gone_of s.turn ≡ 0

pub made_more : (k m since : ℕ) → (k ≡ 0) ⊎ (1700 + 300 * k ≤ m) → 2000 + 300 * k ≤ since → since ≤ m → 1700 + 300 * (k + 1) ≤ m
made_more k m since h d l = omega arith

pub total_more : (c k m since : ℕ) → c ≤ k * m + since → since ≤ m → c ≤ (k + 1) * m + 0
total_more c k m since h l = omega arith

pub closed_ready : (r : Rules) (t : Turn) (s : RunState) → s.turn ≡ t → may_search t ≡ true → Inv r s → Ready r (closed_by_turn t s)
closed_ready r Search s e m i = record { inv = i; none = ap gone_of e }
closed_ready r Back_due s e m i = absurd (false≢true m)
closed_ready r Done s e m i = absurd (false≢true m)
closed_ready r (Forgetting stood zero) s e m i =
    let g : gone_of s.turn ≡ 0 = ap gone_of e in
    record {
      inv = record {
        decided = i.decided;
        clean = i.clean;
        apart = i.apart;
        room = omega (arith, i.room);
        fresh = omega (arith, i.fresh, g);
        due = inl refl;
        made = i.made;
        total = i.total;
      };
      none = refl;
    }
closed_ready r (Forgetting stood (suc gone)) s e m i =
    let g : gone_of s.turn ≡ suc gone = ap gone_of e in
    let d : 2000 + 300 * s.reductions ≤ s.since = elim i.due [ inl z ↦ absurd (omega arith) | inr z ↦ z ] in
    let n : s.since ≤ 3 ^ r.variables = omega (arith, i.fresh, i.room) in
    record {
      inv = record {
        decided = i.decided;
        clean = i.clean;
        apart = i.apart;
        room = omega (arith, i.room);
        fresh = omega arith;
        due = inl refl;
        made = inr (made_more s.reductions (3 ^ r.variables) s.since i.made d n);
        total = total_more s.learned_count s.reductions (3 ^ r.variables) s.since i.total n;
      };
      none = refl;
    }

pub same_subset : (b d c : Clause) → same_set b d ≡ true → same_set c d ≡ true → subset b c ≡ true
same_subset b d c h k = all_from (has c) b (λ l i. in_has c l ((set_sub c d k).1 l ((set_sub b d h).0 l i)))

-- a new clause is no copy of one that stands
pub new_apart : (f cs : List Clause) (c : Clause) → is_new (f ++ cs) c ≡ true → ((d : Clause) → copies cs d ≤ 1) → (d : Clause) → copies (cs ++ c ∷ []) d ≤ 1
unfolding is_new
new_apart f cs c h a d =
    let n : (not (has_pair c) ≡ true) × (not (list_any (λ d. subset d c) (f ++ cs)) ≡ true) = and_parts (not (has_pair c)) (not (list_any (λ d. subset d c) (f ++ cs))) h in
    elim (cases_Bool (same_set c d)) [
      | inr e ↦ let o : one (same_set c d) ≡ 0 = ap one e in omega (arith, copies_append cs (c ∷ []) d, a d, o)
      | inl e ↦
          let z : copies cs d ≤ 0 = elim (cases_lt 0 (copies cs d)) [
            | inl k ↦
                let b : (b : Clause) × In cs b × (same_set b d ≡ true) = copies_in cs d k in
                absurd (true≢false (sym (any_in (λ d. subset d c) (f ++ cs) b.0 (in_append_right f cs b.0 b.1)
                (same_subset b.0 d c b.2 e)) ∙ not-true (list_any (λ d. subset d c) (f ++ cs)) n.1))
            | inr k ↦ k
          ] in
          let o : one (same_set c d) ≡ 1 = ap one e in
          omega (arith, copies_append cs (c ∷ []) d, o)
    ]

pub new_no_pair : (f : List Clause) (c : Clause) → is_new f c ≡ true → has_pair c ≡ false
unfolding is_new
new_no_pair f c h = not-true (has_pair c) (and_parts (not (has_pair c)) (not (list_any (λ d. subset d c) f)) h).0

-- one more learned clause
pub joined_inv : (r : Rules) (s : RunState) (c : Clause) → Ready r s → is_new (s.formula ++ s.learned) c ≡ true → Clean r.variables c → Inv r (with_learned s c)
joined_inv r s c i n h =
    let clean : (d : Clause) → In (s.learned ++ c ∷ []) d → Clean r.variables d =
    λ d j. elim (in_append_cases s.learned (c ∷ []) d j) [ inl k ↦ i.inv.clean d k | inr (inl q) ↦ subst (Clean r.variables) (sym q) h | inr (inr q) ↦ absurd q ] in
    let apart : (d : Clause) → copies (s.learned ++ c ∷ []) d ≤ 1 = new_apart s.formula s.learned c n i.inv.apart in
    record {
      decided = i.inv.decided;
      clean = clean;
      apart = apart;
      room = omega (arith, at_most r.variables (s.learned ++ c ∷ []) apart clean);
      fresh = omega (arith, i.inv.fresh, i.none, length-append s.learned (c ∷ []));
      due = inl refl;
      made = i.inv.made;
      total = omega (arith, i.inv.total);
    }

pub record Same (s t : RunState) : Type 0 where
  pub formula : t.formula ≡ s.formula
  pub learned : t.learned ≡ s.learned
  pub decisions : t.decisions ≡ s.decisions

pub closed_same : (t : Turn) (s : RunState) → Same s (closed_by_turn t s)
closed_same Search s = record { formula = refl; learned = refl; decisions = refl }
closed_same Back_due s = record { formula = refl; learned = refl; decisions = refl }
closed_same Done s = record { formula = refl; learned = refl; decisions = refl }
closed_same (Forgetting stood zero) s = record { formula = refl; learned = refl; decisions = refl }
closed_same (Forgetting stood (suc gone)) s = record { formula = refl; learned = refl; decisions = refl }

-- other decisions, flag and turn
pub kept : (r : Rules) (s : RunState) (ds : Clause) (tried : Bool) (turn : Turn) → Ready r s → gone_of turn ≡ 0 → ((l : Literal) → In ds l → (1 ≤ l.var) × (l.var ≤ r.variables))
    → Inv r (record s { decisions = ds; tried = tried; turn = turn })
kept r s ds tried turn i g h = record {
  decided = h;
  clean = i.inv.clean;
  apart = i.inv.apart;
  room = omega (arith, i.inv.room, g);
  fresh = omega (arith, i.inv.fresh, i.none, g);
  due = inl g;
  made = i.inv.made;
  total = i.inv.total;
}

pub range_is : (r : Rules) (x : ℕ) → in_range r x ≡ true → (1 ≤ x) × (x ≤ r.variables)
range_is r x h = let p : (nat_le 1 x ≡ true) × (nat_le x r.variables ≡ true) = and_parts (nat_le 1 x) (nat_le x r.variables) h in (leb-true 1 x p.0, leb-true x r.variables p.1)

pub ready : (r : Rules) (s : RunState) → Inv r s → may_search s.turn ≡ true → Ready r (closed s)
ready r s i m = closed_ready r s.turn s refl m i

pub added_range : (r : Rules) (ds : Clause) (l : Literal) → ((m : Literal) → In ds m → (1 ≤ m.var) × (m.var ≤ r.variables)) → (1 ≤ l.var) × (l.var ≤ r.variables)
    → (m : Literal) → In (ds ++ l ∷ []) m → (1 ≤ m.var) × (m.var ≤ r.variables)
added_range r ds l h k m i =
    elim (in_append_cases ds (l ∷ []) m i) [ inl j ↦ h m j | inr (inl e) ↦ subst (λ z. (1 ≤ z.var) × (z.var ≤ r.variables)) (sym e) k | inr (inr j) ↦ absurd j ]

pub in_take : {A : Type 0} (k : ℕ) (xs : List A) (x : A) → In (take k xs) x → In xs x
in_take zero xs x i = absurd i
in_take (suc k) [] x i = absurd i
in_take (suc k) (y ∷ xs) x (inl e) = inl e
in_take (suc k) (y ∷ xs) x (inr i) = inr (in_take k xs x i)

-- whichever state the event is met in
pub new_at : (s t : RunState) (c : Clause) → Same s t → is_new (database s) c ≡ true → is_new (t.formula ++ t.learned) c ≡ true
new_at s t c e h = subst (λ f. is_new (f ++ t.learned) c ≡ true) (sym e.formula) (subst (λ g. is_new (s.formula ++ g) c ≡ true) (sym e.learned) h)

pub cond_gone : (b : Bool) (n : ℕ) → gone_of (cond b (Forgetting n 0) Search) ≡ 0
cond_gone true n = refl
cond_gone false n = refl

pub back_gone : (s : RunState) (k : ℕ) → gone_of (turn_after_back s k) ≡ 0
back_gone s k = cond_gone (k == 0) (length s.learned)

pub forget_inv : (r : Rules) (s : RunState) (d : Clause) (t : Turn) → s.turn ≡ t → may_forget t ≡ true → 2000 + 300 * s.reductions ≤ s.since → 0 < copies s.learned d → Inv r s
    → Inv r (record s { learned = remove_clause s.learned d; turn = one_more_gone t })
forget_inv r s d Search e m k n i = absurd (false≢true m)
forget_inv r s d Back_due e m k n i = absurd (false≢true m)
forget_inv r s d Done e m k n i = absurd (false≢true m)
forget_inv r s d (Forgetting stood gone) e m k n i =
    let g : gone_of s.turn ≡ gone = ap gone_of e in
    let l : length (remove_clause s.learned d) + 1 ≡ length s.learned = length_removed s.learned d n in
    record {
      decided = i.decided;
      clean = λ c j. i.clean c (in_removed s.learned d c j);
      apart = λ c. omega (arith, i.apart c, copies_removed s.learned d c);
      room = omega (arith, i.room, g, l);
      fresh = omega (arith, i.fresh, g, l);
      due = inr k;
      made = i.made;
      total = i.total;
    }

-- each allowed event keeps it
pub after_inv : (r : Rules) (s : RunState) (e : Event) → Allowed r s e → Inv r s → Inv r (after s e)
unfolding Allowed after reduction_due
after_inv r s (Decide l) a i =
    let q : Ready r (closed s) = ready r s i a.turn in
    kept r (closed s) (s.decisions ++ l ∷ []) false (closed s).turn q q.none (added_range r s.decisions l i.decided (range_is r l.var a.ranged))
after_inv r s NoWitness a i = let q : Ready r (closed s) = ready r s i a.0.turn in kept r (closed s) (closed s).decisions true (closed s).turn q q.none q.inv.decided
after_inv r s (InnerSpent v) a i = let q : Ready r (closed s) = ready r s i a.0.turn in kept r (closed s) (closed s).decisions true (closed s).turn q q.none q.inv.decided
after_inv r s (Learn c) a i =
    joined_inv r (closed s) c (ready r s i a.turn) (new_at s (closed s) c (closed_same s.turn s) a.fresh)
    (record { no_pair = new_no_pair (database s) c a.fresh; in_range = λ l j. range_is r l.var (all_in (λ l. in_range r l.var) c l a.ranged j) })
after_inv r s (LearnWitness c w) a i =
    joined_inv r (closed s) c (ready r s i a.turn) (new_at s (closed s) c (closed_same s.turn s) a.fresh)
    (record {
      no_pair = new_no_pair (database s) c a.fresh;
      in_range = λ l j.
          let k : (m : Literal) × In s.decisions m × (l ≡ negated m) = in_map_from negated s.decisions l ((set_sub c (complements s.decisions) a.own).0 l j) in
          subst (λ x. (1 ≤ x) × (x ≤ r.variables)) (sym (ap (λ (z : Literal). z.var) k.2)) (i.decided k.0 k.1);
    })
after_inv r s (Back k) a i =
    kept r s (take k s.decisions) false (turn_after_back s k) (record { inv = i; none = ap gone_of a.0 }) (back_gone s k) (λ l j. i.decided l (in_take k s.decisions l j))
after_inv r s (Forget d) a i =
    let c : (c : Clause) × In s.learned c × (same_set d c ≡ true) = any_from (same_set d) s.learned a.2 in
    forget_inv r s d s.turn refl a.0 (leb-true (2000 + 300 * s.reductions) s.since a.1) (in_copies s.learned c.0 d c.1 (set_sym d c.0 c.2)) i
after_inv r s Empty a i = let q : Ready r (closed s) = ready r s i a.0 in kept r (closed s) (closed s).decisions (closed s).tried Done q refl q.inv.decided
after_inv r s Model a i = let q : Ready r (closed s) = ready r s i a.0 in kept r (closed s) (closed s).decisions (closed s).tried Done q refl q.inv.decided
after_inv r s Unknown a i = let q : Ready r (closed s) = ready r s i a.0 in kept r (closed s) (closed s).decisions (closed s).tried Done q refl q.inv.decided

pub path_inv : (r : Rules) (s : RunState) (es : List Event) → PathFrom r s es → Inv r s → Inv r (after_all s es)
unfolding PathFrom after_all
path_inv r s [] p i = i
path_inv r s (e ∷ es) p i = path_inv r (after s e) es p.1 (after_inv r s e p.0 i)

pub squares : (a : ℕ) → 9 * (a * a) ≡ (3 * a) * (3 * a)
squares a = omega arith

pub three_at_least : (n : ℕ) → 1 ≤ n → 3 ≤ 3 ^ n
three_at_least zero h = absurd (omega arith)
three_at_least (suc zero) h = omega arith
three_at_least (suc (suc n)) h = omega (arith, three_at_least (suc n) (omega arith), pow-succ' 3 (suc n))

pub nine : (n : ℕ) → 9 ^ n ≡ 3 ^ n * 3 ^ n
nine zero = refl
nine (suc n) = pow-succ' 9 n ∙ ap (λ k. 9 * k) (nine n) ∙ squares (3 ^ n) ∙ sym (ap (λ k. k * k) (pow-succ' 3 n))

pub fewer : (c k m since : ℕ) → 3 ≤ m → c ≤ k * m + since → since ≤ m → (k ≡ 0) ⊎ (1700 + 300 * k ≤ m) → c < m * m
fewer c k m since h t l e =
    let n : k + 2 ≤ m = elim e [ inl z ↦ omega arith | inr z ↦ omega arith ] in
    omega (arith, mul-le-mul_left m n)

-- every path over at least one variable learns fewer than 9 ^ V clauses
pub path_bound : (r : Rules) (f : List Clause) (es : List Event) → 1 ≤ r.variables → Path r f es → (after_all (start f) es).learned_count < 9 ^ r.variables
unfolding Path
path_bound r f es v p =
    let i : Inv r (after_all (start f) es) = path_inv r (start f) es p (start_inv r f) in
    let s : RunState = after_all (start f) es in
    subst (λ n. (after_all (start f) es).learned_count < n) (sym (nine r.variables))
    (fewer (after_all (start f) es).learned_count (after_all (start f) es).reductions (3 ^ r.variables) (after_all (start f) es).since (three_at_least r.variables v) i.total
    (omega (arith, i.fresh, i.room)) i.made)

-- The converted proof, step by step, where each block takes the next variable.
use Rattle.std.proofs.Common.{◌≡◌, ◌≤◌, ◌<◌, ◌+◌, ℕ, max, Bool, true, false, not, cond, List, [], ◌∷◌, ◌++◌, map, ◌⊎◌, inl, inr, refl, sym, ap, subst, ◌∙◌, arith, append_assoc, append-nil}
use Rattle.std.specs.List.{list_any, filter, flat_map}
use Rattle.std.proofs.lemmas.Bool.{or_parts, cond-false}
use Rattle.std.proofs.lemmas.List.Folds.{list_any-append}
use Rattle.sdcl_base.specs.Literal.{Literal, Clause, pos_lit, neg_lit, negated, has, without_complements}
use Rattle.sdcl_base.specs.Sets.{In, WithinVariables}
use Rattle.sdcl_base.proofs.In.{in_append_cases, in_filter_from, in_map_from}
use Rattle.sdcl_io.specs.Step.{Step, Add, AddWitness, Delete, All, idle, remove_clause, apply, apply_all, adds_empty}
use Rattle.sdcl_prcheck.specs.Checking.{EndsEmpty}
use Rattle.sdcl_convert.specs.Conversion.{reduced, shaken, reduced_lines, implied, block, lines_of, converted_apart, next_variable, has_witness}
use Rattle.sdcl_convert.specs.Checked.{witnesses, greatest_from, greatest_with, greatest_over}
use Rattle.sdcl_convert.specs.Laws.{Below, AllBelow, StepBelow, StepsBelow}
use Rattle.sdcl_convert.proofs.Told.{apply_none, apply_on}
use Rattle.sdcl_convert.proofs.Whole.{in_removed}

-- ---- one step after another

pub next_is : (s : Step) (x : ℕ) → next_variable s x ≡ x + witnesses (s ∷ [])
next_is (Add c) x = omega arith
next_is (AddWitness c w) x = omega arith
next_is (Delete c) x = omega arith

pub witnesses_on : (ss more : List Step) → witnesses (ss ++ more) ≡ witnesses ss + witnesses more
witnesses_on [] more = omega arith
witnesses_on (Add c ∷ ss) more = witnesses_on ss more
witnesses_on (AddWitness c w ∷ ss) more = omega (arith, witnesses_on ss more)
witnesses_on (Delete c ∷ ss) more = witnesses_on ss more

pub witnesses_first : (s : Step) (ss : List Step) (x : ℕ) → next_variable s x + witnesses ss ≡ x + witnesses (s ∷ ss)
witnesses_first (Add c) ss x = refl
witnesses_first (AddWitness c w) ss x = omega arith
witnesses_first (Delete c) ss x = refl

pub has_one : (s : Step) → has_witness s ≡ true → witnesses (s ∷ []) ≡ 1
has_one (Add c) h = absurd (cc)
has_one (AddWitness c w) h = refl
has_one (Delete c) h = absurd (cc)

-- the steps behind some of which none adds the empty clause
pub apart_on : (f : List Clause) (ss more : List Step) (x : ℕ) → list_any adds_empty ss ≡ false
    → converted_apart All f (ss ++ more) x ≡ converted_apart All f ss x ++ converted_apart All (apply_all All f (converted_apart All f ss x)) more (x + witnesses ss)
unfolding converted_apart
apart_on f [] more x h = ap (λ g. converted_apart All g more x) (apply_none f) ∙ ap (converted_apart All (apply_all All f []) more) (omega arith)
apart_on f (s ∷ ss) more x h =
    let p : (adds_empty s ≡ false) × (list_any adds_empty ss ≡ false) = or_parts (adds_empty s) (list_any adds_empty ss) h in
    let g : List Clause = apply_all All f (lines_of All f x s) in
    let y : ℕ = next_variable s x in
    let one : converted_apart All f (s ∷ ss) x ≡ lines_of All f x s ++ converted_apart All g ss y = ap (λ z. lines_of All f x s ++ z) (cond-false (adds_empty s) [] (converted_apart All g ss y) p.0) in
    ap (λ z. lines_of All f x s ++ z) (cond-false (adds_empty s) [] (converted_apart All g (ss ++ more) y) p.0 ∙ apart_on g ss more y p.1)
    ∙ sym (append_assoc (lines_of All f x s) (converted_apart All g ss y) (converted_apart All (apply_all All g (converted_apart All g ss y)) more (y + witnesses ss)))
    ∙ ap (λ z. lines_of All f x s ++ converted_apart All g ss y ++ converted_apart All z more (y + witnesses ss)) (sym (apply_on f (lines_of All f x s) (converted_apart All g ss y)))
    ∙ ap (λ z. lines_of All f x s ++ converted_apart All g ss y ++ converted_apart All (apply_all All f (lines_of All f x s ++ converted_apart All g ss y)) more z) (witnesses_first s ss x)
    ∙ ap (λ z. z ++ converted_apart All (apply_all All f z) more (x + witnesses (s ∷ ss))) (sym one)

-- what comes behind the lines of the first step
pub rest_of : (f : List Clause) (s : Step) (more : List Step) (x : ℕ) → List Step
unfolding converted_apart
rest_of f s more x = cond (adds_empty s) [] (converted_apart All (apply_all All f (lines_of All f x s)) more (next_variable s x))

pub apart_first : (f : List Clause) (s : Step) (more : List Step) (x : ℕ) → converted_apart All f (s ∷ more) x ≡ lines_of All f x s ++ rest_of f s more x
unfolding converted_apart rest_of
apart_first f s more x = refl

both_none : (b : Bool) (ss : List Step) → ss ≡ [] → cond b [] ss ≡ []
both_none true ss h = refl
both_none false ss h = h

pub apart_one : (f : List Clause) (s : Step) (x : ℕ) → converted_apart All f (s ∷ []) x ≡ lines_of All f x s
unfolding converted_apart
apart_one f s x = ap (λ z. lines_of All f x s ++ z) (both_none (adds_empty s) [] refl) ∙ append-nil (lines_of All f x s)

pub apart_none : (f : List Clause) (x : ℕ) → [] ≡ converted_apart All f [] x
unfolding converted_apart
apart_none f x = refl

-- ---- where the first empty clause is added

before_last : (pre post earlier : List Step) (s last : Step) → pre ++ (s ∷ post) ≡ earlier ++ last ∷ [] → list_any adds_empty earlier ≡ false → list_any adds_empty pre ≡ false
before_last [] post earlier s last e h = refl
before_last (p ∷ []) post [] s last e h = absurd (cc)
before_last (p ∷ (q ∷ pre)) post [] s last e h = absurd (cc)
before_last (p ∷ pre) post (t ∷ earlier) s last e h =
    let k : (adds_empty t ≡ false) × (list_any adds_empty earlier ≡ false) = or_parts (adds_empty t) (list_any adds_empty earlier) h in
    let same : p ≡ t = cc in
    let tails : pre ++ (s ∷ post) ≡ earlier ++ last ∷ [] = cc in
    rw (ap adds_empty same ∙ k.0) (before_last pre post earlier s last tails k.1)

pub none_before : (ss pre post : List Step) (s : Step) → EndsEmpty ss ⊎ (list_any adds_empty ss ≡ false) → ss ≡ pre ++ (s ∷ post) → list_any adds_empty pre ≡ false
none_before ss pre post s (inl e) h = before_last pre post e.0 s e.1 (sym h ∙ e.2) e.3
none_before ss pre post s (inr n) h = (or_parts (list_any adds_empty pre) (list_any adds_empty (s ∷ post)) (sym (list_any-append adds_empty pre (s ∷ post)) ∙ sym (ap (list_any adds_empty) h) ∙ n)).0

-- ---- the variables

below_on : (y : ℕ) (f : List Clause) (c : Clause) → AllBelow y f → Below y c → AllBelow y (f ++ c ∷ [])
below_on y f c b h d i = elim (in_append_cases f (c ∷ []) d i) [ inl j ↦ b d j | inr (inl e) ↦ subst (Below y) (sym e) h | inr (inr j) ↦ absurd j ]

applied_below : (f : List Clause) (ss : List Step) (y : ℕ) → AllBelow y f → StepsBelow y ss → AllBelow y (apply_all All f ss)
unfolding apply_all apply idle
applied_below f [] y b h = b
applied_below f (Add c ∷ ss) y b h = applied_below (f ++ c ∷ []) ss y (below_on y f c b h.0) h.1
applied_below f (AddWitness c w ∷ ss) y b h = applied_below (f ++ c ∷ []) ss y (below_on y f c b h.0.0) h.1
applied_below f (Delete c ∷ ss) y b h = applied_below (remove_clause f c) ss y (λ d i. b d (in_removed f c d i)) h.1

steps_on : (y : ℕ) (a b : List Step) → StepsBelow y a → StepsBelow y b → StepsBelow y (a ++ b)
steps_on y [] b h k = k
steps_on y (s ∷ a) b h k = (h.0, steps_on y a b h.1 k)

adds_below : (y : ℕ) (cs : List Clause) → ((c : Clause) → In cs c → Below y c) → StepsBelow y (map Add cs)
adds_below y [] h = tt
adds_below y (c ∷ cs) h = (h c (inl refl), adds_below y cs (λ d i. h d (inr i)))

deletes_below : (y : ℕ) (cs : List Clause) → StepsBelow y (map Delete cs)
deletes_below y [] = tt
deletes_below y (c ∷ cs) = (tt, deletes_below y cs)

front_below : (y : ℕ) (l : Literal) (c : Clause) → l.var < y → Below y c → Below y (l ∷ c)
front_below y l c h b m (inl e) = subst (λ (k : Literal). k.var < y) (sym e) h
front_below y l c h b m (inr i) = b m i

back_below : (y : ℕ) (l : Literal) (c : Clause) → l.var < y → Below y c → Below y (c ++ l ∷ [])
back_below y l c h b m i = elim (in_append_cases c (l ∷ []) m i) [ inl j ↦ b m j | inr (inl e) ↦ subst (λ (k : Literal). k.var < y) (sym e) h | inr (inr j) ↦ absurd j ]

pairs_below : (y x : ℕ) (es : List Clause) → x < y → ((e : Clause) → In es e → Below y e) → StepsBelow y (flat_map (λ e. Add (e ++ pos_lit x ∷ []) ∷ Delete e ∷ []) es)
pairs_below y x [] h b = tt
pairs_below y x (e ∷ es) h b = (back_below y (pos_lit x) e h (b e (inl refl)), (tt, pairs_below y x es h (λ d i. b d (inr i))))

more_below : (x : ℕ) (c : Clause) → Below x c → Below (x + 1) c
more_below x c b l i = let h : l.var < x = b l i in omega arith

pub above : (x : ℕ) → x < x + 1
above x = omega arith

block_below : (f : List Clause) (c w : Clause) (x : ℕ) → AllBelow x f → Below x c → Below x w → StepsBelow (x + 1) (block f c w x)
unfolding block
block_below f c w x b bc bw =
    steps_on (x + 1) _ _
    (steps_on (x + 1) _ _
    (steps_on (x + 1) _ _
    (steps_on (x + 1) _ _
    (steps_on (x + 1) _ _
    (steps_on (x + 1) _ _
    (adds_below (x + 1) (reduced_lines f w x) (λ d i.
    let r : (e : Clause) × In (filter (reduced w) f) e × (d ≡ neg_lit x ∷ without_complements e w) = in_map_from (λ e. neg_lit x ∷ without_complements e w) (filter (reduced w) f) d i in
    subst (Below (x + 1)) (sym r.2)
    (front_below (x + 1) (neg_lit x) (without_complements r.0 w) (above x)
    (λ l j. more_below x r.0 (b r.0 (in_filter_from (reduced w) f r.0 r.1).0) l (in_filter_from (λ k. not (has w (negated k))) r.0 l j).0))))
    (front_below (x + 1) (pos_lit x) c (above x) (more_below x c bc), tt))
    (pairs_below (x + 1) x (filter (shaken w) f) (above x) (λ e i. more_below x e (b e (in_filter_from (shaken w) f e i).0))))
    (adds_below (x + 1) (implied w x) (λ d i.
    let r : (l : Literal) × In w l × (d ≡ l ∷ neg_lit x ∷ []) = in_map_from (λ l. l ∷ neg_lit x ∷ []) w d i in
    subst (Below (x + 1)) (sym r.2) (front_below (x + 1) r.0 (neg_lit x ∷ []) (more_below x w bw r.0 r.1) (front_below (x + 1) (neg_lit x) [] (above x) (λ l j. absurd j))))))
    (adds_below (x + 1) (filter (shaken w) f) (λ e i. more_below x e (b e (in_filter_from (shaken w) f e i).0))))
    (more_below x c bc, tt))
    (deletes_below (x + 1) _)

lines_below : (f : List Clause) (x : ℕ) (s : Step) → AllBelow x f → StepBelow x s → StepsBelow (next_variable s x) (lines_of All f x s)
unfolding lines_of idle
lines_below f x (Add c) b h = (h, tt)
lines_below f x (AddWitness c w) b h = block_below f c w x b h.0 h.1
lines_below f x (Delete c) b h = (tt, tt)

clause_more : (x y : ℕ) (c : Clause) → x ≤ y → Below x c → Below y c
clause_more x y c h b l i = let k : l.var < x = b l i in omega arith

pub still_below : (f : List Clause) (x : ℕ) (s : Step) → AllBelow x f → AllBelow (next_variable s x) f
still_below f x (Add c) b d i = b d i
still_below f x (AddWitness c w) b d i = more_below x d (b d i)
still_below f x (Delete c) b d i = b d i

-- the clauses after the lines of a step
pub after_below : (f g : List Clause) (x y : ℕ) (s : Step) → AllBelow x f → StepBelow x s → g ≡ apply_all All f (lines_of All f x s) → y ≡ next_variable s x → AllBelow y g
after_below f g x y s b h e k =
    subst (λ z. AllBelow z g) (sym k) (subst (AllBelow (next_variable s x)) (sym e)
    (applied_below f (lines_of All f x s) (next_variable s x) (still_below f x s b) (lines_below f x s b h)))

-- the steps of a proof within its greatest variable

pub step_at : (x : ℕ) (pre post : List Step) (s : Step) → StepsBelow x (pre ++ (s ∷ post)) → StepBelow x s
step_at x [] post s h = h.0
step_at x (p ∷ pre) post s h = step_at x pre post s h.1

pub step_more : (x y : ℕ) (s : Step) → x ≤ y → StepBelow x s → StepBelow y s
step_more x y (Add c) h b = clause_more x y c h b
step_more x y (AddWitness c w) h b = (clause_more x y c h b.0, clause_more x y w h b.1)
step_more x y (Delete d) h b = tt

from_at_least : (n : ℕ) (c : Clause) → n ≤ greatest_from n c
from_at_least n [] = omega arith
from_at_least n (l ∷ c) = omega (arith, from_at_least (max n l.var) c)

from_above : (n : ℕ) (c : Clause) (l : Literal) → In c l → l.var ≤ greatest_from n c
from_above n [] l i = absurd i
from_above n (m ∷ c) l (inl e) = let k : l.var ≡ m.var = ap (λ (z : Literal). z.var) e in omega (arith, from_at_least (max n m.var) c)
from_above n (m ∷ c) l (inr i) = from_above (max n m.var) c l i

with_at_least : (n : ℕ) (s : Step) → n ≤ greatest_with n s
with_at_least n (Add c) = from_at_least n c
with_at_least n (AddWitness c w) = omega (arith, from_at_least n c, from_at_least (greatest_from n c) w)
with_at_least n (Delete c) = from_at_least n c

pub over_at_least : (n : ℕ) (ss : List Step) → n ≤ greatest_over n ss
over_at_least n [] = omega arith
over_at_least n (s ∷ ss) = omega (arith, with_at_least n s, over_at_least (greatest_with n s) ss)

step_within : (n m : ℕ) (s : Step) → greatest_with n s ≤ m → StepBelow (m + 1) s
step_within n m (Add c) h = λ l i. omega (arith, from_above n c l i)
step_within n m (AddWitness c w) h =
    ((λ l i. omega (arith, from_above n c l i, from_at_least (greatest_from n c) w)), (λ l i. omega (arith, from_above (greatest_from n c) w l i)))
step_within n m (Delete c) h = tt

pub steps_within : (n m : ℕ) (ss : List Step) → greatest_over n ss ≤ m → StepsBelow (m + 1) ss
steps_within n m [] h = tt
steps_within n m (s ∷ ss) h = (step_within n m s (omega (arith, over_at_least (greatest_with n s) ss)), steps_within (greatest_with n s) m ss h)

pub formula_within : (n m : ℕ) (f : List Clause) → WithinVariables n f → n ≤ m → AllBelow (m + 1) f
formula_within n m f w h d i l j = let b : l.var ≤ n = (w d l i j).1 in omega arith

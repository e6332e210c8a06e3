-- A verified proof with witnesses is converted into a verified proof without.
use Rattle.std.proofs.Common.{◌≡◌, Bool, true, false, not, ◌&&◌, ◌||◌, cond, List, [], ◌∷◌, ◌++◌, length, ◌⊎◌, inl, inr, refl, sym, ap, subst, ◌∙◌, ℕ, ◌+◌, ◌-◌, ◌<◌, ◌≤◌, arith}
use Rattle.std.specs.List.{list_all, filter}
use Rattle.std.proofs.lemmas.Bool.{and_parts, and_from, or_cases, or_left, or_right, false≢true, true≢false, cases_Bool, cond-true, cond-false, not_from_true, not_from_false, false_from_ne_true}
use Rattle.std.proofs.lemmas.List.Elements.{filter_agree}
use Rattle.sdcl_base.specs.Literal.{Literal, Clause, negated, same, has, has_pair, same_set, shares, complements, without, without_complements}
use Rattle.sdcl_base.specs.Propagation.{closure, refutes}
use Rattle.sdcl_base.specs.Redundancy.{rup, rat, rat_against, pr, pr_against}
use Rattle.sdcl_base.proofs.In.{in_append_cases, in_map, in_map_from, in_filter, in_filter_from, all_in, all_from, any_in, any_from, has_in, in_has}
use Rattle.sdcl_base.specs.Sets.{In, Sub}
use Rattle.sdcl_base.proofs.Closure.{SubSets, closure_more_sets, refutes_more_sets}
use Rattle.sdcl_base.proofs.Reducts.{tail_more}
use Rattle.sdcl_io.specs.Step.{Step, Add, AddWitness, Delete, Deletions, All, KeepUnits, is_one, idle, remove_clause, apply, apply_all, valid, rat_first, adds_empty, is_empty, End, Judgement, Verified, NotVerified, judge, judge_after, judge_end}
use Rattle.sdcl_convert.specs.Conversion.{shaken, unshaken, lines_of, converted, converted_apart, next_variable}
use Rattle.sdcl_convert.specs.Laws.{Below, AllBelow, StepBelow, StepsBelow, one, copies, Alike}
use Rattle.sdcl_convert.proofs.Good.{Good, good_apply, good_judge, same_set_refl, set_sub, set_from_sub}
use Rattle.sdcl_convert.proofs.Blocks.{pr_all, block_good}

-- ---- databases that are equal up to order, clauses taken as sets

pub copies_append : (f g : List Clause) (d : Clause) → copies (f ++ g) d ≡ copies f d + copies g d
copies_append [] g d = omega arith
copies_append (c ∷ f) g d = omega (arith, copies_append f g d)

pub set_sym : (c d : Clause) → same_set c d ≡ true → same_set d c ≡ true
set_sym c d h = set_from_sub d c (set_sub c d h).1 (set_sub c d h).0

pub set_trans : (c d e : Clause) → same_set c d ≡ true → same_set d e ≡ true → same_set c e ≡ true
set_trans c d e h k = set_from_sub c e (λ l i. (set_sub d e k).0 l ((set_sub c d h).0 l i)) (λ l i. (set_sub c d h).1 l ((set_sub d e k).1 l i))

pub in_copies : (f : List Clause) (c d : Clause) → In f c → same_set c d ≡ true → 0 < copies f d
in_copies [] c d i h = absurd i
in_copies (b ∷ f) c d (inl e) h = let k : same_set b d ≡ true = subst (λ z. same_set z d ≡ true) e h in let o : one (same_set b d) ≡ 1 = ap one k in omega (arith, o)
in_copies (b ∷ f) c d (inr i) h = omega (arith, in_copies f c d i h)

pub copies_in : (f : List Clause) (d : Clause) → 0 < copies f d → (c : Clause) × In f c × (same_set c d ≡ true)
copies_in [] d h = absurd (omega arith)
copies_in (c ∷ f) d h =
    elim (cases_Bool (same_set c d)) [
      | inl e ↦ (c, inl refl, e)
      | inr e ↦
          let o : one (same_set c d) ≡ 0 = ap one e in
          let r : (b : Clause) × In f b × (same_set b d ≡ true) = copies_in f d (omega (arith, o)) in
          (r.0, inr r.1, r.2)
    ]

pub alike_sets : (f g : List Clause) → Alike f g → SubSets f g
alike_sets f g a d i =
    let n : 0 < copies g d = omega (arith, a d, in_copies f d d i (same_set_refl d)) in
    let r : (e : Clause) × In g e × (same_set e d ≡ true) = copies_in g d n in
    (r.0, r.1, (set_sub r.0 d r.2).1, (set_sub r.0 d r.2).0)

alike_sym : (f g : List Clause) → Alike f g → Alike g f
alike_sym f g a d = sym (a d)

both_or_none : (a b : Bool) → (a ≡ true → b ≡ true) → (b ≡ true → a ≡ true) → a ≡ b
both_or_none true b p q = sym (p refl)
both_or_none false true p q = q refl
both_or_none false false p q = refl

same_test : (c e d : Clause) → same_set c e ≡ true → same_set c d ≡ same_set e d
same_test c e d h = both_or_none (same_set c d) (same_set e d) (λ y. set_trans e c d (set_sym c e h) y) (λ y. set_trans c e d h y)

pub copies_removed : (f : List Clause) (e d : Clause) → copies (remove_clause f e) d ≡ copies f d - one (same_set e d)
copies_removed [] e d = omega arith
copies_removed (c ∷ f) e d =
    elim (cases_Bool (same_set c e)) [
      | inl h ↦
          let q : remove_clause (c ∷ f) e ≡ f = cond-true (same_set c e) f (c ∷ remove_clause f e) h in
          let o : one (same_set c d) ≡ one (same_set e d) = ap one (same_test c e d h) in
          ap (λ z. copies z d) q ∙ omega (arith, o)
      | inr h ↦
          let q : remove_clause (c ∷ f) e ≡ c ∷ remove_clause f e = cond-false (same_set c e) f (c ∷ remove_clause f e) h in
          ap (λ z. copies z d) q ∙
          elim (cases_Bool (same_set e d)) [
            | inr n ↦ let o : one (same_set e d) ≡ 0 = ap one n in omega (arith, o, copies_removed f e d)
            | inl n ↦
                let o : one (same_set e d) ≡ 1 = ap one n in
                let m : one (same_set c d) ≡ 0 = ap one (false_from_ne_true (same_set c d) (λ y. true≢false (sym (set_trans c d e y (set_sym e d n)) ∙ h))) in
                omega (arith, o, m, copies_removed f e d)
          ]
    ]

alike_removed : (f g : List Clause) (e : Clause) → Alike f g → Alike (remove_clause f e) (remove_clause g e)
alike_removed f g e a d = copies_removed f e d ∙ ap (λ n. n - one (same_set e d)) (a d) ∙ sym (copies_removed g e d)

alike_added : (f g : List Clause) (c : Clause) → Alike f g → Alike (f ++ c ∷ []) (g ++ c ∷ [])
alike_added f g c a d = copies_append f (c ∷ []) d ∙ ap (λ n. n + copies (c ∷ []) d) (a d) ∙ sym (copies_append g (c ∷ []) d)

copies_parts : (p : Clause → Bool) (f : List Clause) (d : Clause) → copies (filter (λ c. not (p c)) f) d + copies (filter p f) d ≡ copies f d
copies_parts p [] d = omega arith
copies_parts p (c ∷ f) d =
    elim (cases_Bool (p c)) [
      | inl y ↦
          let a : filter p (c ∷ f) ≡ c ∷ filter p f = cond-true (p c) (c ∷ filter p f) (filter p f) y in
          let b : filter (λ c. not (p c)) (c ∷ f) ≡ filter (λ c. not (p c)) f = cond-false (not (p c)) (c ∷ filter (λ c. not (p c)) f) (filter (λ c. not (p c)) f) (not_from_true (p c) y) in
          omega (arith, ap (λ z. copies z d) a, ap (λ z. copies z d) b, copies_parts p f d)
      | inr n ↦
          let a : filter p (c ∷ f) ≡ filter p f = cond-false (p c) (c ∷ filter p f) (filter p f) n in
          let b : filter (λ c. not (p c)) (c ∷ f) ≡ c ∷ filter (λ c. not (p c)) f = cond-true (not (p c)) (c ∷ filter (λ c. not (p c)) f) (filter (λ c. not (p c)) f) (not_from_false (p c) n) in
          omega (arith, ap (λ z. copies z d) a, ap (λ z. copies z d) b, copies_parts p f d)
    ]

-- what a block leaves is what stood with c added, up to order
pub block_alike : (f g : List Clause) (c w : Clause) → Alike f g → Alike (f ++ c ∷ []) (unshaken g w ++ (filter (shaken w) g ++ c ∷ []))
block_alike f g c w a d =
    omega (arith, a d, copies_append f (c ∷ []) d, copies_append (unshaken g w) (filter (shaken w) g ++ c ∷ []) d, copies_append (filter (shaken w) g) (c ∷ []) d, copies_parts (shaken w) g d)

-- ---- what is valid over a database is valid over one that is equal up to order

refutes_same : (f g : List Clause) (s : Clause) → SubSets f g → SubSets g f → refutes f s ≡ refutes g s
refutes_same f g s p q = both_or_none (refutes f s) (refutes g s) (refutes_more_sets f g s s p (λ l i. i)) (refutes_more_sets g f s s q (λ l i. i))

has_same : (c d : Clause) (l : Literal) → Sub c d → Sub d c → has c l ≡ has d l
has_same c d l p q = both_or_none (has c l) (has d l) (λ h. in_has d l (p l (has_in c l h))) (λ h. in_has c l (q l (has_in d l h)))

complements_sub : (c d : Clause) → Sub c d → Sub (complements c) (complements d)
complements_sub c d h l i =
    let r : (m : Literal) × In c m × (l ≡ negated m) = in_map_from negated c l i in
    subst (In (complements d)) (sym r.2) (in_map negated d r.0 (h r.0 r.1))

filter_sub : (p : Literal → Bool) (c d : Clause) → Sub c d → Sub (filter p c) (filter p d)
filter_sub p c d h l i = let r : In c l × (p l ≡ true) = in_filter_from p c l i in in_filter p d l (h l r.0) r.1

rat_against_same : (f g : List Clause) (c : Clause) (p : Literal) (d e : Clause) → SubSets f g → Sub d e → Sub e d → rat_against f c p d ≡ true → rat_against g c p e ≡ true
rat_against_same f g c p d e s a b h =
    elim (or_cases (not (has d (negated p))) (refutes f (complements c ++ complements (without d (negated p)))) h) [
      | inl k ↦ or_left (not (has e (negated p))) (refutes g (complements c ++ complements (without e (negated p)))) (ap not (has_same e d (negated p) b a) ∙ k)
      | inr k ↦ or_right (not (has e (negated p))) (refutes g (complements c ++ complements (without e (negated p))))
          (refutes_more_sets f g (complements c ++ complements (without d (negated p))) (complements c ++ complements (without e (negated p))) s
          (tail_more (complements c) _ _ (complements_sub (without d (negated p)) (without e (negated p)) (filter_sub (λ m. not (same (negated p) m)) d e a))) k)
    ]

pr_against_same : (f g : List Clause) (c w d e : Clause) → SubSets f g → Sub d e → Sub e d → pr_against f c w d ≡ true → pr_against g c w e ≡ true
pr_against_same f g c w d e s a b h =
    elim (or_cases (shares d w) (refutes f (complements c ++ complements (without_complements d w))) h) [
      | inl k ↦
          let r : (l : Literal) × In d l × (has w l ≡ true) = any_from (has w) d k in
          or_left (shares e w) (refutes g (complements c ++ complements (without_complements e w))) (any_in (has w) e r.0 (a r.0 r.1) r.2)
      | inr k ↦ or_right (shares e w) (refutes g (complements c ++ complements (without_complements e w)))
          (refutes_more_sets f g (complements c ++ complements (without_complements d w)) (complements c ++ complements (without_complements e w)) s
          (tail_more (complements c) _ _ (complements_sub (without_complements d w) (without_complements e w) (filter_sub (λ l. not (has w (negated l))) d e a))) k)
    ]

rat_same : (f g : List Clause) (c : Clause) (p : Literal) → SubSets f g → SubSets g f → rat f c p ≡ true → rat g c p ≡ true
unfolding rat
rat_same f g c p s t h =
    let a : (has c p ≡ true) × (list_all (rat_against f c p) f ≡ true) = and_parts (has c p) _ h in
    and_from (has c p) _ a.0 (all_from (rat_against g c p) g (λ e i.
    let r : (d : Clause) × In f d × Sub e d × Sub d e = t e i in
    rat_against_same f g c p r.0 e s r.3 r.2 (all_in (rat_against f c p) f r.0 a.1 r.1)))

pr_same : (f g : List Clause) (c w : Clause) → SubSets f g → SubSets g f → pr f c w ≡ true → pr g c w ≡ true
unfolding pr
pr_same f g c w s t h =
    let a : ((not (has_pair w) && shares w c) ≡ true) × (list_all (pr_against f c w) f ≡ true) = and_parts (not (has_pair w) && shares w c) _ h in
    and_from (not (has_pair w) && shares w c) _ a.0 (all_from (pr_against g c w) g (λ e i.
    let r : (d : Clause) × In f d × Sub e d × Sub d e = t e i in
    pr_against_same f g c w r.0 e s r.3 r.2 (all_in (pr_against f c w) f r.0 a.1 r.1)))

rat_first_same : (f g : List Clause) (c : Clause) → SubSets f g → SubSets g f → rat_first f c ≡ true → rat_first g c ≡ true
unfolding rat_first
rat_first_same f g [] s t h = h
rat_first_same f g (p ∷ c) s t h = rat_same f g (p ∷ c) p s t h

add_same : (f g : List Clause) (c : Clause) → SubSets f g → SubSets g f → valid f (Add c) ≡ true → valid g (Add c) ≡ true
unfolding valid rup
add_same f g c s t h =
    elim (or_cases (rup f c) (rat_first f c) h) [
      | inl k ↦ or_left (rup g c) (rat_first g c) (sym (refutes_same f g (complements c) s t) ∙ k)
      | inr k ↦ or_right (rup g c) (rat_first g c) (rat_first_same f g c s t k)
    ]

or_same : (a b c d : Bool) → a ≡ b → c ≡ d → (a || c) ≡ (b || d)
or_same a b c d p q = ap (λ z. z || c) p ∙ ap (λ z. b || z) q

idle_same : (mode : Deletions) (f g : List Clause) (d : Clause) → SubSets f g → SubSets g f → idle mode f d ≡ idle mode g d
unfolding idle
idle_same All f g d s t = refl
idle_same KeepUnits f g d s t =
    or_same _ _ _ _ (refutes_same f g [] s t)
    (ap is_one (filter_agree (λ l. not (has (closure f []) (negated l))) (λ l. not (has (closure g []) (negated l)))
    (λ l. ap not (has_same (closure f []) (closure g []) (negated l) (closure_more_sets f g [] [] s (λ m i. i)) (closure_more_sets g f [] [] t (λ m i. i)))) d))

-- ---- the lines of one step

-- where the lines of a step lead
record Led (mode : Deletions) (f g : List Clause) (x : ℕ) (s : Step) : Type 0 where
  pub to : List Clause
  pub good : Good g (lines_of mode g x s) to
  pub alike : Alike (apply mode f s) to
  pub below : AllBelow x to

below_added : (x : ℕ) (g : List Clause) (c : Clause) → AllBelow x g → Below x c → AllBelow x (g ++ c ∷ [])
below_added x g c b h d i =
    elim (in_append_cases g (c ∷ []) d i) [ inl j ↦ b d j | inr (inl e) ↦ subst (Below x) (sym e) h | inr (inr j) ↦ absurd j ]

from_removed : (b : Bool) (c : Clause) (f r : List Clause) (d : Clause) → (In r d → In f d) → In (cond b f (c ∷ r)) d → In (c ∷ f) d
from_removed true c f r d h i = inr i
from_removed false c f r d h (inl e) = inl e
from_removed false c f r d h (inr i) = inr (h i)

pub in_removed : (f : List Clause) (e d : Clause) → In (remove_clause f e) d → In f d
in_removed [] e d i = i
in_removed (c ∷ f) e d i = from_removed (same_set c e) c f (remove_clause f e) d (in_removed f e d) i

led_add : (mode : Deletions) (f g : List Clause) (x : ℕ) (c : Clause) → Alike f g → AllBelow x g → Below x c → valid f (Add c) ≡ true → is_empty c ≡ false → Led mode f g x (Add c)
unfolding lines_of apply Good
led_add mode f g x c a b h v e = record {
  to = g ++ c ∷ [];
  good = (add_same f g c (alike_sets f g a) (alike_sets g f (alike_sym f g a)) v, e, refl);
  alike = alike_added f g c a;
  below = below_added x g c b h;
}

led_witness : (mode : Deletions) (f g : List Clause) (x : ℕ) (c w : Clause) → Alike f g → AllBelow x g → Below x c → Below x w → pr f c w ≡ true → Led mode f g x (AddWitness c w)
unfolding lines_of apply
led_witness mode f g x c w a b h k v = record {
  to = unshaken g w ++ (filter (shaken w) g ++ c ∷ []);
  good = block_good g c w x b h k (pr_same f g c w (alike_sets f g a) (alike_sets g f (alike_sym f g a)) v);
  alike = block_alike f g c w a;
  below = λ d i. elim (in_append_cases (unshaken g w) (filter (shaken w) g ++ c ∷ []) d i) [
    | inl j ↦ b d (in_filter_from (λ c. not (shaken w c)) g d j).0
    | inr j ↦ below_added x (filter (shaken w) g) c (λ e q. b e (in_filter_from (shaken w) g e q).0) h d j
  ];
}

led_delete : (mode : Deletions) (f g : List Clause) (x : ℕ) (d : Clause) (i : Bool) → idle mode f d ≡ i → idle mode g d ≡ i → Alike f g → AllBelow x g → Led mode f g x (Delete d)
unfolding lines_of apply Good valid idle
led_delete mode f g x d true p q a b = record {
  to = g;
  good = subst (λ l. Good g l g) (sym (cond-true (idle mode g d) [] (Delete d ∷ []) q)) refl;
  alike = subst (λ z. Alike z g) (sym (cond-true (idle mode f d) f (remove_clause f d) p)) a;
  below = b;
}
led_delete mode f g x d false p q a b = record {
  to = remove_clause g d;
  good = subst (λ l. Good g l (remove_clause g d)) (sym (cond-false (idle mode g d) [] (Delete d ∷ []) q)) (refl, refl, refl);
  alike = subst (λ z. Alike z (remove_clause g d)) (sym (cond-false (idle mode f d) f (remove_clause f d) p)) (alike_removed f g d a);
  below = λ e i. b e (in_removed g d e i);
}

led : (mode : Deletions) (f g : List Clause) (x : ℕ) (s : Step) → Alike f g → AllBelow x g → StepBelow x s → valid f s ≡ true → adds_empty s ≡ false → Led mode f g x s
unfolding valid
led mode f g x (Add c) a b h v e = led_add mode f g x c a b h v e
led mode f g x (AddWitness c w) a b h v e = led_witness mode f g x c w a b h.0 h.1 v
led mode f g x (Delete d) a b h v e = led_delete mode f g x d (idle mode f d) refl (sym (idle_same mode f g d (alike_sets f g a) (alike_sets g f (alike_sym f g a)))) a b

-- ---- the whole list

-- a verified judgement has a valid first step, which adds the empty clause or goes on to a verified rest
first_verified : (good last : Bool) (k : ℕ) (j : Judgement) → cond (not good) (NotVerified k) (cond last Verified j) ≡ Verified → (good ≡ true) × ((last ≡ true) ⊎ ((last ≡ false) × (j ≡ Verified)))
first_verified true true k j h = (refl, inl refl)
first_verified true false k j h = (refl, inr (refl, h))
first_verified false last k j h = absurd (cc)

none_shared : (w : Clause) → shares w [] ≡ true → ⊥
none_shared w h = let r : (l : Literal) × In w l × (has [] l ≡ true) = any_from (has []) w h in false≢true r.2

-- the lines of a valid step that adds the empty clause
last_lines : (mode : Deletions) (k : ℕ) (f g : List Clause) (x : ℕ) (s : Step) (rest : List Step) → Alike f g → valid f s ≡ true → adds_empty s ≡ true
    → judge_after All k g (lines_of mode g x s ++ rest) End ≡ Verified
unfolding lines_of judge_after valid rup pr
last_lines mode k f g x (Add []) rest a v e = rw (add_same f g [] (alike_sets f g a) (alike_sets g f (alike_sym f g a)) v) refl
last_lines mode k f g x (Add (l ∷ c)) rest a v e = absurd (false≢true e)
last_lines mode k f g x (AddWitness [] w) rest a v e = absurd (none_shared w (pr_all f [] w v).1)
last_lines mode k f g x (AddWitness (l ∷ c) w) rest a v e = absurd (false≢true e)
last_lines mode k f g x (Delete d) rest a v e = absurd (false≢true e)

end_verified : (f : List Clause) (k : ℕ) (b : Bool) → cond b Verified (NotVerified k) ≡ Verified → b ≡ true
end_verified f k true h = refl
end_verified f k false h = absurd (cc)

converting : (mode : Deletions) (k n : ℕ) (f g : List Clause) (steps : List Step) (x : ℕ) → Alike f g → AllBelow x g → StepsBelow x steps
    → judge_after mode k f steps End ≡ Verified → judge_after All n g (converted mode g steps x) End ≡ Verified
unfolding judge_after judge_end converted
converting mode k n f g [] x a b h j =
    let e : refutes g [] ≡ true = sym (refutes_same f g [] (alike_sets f g a) (alike_sets g f (alike_sym f g a))) ∙ end_verified f (k + 1) (refutes f []) j in
    cond-true (refutes g []) Verified (NotVerified (n + 1)) e
converting mode k n f g (s ∷ ss) x a b h j =
    let r : (valid f s ≡ true) × ((adds_empty s ≡ true) ⊎ ((adds_empty s ≡ false) × (judge_after mode (k + 1) (apply mode f s) ss End ≡ Verified)))
    = first_verified (valid f s) (adds_empty s) (k + 1) (judge_after mode (k + 1) (apply mode f s) ss End) j in
    elim r.1 [
      | inl e ↦ last_lines mode n f g x s (cond (adds_empty s) [] (converted mode (apply_all All g (lines_of mode g x s)) ss x)) a r.0 e
      | inr e ↦
          let l : Led mode f g x s = led mode f g x s a b h.0 r.0 e.0 in
          ap (λ z. judge_after All n g (lines_of mode g x s ++ z) End) (cond-false (adds_empty s) [] (converted mode (apply_all All g (lines_of mode g x s)) ss x) e.0)
          ∙ ap (λ z. judge_after All n g (lines_of mode g x s ++ converted mode z ss x) End) (good_apply g (lines_of mode g x s) l.to l.good)
          ∙ good_judge n g (lines_of mode g x s) (converted mode l.to ss x) l.to End l.good
          ∙ converting mode (k + 1) (n + length (lines_of mode g x s)) (apply mode f s) l.to ss x l.alike l.below h.1 e.1
    ]

-- the converted proof of a verified one is verified, with every deletion honoured
pub converted_law : (mode : Deletions) (f : List Clause) (steps : List Step) (x : ℕ) → AllBelow x f → StepsBelow x steps → judge mode f steps End ≡ Verified → judge All f (converted mode f steps x) End ≡ Verified
unfolding judge
converted_law mode f steps x b h j = converting mode 0 0 f f steps x (λ d. refl) b h j

-- ---- each block takes the next variable

below_more : (x y : ℕ) (c : Clause) → x ≤ y → Below x c → Below y c
below_more x y c h b l i = let k : l.var < x = b l i in omega arith

all_below_more : (x y : ℕ) (f : List Clause) → x ≤ y → AllBelow x f → AllBelow y f
all_below_more x y f h b d i = below_more x y d h (b d i)

step_below_more : (x y : ℕ) (s : Step) → x ≤ y → StepBelow x s → StepBelow y s
step_below_more x y (Add c) h b = below_more x y c h b
step_below_more x y (AddWitness c w) h b = (below_more x y c h b.0, below_more x y w h b.1)
step_below_more x y (Delete d) h b = tt

pub steps_below_more : (x y : ℕ) (ss : List Step) → x ≤ y → StepsBelow x ss → StepsBelow y ss
steps_below_more x y [] h b = tt
steps_below_more x y (s ∷ ss) h b = (step_below_more x y s h b.0, steps_below_more x y ss h b.1)

pub next_more : (s : Step) (x : ℕ) → x ≤ next_variable s x
next_more (Add c) x = omega arith
next_more (AddWitness c w) x = omega arith
next_more (Delete d) x = omega arith

apart : (mode : Deletions) (k n : ℕ) (f g : List Clause) (steps : List Step) (x : ℕ) → Alike f g → AllBelow x g → StepsBelow x steps
    → judge_after mode k f steps End ≡ Verified → judge_after All n g (converted_apart mode g steps x) End ≡ Verified
unfolding judge_after judge_end converted_apart
apart mode k n f g [] x a b h j =
    let e : refutes g [] ≡ true = sym (refutes_same f g [] (alike_sets f g a) (alike_sets g f (alike_sym f g a))) ∙ end_verified f (k + 1) (refutes f []) j in
    cond-true (refutes g []) Verified (NotVerified (n + 1)) e
apart mode k n f g (s ∷ ss) x a b h j =
    let r : (valid f s ≡ true) × ((adds_empty s ≡ true) ⊎ ((adds_empty s ≡ false) × (judge_after mode (k + 1) (apply mode f s) ss End ≡ Verified)))
    = first_verified (valid f s) (adds_empty s) (k + 1) (judge_after mode (k + 1) (apply mode f s) ss End) j in
    elim r.1 [
      | inl e ↦ last_lines mode n f g x s (cond (adds_empty s) [] (converted_apart mode (apply_all All g (lines_of mode g x s)) ss (next_variable s x))) a r.0 e
      | inr e ↦
          let l : Led mode f g x s = led mode f g x s a b h.0 r.0 e.0 in
          ap (λ z. judge_after All n g (lines_of mode g x s ++ z) End) (cond-false (adds_empty s) [] (converted_apart mode (apply_all All g (lines_of mode g x s)) ss (next_variable s x)) e.0)
          ∙ ap (λ z. judge_after All n g (lines_of mode g x s ++ converted_apart mode z ss (next_variable s x)) End) (good_apply g (lines_of mode g x s) l.to l.good)
          ∙ good_judge n g (lines_of mode g x s) (converted_apart mode l.to ss (next_variable s x)) l.to End l.good
          ∙ apart mode (k + 1) (n + length (lines_of mode g x s)) (apply mode f s) l.to ss (next_variable s x) l.alike
          (all_below_more x (next_variable s x) l.to (next_more s x) l.below) (steps_below_more x (next_variable s x) ss (next_more s x) h.1) e.1
    ]

-- the same, where each block takes the next variable
pub apart_law : (mode : Deletions) (f : List Clause) (steps : List Step) (x : ℕ) → AllBelow x f → StepsBelow x steps → judge mode f steps End ≡ Verified
    → judge All f (converted_apart mode f steps x) End ≡ Verified
unfolding judge
apart_law mode f steps x b h j = apart mode 0 0 f f steps x (λ d. refl) b h j

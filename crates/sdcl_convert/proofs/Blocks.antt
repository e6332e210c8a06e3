-- The block that stands for an addition with a witness is valid line by line, and adds the clause.
use Rattle.std.proofs.Common.{◌≡◌, Bool, true, false, not, ◌&&◌, ◌||◌, List, [], ◌∷◌, ◌++◌, map, ◌⊎◌, inl, inr, refl, sym, ap, subst, ◌∙◌, ℕ, ◌<◌, append_assoc, append-nil, arith}
use Rattle.std.specs.List.{list_all, filter, flat_map}
use Rattle.std.proofs.lemmas.Bool.{and_parts, and_from, and_cases, or_cases, or_left, or_right, false≢true, true≢false, cases_Bool, cond-true, cond-false, not-true, not_from_true, not_from_false, false_from_ne_true}
use Rattle.sdcl_base.specs.Literal.{Literal, Clause, pos_lit, neg_lit, negated, same, has, has_pair, same_set, shares, complements, without, without_complements}
use Rattle.sdcl_base.specs.Propagation.{forces, forced, closure, refutes}
use Rattle.sdcl_base.specs.Redundancy.{rup, rat, rat_against, pr, pr_against}
use Rattle.sdcl_base.proofs.In.{in_append_left, in_append_right, in_append_cases, in_map, in_map_from, in_filter, in_filter_from, in_flat_map, all_in, all_from, any_in, any_from, has_in, in_has, negated_negated, same_refl, same_true, in_union_right}
use Rattle.sdcl_base.proofs.Soundness.{in_false, no_pair, without_complements_in}
use Rattle.sdcl_base.specs.Sets.{In, Sub, SubClauses}
use Rattle.sdcl_base.proofs.Closure.{closure_holds, closure_closed, refutes_more}
use Rattle.sdcl_base.proofs.Reducts.{pair_refuted, clause_refuted}
use Rattle.sdcl_io.specs.Step.{Step, Add, Delete, idle, remove_clause, apply, valid, rat_first, is_empty}
use Rattle.sdcl_convert.specs.Conversion.{reduced, shaken, unshaken, reduced_lines, weakened, implied, weakening, block}
use Rattle.sdcl_convert.specs.Laws.{Below, AllBelow}
use Rattle.sdcl_convert.proofs.Good.{Good, good_append, good_end, good_adds, good_deletes, same_set_refl, set_sub, remove_before}

-- ---- the new variable

below_pos : (x : ℕ) (c : Clause) → Below x c → In c (pos_lit x) → ⊥
below_pos x c h i = absurd (omega (arith, h (pos_lit x) i))

below_neg : (x : ℕ) (c : Clause) → Below x c → In c (neg_lit x) → ⊥
below_neg x c h i = absurd (omega (arith, h (neg_lit x) i))

-- ---- how a line is valid

rup_valid : (e : List Clause) (c : Clause) → refutes e (complements c) ≡ true → valid e (Add c) ≡ true
unfolding valid rup
rup_valid e c h = or_left (rup e c) (rat_first e c) h

rat_valid : (e : List Clause) (p : Literal) (c : Clause) → ((d : Clause) → In e d → rat_against e (p ∷ c) p d ≡ true) → valid e (Add (p ∷ c)) ≡ true
unfolding valid rat_first rat
rat_valid e p c h =
    or_right (rup e (p ∷ c)) (rat_first e (p ∷ c))
    (and_from (has (p ∷ c) p) (list_all (rat_against e (p ∷ c) p) e) (in_has (p ∷ c) p (inl refl)) (all_from (rat_against e (p ∷ c) p) e h))

against_none : (e : List Clause) (c : Clause) (p : Literal) (d : Clause) → (In d (negated p) → ⊥) → rat_against e c p d ≡ true
against_none e c p d n = or_left (not (has d (negated p))) (refutes e (complements c ++ complements (without d (negated p)))) (not_from_false (has d (negated p)) (in_false d (negated p) n))

against_some : (e : List Clause) (c : Clause) (p : Literal) (d : Clause) → refutes e (complements c ++ complements (without d (negated p))) ≡ true → rat_against e c p d ≡ true
against_some e c p d h = or_right (not (has d (negated p))) (refutes e (complements c ++ complements (without d (negated p)))) h

-- a literal of d other than m
pub in_without : (d : Clause) (m l : Literal) → In d l → (l ≡ m → ⊥) → In (without d m) l
in_without d m l i n = in_filter (λ k. not (same m k)) d l i (not_from_false (same m l) (false_from_ne_true (same m l) (λ h. n (sym (same_true m l h)))))

-- ---- part 1

reduced_from : (f : List Clause) (w : Clause) (x : ℕ) (d : Clause) → In (reduced_lines f w x) d
    → (e : Clause) × In f e × (reduced w e ≡ true) × (d ≡ neg_lit x ∷ without_complements e w)
reduced_from f w x d i =
    let r : (e : Clause) × In (filter (reduced w) f) e × (d ≡ neg_lit x ∷ without_complements e w) = in_map_from (λ d. neg_lit x ∷ without_complements d w) (filter (reduced w) f) d i in
    let j : In f r.0 × (reduced w r.0 ≡ true) = in_filter_from (reduced w) f r.0 r.1 in
    (r.0, j.0, j.1, r.2)

reduced_in : (f : List Clause) (w : Clause) (x : ℕ) (e : Clause) → In f e → reduced w e ≡ true → In (reduced_lines f w x) (neg_lit x ∷ without_complements e w)
reduced_in f w x e i h = in_map (λ d. neg_lit x ∷ without_complements d w) (filter (reduced w) f) e (in_filter (reduced w) f e i h)

-- no reduced line holds x
reduced_lacks : (f : List Clause) (w : Clause) (x : ℕ) → AllBelow x f → (d : Clause) → In (reduced_lines f w x) d → In d (pos_lit x) → ⊥
reduced_lacks f w x b d i j =
    let r : (e : Clause) × In f e × (reduced w e ≡ true) × (d ≡ neg_lit x ∷ without_complements e w) = reduced_from f w x d i in
    elim (subst (λ y. In y (pos_lit x)) r.3 j) [
      | inl q ↦ true≢false (ap (λ l. l.positive) q)
      | inr k ↦ below_pos x r.0 (b r.0 r.1) (without_complements_in r.0 w (pos_lit x) k).0
    ]

first_part : (f : List Clause) (w : Clause) (x : ℕ) → AllBelow x f → Good f (map Add (reduced_lines f w x)) (f ++ reduced_lines f w x)
first_part f w x b =
    good_adds f (reduced_lines f w x) (λ e d i p q.
    let r : (h : Clause) × In f h × (reduced w h ≡ true) × (d ≡ neg_lit x ∷ without_complements h w) = reduced_from f w x d i in (
      ap (λ y. valid e (Add y)) r.3
          ∙ rat_valid e (neg_lit x) (without_complements r.0 w) (λ h j.
          against_none e (neg_lit x ∷ without_complements r.0 w) (neg_lit x) h (λ k.
          elim (in_append_cases f (reduced_lines f w x) h (q h j)) [
            | inl a ↦ below_pos x h (b h a) k
            | inr a ↦ reduced_lacks f w x b h a k
          ])),
      ap is_empty r.3,
    ))

-- ---- part 2

own_lacks : (x : ℕ) (c : Clause) → Below x c → In (pos_lit x ∷ c) (neg_lit x) → ⊥
own_lacks x c b (inl q) = false≢true (ap (λ l. l.positive) q)
own_lacks x c b (inr i) = below_neg x c b i

pub pr_all : (f : List Clause) (c w : Clause) → pr f c w ≡ true → (has_pair w ≡ false) × (shares w c ≡ true) × ((d : Clause) → In f d → pr_against f c w d ≡ true)
unfolding pr
pr_all f c w k =
    let a : ((not (has_pair w) && shares w c) ≡ true) × (list_all (pr_against f c w) f ≡ true) = and_parts (not (has_pair w) && shares w c) _ k in
    let h : (not (has_pair w) ≡ true) × (shares w c ≡ true) = and_parts (not (has_pair w)) (shares w c) a.0 in
    (not-true (has_pair w) h.0, h.1, λ d i. all_in (pr_against f c w) f d a.1 i)

-- a reduced clause's line has its literals but for not x, and f refutes them beside c's
second_reduced : (f : List Clause) (c w : Clause) (x : ℕ) → AllBelow x f → pr f c w ≡ true → (e : List Clause) → SubClauses f e → (h : Clause) → In f h → reduced w h ≡ true
    → refutes e (complements (pos_lit x ∷ c) ++ complements (without (neg_lit x ∷ without_complements h w) (neg_lit x))) ≡ true
second_reduced f c w x b k e p h i m =
    let a : (not (shares h w) ≡ true) × (shares h (complements w) ≡ true) = and_parts (not (shares h w)) (shares h (complements w)) m in
    elim (or_cases (shares h w) (refutes f (complements c ++ complements (without_complements h w))) ((pr_all f c w k).2 h i)) [
      | inl s ↦ absurd (true≢false (sym s ∙ not-true (shares h w) a.0))
      | inr s ↦
          refutes_more f e (complements c ++ complements (without_complements h w)) (complements (pos_lit x ∷ c) ++ complements (without (neg_lit x ∷ without_complements h w) (neg_lit x))) p
          (λ l j. elim (in_append_cases (complements c) (complements (without_complements h w)) l j) [
            | inl q ↦ in_append_left (complements (pos_lit x ∷ c)) (complements (without (neg_lit x ∷ without_complements h w) (neg_lit x))) l (inr q)
            | inr q ↦
                let r : (y : Literal) × In (without_complements h w) y × (l ≡ negated y) = in_map_from negated (without_complements h w) l q in
                in_append_right (complements (pos_lit x ∷ c)) (complements (without (neg_lit x ∷ without_complements h w) (neg_lit x))) l
                (subst (In (complements (without (neg_lit x ∷ without_complements h w) (neg_lit x)))) (sym r.2)
                (in_map negated (without (neg_lit x ∷ without_complements h w) (neg_lit x)) r.0
                (in_without (neg_lit x ∷ without_complements h w) (neg_lit x) r.0 (inr r.1)
                (λ z. below_neg x h (b h i) (subst (In h) z (without_complements_in h w r.0 r.1).0)))))
          ])
          s
    ]

second_against : (f : List Clause) (c w : Clause) (x : ℕ) → AllBelow x f → Below x c → pr f c w ≡ true → (e : List Clause) (h : Clause)
    → SubClauses (f ++ reduced_lines f w x) e → In ((f ++ reduced_lines f w x) ++ (pos_lit x ∷ c) ∷ []) h → rat_against e (pos_lit x ∷ c) (pos_lit x) h ≡ true
second_against f c w x b bc k e h p i =
    elim (in_append_cases (f ++ reduced_lines f w x) ((pos_lit x ∷ c) ∷ []) h i) [
      | inl j ↦
          elim (in_append_cases f (reduced_lines f w x) h j) [
            | inl a ↦ against_none e (pos_lit x ∷ c) (pos_lit x) h (below_neg x h (b h a))
            | inr a ↦
                let r : (g : Clause) × In f g × (reduced w g ≡ true) × (h ≡ neg_lit x ∷ without_complements g w) = reduced_from f w x h a in
                against_some e (pos_lit x ∷ c) (pos_lit x) h
                (subst (λ y. refutes e (complements (pos_lit x ∷ c) ++ complements (without y (neg_lit x))) ≡ true) (sym r.3)
                (second_reduced f c w x b k e (λ d m. p d (in_append_left f (reduced_lines f w x) d m)) r.0 r.1 r.2))
          ]
      | inr (inl r) ↦ against_none e (pos_lit x ∷ c) (pos_lit x) h (λ m. own_lacks x c bc (subst (λ y. In y (neg_lit x)) r m))
      | inr (inr r) ↦ absurd r
    ]

second_part : (f : List Clause) (c w : Clause) (x : ℕ) → AllBelow x f → Below x c → pr f c w ≡ true
    → Good (f ++ reduced_lines f w x) (Add (pos_lit x ∷ c) ∷ []) ((f ++ reduced_lines f w x) ++ (pos_lit x ∷ c) ∷ [])
second_part f c w x b bc k =
    good_adds (f ++ reduced_lines f w x) ((pos_lit x ∷ c) ∷ []) (λ e d i p q.
    elim i [
      | inl r ↦ (
        ap (λ y. valid e (Add y)) r
            ∙ rat_valid e (pos_lit x) c (λ h j. second_against f c w x b bc k e h p (q h j)),
        ap is_empty r,
      )
      | inr r ↦ absurd r
    ])

-- ---- part 3

-- shaken depends on the set of literals alone
shares_same : (c d w : Clause) → Sub c d → shares c w ≡ true → shares d w ≡ true
shares_same c d w h k =
    let r : (l : Literal) × In c l × (has w l ≡ true) = any_from (has w) c k in
    any_in (has w) d r.0 (h r.0 r.1) r.2

shaken_same : (w c d : Clause) → same_set c d ≡ true → shaken w d ≡ true → shaken w c ≡ true
shaken_same w c d h k =
    let a : (shares d w ≡ true) × (shares d (complements w) ≡ true) = and_parts (shares d w) (shares d (complements w)) k in
    and_from (shares c w) (shares c (complements w)) (shares_same d c w (set_sub c d h).1 a.0) (shares_same d c (complements w) (set_sub c d h).1 a.1)

-- what is left where the first clause that passes the test goes
pub record Gone (sh : Clause → Bool) (u : List Clause) (e : Clause) (es : List Clause) : Type 0 where
  pub there : In u e
  pub rest : filter sh (remove_clause u e) ≡ es
  pub others : filter (λ c. not (sh c)) (remove_clause u e) ≡ filter (λ c. not (sh c)) u

first_gone : (sh : Clause → Bool) → ((c d : Clause) → same_set c d ≡ true → sh d ≡ true → sh c ≡ true) → (u : List Clause) (e : Clause) (es : List Clause) → filter sh u ≡ e ∷ es → Gone sh u e es
first_gone sh h [] e es k = absurd (cc)
first_gone sh h (c ∷ u) e es k =
    elim (cases_Bool (sh c)) [
      | inl y ↦
          let q : c ∷ filter sh u ≡ e ∷ es = sym (cond-true (sh c) (c ∷ filter sh u) (filter sh u) y) ∙ k in
          let ce : c ≡ e = cc in
          let re : remove_clause (c ∷ u) e ≡ u = cond-true (same_set c e) u (c ∷ remove_clause u e) (subst (λ z. same_set c z ≡ true) ce (same_set_refl c)) in
          record {
            there = inl (sym ce);
            rest = ap (filter sh) re ∙ (cc);
            others = ap (filter (λ z. not (sh z))) re ∙ sym (cond-false (not (sh c)) (c ∷ filter (λ z. not (sh z)) u) (filter (λ z. not (sh z)) u) (not_from_true (sh c) y));
          }
      | inr n ↦
          let q : filter sh u ≡ e ∷ es = sym (cond-false (sh c) (c ∷ filter sh u) (filter sh u) n) ∙ k in
          let g : Gone sh u e es = first_gone sh h u e es q in
          let pe : sh e ≡ true = (in_filter_from sh u e (subst (λ z. In z e) (sym q) (inl refl))).1 in
          let ne : same_set c e ≡ false = false_from_ne_true (same_set c e) (λ s. true≢false (sym (h c e s pe) ∙ n)) in
          let re : remove_clause (c ∷ u) e ≡ c ∷ remove_clause u e = cond-false (same_set c e) u (c ∷ remove_clause u e) ne in
          record {
            there = inr g.there;
            rest = ap (filter sh) re ∙ cond-false (sh c) (c ∷ filter sh (remove_clause u e)) (filter sh (remove_clause u e)) n ∙ g.rest;
            others =
                ap (filter (λ z. not (sh z))) re
                ∙ cond-true (not (sh c)) (c ∷ filter (λ z. not (sh z)) (remove_clause u e)) (filter (λ z. not (sh z)) (remove_clause u e)) (not_from_false (sh c) n)
                ∙ ap (λ z. c ∷ z) g.others
                ∙ sym (cond-true (not (sh c)) (c ∷ filter (λ z. not (sh z)) u) (filter (λ z. not (sh z)) u) (not_from_false (sh c) n));
          }
    ]

none_pass : (p : Clause → Bool) (u : List Clause) → filter p u ≡ [] → u ≡ filter (λ c. not (p c)) u
none_pass p [] k = refl
none_pass p (c ∷ u) k =
    elim (cases_Bool (p c)) [
      | inl y ↦ let q : c ∷ filter p u ≡ [] = sym (cond-true (p c) (c ∷ filter p u) (filter p u) y) ∙ k in absurd (cc)
      | inr n ↦
          ap (λ z. c ∷ z) (none_pass p u (sym (cond-false (p c) (c ∷ filter p u) (filter p u) n) ∙ k))
          ∙ sym (cond-true (not (p c)) (c ∷ filter (λ z. not (p z)) u) (filter (λ z. not (p z)) u) (not_from_false (p c) n))
    ]

-- a clause with more literals than one that stands is RUP
weaker_valid : (e : List Clause) (d : Clause) (l : Literal) → In e d → valid e (Add (d ++ l ∷ [])) ≡ true
weaker_valid e d l i =
    rup_valid e (d ++ l ∷ []) (clause_refuted e (complements (d ++ l ∷ [])) d i (λ m j.
    let r : (y : Literal) × In d y × (m ≡ negated y) = in_map_from negated d m j in
    closure_holds e (complements (d ++ l ∷ [])) m (subst (In (complements (d ++ l ∷ []))) (sym r.2) (in_map negated (d ++ l ∷ []) r.0 (in_append_left d (l ∷ []) r.0 r.1)))))

not_empty : (d : Clause) (l : Literal) → is_empty (d ++ l ∷ []) ≡ false
not_empty [] l = refl
not_empty (m ∷ d) l = refl

abbrev pub weak : ℕ → Clause → Clause
weak x e = e ++ pos_lit x ∷ []

abbrev pub two_lines : ℕ → Clause → List Step
two_lines x e = Add (e ++ pos_lit x ∷ []) ∷ Delete e ∷ []

three_end : (a t : List Clause) (e : Clause) (es : List Clause) → a ++ (t ++ e ∷ []) ++ es ≡ a ++ t ++ (e ∷ es)
three_end a t e es = simp append_assoc

third_from : (sh : Clause → Bool) → ((c d : Clause) → same_set c d ≡ true → sh d ≡ true → sh c ≡ true) → (x : ℕ) (es u t : List Clause) → filter sh u ≡ es
    → Good (u ++ t) (flat_map (two_lines x) es) (filter (λ c. not (sh c)) u ++ t ++ map (weak x) es)
unfolding Good apply valid idle
third_from sh h x [] u t k = ap (λ z. z ++ t) (none_pass sh u k) ∙ sym (append-nil (filter (λ c. not (sh c)) u ++ t))
third_from sh h x (e ∷ es) u t k =
    let g : Gone sh u e es = first_gone sh h u e es k in (
      weaker_valid (u ++ t) e (pos_lit x) (in_append_left u t e g.there),
      not_empty e (pos_lit x),
      (
        refl,
        refl,
        subst (λ z. Good z (flat_map (two_lines x) es) (filter (λ c. not (sh c)) u ++ t ++ map (weak x) (e ∷ es)))
            (sym (ap (λ z. remove_clause z e) (append_assoc u t (weak x e ∷ [])) ∙ remove_before u e (t ++ weak x e ∷ []) g.there))
            (good_end (remove_clause u e ++ (t ++ weak x e ∷ [])) (flat_map (two_lines x) es) (filter (λ c. not (sh c)) (remove_clause u e) ++ (t ++ weak x e ∷ []) ++ map (weak x) es) (filter (λ c. not (sh c)) u ++ t ++ map (weak x) (e ∷ es))
            (ap (λ z. z ++ (t ++ weak x e ∷ []) ++ map (weak x) es) g.others ∙ three_end (filter (λ c. not (sh c)) u) t (weak x e) (map (weak x) es))
            (third_from sh h x es (remove_clause u e) (t ++ weak x e ∷ []) g.rest)),
      ),
    )

pub third_part : (f : List Clause) (w : Clause) (x : ℕ) (t : List Clause) → Good (f ++ t) (weakening f w x) (unshaken f w ++ t ++ weakened f w x)
third_part f w x t = third_from (shaken w) (shaken_same w) x (filter (shaken w) f) f t refl

-- ---- part 4

var_differs : (l : Literal) (x : ℕ) → l.var < x → x ≡ l.var → ⊥
var_differs l x b q = absurd (omega arith)

-- where d holds x, x and not x are assumed
holds_new : (e : List Clause) (l : Literal) (x : ℕ) (d : Clause) → l.var < x → In d (pos_lit x)
    → refutes e (complements (l ∷ neg_lit x ∷ []) ++ complements (without d (negated l))) ≡ true
holds_new e l x d b i =
    pair_refuted e (complements (l ∷ neg_lit x ∷ []) ++ complements (without d (negated l))) (pos_lit x)
    (closure_holds e (complements (l ∷ neg_lit x ∷ []) ++ complements (without d (negated l))) (pos_lit x) (inr (inl refl)))
    (closure_holds e (complements (l ∷ neg_lit x ∷ []) ++ complements (without d (negated l))) (neg_lit x)
    (in_append_right (complements (l ∷ neg_lit x ∷ [])) (complements (without d (negated l))) (neg_lit x)
    (in_map negated (without d (negated l)) (pos_lit x) (in_without d (negated l) (pos_lit x) i (λ q. absurd (var_differs l x b (ap (λ m. m.var) q)))))))

-- where d is reduced, its line is false
holds_complement : (e : List Clause) (w : Clause) (l : Literal) (x : ℕ) (d : Clause) → In w l → In e (neg_lit x ∷ without_complements d w)
    → refutes e (complements (l ∷ neg_lit x ∷ []) ++ complements (without d (negated l))) ≡ true
holds_complement e w l x d i j =
    clause_refuted e (complements (l ∷ neg_lit x ∷ []) ++ complements (without d (negated l))) (neg_lit x ∷ without_complements d w) j (λ m k.
    closure_holds e (complements (l ∷ neg_lit x ∷ []) ++ complements (without d (negated l))) m
    (elim k [
      | inl q ↦ inr (inl q)
      | inr q ↦
          let r : (y : Literal) × In (without_complements d w) y × (m ≡ negated y) = in_map_from negated (without_complements d w) m q in
          let g : In d r.0 × (In w (negated r.0) → ⊥) = without_complements_in d w r.0 r.1 in
          in_append_right (complements (l ∷ neg_lit x ∷ [])) (complements (without d (negated l))) m
          (subst (In (complements (without d (negated l)))) (sym r.2)
          (in_map negated (without d (negated l)) r.0 (in_without d (negated l) r.0 g.0 (λ z. g.1 (subst (In w) (sym (ap negated z ∙ negated_negated l)) i)))))
    ]))

-- the clauses that stand before part 4, behind those that are not shaken
abbrev pub behind : List Clause → Clause → Clause → ℕ → List Clause
behind f c w x = reduced_lines f w x ++ (pos_lit x ∷ c) ∷ []

abbrev pub third_base : List Clause → Clause → Clause → ℕ → List Clause
third_base f c w x = unshaken f w ++ behind f c w x ++ weakened f w x

weakened_from : (f : List Clause) (w : Clause) (x : ℕ) (d : Clause) → In (weakened f w x) d → In d (pos_lit x)
weakened_from f w x d i =
    let r : (e : Clause) × In (filter (shaken w) f) e × (d ≡ e ++ pos_lit x ∷ []) = in_map_from (λ e. e ++ pos_lit x ∷ []) (filter (shaken w) f) d i in
    subst (λ z. In z (pos_lit x)) (sym r.2) (in_append_right r.0 (pos_lit x ∷ []) (pos_lit x) (inl refl))

-- an unshaken clause with the complement of a literal of w is reduced
unshaken_reduced : (w d : Clause) (l : Literal) → In w l → In d (negated l) → shaken w d ≡ false → reduced w d ≡ true
unshaken_reduced w d l i j n =
    let s : shares d (complements w) ≡ true = any_in (has (complements w)) d (negated l) j (in_has (complements w) (negated l) (in_map negated w l i)) in
    elim (and_cases (shares d w) (shares d (complements w)) n) [
      | inl e ↦ and_from (not (shares d w)) (shares d (complements w)) (not_from_false (shares d w) e) s
      | inr e ↦ absurd (true≢false (sym s ∙ e))
    ]

-- no line of a reduced clause holds the complement of a literal of w
short_lacks : (w : Clause) (x : ℕ) → (l : Literal) → l.var < x → (g : Clause) → In w l → In (neg_lit x ∷ without_complements g w) (negated l) → ⊥
short_lacks w x l b g i (inl q) = var_differs l x b (sym (ap (λ m. m.var) q))
short_lacks w x l b g i (inr j) = (without_complements_in g w (negated l) j).1 (subst (In w) (sym (negated_negated l)) i)

pair_lacks : (w : Clause) (x : ℕ) (l : Literal) → l.var < x → has_pair w ≡ false → In w l → (k : Literal) → In w k → In (k ∷ neg_lit x ∷ []) (negated l) → ⊥
pair_lacks w x l b n i k j (inl q) = no_pair w l n i (subst (In w) (sym q) j)
pair_lacks w x l b n i k j (inr (inl q)) = var_differs l x b (sym (ap (λ m. m.var) q))
pair_lacks w x l b n i k j (inr (inr q)) = q

fourth_cases : (f : List Clause) (c w : Clause) (x : ℕ) → Below x w → has_pair w ≡ false → AllBelow x f → (e : List Clause) (l : Literal) (d : Clause) → In w l
    → SubClauses (third_base f c w x) e → In (third_base f c w x ++ implied w x) d → In d (negated l)
    → refutes e (complements (l ∷ neg_lit x ∷ []) ++ complements (without d (negated l))) ≡ true
fourth_cases f c w x b n bf e l d i p j m =
    elim (in_append_cases (third_base f c w x) (implied w x) d j) [
      | inl a ↦
          elim (in_append_cases (unshaken f w ++ behind f c w x) (weakened f w x) d a) [
            | inl a1 ↦
                elim (in_append_cases (unshaken f w) (behind f c w x) d a1) [
                  | inl a2 ↦
                      let r : In f d × (not (shaken w d) ≡ true) = in_filter_from (λ c. not (shaken w c)) f d a2 in
                      holds_complement e w l x d i
                      (p (neg_lit x ∷ without_complements d w)
                      (in_append_left (unshaken f w ++ behind f c w x) (weakened f w x) (neg_lit x ∷ without_complements d w)
                      (in_append_right (unshaken f w) (behind f c w x) (neg_lit x ∷ without_complements d w)
                      (in_append_left (reduced_lines f w x) ((pos_lit x ∷ c) ∷ []) (neg_lit x ∷ without_complements d w)
                      (reduced_in f w x d r.0 (unshaken_reduced w d l i m (not-true (shaken w d) r.1)))))))
                  | inr a2 ↦
                      elim (in_append_cases (reduced_lines f w x) ((pos_lit x ∷ c) ∷ []) d a2) [
                        | inl a3 ↦
                            let r : (g : Clause) × In f g × (reduced w g ≡ true) × (d ≡ neg_lit x ∷ without_complements g w) = reduced_from f w x d a3 in
                            absurd (short_lacks w x l (b l i) r.0 i (subst (λ z. In z (negated l)) r.3 m))
                        | inr (inl q) ↦ holds_new e l x d (b l i) (subst (λ z. In z (pos_lit x)) (sym q) (inl refl))
                        | inr (inr q) ↦ absurd q
                      ]
                ]
            | inr a1 ↦ holds_new e l x d (b l i) (weakened_from f w x d a1)
          ]
      | inr a ↦
          let r : (k : Literal) × In w k × (d ≡ k ∷ neg_lit x ∷ []) = in_map_from (λ l. l ∷ neg_lit x ∷ []) w d a in
          absurd (pair_lacks w x l (b l i) n i r.0 r.1 (subst (λ z. In z (negated l)) r.2 m))
    ]

fourth_against : (f : List Clause) (c w : Clause) (x : ℕ) → Below x w → has_pair w ≡ false → AllBelow x f → (e : List Clause) (l : Literal) (d : Clause) → In w l
    → SubClauses (third_base f c w x) e → In (third_base f c w x ++ implied w x) d → rat_against e (l ∷ neg_lit x ∷ []) l d ≡ true
fourth_against f c w x b n bf e l d i p j =
    elim (cases_Bool (has d (negated l))) [
      | inr q ↦ or_left (not (has d (negated l))) (refutes e (complements (l ∷ neg_lit x ∷ []) ++ complements (without d (negated l)))) (not_from_false (has d (negated l)) q)
      | inl q ↦ against_some e (l ∷ neg_lit x ∷ []) l d (fourth_cases f c w x b n bf e l d i p j (has_in d (negated l) q))
    ]

fourth_part : (f : List Clause) (c w : Clause) (x : ℕ) → Below x w → has_pair w ≡ false → AllBelow x f
    → Good (third_base f c w x) (map Add (implied w x)) (third_base f c w x ++ implied w x)
fourth_part f c w x b n bf =
    good_adds (third_base f c w x) (implied w x) (λ e d i p q.
    let r : (l : Literal) × In w l × (d ≡ l ∷ neg_lit x ∷ []) = in_map_from (λ l. l ∷ neg_lit x ∷ []) w d i in (
      ap (λ y. valid e (Add y)) r.2 ∙ rat_valid e r.0 (neg_lit x ∷ []) (λ h j. fourth_against f c w x b n bf e r.0 h r.1 p (q h j)),
      ap is_empty r.2,
    ))

-- ---- parts 5 and 6: not x follows, and then a clause with x is false

unit_forced : (e : List Clause) (s : Clause) (l m : Literal) → In e (l ∷ m ∷ []) → In (closure e s) (negated l) → In (closure e s) m
unit_forced e s l m i j =
    closure_closed e s m
    (in_union_right (closure e s) (flat_map (forced (closure e s)) e) m
    (in_flat_map (forced (closure e s)) e (l ∷ m ∷ []) m i
    (in_filter (forces (closure e s) (l ∷ m ∷ [])) (l ∷ m ∷ []) m (inr (inl refl))
    (and_from (same m l || has (closure e s) (negated l)) _ (or_right (same m l) (has (closure e s) (negated l)) (in_has (closure e s) (negated l) j))
    (and_from (same m m || has (closure e s) (negated m)) true (or_left (same m m) (has (closure e s) (negated m)) (same_refl m)) refl)))))

-- c is RUP where it shares a literal with w and d, which has c's literals and x, stands
restored_valid : (e : List Clause) (c w d : Clause) (x : ℕ) (l : Literal) → In c l → In e (l ∷ neg_lit x ∷ []) → In e d
    → ((m : Literal) → In d m → In c m ⊎ (m ≡ pos_lit x)) → valid e (Add c) ≡ true
restored_valid e c w d x l i j k h =
    let n : In (closure e (complements c)) (neg_lit x) = unit_forced e (complements c) l (neg_lit x) j (closure_holds e (complements c) (negated l) (in_map negated c l i)) in
    rup_valid e c (clause_refuted e (complements c) d k (λ m q.
    let r : (y : Literal) × In d y × (m ≡ negated y) = in_map_from negated d m q in
    elim (h r.0 r.1) [
      | inl a ↦ closure_holds e (complements c) m (subst (In (complements c)) (sym r.2) (in_map negated c r.0 a))
      | inr a ↦ subst (In (closure e (complements c))) (sym (r.2 ∙ ap negated a)) n
    ]))

abbrev pub fourth_base : List Clause → Clause → Clause → ℕ → List Clause
fourth_base f c w x = third_base f c w x ++ implied w x

implied_there : (f : List Clause) (c w : Clause) (x : ℕ) (l : Literal) → In w l → In (fourth_base f c w x) (l ∷ neg_lit x ∷ [])
implied_there f c w x l i = in_append_right (third_base f c w x) (implied w x) (l ∷ neg_lit x ∷ []) (in_map (λ l. l ∷ neg_lit x ∷ []) w l i)

weakened_there : (f : List Clause) (c w : Clause) (x : ℕ) (e : Clause) → In (filter (shaken w) f) e → In (fourth_base f c w x) (e ++ pos_lit x ∷ [])
weakened_there f c w x e i =
    in_append_left (third_base f c w x) (implied w x) (e ++ pos_lit x ∷ [])
    (in_append_right (unshaken f w ++ behind f c w x) (weakened f w x) (e ++ pos_lit x ∷ []) (in_map (λ e. e ++ pos_lit x ∷ []) (filter (shaken w) f) e i))

own_there : (f : List Clause) (c w : Clause) (x : ℕ) → In (fourth_base f c w x) (pos_lit x ∷ c)
own_there f c w x =
    in_append_left (third_base f c w x) (implied w x) (pos_lit x ∷ c)
    (in_append_left (unshaken f w ++ behind f c w x) (weakened f w x) (pos_lit x ∷ c)
    (in_append_right (unshaken f w) (behind f c w x) (pos_lit x ∷ c)
    (in_append_right (reduced_lines f w x) ((pos_lit x ∷ c) ∷ []) (pos_lit x ∷ c) (inl refl))))

weak_cases : (e : Clause) (x : ℕ) (m : Literal) → In (e ++ pos_lit x ∷ []) m → In e m ⊎ (m ≡ pos_lit x)
weak_cases e x m i = elim (in_append_cases e (pos_lit x ∷ []) m i) [ inl j ↦ inl j | inr (inl q) ↦ inr q | inr (inr q) ↦ absurd q ]

own_cases : (c : Clause) (x : ℕ) (m : Literal) → In (pos_lit x ∷ c) m → In c m ⊎ (m ≡ pos_lit x)
own_cases c x m (inl q) = inr q
own_cases c x m (inr i) = inl i

shares_nonempty : (c w : Clause) → shares c w ≡ true → is_empty c ≡ false
shares_nonempty [] w h = absurd (false≢true h)
shares_nonempty (l ∷ c) w h = refl

fifth_part : (f : List Clause) (c w : Clause) (x : ℕ) → Good (fourth_base f c w x) (map Add (filter (shaken w) f)) (fourth_base f c w x ++ filter (shaken w) f)
fifth_part f c w x =
    good_adds (fourth_base f c w x) (filter (shaken w) f) (λ e d i p q.
    let r : In f d × (shaken w d ≡ true) = in_filter_from (shaken w) f d i in
    let s : (shares d w ≡ true) × (shares d (complements w) ≡ true) = and_parts (shares d w) (shares d (complements w)) r.1 in
    let l : (l : Literal) × In d l × (has w l ≡ true) = any_from (has w) d s.0 in (
      restored_valid e d w (d ++ pos_lit x ∷ []) x l.0 l.1 (p (l.0 ∷ neg_lit x ∷ []) (implied_there f c w x l.0 (has_in w l.0 l.2)))
          (p (d ++ pos_lit x ∷ []) (weakened_there f c w x d i)) (weak_cases d x),
      shares_nonempty d w s.0,
    ))

in_nonempty : (c : Clause) (l : Literal) → In c l → is_empty c ≡ false
in_nonempty [] l i = absurd i
in_nonempty (m ∷ c) l i = refl

sixth_part : (f : List Clause) (c w : Clause) (x : ℕ) → shares w c ≡ true
    → Good (fourth_base f c w x ++ filter (shaken w) f) (Add c ∷ []) ((fourth_base f c w x ++ filter (shaken w) f) ++ c ∷ [])
sixth_part f c w x h =
    let l : (l : Literal) × In w l × (has c l ≡ true) = any_from (has c) w h in
    let i : In c l.0 = has_in c l.0 l.2 in
    good_adds (fourth_base f c w x ++ filter (shaken w) f) (c ∷ []) (λ e d j p q.
    elim j [
      | inl r ↦ (
        ap (λ y. valid e (Add y)) r
            ∙ restored_valid e c w (pos_lit x ∷ c) x l.0 i
            (p (l.0 ∷ neg_lit x ∷ []) (in_append_left (fourth_base f c w x) (filter (shaken w) f) (l.0 ∷ neg_lit x ∷ []) (implied_there f c w x l.0 l.1)))
            (p (pos_lit x ∷ c) (in_append_left (fourth_base f c w x) (filter (shaken w) f) (pos_lit x ∷ c) (own_there f c w x))) (own_cases c x),
        ap is_empty r ∙ in_nonempty c l.0 i,
      )
      | inr r ↦ absurd r
    ])

-- ---- part 7

abbrev pub helpers : List Clause → Clause → Clause → ℕ → List Clause
helpers f c w x = reduced_lines f w x ++ (pos_lit x ∷ c) ∷ [] ++ weakened f w x ++ implied w x

-- each of the clauses that go names x
helper_names : (f : List Clause) (c w : Clause) (x : ℕ) (d : Clause) → In (helpers f c w x) d → In d (pos_lit x) ⊎ In d (neg_lit x)
helper_names f c w x d i =
    elim (in_append_cases (reduced_lines f w x ++ (pos_lit x ∷ c) ∷ [] ++ weakened f w x) (implied w x) d i) [
      | inr a ↦
          let r : (l : Literal) × In w l × (d ≡ l ∷ neg_lit x ∷ []) = in_map_from (λ l. l ∷ neg_lit x ∷ []) w d a in
          inr (subst (λ z. In z (neg_lit x)) (sym r.2) (inr (inl refl)))
      | inl a ↦
          elim (in_append_cases (reduced_lines f w x ++ (pos_lit x ∷ c) ∷ []) (weakened f w x) d a) [
            | inr b ↦ inl (weakened_from f w x d b)
            | inl b ↦
                elim (in_append_cases (reduced_lines f w x) ((pos_lit x ∷ c) ∷ []) d b) [
                  | inl e ↦
                      let r : (g : Clause) × In f g × (reduced w g ≡ true) × (d ≡ neg_lit x ∷ without_complements g w) = reduced_from f w x d e in
                      inr (subst (λ z. In z (neg_lit x)) (sym r.3) (inl refl))
                  | inr (inl q) ↦ inl (subst (λ z. In z (pos_lit x)) (sym q) (inl refl))
                  | inr (inr q) ↦ absurd q
                ]
          ]
    ]

other_set : (c d : Clause) (x : ℕ) → Below x c → In d (pos_lit x) ⊎ In d (neg_lit x) → same_set c d ≡ false
other_set c d x b (inl i) = false_from_ne_true (same_set c d) (λ h. below_pos x c b ((set_sub c d h).1 (pos_lit x) i))
other_set c d x b (inr i) = false_from_ne_true (same_set c d) (λ h. below_neg x c b ((set_sub c d h).1 (neg_lit x) i))

seven : (u r o e i s c : List Clause) → u ++ ((r ++ o ++ e ++ i) ++ (s ++ c)) ≡ ((((u ++ (r ++ o) ++ e) ++ i) ++ s) ++ c)
seven u r o e i s c = simp append_assoc

pub seventh_part : (f : List Clause) (c w : Clause) (x : ℕ) → AllBelow x f
    → Good ((fourth_base f c w x ++ filter (shaken w) f) ++ c ∷ []) (map Delete (helpers f c w x)) (unshaken f w ++ (filter (shaken w) f ++ c ∷ []))
seventh_part f c w x b =
    subst (λ z. Good z (map Delete (helpers f c w x)) (unshaken f w ++ (filter (shaken w) f ++ c ∷ [])))
    (seven (unshaken f w) (reduced_lines f w x) ((pos_lit x ∷ c) ∷ []) (weakened f w x) (implied w x) (filter (shaken w) f) (c ∷ []))
    (good_deletes (unshaken f w) (helpers f c w x) (filter (shaken w) f ++ c ∷ []) (λ e d i j.
    other_set e d x (b e (in_filter_from (λ c. not (shaken w c)) f e i).0) (helper_names f c w x d j)))

-- ---- the whole block

pub block_good : (f : List Clause) (c w : Clause) (x : ℕ) → AllBelow x f → Below x c → Below x w → pr f c w ≡ true
    → Good f (block f c w x) (unshaken f w ++ (filter (shaken w) f ++ c ∷ []))
unfolding block
block_good f c w x bf bc bw k =
    let q : (has_pair w ≡ false) × (shares w c ≡ true) × ((d : Clause) → In f d → pr_against f c w d ≡ true) = pr_all f c w k in
    good_append f _ (map Delete (helpers f c w x)) ((fourth_base f c w x ++ filter (shaken w) f) ++ c ∷ []) _
    (good_append f _ (Add c ∷ []) (fourth_base f c w x ++ filter (shaken w) f) _
    (good_append f _ (map Add (filter (shaken w) f)) (fourth_base f c w x) _
    (good_append f _ (map Add (implied w x)) (third_base f c w x) _
    (good_append f _ (weakening f w x) ((f ++ reduced_lines f w x) ++ (pos_lit x ∷ c) ∷ []) _
    (good_append f (map Add (reduced_lines f w x)) (Add (pos_lit x ∷ c) ∷ []) (f ++ reduced_lines f w x) _
    (first_part f w x bf)
    (second_part f c w x bf bc k))
    (subst (λ z. Good z (weakening f w x) (third_base f c w x)) (sym (append_assoc f (reduced_lines f w x) ((pos_lit x ∷ c) ∷ []))) (third_part f w x (behind f c w x))))
    (fourth_part f c w x bw q.0 bf))
    (fifth_part f c w x))
    (sixth_part f c w x q.1))
    (seventh_part f c w x bf)

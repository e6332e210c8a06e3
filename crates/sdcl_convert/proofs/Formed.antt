-- The lines of a converted proof are well-formed.
use Rattle.std.proofs.Common.{◌≡◌, ◌≤◌, ◌<◌, ◌+◌, ℕ, zero, suc, Bool, true, false, not, cond, List, [], ◌∷◌, ◌++◌, map, length, inl, inr, refl, sym, ap, subst, ◌∙◌, arith}
use Rattle.std.specs.Prelude.{slice_index_or}
use Rattle.std.specs.List.{filter, flat_map}
use Rattle.std.proofs.lemmas.List.Elements.{All-nil, All-cons, All-append, All-filter}
use Rattle.sdcl_base.specs.Literal.{Literal, Clause, pos_lit, neg_lit, negated, has, without_complements}
use Rattle.sdcl_base.specs.Codes.{InRange}
use Rattle.sdcl_base.specs.Sets.{In}
use Rattle.sdcl_base.specs.declared.lit.TheConstants.{MAX_VARIABLE}
use Rattle.sdcl_base.proofs.In.{in_append_cases, in_filter_from, in_map_from}
use Rattle.sdcl_io.specs.Step.{Step, Add, AddWitness, Delete, All, idle, apply_all, adds_empty}
use Rattle.sdcl_proof.specs.declared.step.Dialect.TheVariants.{Pr, Drat}
use Rattle.sdcl_proof.specs.Steps.{IsClean, IsFormed}
use Rattle.sdcl_proof.specs.RoundTrip.{AreFormed}
use Rattle.sdcl_convert.specs.Conversion.{reduced, shaken, unshaken, reduced_lines, weakened, implied, weakening, block, lines_of, left_by, converted_apart, next_variable}
use Rattle.sdcl_convert.specs.Checked.{witnesses}
use Rattle.sdcl_convert.specs.Laws.{Below, AllBelow, StepBelow, StepsBelow, AreClean, HasRoom, ApartFormed}
use Rattle.sdcl_convert.proofs.Lining.{distinct_short, distinct_own, distinct_weak, distinct_two}
use Rattle.sdcl_convert.proofs.Leaving.{step_leaves}
use Rattle.sdcl_convert.proofs.Apart.{after_below, witnesses_first}
use Rattle.sdcl_convert.proofs.Whole.{in_removed, steps_below_more, next_more}

-- ---- clean clauses

-- a new variable in the range
record IsRanged (x : ℕ) : Type 0 where
  low : 1 ≤ x
  high : x ≤ MAX_VARIABLE

positive : (x : ℕ) → IsRanged x → InRange (pos_lit x)
positive x h = record { low = h.low; high = h.high }

negative : (x : ℕ) → IsRanged x → InRange (neg_lit x)
negative x h = record { low = h.low; high = h.high }

clean_short : (x : ℕ) (c w : Clause) → IsRanged x → IsClean c → Below x c → IsClean (neg_lit x ∷ without_complements c w)
clean_short x c w r h b = record {
  distinct = distinct_short x c w h.distinct b;
  ranged = All-cons InRange (neg_lit x) (without_complements c w) (negative x r) (All-filter (λ l. not (has w (negated l))) InRange c h.ranged);
}

clean_own : (x : ℕ) (c : Clause) → IsRanged x → IsClean c → Below x c → IsClean (pos_lit x ∷ c)
clean_own x c r h b = record { distinct = distinct_own x c h.distinct b; ranged = All-cons InRange (pos_lit x) c (positive x r) h.ranged }

clean_weak : (x : ℕ) (c : Clause) → IsRanged x → IsClean c → Below x c → IsClean (c ++ pos_lit x ∷ [])
clean_weak x c r h b = record {
  distinct = distinct_weak x c h.distinct b;
  ranged = All-append InRange c (pos_lit x ∷ []) h.ranged (All-cons InRange (pos_lit x) [] (positive x r) (All-nil InRange));
}

clean_two : (x : ℕ) (l : Literal) → IsRanged x → InRange l → l.var < x → IsClean (l ∷ neg_lit x ∷ [])
clean_two x l r h b = record {
  distinct = distinct_two x l b;
  ranged = All-cons InRange l (neg_lit x ∷ []) h (All-cons InRange (neg_lit x) [] (negative x r) (All-nil InRange));
}

ranged_in : (c : Clause) (l : Literal) → ((k : ℕ) (d : Literal) → k < length c → InRange (slice_index_or c k d)) → In c l → InRange l
ranged_in [] l h i = absurd i
ranged_in (m ∷ c) l h (inl e) = subst InRange (sym e) (h 0 m (omega arith))
ranged_in (m ∷ c) l h (inr i) = ranged_in c l (λ k d j. h (suc k) d (omega (arith, j))) i

-- ---- lists of clean clauses

clean_none : AreClean []
clean_none d i = absurd i

clean_one : (c : Clause) → IsClean c → AreClean (c ∷ [])
clean_one c h d (inl e) = subst IsClean (sym e) h
clean_one c h d (inr i) = absurd i

clean_on : (f g : List Clause) → AreClean f → AreClean g → AreClean (f ++ g)
clean_on f g h k d i = elim (in_append_cases f g d i) [ inl j ↦ h d j | inr j ↦ k d j ]

clean_filter : (p : Clause → Bool) (f : List Clause) → AreClean f → AreClean (filter p f)
clean_filter p f h d i = h d (in_filter_from p f d i).0

-- of the formula, the new variable is above it
clean_reduced : (f : List Clause) (w : Clause) (x : ℕ) → IsRanged x → AreClean f → AllBelow x f → AreClean (reduced_lines f w x)
clean_reduced f w x r h b d i =
    let q : (e : Clause) × In (filter (reduced w) f) e × (d ≡ neg_lit x ∷ without_complements e w) =
    in_map_from (λ e. neg_lit x ∷ without_complements e w) (filter (reduced w) f) d i in
    let j = (in_filter_from (reduced w) f q.0 q.1).0 in
    subst IsClean (sym q.2) (clean_short x q.0 w r (h q.0 j) (b q.0 j))

clean_weakened : (f : List Clause) (w : Clause) (x : ℕ) → IsRanged x → AreClean f → AllBelow x f → AreClean (weakened f w x)
clean_weakened f w x r h b d i =
    let q : (e : Clause) × In (filter (shaken w) f) e × (d ≡ e ++ pos_lit x ∷ []) = in_map_from (λ e. e ++ pos_lit x ∷ []) (filter (shaken w) f) d i in
    let j = (in_filter_from (shaken w) f q.0 q.1).0 in
    subst IsClean (sym q.2) (clean_weak x q.0 r (h q.0 j) (b q.0 j))

clean_implied : (w : Clause) (x : ℕ) → IsRanged x → IsClean w → Below x w → AreClean (implied w x)
clean_implied w x r h b d i =
    let q : (l : Literal) × In w l × (d ≡ l ∷ neg_lit x ∷ []) = in_map_from (λ l. l ∷ neg_lit x ∷ []) w d i in
    subst IsClean (sym q.2) (clean_two x q.0 r (ranged_in w q.0 h.ranged q.1) (b q.0 q.1))

-- ---- lines

-- a record, so that antt finds the list from a fact
record AreRead (ss : List Step) : Type 0 where
  holds : AreFormed Drat ss

append_holds : (a b : List Step) → AreFormed Drat a → AreFormed Drat b → AreFormed Drat (a ++ b)
append_holds [] b h k = k
append_holds (s ∷ a) b h k = (h.0, h.1, append_holds a b h.2 k)

read_on : (a b : List Step) → AreRead a → AreRead b → AreRead (a ++ b)
read_on a b h k = record { holds = append_holds a b h.holds k.holds }

adds_hold : (cs : List Clause) → AreClean cs → AreFormed Drat (map Add cs)
adds_hold [] h = tt
adds_hold (c ∷ cs) h = (h c (inl refl), tt, adds_hold cs (λ d i. h d (inr i)))

deletes_hold : (cs : List Clause) → AreClean cs → AreFormed Drat (map Delete cs)
deletes_hold [] h = tt
deletes_hold (c ∷ cs) h = (h c (inl refl), tt, deletes_hold cs (λ d i. h d (inr i)))

pairs_hold : (x : ℕ) (es : List Clause) → IsRanged x → AreClean es → AllBelow x es → AreFormed Drat (flat_map (λ e. Add (e ++ pos_lit x ∷ []) ∷ Delete e ∷ []) es)
pairs_hold x [] r h b = tt
pairs_hold x (e ∷ es) r h b =
    (clean_weak x e r (h e (inl refl)) (b e (inl refl)), tt, (h e (inl refl), tt, pairs_hold x es r (λ d i. h d (inr i)) (λ d i. b d (inr i))))

read_adds : (cs : List Clause) → AreClean cs → AreRead (map Add cs)
read_adds cs h = record { holds = adds_hold cs h }

read_deletes : (cs : List Clause) → AreClean cs → AreRead (map Delete cs)
read_deletes cs h = record { holds = deletes_hold cs h }

read_add : (c : Clause) → IsClean c → AreRead (Add c ∷ [])
read_add c h = record { holds = (h, tt, tt) }

read_pairs : (f : List Clause) (w : Clause) (x : ℕ) → IsRanged x → AreClean f → AllBelow x f → AreRead (weakening f w x)
read_pairs f w x r h b = record {
  holds = pairs_hold x (filter (shaken w) f) r (clean_filter (shaken w) f h) (λ d i. b d (in_filter_from (shaken w) f d i).0);
}

read_block : (f : List Clause) (c w : Clause) (x : ℕ) → IsRanged x → AreClean f → AllBelow x f → IsClean c → Below x c → IsClean w → Below x w → AreRead (block f c w x)
unfolding block
read_block f c w x r h b hc bc hw bw =
    let short = clean_reduced f w x r h b in
    let own = clean_own x c r hc bc in
    let named = clean_implied w x r hw bw in
    read_on _ (map Delete (reduced_lines f w x ++ (pos_lit x ∷ c) ∷ [] ++ weakened f w x ++ implied w x))
    (read_on _ (Add c ∷ [])
    (read_on _ (map Add (filter (shaken w) f))
    (read_on _ (map Add (implied w x))
    (read_on _ (weakening f w x)
    (read_on (map Add (reduced_lines f w x)) (Add (pos_lit x ∷ c) ∷ []) (read_adds (reduced_lines f w x) short) (read_add (pos_lit x ∷ c) own))
    (read_pairs f w x r h b))
    (read_adds (implied w x) named))
    (read_adds (filter (shaken w) f) (clean_filter (shaken w) f h)))
    (read_add c hc))
    (read_deletes (reduced_lines f w x ++ (pos_lit x ∷ c) ∷ [] ++ weakened f w x ++ implied w x)
    (clean_on (reduced_lines f w x ++ (pos_lit x ∷ c) ∷ [] ++ weakened f w x) (implied w x)
    (clean_on (reduced_lines f w x ++ (pos_lit x ∷ c) ∷ []) (weakened f w x)
    (clean_on (reduced_lines f w x) ((pos_lit x ∷ c) ∷ []) short (clean_one (pos_lit x ∷ c) own))
    (clean_weakened f w x r h b))
    named))

read_lines : (f : List Clause) (x n : ℕ) (s : Step) → 1 ≤ x → x + witnesses (s ∷ []) + n ≤ MAX_VARIABLE + 1 → AreClean f → AllBelow x f → IsFormed s → StepBelow x s → AreRead (lines_of All f x s)
unfolding lines_of idle
read_lines f x n (Add c) low room h b k d = read_add c k
read_lines f x n (AddWitness c w) low room h b k d = read_block f c w x (record { low = low; high = omega (arith, room) }) h b k.0 d.0 k.1 d.1
read_lines f x n (Delete c) low room h b k d = record { holds = (k, tt, tt) }

-- ---- what the lines of a step leave

left_clean : (f : List Clause) (s : Step) → AreClean f → IsFormed s → AreClean (left_by f s)
left_clean f (Add c) h k = clean_on f (c ∷ []) h (clean_one c k)
left_clean f (AddWitness c w) h k =
    clean_on (unshaken f w) (filter (shaken w) f ++ c ∷ []) (clean_filter (λ e. not (shaken w e)) f h)
    (clean_on (filter (shaken w) f) (c ∷ []) (clean_filter (shaken w) f h) (clean_one c k.0))
left_clean f (Delete c) h k = λ d i. h d (in_removed f c d i)

read_or_none : (b : Bool) (ss : List Step) → AreRead ss → AreRead (cond b [] ss)
read_or_none true ss h = record { holds = tt }
read_or_none false ss h = h

first_and_rest : (s : Step) (ss : List Step) → witnesses (s ∷ ss) ≡ witnesses (s ∷ []) + witnesses ss
first_and_rest (Add c) ss = omega arith
first_and_rest (AddWitness c w) ss = omega arith
first_and_rest (Delete c) ss = omega arith

read_apart : (f : List Clause) (ss : List Step) (x : ℕ) → AreClean f → AreFormed Pr ss → HasRoom f ss x → AreRead (converted_apart All f ss x)
unfolding converted_apart
read_apart f [] x h k r = record { holds = tt }
read_apart f (s ∷ ss) x h k r =
    let g : List Clause = apply_all All f (lines_of All f x s) in
    let y : ℕ = next_variable s x in
    let more : x ≤ y = next_more s x in
    read_on (lines_of All f x s) (cond (adds_empty s) [] (converted_apart All g ss y))
    (read_lines f x (witnesses ss) s r.some (omega (arith, r.enough, first_and_rest s ss)) h r.formula k.0 r.additions.0)
    (read_or_none (adds_empty s) (converted_apart All g ss y)
    (read_apart g ss y (subst AreClean (sym (step_leaves f x s r.formula)) (left_clean f s h k.0)) k.2
    (record {
      some = omega (arith, r.some, more);
      enough = omega (arith, r.enough, witnesses_first s ss x);
      formula = after_below f g x y s r.formula r.additions.0 refl refl;
      additions = steps_below_more x y ss more r.additions.1;
    })))

pub formed_law : ApartFormed
formed_law f ss x h k r = (read_apart f ss x h k r).holds

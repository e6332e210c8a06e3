-- What a clause is good for that has the literals of the analysis.
use Rattle.std.proofs.Common.{◌≡◌, ◌<◌, ℕ, true, List, [], ◌∷◌, length, inl, refl, sym, ap, subst, arith}
use Rattle.std.specs.List.{list_any}
use Rattle.std.proofs.lemmas.List.{length-map}
use Rattle.sdcl_base.specs.Literal.{Literal, Clause, negated, has, same_set, no_variable_twice}
use Rattle.sdcl_base.specs.Propagation.{falsified}
use Rattle.sdcl_base.specs.Sets.{In, Sub}
use Rattle.sdcl_base.proofs.In.{in_has, all_in, all_from, any_in}
use Rattle.sdcl_base.proofs.SameSets.{same_set_refl, set_sub}
use Rattle.sdcl_store.specs.Slots.{Slots, is_alive, clause_of, live}
use Rattle.sdcl_store.specs.Fitting.{Level, literals, trail_fits, last_level}
use Rattle.sdcl_store.specs.Analysis.{analysis}
use Rattle.sdcl_store.specs.Trails.{on_trail, back_level, Asserts}
use Rattle.sdcl_store.specs.Laws.{Learned}
use Rattle.sdcl_store.proofs.Analysing.{analysis_learned}
use Rattle.sdcl_store.proofs.Asserting.{analysis_asserts_any}
use Rattle.sdcl_store.proofs.Fitting.{trail_once}
use Rattle.sdcl_store.proofs.Jumping.{trail_lengths}
use Rattle.sdcl_store.proofs.Only.{asserts_only}
use Rattle.sdcl_store.proofs.Settling.{new_same, rup_same}
use Rattle.sdcl_trail.specs.Levels.{Levels, decisions, levels_of}
use Rattle.sdcl_prop.specs.Seeing.{entries_seen, levels_seen, FitsOver}
use Rattle.sdcl_analyze.specs.Learning.{levels_of_clause, IsLearned}
use Rattle.sdcl_analyze.proofs.Ready.{alive_in}

-- a trail that fits has a decision where it has more than one level
pub some_decision : (slots : Slots) (t : Levels) → 1 < length (levels_of t) → FitsOver slots t → decisions t ≡ [] → ⊥
some_decision slots t h f e =
    omega (arith, h, trail_lengths (live slots) (decisions t) (levels_seen slots t) f, length-map (levels_of t) (entries_seen slots), ap length e)

pub alive_like : (slots : Slots) (i : ℕ) → is_alive slots i ≡ true → list_any (same_set (clause_of slots i)) (live slots) ≡ true
alive_like slots i h =
    any_in (same_set (clause_of slots i)) (live slots) (clause_of slots i) (alive_in slots i h) (same_set_refl (clause_of slots i))

-- a clause with the same literals may be learned as well
learned_as : (f : List Clause) (levels : List Level) (c a : Clause) → same_set c a ≡ true → Learned f levels a → Learned f levels c
learned_as f levels c a e v =
    let q : Sub c a × Sub a c = set_sub c a e in
    record {
      is_rup = rup_same f c a q.1 v.is_rup;
      fresh = new_same f c a q.0 v.fresh;
      false_here = all_from (λ l. has (on_trail levels) (negated l)) c (λ l i. all_in (λ m. has (on_trail levels) (negated m)) a l v.false_here (q.0 l i));
    }

pub results : (f : List Clause) (ds : Clause) (levels : List Level) (d clause : Clause) (back glue : ℕ) (first : Literal) (rest : Clause) → (ds ≡ [] → ⊥) → trail_fits f ds levels ≡ true
    → list_any (same_set d) f ≡ true → falsified (on_trail levels) d ≡ true → same_set clause (analysis levels d) ≡ true → no_variable_twice clause ≡ true → clause ≡ first ∷ rest
    → has (literals (last_level levels)) (negated first) ≡ true → back ≡ back_level levels clause → glue ≡ levels_of_clause levels clause → IsLearned f levels d clause back glue
results f ds levels d clause back glue first rest n t i y is apart parts last b g =
    let r : (p : Literal) × Asserts levels clause (back_level levels clause) p = analysis_asserts_any f ds levels d clause n t i y is in
    let own : has clause first ≡ true = in_has clause first (subst (λ (c : Clause). In c first) (sym parts) (inl refl)) in
    let one : first ≡ r.0 = asserts_only levels clause (back_level levels clause) r.0 first (trail_once f ds levels t) r.1 own last in
    record {
      is = is;
      apart = apart;
      sound = learned_as f levels clause (analysis levels d) is (analysis_learned f ds levels d n t i y);
      first = first;
      rest = rest;
      parts = parts;
      asserts = subst (λ (k : ℕ). Asserts levels clause k first) (sym b) (subst (λ (p : Literal). Asserts levels clause (back_level levels clause) p) (sym one) r.1);
      back_is = b;
      glue_is = g;
    }

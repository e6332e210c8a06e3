-- The proof steps of a path are valid.
use Rattle.std.proofs.Common.{◌≡◌, true, false, not, List, [], ◌∷◌, ◌++◌, inl, inr, refl, sym, ap, subst, ◌∙◌, append_assoc, append-nil}
use Rattle.std.proofs.lemmas.Bool.{and_parts, or_left, false≢true, true≢false, not-true, false_from_ne_true, cond-false}
use Rattle.std.specs.List.{list_any}
use Rattle.sdcl_base.proofs.In.{in_append_left, in_append_cases, any_in, any_from}
use Rattle.sdcl_base.proofs.SameSets.{set_trans}
use Rattle.sdcl_base.specs.Literal.{Clause, subset, same_set, has_pair}
use Rattle.sdcl_base.specs.Propagation.{refutes}
use Rattle.sdcl_base.specs.Redundancy.{rup, is_new}
use Rattle.sdcl_base.specs.Sets.{In}
use Rattle.sdcl_io.proofs.Removing.{in_removed}
use Rattle.sdcl_io.specs.Step.{Step, idle, remove_clause, apply, rat_first, valid, ValidSteps}
use Rattle.sdcl_journal.proofs.Bound.{Same, closed_same}
use Rattle.sdcl_journal.specs.Machine.{Rules, Back_due, Done, RunState, Event, Decide, NoWitness, InnerSpent, Learn, LearnWitness, Back, Forget, Empty, Model, Unknown, database, start, may_search, may_forget, Allowed, closed, with_learned, after, PathFrom, Path, steps}

-- no learned clause has the literals of a formula clause
abbrev pub Apart : RunState → Type 0
Apart s = (c d : Clause) → In s.formula c → In s.learned d → same_set c d ≡ false

-- an event that leaves formula and learned clauses as they are
pub quiet : (s t : RunState) → Same s t → Apart s → Apart t
quiet s t e a c d i j = a c d (subst (λ f. In f c) e.formula i) (subst (λ f. In f d) e.learned j)

pub quiet_database : (s t : RunState) → Same s t → database t ≡ database s
quiet_database s t e = ap (λ f. f ++ t.learned) e.formula ∙ ap (λ g. s.formula ++ g) e.learned

pub new_differs : (f g : List Clause) (c d : Clause) → is_new (f ++ g) c ≡ true → In f d → same_set d c ≡ false
unfolding is_new
new_differs f g c d h i =
    let n : (not (has_pair c) ≡ true) × (not (list_any (λ d. subset d c) (f ++ g)) ≡ true) = and_parts (not (has_pair c)) (not (list_any (λ d. subset d c) (f ++ g))) h in
    false_from_ne_true (same_set d c) (λ e.
    true≢false (sym (any_in (λ d. subset d c) (f ++ g) d (in_append_left f g d i) (and_parts (subset d c) (subset c d) e).0) ∙ not-true (list_any (λ d. subset d c) (f ++ g)) n.1))

pub joined_apart : (s : RunState) (c : Clause) → Apart s → is_new (database s) c ≡ true → Apart (with_learned (closed s) c)
joined_apart s c a h d e i j =
    let k : Same s (closed s) = closed_same s.turn s in
    elim (in_append_cases (closed s).learned (c ∷ []) e j) [
      | inl m ↦ quiet s (closed s) k a d e i m
      | inr (inl q) ↦ subst (λ z. same_set d z ≡ false) (sym q) (new_differs s.formula s.learned c d h (subst (λ f. In f d) k.formula i))
      | inr (inr q) ↦ absurd q
    ]

pub joined_database : (s : RunState) (c : Clause) → database (with_learned (closed s) c) ≡ database s ++ c ∷ []
joined_database s c = sym (append_assoc (closed s).formula (closed s).learned (c ∷ [])) ∙ ap (λ f. f ++ c ∷ []) (quiet_database s (closed s) (closed_same s.turn s))

-- a clause that is not in front goes from what stands behind
pub remove_learned : (f g : List Clause) (d : Clause) → ((c : Clause) → In f c → same_set c d ≡ false) → remove_clause (f ++ g) d ≡ f ++ remove_clause g d
remove_learned [] g d h = refl
remove_learned (c ∷ f) g d h =
    cond-false (same_set c d) (f ++ g) (c ∷ remove_clause (f ++ g) d) (h c (inl refl)) ∙ ap (λ z. c ∷ z) (remove_learned f g d (λ e i. h e (inr i)))

pub valid_from : (f g : List Clause) (ss : List Step) → f ≡ g → ValidSteps g ss → ValidSteps f ss
valid_from f g ss e v = subst (λ h. ValidSteps h ss) (sym e) v

pub no_more : (r : Rules) (s : RunState) (es : List Event) (f : List Clause) → s.turn ≡ Done → PathFrom r s es → ValidSteps f (steps es)
unfolding PathFrom ValidSteps steps Allowed
no_more r s [] f e p = tt
no_more r s (Decide l ∷ es) f e p = absurd (false≢true (sym (ap may_search e) ∙ p.0.turn))
no_more r s (NoWitness ∷ es) f e p = absurd (false≢true (sym (ap may_search e) ∙ p.0.0.turn))
no_more r s (InnerSpent v ∷ es) f e p = absurd (false≢true (sym (ap may_search e) ∙ p.0.0.turn))
no_more r s (Learn c ∷ es) f e p = absurd (false≢true (sym (ap may_search e) ∙ p.0.turn))
no_more r s (LearnWitness c w ∷ es) f e p = absurd (false≢true (sym (ap may_search e) ∙ p.0.turn))
no_more r s (Back k ∷ es) f e p = let q : Done ≡ Back_due = sym e ∙ p.0.0 in absurd (cc)
no_more r s (Forget d ∷ es) f e p = absurd (false≢true (sym (ap may_forget e) ∙ p.0.0))
no_more r s (Empty ∷ es) f e p = absurd (false≢true (sym (ap may_search e) ∙ p.0.0))
no_more r s (Model ∷ es) f e p = absurd (false≢true (sym (ap may_search e) ∙ p.0.0))
no_more r s (Unknown ∷ es) f e p = absurd (false≢true (sym (ap may_search e) ∙ p.0.0))

pub steps_valid : (r : Rules) (s : RunState) (es : List Event) → Apart s → PathFrom r s es → ValidSteps (database s) (steps es)
unfolding PathFrom ValidSteps steps Allowed after valid rup apply idle
steps_valid r s [] a p = tt
steps_valid r s (Decide l ∷ es) a p =
    valid_from _ _ (steps es) (sym (quiet_database s (closed s) (closed_same s.turn s))) (steps_valid r (after s (Decide l)) es (quiet s (closed s) (closed_same s.turn s) a) p.1)
steps_valid r s (NoWitness ∷ es) a p =
    valid_from _ _ (steps es) (sym (quiet_database s (closed s) (closed_same s.turn s))) (steps_valid r (after s NoWitness) es (quiet s (closed s) (closed_same s.turn s) a) p.1)
steps_valid r s (InnerSpent v ∷ es) a p =
    valid_from _ _ (steps es) (sym (quiet_database s (closed s) (closed_same s.turn s))) (steps_valid r (after s (InnerSpent v)) es (quiet s (closed s) (closed_same s.turn s) a) p.1)
steps_valid r s (Learn c ∷ es) a p = (
  or_left (rup (database s) c) (rat_first (database s) c) p.0.is_rup,
  valid_from _ _ (steps es) (sym (joined_database s c)) (steps_valid r (after s (Learn c)) es (joined_apart s c a p.0.fresh) p.1),
)
steps_valid r s (LearnWitness c w ∷ es) a p = (
  p.0.is_pr,
  valid_from _ _ (steps es) (sym (joined_database s c)) (steps_valid r (after s (LearnWitness c w)) es (joined_apart s c a p.0.fresh) p.1),
)
steps_valid r s (Back k ∷ es) a p = steps_valid r (after s (Back k)) es a p.1
steps_valid r s (Forget d ∷ es) a p =
    let m : (c : Clause) × In s.learned c × (same_set d c ≡ true) = any_from (same_set d) s.learned p.0.2 in (
      refl,
      valid_from _ _ (steps es)
          (remove_learned s.formula s.learned d (λ c i. false_from_ne_true (same_set c d) (λ h. true≢false (sym (set_trans c d m.0 h m.2) ∙ a c m.0 i m.1))))
          (steps_valid r (after s (Forget d)) es (λ c e i j. a c e i (in_removed s.learned d e j)) p.1),
    )
steps_valid r s (Empty ∷ es) a p = (
  or_left (rup (database s) []) (rat_first (database s) []) (subst (λ ds. refutes (database s) ds ≡ true) p.0.1 p.0.2),
  no_more r (after s Empty) es (database s ++ [] ∷ []) refl p.1,
)
steps_valid r s (Model ∷ es) a p = no_more r (after s Model) es (database s) refl p.1
steps_valid r s (Unknown ∷ es) a p = no_more r (after s Unknown) es (database s) refl p.1

-- the steps of a path are valid from the formula on
pub path_valid : (r : Rules) (f : List Clause) (es : List Event) → Path r f es → ValidSteps f (steps es)
unfolding Path
path_valid r f es p = valid_from f (f ++ []) (steps es) (sym (append-nil f)) (steps_valid r (start f) es (λ c d i j. absurd j) p)

use Rattle.std.proofs.Common.{arith, ◌≡◌, ◌≤◌, ◌+◌, inl, refl, ◌∷◌, ◌++◌, [], length, slice_get, not, subst, sym, ap, ◌∙◌}
use Rattle.sdcl_base.specs.Literal.{Clause}
use Rattle.sdcl_base.specs.Sets.{In}
use Rattle.sdcl_base.specs.Truth.{makes_true}
use Rattle.sdcl_base.specs.Values.{truth_of}
use Rattle.sdcl_base.proofs.In.{in_append_left, in_append_right}
use Rattle.sdcl_trail.specs.Levels.{decisions}
use Rattle.sdcl_witness.specs.Witnesses.{turned}
use Rattle.sdcl_witness.proofs.Levelled.{below, below_yes, below_no, below_none, below_all, below_rest, decisions_in}
use Rattle.sdcl_witness.proofs.Fronts.{filter_append, turned_yes, turned_no, front_first}
use Rattle.sdcl_witness.proofs.extracting.lowest_turned.Goals as goal
use Rattle.sdcl_witness.proofs.extracting.lowest_turned.Goals.{in-Some+else-is_false, in_default}

pub loop-level-init : goal.loop-level-init
loop-level-init c = ap (turned (truth_of c.args.model.now)) (below_none c.args.trail.now)

pub is_false-requires : goal.is_false-requires
is_false-requires c =
    let t = c.args.trail.now in
    let k = c.loop-level.level in
    let d = c.in-Some.decision in
    let more : below t (k + 1) ≡ below t k ++ d ∷ [] = below_yes t k d c.loop-level.auto.level (omega (arith, c.loop-level-test.true, c.level-level-end.ensures.value)) (sym c.decision.ensures ∙ c.in-Some.is) in
    let rest : (r : Clause) × (decisions t ≡ below t (k + 1) ++ r) = below_rest t (k + 1) (omega arith) in
    let i : In (below t (k + 1)) d = subst (λ (x : Clause). In x d) (sym more) (in_append_right (below t k) (d ∷ []) d (inl refl)) in
    c.requires.total d (decisions_in t d (subst (λ (x : Clause). In x d) (sym rest.1) (in_append_left (below t (k + 1)) rest.0 d i)))

pub returns-then-is_false : goal.returns-then-is_false
returns-then-is_false c =
    let t = c.args.trail.now in
    let v = truth_of c.args.model.now in
    let k = c.loop-level.level in
    let d = c.in-Some.decision in
    let more : below t (k + 1) ≡ below t k ++ d ∷ [] = below_yes t k d c.loop-level.auto.level (omega (arith, c.loop-level-test.true, c.level-level-end.ensures.value)) (sym c.decision.ensures ∙ c.in-Some.is) in
    let rest : (r : Clause) × (decisions t ≡ below t (k + 1) ++ r) = below_rest t (k + 1) (omega arith) in
    ap (λ (x : Clause). slice_get x 0)
    (ap (turned v) (rest.1 ∙ ap (λ (x : Clause). x ++ rest.0) more) ∙ filter_append (λ l. not (makes_true v l)) (below t k ++ d ∷ []) rest.0
    ∙ ap (λ (x : Clause). x ++ turned v rest.0) (turned_yes v (below t k) d (sym c.is_false.ensures ∙ c.if-is_false.true)))
    ∙ front_first (turned v (below t k)) (turned v rest.0) d c.loop-level.invariant

pub loop-level-preserved : goal.loop-level-preserved
loop-level-preserved c =
    let t = c.args.trail.now in
    let v = truth_of c.args.model.now in
    let k = c.loop-level.level in
    let high : k ≤ length t.starts = omega (arith, c.loop-level-test.true, c.level-level-end.ensures.value) in
    elim c.match-decision.branch [
      | in-Some+else-is_false w ↦
          let d = w.in-Some.decision in
          let more : below t (k + 1) ≡ below t k ++ d ∷ [] = below_yes t k d c.loop-level.auto.level high (sym c.decision.ensures ∙ w.in-Some.is) in
          ap (turned v) more ∙ turned_no v (below t k) d (sym w.is_false.ensures ∙ w.if-is_false.false) ∙ c.loop-level.invariant
      | in_default w ↦
          ap (turned v) (below_no t k c.loop-level.auto.level high (sym c.decision.ensures ∙ w.in_default.is)) ∙ c.loop-level.invariant
    ]

pub unreachable-requires : goal.unreachable-requires
unreachable-requires c =
    let t = c.args.trail.now in
    let v = truth_of c.args.model.now in
    c.requires.differs (ap (turned v) (sym (below_all t c.loop-level.level (omega (arith, c.loop-level-test.false, c.level-level-end.ensures.value)))) ∙ c.loop-level.invariant)

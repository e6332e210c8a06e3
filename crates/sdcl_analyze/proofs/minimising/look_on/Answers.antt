use Rattle.std.proofs.Common.{arith, ◌≡◌, ◌≤◌, ◌<◌, ℕ, false, length, get_or, sym, ap, subst, inl, inr, ◌∙◌}
use Rattle.sdcl_base.specs.Literal.{Literal, negated}
use Rattle.sdcl_base.specs.Sets.{In}
use Rattle.sdcl_store.specs.Slots.{clause_of}
use Rattle.sdcl_trail.specs.Levels.{entries, reason_in, levels_of}
use Rattle.sdcl_analyze.proofs.Places.{at_place, in_place}
use Rattle.sdcl_analyze.specs.declared.minimising.Standing.TheVariants as standing
use Rattle.sdcl_analyze.specs.Numbers.{has_number}
use Rattle.sdcl_analyze.specs.Marking.{lits, lower_lits}
use Rattle.sdcl_analyze.specs.Covering.{middle_of, height_in, IsFine}
use Rattle.sdcl_analyze.specs.Searching.{standing_of}
use Rattle.sdcl_analyze.proofs.Covered.{Grounds, grounds}
use Rattle.sdcl_analyze.proofs.Search.{Says, Other, says, reason_alive, frame_other, frame_own, past_first, past_more, looked_all, looked_none, low_within}
use Rattle.sdcl_analyze.proofs.minimising.look_on.Goals as goal
use Rattle.sdcl_analyze.proofs.minimising.look_on.Goals.{then-var-frame+then-not-contains+in-Covered, else-var-frame, else-var-frame-via-then-var-frame+else-not-contains, else-var-frame-via-else-var-frame}

pub length-at-end-requires : goal.length-at-end-requires
length-at-end-requires g c =
    let slots = g.C.Clauses.clauses c.args.clauses.now in
    let t = c.args.trail.now in
    let gr : Grounds slots t = grounds slots t c.level-level.ensures.sound c.requires.fits.0 c.requires.fits.1 in
    reason_alive slots t c.requires.frame.lit c.args.frame.reason gr c.requires.frame.on (ap (reason_in (entries (levels_of t))) c.requires.frame.var ∙ c.requires.frame.reason)

pub loop-at-init : goal.loop-at-init
loop-at-init g c =
    let slots = g.C.Clauses.clauses c.args.clauses.now in
    let t = c.args.trail.now in
    let gr : Grounds slots t = grounds slots t c.level-level.ensures.sound c.requires.fits.0 c.requires.fits.1 in
    past_first slots t c.args.seen.now.members c.args.entered.now.members c.args.frame gr c.requires.frame

pub contains-requires : goal.contains-requires
contains-requires g c =
    let slots = g.C.Clauses.clauses c.args.clauses.now in
    let t = c.args.trail.now in
    let gr : Grounds slots t = grounds slots t c.level-level.ensures.sound c.requires.fits.0 c.requires.fits.1 in
    let d = clause_of slots c.args.frame.reason.0 in
    let m = c.literal.result in
    let h : c.loop-at.at < length d = omega (arith, c.loop-at-test.true, c.length-at-end.ensures.count) in
    let p : m ≡ get_or d c.loop-at.at m = at_place d c.loop-at.at m h c.literal.ensures in
    let i : In d m = in_place d c.loop-at.at m h p in
    let v : c.var-var.result ≡ m.var = c.var-var.ensures.value in
    let ne : m.var ≡ c.args.frame.var → ⊥ = λ e. c.if-var-frame.true (v ∙ e) in
    let o : Other slots t c.requires.frame.lit m = frame_other slots t c.args.seen.now.members c.args.entered.now.members c.args.frame m gr c.requires.frame i ne in
    let low : m.var ≤ t.variables = low_within t c.level-level.ensures.sound (negated m) o.low in
    let near : height_in (lower_lits (levels_of t)) m.var < height_in (lower_lits (levels_of t)) c.args.frame.var = omega (arith, o.earlier, ap (height_in (lower_lits (levels_of t))) c.requires.frame.var) in
    omega (arith, low, v, c.requires.room.0)

pub known-requires : goal.known-requires
known-requires g c =
    let slots = g.C.Clauses.clauses c.args.clauses.now in
    let t = c.args.trail.now in
    let gr : Grounds slots t = grounds slots t c.level-level.ensures.sound c.requires.fits.0 c.requires.fits.1 in
    let d = clause_of slots c.args.frame.reason.0 in
    let m = c.literal.result in
    let h : c.loop-at.at < length d = omega (arith, c.loop-at-test.true, c.length-at-end.ensures.count) in
    let p : m ≡ get_or d c.loop-at.at m = at_place d c.loop-at.at m h c.literal.ensures in
    let i : In d m = in_place d c.loop-at.at m h p in
    let v : c.var-var.result ≡ m.var = c.var-var.ensures.value in
    let ne : m.var ≡ c.args.frame.var → ⊥ = λ e. c.if-var-frame.true (v ∙ e) in
    let o : Other slots t c.requires.frame.lit m = frame_other slots t c.args.seen.now.members c.args.entered.now.members c.args.frame m gr c.requires.frame i ne in
    let low : m.var ≤ t.variables = low_within t c.level-level.ensures.sound (negated m) o.low in
    let near : height_in (lower_lits (levels_of t)) m.var < height_in (lower_lits (levels_of t)) c.args.frame.var = omega (arith, o.earlier, ap (height_in (lower_lits (levels_of t))) c.requires.frame.var) in
    (omega (arith, low, v, c.requires.room.1), omega (arith, low, v, c.requires.room.2))

pub returns-in-Uncovered : goal.returns-in-Uncovered
returns-in-Uncovered g c =
    let slots = g.C.Clauses.clauses c.args.clauses.now in
    let t = c.args.trail.now in
    let gr : Grounds slots t = grounds slots t c.level-level.ensures.sound c.requires.fits.0 c.requires.fits.1 in
    let d = clause_of slots c.args.frame.reason.0 in
    let m = c.literal.result in
    let h : c.loop-at.at < length d = omega (arith, c.loop-at-test.true, c.length-at-end.ensures.count) in
    let p : m ≡ get_or d c.loop-at.at m = at_place d c.loop-at.at m h c.literal.ensures in
    let i : In d m = in_place d c.loop-at.at m h p in
    let v : c.var-var.result ≡ m.var = c.var-var.ensures.value in
    let ne : m.var ≡ c.args.frame.var → ⊥ = λ e. c.if-var-frame.true (v ∙ e) in
    let o : Other slots t c.requires.frame.lit m = frame_other slots t c.args.seen.now.members c.args.entered.now.members c.args.frame m gr c.requires.frame i ne in
    let low : m.var ≤ t.variables = low_within t c.level-level.ensures.sound (negated m) o.low in
    let near : height_in (lower_lits (levels_of t)) m.var < height_in (lower_lits (levels_of t)) c.args.frame.var = omega (arith, o.earlier, ap (height_in (lower_lits (levels_of t))) c.requires.frame.var) in
    let f : has_number c.args.seen.now.members m.var ≡ false = ap (has_number c.args.seen.now.members) (sym v) ∙ sym c.contains.ensures ∙ c.if-not-contains.true in
    let s : Says slots t c.args.seen.now.members c.args.entered.now.members (negated m) c.known.result =
    says slots t c.args.seen.now.members c.args.entered.now.members c.args.covered.now.members (negated m) c.known.result gr o.low (c.requires.knows (negated m) o.low near)
    (c.known.ensures ∙ ap (standing_of t c.args.entered.now.members c.args.covered.now.members) v) in
    looked_none slots t c.args.seen.now.members c.args.entered.now.members c.args.frame m gr c.requires.frame i ne f (subst (Says slots t c.args.seen.now.members c.args.entered.now.members (negated m)) c.in-Uncovered.is s)

pub returns-in-Unknown : goal.returns-in-Unknown
returns-in-Unknown g c =
    let slots = g.C.Clauses.clauses c.args.clauses.now in
    let t = c.args.trail.now in
    let gr : Grounds slots t = grounds slots t c.level-level.ensures.sound c.requires.fits.0 c.requires.fits.1 in
    let d = clause_of slots c.args.frame.reason.0 in
    let m = c.literal.result in
    let h : c.loop-at.at < length d = omega (arith, c.loop-at-test.true, c.length-at-end.ensures.count) in
    let p : m ≡ get_or d c.loop-at.at m = at_place d c.loop-at.at m h c.literal.ensures in
    let i : In d m = in_place d c.loop-at.at m h p in
    let v : c.var-var.result ≡ m.var = c.var-var.ensures.value in
    let ne : m.var ≡ c.args.frame.var → ⊥ = λ e. c.if-var-frame.true (v ∙ e) in
    let o : Other slots t c.requires.frame.lit m = frame_other slots t c.args.seen.now.members c.args.entered.now.members c.args.frame m gr c.requires.frame i ne in
    let low : m.var ≤ t.variables = low_within t c.level-level.ensures.sound (negated m) o.low in
    let near : height_in (lower_lits (levels_of t)) m.var < height_in (lower_lits (levels_of t)) c.args.frame.var = omega (arith, o.earlier, ap (height_in (lower_lits (levels_of t))) c.requires.frame.var) in
    let f : has_number c.args.seen.now.members m.var ≡ false = ap (has_number c.args.seen.now.members) (sym v) ∙ sym c.contains.ensures ∙ c.if-not-contains.true in
    let s : Says slots t c.args.seen.now.members c.args.entered.now.members (negated m) c.known.result =
    says slots t c.args.seen.now.members c.args.entered.now.members c.args.covered.now.members (negated m) c.known.result gr o.low (c.requires.knows (negated m) o.low near)
    (c.known.ensures ∙ ap (standing_of t c.args.entered.now.members c.args.covered.now.members) v) in
    let u : Says slots t c.args.seen.now.members c.args.entered.now.members (negated m) (standing.Unknown c.in-Unknown.reason) = subst (Says slots t c.args.seen.now.members c.args.entered.now.members (negated m)) c.in-Unknown.is s in
    record {
      next = negated m;
      on = u.0;
      var = sym v;
      reason = ap (reason_in (entries (levels_of t))) v ∙ u.1;
      fresh = ap (has_number c.args.entered.now.members) v ∙ u.2;
      earlier = subst (λ (x : ℕ). height_in (lower_lits (levels_of t)) x < height_in (lower_lits (levels_of t)) c.args.frame.var) (sym v) near;
      past = c.loop-at.invariant;
    }

pub loop-at-preserved : goal.loop-at-preserved
loop-at-preserved g c =
    let slots = g.C.Clauses.clauses c.args.clauses.now in
    let t = c.args.trail.now in
    let gr : Grounds slots t = grounds slots t c.level-level.ensures.sound c.requires.fits.0 c.requires.fits.1 in
    let d = clause_of slots c.args.frame.reason.0 in
    let m = c.literal.result in
    let h : c.loop-at.at < length d = omega (arith, c.loop-at-test.true, c.length-at-end.ensures.count) in
    let p : m ≡ get_or d c.loop-at.at m = at_place d c.loop-at.at m h c.literal.ensures in
    let i : In d m = in_place d c.loop-at.at m h p in
    let v : c.var-var.result ≡ m.var = c.var-var.ensures.value in
    let fine : (k : Literal) → In (lits (middle_of (levels_of t))) k → k.var ≡ c.args.frame.var → (m ≡ k → ⊥) → IsFine slots t c.args.seen.now.members m =
    elim c.if-var-frame.branch [
      | then-var-frame+then-not-contains+in-Covered w ↦
          let ne : m.var ≡ c.args.frame.var → ⊥ = λ e. w.if-var-frame.true (v ∙ e) in
          let o : Other slots t c.requires.frame.lit m = frame_other slots t c.args.seen.now.members c.args.entered.now.members c.args.frame m gr c.requires.frame i ne in
          let low : m.var ≤ t.variables = low_within t c.level-level.ensures.sound (negated m) o.low in
          let near : height_in (lower_lits (levels_of t)) m.var < height_in (lower_lits (levels_of t)) c.args.frame.var = omega (arith, o.earlier, ap (height_in (lower_lits (levels_of t))) c.requires.frame.var) in
          let s : Says slots t c.args.seen.now.members c.args.entered.now.members (negated m) w.known.result =
          says slots t c.args.seen.now.members c.args.entered.now.members c.args.covered.now.members (negated m) w.known.result gr o.low (c.requires.knows (negated m) o.low near)
          (w.known.ensures ∙ ap (standing_of t c.args.entered.now.members c.args.covered.now.members) v) in
          λ k j e n. inr (subst (Says slots t c.args.seen.now.members c.args.entered.now.members (negated m)) w.in-Covered.is s)
      | else-var-frame w ↦ elim w.else-var-frame.branch [
        | else-var-frame-via-then-var-frame+else-not-contains x ↦
            λ k j e n. inl (ap (has_number c.args.seen.now.members) (sym v) ∙ sym x.contains.ensures ∙ x.if-not-contains.false)
        | else-var-frame-via-else-var-frame x ↦
            λ k j e n. absurd (n (frame_own slots t c.args.seen.now.members c.args.entered.now.members c.args.frame m k gr c.requires.frame i (sym v ∙ x.if-var-frame.false) j e))
      ]
    ] in
    past_more slots t c.args.seen.now.members c.args.frame c.loop-at.at m h p fine c.loop-at.invariant

pub returns : goal.returns
returns g c =
    let slots = g.C.Clauses.clauses c.args.clauses.now in
    let t = c.args.trail.now in
    let gr : Grounds slots t = grounds slots t c.level-level.ensures.sound c.requires.fits.0 c.requires.fits.1 in
    looked_all slots t c.args.seen.now.members c.args.entered.now.members c.args.frame c.loop-at.at gr c.requires.frame (omega (arith, c.loop-at-test.false, c.length-at-end.ensures.count)) c.loop-at.invariant

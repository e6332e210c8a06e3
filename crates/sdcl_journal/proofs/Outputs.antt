-- What stays and what is told while a run is written.
use Rattle.std.proofs.Common.{◌≡◌, ◌⊎◌, ◌∙◌, inl, inr, ℕ, Bool, List, [], ◌∷◌, ◌++◌, take, Option, Some, None, Result, Ok, Err, IsTrue, refl, sym, ap, subst, arith, append-nil}
use Rattle.std.specs.Prelude.{OnOk, OnErr}
use Rattle.std.specs.Io.KnownBytes.{Appends}
use Rattle.std.proofs.lemmas.Grind.{flat_map-append}
use Rattle.sdcl_io.specs.declared.world.OutRole.{OutRole}
use Rattle.sdcl_io.specs.declared.world.OutRole.TheVariants as output
use Rattle.sdcl_io.specs.declared.world.Failed.{Failed}
use Rattle.sdcl_io.specs.declared.world.Failed.TheVariants.{Fault, NoMemory}
use Rattle.sdcl_io.specs.World.{Seen, Calm, OnlyWrote, Holds, WritesAll, Rose}
use Rattle.sdcl_io.specs.Step.{Step}
use Rattle.sdcl_proof.specs.Files.{HoldsSteps, IsText}
use Rattle.sdcl_journal.specs.Lines.{event_line, journal_text}
use Rattle.sdcl_journal.specs.Machine.{Event}
use Rattle.sdcl_journal.specs.RunOutputs.{HoldsEvents, RunOnward, FailsAt, fault_at, faults_of, journal_aside}

-- ---- what is written, one write after another

-- roles are the same or not
differs : (r q : OutRole) → (r ≡ q) ⊎ (r ≡ q → ⊥)
differs output.Out output.Out = inl refl
differs output.Out output.Err = inr (λ e. cc)
differs output.Out output.Proof = inr (λ e. cc)
differs output.Out output.Journal = inr (λ e. cc)
differs output.Err output.Out = inr (λ e. cc)
differs output.Err output.Err = inl refl
differs output.Err output.Proof = inr (λ e. cc)
differs output.Err output.Journal = inr (λ e. cc)
differs output.Proof output.Out = inr (λ e. cc)
differs output.Proof output.Err = inr (λ e. cc)
differs output.Proof output.Proof = inl refl
differs output.Proof output.Journal = inr (λ e. cc)
differs output.Journal output.Out = inr (λ e. cc)
differs output.Journal output.Err = inr (λ e. cc)
differs output.Journal output.Proof = inr (λ e. cc)
differs output.Journal output.Journal = inl refl

-- the file of an output stays that of another one that was not written
file_stays : (role r : OutRole) (s t : Seen) → OnlyWrote role s t → (role ≡ r → ⊥) → ((n : List ℕ) → s.named r ≡ Some n → s.named role ≡ Some n → ⊥) → Holds r s → Holds r t
file_stays role r s t w d a f n e =
    let before : s.named r ≡ Some n = sym (w.names r) ∙ e in
    w.files n (a n before) ∙ f n before ∙ sym (w.outputs r (λ q. d (sym q)))

-- one write
pub written_once : (outs : OutRole → Type 0) (role : OutRole) (s t : Seen) → outs role → OnlyWrote role s t → (Holds role s → Holds role t) → Calm s t → RunOnward outs s t
written_once outs role s t o w h c = record {
  only = record {
    files = λ n d. w.files n (d role o);
    inputs = λ i d. w.inputs i (λ n a b. d role n o a b);
    stand = w.stand;
    opened = w.opened;
    there = w.there;
    outputs = λ r d. w.outputs r (λ q. d (subst outs (sym q) o));
    names = w.names;
    later = w.later;
  };
  file = λ r p a f. elim (differs role r) [
    | inl q ↦ subst (λ (x : OutRole). Holds x t) q (h (subst (λ (x : OutRole). Holds x s) (sym q) f))
    | inr d ↦ file_stays role r s t w d (λ n e g. a role n o d e g) f
  ];
  calm = c;
}

-- ---- the output whose write failed first

-- none failed
pub fails_none : (outs : OutRole → Type 0) (s t : Seen) (x y : Option OutRole) → y ≡ x → FailsAt outs s t x y
fails_none outs s t x y e role h = inl (sym e ∙ h)

-- a write of this output failed
pub fails_now : (outs : OutRole → Type 0) (role : OutRole) (s t : Seen) (r : Result Unit Failed) (bytes : List ℕ) (failed : Failed) (x : Option OutRole) → outs role → r ≡ Err failed → WritesAll role s t r bytes
    → FailsAt outs s t x (fault_at role failed)
fails_now outs role s t r bytes Fault x o e h q k =
    let same : role ≡ q = cc in
    let w : WritesAll role s t (Err Fault) bytes = subst (λ y. WritesAll role s t y bytes) e h in
    inr (subst outs same o, subst (λ (y : OutRole). Rose (s.write_faults y) (t.write_faults y)) same (w.cause refl))
fails_now outs role s t r bytes NoMemory x o e h q k = absurd cc

once : Rose 0 1
once = omega arith

-- the sink counts it
pub fault_rose : (role : OutRole) (failed : Failed) (before now : Option OutRole) → before ≡ None → now ≡ fault_at role failed → failed ≡ Fault → Rose (faults_of before) (faults_of now)
fault_rose role failed before now n e q =
    subst (λ x. Rose (faults_of x) (faults_of now)) (sym n) (subst (λ x. Rose 0 (faults_of x)) (sym (e ∙ ap (fault_at role) q)) once)

-- ---- what is told

on_ok : {P Q : Type 0} (r : Result Unit Failed) → (P → Q) → OnOk r P → OnOk r Q
on_ok (Ok x) f p = f p
on_ok (Err e) f p = p

on_err : {P Q : Type 0} (r : Result Unit Failed) → (P → Q) → OnErr r P → OnErr r Q
on_err (Ok x) f p = p
on_err (Err e) f p = f p

appended : (x y : Option (List ℕ)) (a b : List ℕ) → x ≡ Some a → Appends x y b → y ≡ Some (a ++ b)
appended None y a b e h = cc
appended (Some x) None a b e h = absurd h
appended (Some x) (Some y) a b e h = let k : x ≡ a = cc in ap Some (h ∙ ap (λ z. z ++ b) k)

text_more : (role : OutRole) (s t : Seen) (a b : List ℕ) → t.tells ≡ s.tells → Appends (s.held role) (t.held role) b → IsText role s a → IsText role t (a ++ b)
text_more role s t a b e h k tells = appended (s.held role) (t.held role) a b (k (subst IsTrue e tells)) h

-- a whole line more
event_told : (role : OutRole) (s t : Seen) (before : List Event) (e : Event) → t.tells ≡ s.tells → Appends (s.held role) (t.held role) (event_line e) → HoldsEvents role s before None → HoldsEvents role t (before ++ e ∷ []) None
unfolding journal_text
event_told role s t before e q h k =
    subst (IsText role t) (sym (flat_map-append event_line before (e ∷ []) ∙ ap (λ x. journal_text before ++ x) (append-nil (event_line e)))) (text_more role s t (journal_text before) (event_line e) q h k)

pub line_told : (role : OutRole) (s t : Seen) (r : Result Unit Failed) (e : Event) → WritesAll role s t r (event_line e)
    → OnOk r ((before : List Event) → HoldsEvents role s before None → HoldsEvents role t (before ++ e ∷ []) None)
line_told role s t r e h = on_ok r (λ a before k. event_told role s t before e h.only.later.tells a k) h.ok

pub line_torn : (role : OutRole) (s t : Seen) (r : Result Unit Failed) (e : Event) → WritesAll role s t r (event_line e)
    → OnErr r ((before : List Event) → HoldsEvents role s before None → HoldsEvents role t before (Some e))
line_torn role s t r e h = on_err r (λ a before k. (a.0, a.1, text_more role s t (journal_text before) (take a.0 (event_line e)) h.only.later.tells a.2 k)) h.err

-- the proof stays while the journal is written
pub steps_stay : (s t : Seen) (steps : List Step) (torn : Option Step) → OnlyWrote output.Journal s t → HoldsSteps output.Proof s steps torn → HoldsSteps output.Proof t steps torn
steps_stay s t steps None w h = λ tells. w.outputs output.Proof (λ e. cc) ∙ h (subst IsTrue w.later.tells tells)
steps_stay s t steps (Some torn) w h = (h.0, h.1, (λ tells. w.outputs output.Proof (λ e. cc) ∙ h.2 (subst IsTrue w.later.tells tells)))

-- ---- the journal's text stands aside

pub aside_stays : (journal : Bool) (s t : Seen) → OnlyWrote output.Proof s t → journal_aside journal t.tells (t.held output.Journal) ≡ journal_aside journal s.tells (s.held output.Journal)
aside_stays journal s t w = ap (λ x. journal_aside journal x (t.held output.Journal)) w.later.tells ∙ ap (journal_aside journal s.tells) (w.outputs output.Journal (λ e. cc))

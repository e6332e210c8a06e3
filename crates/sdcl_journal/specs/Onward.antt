-- What stays while a run is written on: what the records of its outputs say of one state after another.
use Rattle.std.proofs.Common.{◌≡◌, ◌∙◌, inl, inr, ℕ, Bool, true, false, List, ◌++◌, take, Option, Some, None, IsTrue, refl, sym, ap, arith}
use Rattle.sdcl_io.specs.declared.world.OutRole.{OutRole}
use Rattle.sdcl_io.specs.declared.world.OutRole.TheVariants as output
use Rattle.sdcl_io.specs.World.{Seen, Later}
use Rattle.sdcl_journal.specs.Lines.{event_line, journal_text}
use Rattle.sdcl_journal.specs.Machine.{Event}
use Rattle.sdcl_journal.specs.RunOutputs.{HoldsEvents, RunOnward, FailsAt, journal_aside}

-- ---- what is written, one write after another

pub run_itself : (outs : OutRole → Type 0) (s : Seen) → RunOnward outs s s
run_itself outs s = record {
  only = record {
    files = λ n d. refl;
    inputs = λ r d. refl;
    stand = λ r. refl;
    opened = λ r. refl;
    there = λ r. refl;
    outputs = λ r d. refl;
    names = λ r. refl;
    later = record { memory = refl; tells = refl; reads = λ r. omega arith; writes = λ r. omega arith; opens = λ r n. omega arith; creates = λ r n. omega arith; calm = λ c. c };
  };
  file = λ r o a h. h;
  calm = λ c. record { reads = λ r. refl; writes = λ r. refl; opens = λ r n. refl; creates = λ r n. refl };
}

later_on : (s t u : Seen) → Later s t → Later t u → Later s u
later_on s t u h k = record {
  memory = k.memory ∙ h.memory;
  tells = k.tells ∙ h.tells;
  reads = λ r. omega (arith, h.reads r, k.reads r);
  writes = λ r. omega (arith, h.writes r, k.writes r);
  opens = λ r n. omega (arith, h.opens r n, k.opens r n);
  creates = λ r n. omega (arith, h.creates r n, k.creates r n);
  calm = λ c. k.calm (h.calm c);
}

pub run_on : (outs : OutRole → Type 0) (s t u : Seen) → RunOnward outs s t → RunOnward outs t u → RunOnward outs s u
run_on outs s t u h k = record {
  only = record {
    files = λ n d. k.only.files n (λ r o e. d r o (sym (h.only.names r) ∙ e)) ∙ h.only.files n d;
    inputs = λ i d. k.only.inputs i (λ r n o a b. d r n o (sym (h.only.stand i) ∙ a) (sym (h.only.names r) ∙ b)) ∙ h.only.inputs i d;
    stand = λ r. k.only.stand r ∙ h.only.stand r;
    opened = λ r. k.only.opened r ∙ h.only.opened r;
    there = λ r. k.only.there r ∙ h.only.there r;
    outputs = λ r d. k.only.outputs r d ∙ h.only.outputs r d;
    names = λ r. k.only.names r ∙ h.only.names r;
    later = later_on s t u h.only.later k.only.later;
  };
  file = λ r o a f. k.file r o (λ q n p d e c. a q n p d (sym (h.only.names r) ∙ e) (sym (h.only.names q) ∙ c)) (h.file r o a f);
  calm = λ c. let a = h.calm c in let b = k.calm (h.only.later.calm c) in record {
    reads = λ r. b.reads r ∙ a.reads r;
    writes = λ r. b.writes r ∙ a.writes r;
    opens = λ r n. b.opens r n ∙ a.opens r n;
    creates = λ r n. b.creates r n ∙ a.creates r n;
  };
}

-- ---- the output whose write failed first

pub fails_itself : (outs : OutRole → Type 0) (s : Seen) (x : Option OutRole) → FailsAt outs s s x x
fails_itself outs s x role e = inl e

pub fails_on : (outs : OutRole → Type 0) (s t u : Seen) (x y z : Option OutRole) → Later s t → Later t u → FailsAt outs s t x y → FailsAt outs t u y z → FailsAt outs s u x z
fails_on outs s t u x y z l m h k role e = elim (k role e) [
  | inl a ↦ elim (h role a) [ inl b ↦ inl b | inr b ↦ inr (b.0, omega (arith, b.1, m.writes role)) ]
  | inr a ↦ inr (a.0, omega (arith, a.1, l.writes role))
]

-- ---- the journal's text stands aside

-- the same list aside is that of a journal that is written too
asked_same : (p q a b : Bool) (x y : Option (List ℕ)) → journal_aside q b y ≡ journal_aside p a x → IsTrue q → IsTrue p
asked_same true q a b x y e h = refl
asked_same false false a b x y e h = h
asked_same false true a false x y e h = absurd cc
asked_same false true a true x None e h = absurd cc
asked_same false true a true x (Some z) e h = absurd cc

-- and its text is the same, where it is told
text_same : (a b : Bool) (x y : Option (List ℕ)) (text : List ℕ) → journal_aside true b y ≡ journal_aside true a x → (IsTrue a → x ≡ Some text) → IsTrue b → y ≡ Some text
text_same a false x y text e f h = absurd cc
text_same false true x None text e f h = absurd cc
text_same false true x (Some z) text e f h = absurd cc
text_same true true None None text e f h = f refl
text_same true true None (Some z) text e f h = absurd cc
text_same true true (Some w) None text e f h = absurd cc
text_same true true (Some w) (Some z) text e f h = let q : z ≡ w = cc in ap Some q ∙ f refl

events_same : (s t : Seen) (events : List Event) (torn : Option Event) → journal_aside true t.tells (t.held output.Journal) ≡ journal_aside true s.tells (s.held output.Journal)
    → HoldsEvents output.Journal s events torn → HoldsEvents output.Journal t events torn
events_same s t events None e h = text_same s.tells t.tells (s.held output.Journal) (t.held output.Journal) (journal_text events) e h
events_same s t events (Some torn) e h = (h.0, h.1, text_same s.tells t.tells (s.held output.Journal) (t.held output.Journal) (journal_text events ++ take h.0 (event_line torn)) e h.2)

pub told_aside : (p q : Bool) (s t : Seen) → journal_aside q t.tells (t.held output.Journal) ≡ journal_aside p s.tells (s.held output.Journal) → (events : List Event) (torn : Option Event)
    → (IsTrue p → HoldsEvents output.Journal s events torn) → IsTrue q → HoldsEvents output.Journal t events torn
told_aside true true s t e events torn f h = events_same s t events torn e (f refl)
told_aside p false s t e events torn f h = absurd cc
told_aside false true s t e events torn f h = let asked : IsTrue false = asked_same false true s.tells t.tells (s.held output.Journal) (t.held output.Journal) e h in absurd cc

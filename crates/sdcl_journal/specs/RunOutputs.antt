-- What the outputs of a run hold, and what its writing does to the world.
use Rattle.std.specs.Prelude.{◌≡◌, ◌⊎◌, ◌<◌, ℕ, Bool, true, false, List, [], ◌∷◌, ◌++◌, length, take, Option, None, Some, IsTrue}
use Rattle.sdcl_io.specs.declared.world.InRole.{InRole}
use Rattle.sdcl_io.specs.declared.world.OutRole.{OutRole}
use Rattle.sdcl_io.specs.declared.world.OutRole.TheVariants.{Proof, Journal}
use Rattle.sdcl_io.specs.declared.world.Failed.{Failed}
use Rattle.sdcl_io.specs.declared.world.Failed.TheVariants.{Fault, NoMemory}
use Rattle.sdcl_io.specs.World.{Seen, Later, Calm, Holds, Rose}
use Rattle.sdcl_proof.specs.Files.{IsText}
use Rattle.sdcl_journal.specs.Lines.{event_line, journal_text}
use Rattle.sdcl_journal.specs.Machine.{Event}

-- the output holds the lines of the events, and behind them, where a call has failed, a proper prefix of that event's line
abbrev pub HoldsEvents : OutRole → Seen → List Event → Option Event → Type 0
HoldsEvents role s events None = IsText role s (journal_text events)
HoldsEvents role s events (Some torn) = (n : ℕ) × (n < length (event_line torn)) × IsText role s (journal_text events ++ take n (event_line torn))

-- the proof and the journal, each where it is to be written
abbrev pub IsRunOutput : Bool → Bool → OutRole → Type 0
IsRunOutput proof journal role = ((role ≡ Proof) × IsTrue proof) ⊎ ((role ≡ Journal) × IsTrue journal)

-- nothing but these outputs and their files has changed
pub record OnlyOutputs (outs : OutRole → Type 0) (s t : Seen) : Type 0 where
  pub files : (n : List ℕ) → ((role : OutRole) → outs role → s.named role ≡ Some n → ⊥) → t.file n ≡ s.file n
  pub inputs : (r : InRole) → ((role : OutRole) (n : List ℕ) → outs role → s.stands r ≡ Some n → s.named role ≡ Some n → ⊥) → t.left r ≡ s.left r
  pub stand : (r : InRole) → t.stands r ≡ s.stands r
  pub opened : (r : InRole) → t.is_open r ≡ s.is_open r
  pub there : (role : OutRole) → t.is_there role ≡ s.is_there role
  pub outputs : (role : OutRole) → (outs role → ⊥) → t.held role ≡ s.held role
  pub names : (role : OutRole) → t.named role ≡ s.named role
  pub later : Later s t

-- no other of these outputs has the same name
abbrev pub IsAlone : (OutRole → Type 0) → Seen → OutRole → Type 0
IsAlone outs s role = (other : OutRole) (n : List ℕ) → outs other → (other ≡ role → ⊥) → s.named role ≡ Some n → s.named other ≡ Some n → ⊥

-- only these outputs were written, any number of times
pub record RunOnward (outs : OutRole → Type 0) (s t : Seen) : Type 0 where
  pub only : OnlyOutputs outs s t
  pub file : (role : OutRole) → outs role → IsAlone outs s role → Holds role s → Holds role t
  pub calm : Calm s t

-- the output whose write failed first, if any: before, or since, and then its count rose
abbrev pub FailsAt : (OutRole → Type 0) → Seen → Seen → Option OutRole → Option OutRole → Type 0
FailsAt outs s t before now = (role : OutRole) → now ≡ Some role → (before ≡ Some role) ⊎ (outs role × Rose (s.write_faults role) (t.write_faults role))

-- how many writes failed, of which the first is the last
abbrev pub faults_of : Option OutRole → ℕ
faults_of None = 0
faults_of (Some role) = 1

-- whether the journal is to be written, and its text, where it is told
abbrev pub journal_aside : Bool → Bool → Option (List ℕ) → List ℕ
journal_aside false tells held = []
journal_aside true false held = 0 ∷ []
journal_aside true true None = 1 ∷ []
journal_aside true true (Some text) = 2 ∷ text

-- the output of this role, where its write failed by a fault of the world
abbrev pub fault_at : OutRole → Failed → Option OutRole
fault_at role Fault = Some role
fault_at role NoMemory = None

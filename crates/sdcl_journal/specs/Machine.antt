-- The machine of satisfaction-driven clause learning: its states, its events, when each is allowed and what it does.
use Rattle.std.specs.List.{list_any, list_all}
use Rattle.std.specs.Prelude.{ℕ, List, [], ◌∷◌, ◌++◌, ◌+◌, ◌*◌, zero, suc, Bool, true, false, ◌≡◌, ◌⊎◌, not, ◌&&◌, ◌==◌, if◌then◌else◌, ◌||◌, length, IsTrue, nat_lt, ◌<◌, ◌≤◌, ⊤, ◌/◌, nat_le, take, IsFalse}
use Rattle.sdcl_base.specs.Literal.{Literal, pos_lit, Clause, same_set, complements, names}
use Rattle.sdcl_base.specs.Propagation.{closure, falsified, refutes}
use Rattle.sdcl_base.specs.Reduct.{reduct, HasModel, Long, is_off}
use Rattle.sdcl_base.specs.Redundancy.{rup, pr, is_new}
use Rattle.sdcl_io.specs.Step.{Step, Add, AddWitness, Delete, remove_clause}
use Rattle.sdcl_base.specs.declared.mode.ReductMode.{ReductMode}
use Rattle.sdcl_store.specs.Analysis.{Analysed}

-- what a run is given: the number of variables, and the options that bind it
pub record Rules : Type 0 where
  pub variables : ℕ
  pub budget : ℕ
  pub mode : ReductMode
  pub depth : ℕ
  pub inner_budget : ℕ

-- whose turn it is. Forget counts the learned clauses that stood when it began, and those that have gone since
pub data Turn : Type 0 where
  Search : Turn
  Back_due : Turn
  Forgetting : (stood gone : ℕ) → Turn
  Done : Turn

-- what the machine keeps
pub record RunState : Type 0 where
  pub formula : List Clause
  pub learned : List Clause  -- the learned clauses that stand
  pub decisions : Clause
  pub learned_count : ℕ  -- in all
  pub since : ℕ  -- since the last reduction
  pub reductions : ℕ
  pub tried : Bool
  pub turn : Turn

-- what may happen
pub data Event : Type 0 where
  Decide : Literal → Event
  NoWitness : Event
  InnerSpent : ℕ → Event
  Learn : Clause → Event
  LearnWitness : (clause witness : Clause) → Event
  Back : ℕ → Event
  Forget : Clause → Event
  Empty : Event
  Model : Event
  Unknown : Event

-- the formula's clauses, and then the learned ones
abbrev pub database : RunState → List Clause
database s = s.formula ++ s.learned

-- the state in which a run of f begins
abbrev pub start : List Clause → RunState
start f = record {
  formula = f;
  learned = [];
  decisions = [];
  learned_count = 0;
  since = 0;
  reductions = 0;
  tried = false;
  turn = Search;
}

-- what propagation reaches from the decisions
abbrev pub reached : RunState → Clause
reached s = closure (database s) s.decisions

-- whether the database refutes the decisions
abbrev pub is_refuted : RunState → Bool
is_refuted s = refutes (database s) s.decisions

-- whether x is one of the run's variables
abbrev pub in_range : Rules → ℕ → Bool
in_range r x = nat_le 1 x && nat_le x r.variables

-- whether each variable from 1 to n is in a
abbrev pub covers : ℕ → Clause → Bool
covers zero a = true
covers (suc n) a = names a (pos_lit (suc n)) && covers n a

-- whether a reduct has to be tried before the next decision
unfoldable pub attempt_due : Rules → RunState → Bool
attempt_due r s =
    not (is_off r.mode) && not (is_refuted s) && not (covers r.variables (reached s))
    && nat_le 1 (length s.decisions) && nat_le (length s.decisions) r.depth && not s.tried

-- the reduct of the run's mode
abbrev pub current_reduct : Rules → RunState → List Clause
current_reduct r s = reduct r.mode (database s) s.decisions

-- whether a reduction is due
unfoldable pub reduction_due : RunState → Bool
reduction_due s = nat_le (2000 + 300 * s.reductions) s.since

-- whether the events of the turn search may come
abbrev pub may_search : Turn → Bool
may_search Search = true
may_search (Forgetting stood gone) = true
may_search Back_due = false
may_search Done = false

-- whether one more learned clause may be forgotten, so that at most half of those that stood go
abbrev pub may_forget : Turn → Bool
may_forget (Forgetting stood gone) = nat_lt gone (stood / 2)
may_forget Search = false
may_forget Back_due = false
may_forget Done = false

-- a decision may be made
pub record MayDecide (r : Rules) (s : RunState) (l : Literal) : Type 0 where
  pub turn : IsTrue (may_search s.turn)
  pub consistent : IsFalse (is_refuted s)
  pub ranged : IsTrue (in_range r l.var)
  pub unassigned : IsFalse (names (reached s) l)
  pub no_attempt : IsTrue (s.tried || length s.decisions == 0 || nat_lt r.depth (length s.decisions) || is_off r.mode)

-- a reduct may be tried
pub record MayTry (r : Rules) (s : RunState) : Type 0 where
  pub turn : IsTrue (may_search s.turn)
  pub due : IsTrue (attempt_due r s)

-- a clause may be learned at a conflict: it is what analysis gives there
pub record MayLearn (r : Rules) (s : RunState) (c : Clause) : Type 0 where
  pub turn : IsTrue (may_search s.turn)
  pub conflict : IsTrue (is_refuted s)
  pub decided : 1 ≤ length s.decisions
  pub ranged : IsTrue (list_all (λ l. in_range r l.var) c)
  pub false_here : IsTrue (falsified (reached s) c)
  pub is_rup : IsTrue (rup (database s) c)
  pub fresh : IsTrue (is_new (database s) c)
  pub analysed : Analysed (database s) s.decisions c
  pub within : s.learned_count < r.budget

-- the clause of the decisions may be learned with a witness
pub record MayLearnWitness (r : Rules) (s : RunState) (c w : Clause) : Type 0 where
  pub turn : IsTrue (may_search s.turn)
  pub due : IsTrue (attempt_due r s)
  pub own : IsTrue (same_set c (complements s.decisions))
  pub over : IsTrue (list_all (names (reached s)) w)
  pub is_pr : IsTrue (pr (database s) c w)
  pub fresh : IsTrue (is_new (database s) c)
  pub within : s.learned_count < r.budget

-- one more clause would be learned
abbrev pub OneMoreDue : Rules → RunState → Type 0
OneMoreDue r s = (IsTrue (is_refuted s) × (1 ≤ length s.decisions)) ⊎ (IsTrue (attempt_due r s) × HasModel (current_reduct r s))

-- the event may come in this state
unfoldable pub Allowed : Rules → RunState → Event → Type 0
Allowed r s (Decide l) = MayDecide r s l
Allowed r s NoWitness = MayTry r s × ¬ HasModel (current_reduct r s)
Allowed r s (InnerSpent v) = MayTry r s × (v ≡ length (reached s)) × Long (current_reduct r s) (reached s) r.inner_budget
Allowed r s (Learn c) = MayLearn r s c
Allowed r s (LearnWitness c w) = MayLearnWitness r s c w
Allowed r s (Back k) = (s.turn ≡ Back_due) × (k < length s.decisions)
Allowed r s (Forget d) = IsTrue (may_forget s.turn) × IsTrue (reduction_due s) × IsTrue (list_any (same_set d) s.learned)
Allowed r s Empty = IsTrue (may_search s.turn) × (s.decisions ≡ []) × IsTrue (is_refuted s)
Allowed r s Model = IsTrue (may_search s.turn) × IsFalse (is_refuted s) × IsTrue (covers r.variables (reached s))
Allowed r s Unknown = IsTrue (may_search s.turn) × (s.learned_count ≡ r.budget) × OneMoreDue r s

-- a reduction that has forgotten a clause is closed by the next event of another kind
abbrev pub closed_by_turn : Turn → RunState → RunState
closed_by_turn (Forgetting stood zero) s = record s { turn = Search }
closed_by_turn (Forgetting stood (suc gone)) s = record s { turn = Search; reductions = s.reductions + 1; since = 0 }
closed_by_turn Search s = s
closed_by_turn Back_due s = s
closed_by_turn Done s = s

-- the state that an event of the turn search meets
abbrev pub closed : RunState → RunState
closed s = closed_by_turn s.turn s

-- one more learned clause
abbrev pub with_learned : RunState → Clause → RunState
with_learned s c = record s { learned = s.learned ++ c ∷ []; learned_count = s.learned_count + 1; since = s.since + 1; turn = Back_due }

-- the turn after the first k decisions stay
abbrev pub turn_after_back : RunState → ℕ → Turn
turn_after_back s k = if k == 0 then Forgetting (length s.learned) 0 else Search

-- the turn after a clause was forgotten
abbrev pub one_more_gone : Turn → Turn
one_more_gone (Forgetting stood gone) = Forgetting stood (gone + 1)
one_more_gone Search = Search
one_more_gone Back_due = Back_due
one_more_gone Done = Done

-- the state that the event leaves
unfoldable pub after : RunState → Event → RunState
after s (Decide l) = record (closed s) { decisions = s.decisions ++ l ∷ []; tried = false }
after s NoWitness = record (closed s) { tried = true }
after s (InnerSpent v) = record (closed s) { tried = true }
after s (Learn c) = with_learned (closed s) c
after s (LearnWitness c w) = with_learned (closed s) c
after s (Back k) = record s { decisions = take k s.decisions; tried = false; turn = turn_after_back s k }
after s (Forget d) = record s { learned = remove_clause s.learned d; turn = one_more_gone s.turn }
after s Empty = record (closed s) { turn = Done }
after s Model = record (closed s) { turn = Done }
after s Unknown = record (closed s) { turn = Done }

-- the state after a list of events
unfoldable pub after_all : RunState → List Event → RunState
after_all s [] = s
after_all s (e ∷ es) = after_all (after s e) es

-- each event is allowed after those before it
unfoldable pub PathFrom : Rules → RunState → List Event → Type 0
PathFrom r s [] = ⊤
PathFrom r s (e ∷ es) = Allowed r s e × PathFrom r (after s e) es

-- a list of events from the start, each allowed after those before it
unfoldable pub Path : Rules → List Clause → List Event → Type 0
Path r f es = PathFrom r (start f) es

-- a path that ends in the turn done
unfoldable pub Run : Rules → List Clause → List Event → Type 0
Run r f es = Path r f es × ((after_all (start f) es).turn ≡ Done)

-- the proof steps of one event
abbrev pub event_steps : Event → List Step
event_steps (Learn c) = Add c ∷ []
event_steps (LearnWitness c w) = AddWitness c w ∷ []
event_steps (Forget d) = Delete d ∷ []
event_steps Empty = Add [] ∷ []
event_steps (Decide l) = []
event_steps NoWitness = []
event_steps (InnerSpent v) = []
event_steps (Back k) = []
event_steps Model = []
event_steps Unknown = []

-- the proof of a run
unfoldable pub steps : List Event → List Step
steps [] = []
steps (e ∷ es) = event_steps e ++ steps es

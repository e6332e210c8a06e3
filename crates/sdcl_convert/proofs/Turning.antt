-- One step of a proof that is converted.
use Rattle.std.proofs.Common.{◌≡◌, ◌≤◌, ◌<◌, ◌+◌, ℕ, suc, true, false, List, [], ◌∷◌, ◌++◌, map, length, take, drop, get_or, refl, sym, ap, subst, ◌∙◌, arith, append_assoc, append-nil, length-append, is_some, Option, Some, None}
use Rattle.std.specs.List.{list_any}
use Rattle.std.proofs.lemmas.List.{map-append, take_more, take-append-drop}
use Rattle.std.proofs.lemmas.Bool.{true≢false}
use Rattle.sdcl_base.specs.Literal.{Clause}
use Rattle.sdcl_base.specs.Marks.{firsts, no_repeats}
use Rattle.sdcl_store.specs.Slots.{Slots, slot_at, is_alive, clause_of, live}
use Rattle.sdcl_store.proofs.Slots.{alive_some}
use Rattle.sdcl_prcheck.proofs.Joining.{firsts_same}
use Rattle.sdcl_io.specs.Step.{Step, All, apply_all, adds_empty}
use Rattle.sdcl_proof.specs.Steps.{step_of}
use Rattle.sdcl_proof.specs.declared.step.Step.{Step as Coded}
use Rattle.sdcl_convert.specs.Conversion.{lines_of, converted_apart, next_variable, has_witness}
use Rattle.sdcl_convert.specs.Checked.{witnesses}
use Rattle.sdcl_convert.specs.Converting.{MayBeConverted}
use Rattle.sdcl_convert.specs.Laws.{AllBelow, StepBelow, StepsBelow}
use Rattle.sdcl_convert.proofs.Told.{around, apply_on}
use Rattle.sdcl_convert.proofs.Lining.{take_full}
use Rattle.sdcl_convert.proofs.Apart.{next_is, witnesses_on, has_one, apart_on, apart_one, apart_first, rest_of, none_before, after_below, step_at, step_more}

-- the steps before number i, counted from 0
abbrev pub before : List Coded → ℕ → List Step
before steps i = map step_of (take i steps)

pub coded_around : (steps : List Coded) (i : ℕ) (step : Coded) → i < length steps → step ≡ get_or steps i step → map step_of steps ≡ before steps i ++ (step_of step ∷ map step_of (drop (suc i) steps))
coded_around steps i step b e = ap (map step_of) (around steps i step b e) ∙ map-append step_of (take i steps) (step ∷ drop (suc i) steps)

pub coded_more : (steps : List Coded) (i : ℕ) (step : Coded) → i < length steps → step ≡ get_or steps i step → before steps (i + 1) ≡ before steps i ++ step_of step ∷ []
coded_more steps i step b e = ap (map step_of) (take_more steps i step b ∙ ap (λ y. take i steps ++ y ∷ []) (sym e)) ∙ map-append step_of (take i steps) (step ∷ [])

pub coded_all : (steps : List Coded) (i : ℕ) → length steps ≤ i → before steps i ≡ map step_of steps
coded_all steps i h = ap (map step_of) (take_full steps i h)

-- the lines of the steps before number i
abbrev pub done : List Clause → List Coded → ℕ → ℕ → List Step
done f steps greatest i = converted_apart All f (before steps i) (greatest + 1)

-- Where the conversion stands before step number i.
pub record Turn (f : List Clause) (steps : List Coded) (greatest i : ℕ) (step : Coded) (clauses : List Clause) (last : ℕ) : Type 0 where
  pub at : i < length steps
  pub is : step ≡ get_or steps i step
  pub may : MayBeConverted f (map step_of steps) greatest
  pub clauses_are : clauses ≡ apply_all All f (done f steps greatest i)
  pub last_is : last ≡ greatest + witnesses (before steps i)
  pub below : AllBelow (last + 1) clauses

witnesses_taken : (steps : List Coded) (i : ℕ) → witnesses (before steps i) ≤ witnesses (map step_of steps)
witnesses_taken steps i =
    omega (arith, ap witnesses (ap (map step_of) (sym (take-append-drop i steps)) ∙ map-append step_of (take i steps) (drop i steps)), witnesses_on (before steps i) (map step_of (drop i steps)))

pub last_small : (f : List Clause) (steps : List Coded) (greatest i last : ℕ) → MayBeConverted f (map step_of steps) greatest → i ≤ length steps → last ≡ greatest + witnesses (before steps i) → last ≤ 4194303
last_small f steps greatest i last m h e = omega (arith, m.enough, witnesses_taken steps i)

pub turn_step : (f : List Clause) (steps : List Coded) (greatest i : ℕ) (step : Coded) (clauses : List Clause) (last : ℕ) → Turn f steps greatest i step clauses last → StepBelow (last + 1) (step_of step)
turn_step f steps greatest i step clauses last h =
    let parts : StepsBelow (greatest + 1) (before steps i ++ (step_of step ∷ map step_of (drop (suc i) steps))) = subst (StepsBelow (greatest + 1)) (coded_around steps i step h.at h.is) h.may.steps in
    step_more (greatest + 1) (last + 1) (step_of step) (omega (arith, h.last_is)) (step_at (greatest + 1) (before steps i) (map step_of (drop (suc i) steps)) (step_of step) parts)

pub turn_room : (f : List Clause) (steps : List Coded) (greatest i : ℕ) (step : Coded) (clauses : List Clause) (last : ℕ) → Turn f steps greatest i step clauses last
    → has_witness (step_of step) ≡ true → last + 1 ≤ 4194303
turn_room f steps greatest i step clauses last h k =
    let a : witnesses (map step_of steps) ≡ witnesses (before steps i) + witnesses (step_of step ∷ map step_of (drop (suc i) steps)) =
    ap witnesses (coded_around steps i step h.at h.is) ∙ witnesses_on (before steps i) (step_of step ∷ map step_of (drop (suc i) steps)) in
    let b : witnesses (step_of step ∷ map step_of (drop (suc i) steps)) ≡ witnesses (step_of step ∷ []) + witnesses (map step_of (drop (suc i) steps)) = witnesses_on (step_of step ∷ []) (map step_of (drop (suc i) steps)) in
    omega (arith, h.may.enough, h.last_is, a, b, has_one (step_of step) k)

turn_none : (f : List Clause) (steps : List Coded) (greatest i : ℕ) (step : Coded) (clauses : List Clause) (last : ℕ) → Turn f steps greatest i step clauses last → list_any adds_empty (before steps i) ≡ false
turn_none f steps greatest i step clauses last h =
    none_before (map step_of steps) (before steps i) (map step_of (drop (suc i) steps)) (step_of step) h.may.ends (coded_around steps i step h.at h.is)

turn_variable : (f : List Clause) (steps : List Coded) (greatest i : ℕ) (step : Coded) (clauses : List Clause) (last : ℕ) → Turn f steps greatest i step clauses last → greatest + 1 + witnesses (before steps i) ≡ last + 1
turn_variable f steps greatest i step clauses last h = omega (arith, h.last_is)

pub turn_done : (f : List Clause) (steps : List Coded) (greatest i : ℕ) (step : Coded) (clauses : List Clause) (last : ℕ) (lines : List Step) → Turn f steps greatest i step clauses last
    → lines ≡ lines_of All clauses (last + 1) (step_of step) → done f steps greatest (i + 1) ≡ done f steps greatest i ++ lines
turn_done f steps greatest i step clauses last lines h e =
    ap (λ ss. converted_apart All f ss (greatest + 1)) (coded_more steps i step h.at h.is)
    ∙ apart_on f (before steps i) (step_of step ∷ []) (greatest + 1) (turn_none f steps greatest i step clauses last h)
    ∙ ap (λ z. done f steps greatest i ++ z) (ap (λ g. converted_apart All g (step_of step ∷ []) (greatest + 1 + witnesses (before steps i))) (sym h.clauses_are)
    ∙ ap (converted_apart All clauses (step_of step ∷ [])) (turn_variable f steps greatest i step clauses last h) ∙ apart_one clauses (step_of step) (last + 1) ∙ sym e)

-- the lines behind those of the step
abbrev pub behind : List Clause → List Coded → ℕ → Coded → ℕ → List Step
behind clauses steps i step last = rest_of clauses (step_of step) (map step_of (drop (suc i) steps)) (last + 1)

pub turn_all : (f : List Clause) (steps : List Coded) (greatest i : ℕ) (step : Coded) (clauses : List Clause) (last : ℕ) (lines : List Step) → Turn f steps greatest i step clauses last
    → lines ≡ lines_of All clauses (last + 1) (step_of step) → converted_apart All f (map step_of steps) (greatest + 1) ≡ done f steps greatest i ++ lines ++ behind clauses steps i step last
turn_all f steps greatest i step clauses last lines h e =
    ap (λ ss. converted_apart All f ss (greatest + 1)) (coded_around steps i step h.at h.is)
    ∙ apart_on f (before steps i) (step_of step ∷ map step_of (drop (suc i) steps)) (greatest + 1) (turn_none f steps greatest i step clauses last h)
    ∙ ap (λ z. done f steps greatest i ++ z) (ap (λ g. converted_apart All g (step_of step ∷ map step_of (drop (suc i) steps)) (greatest + 1 + witnesses (before steps i))) (sym h.clauses_are)
    ∙ ap (converted_apart All clauses (step_of step ∷ map step_of (drop (suc i) steps))) (turn_variable f steps greatest i step clauses last h)
    ∙ apart_first clauses (step_of step) (map step_of (drop (suc i) steps)) (last + 1) ∙ ap (λ z. z ++ behind clauses steps i step last) (sym e))
    ∙ sym (append_assoc (done f steps greatest i) lines (behind clauses steps i step last))

pub turn_some : (f : List Clause) (steps : List Coded) (greatest i : ℕ) (step : Coded) (clauses : List Clause) (last : ℕ) → Turn f steps greatest i step clauses last
    → converted_apart All f (map step_of steps) (greatest + 1) ≡ done f steps greatest i ++ (lines_of All clauses (last + 1) (step_of step) ++ behind clauses steps i step last)
turn_some f steps greatest i step clauses last h =
    turn_all f steps greatest i step clauses last (lines_of All clauses (last + 1) (step_of step)) h refl
    ∙ append_assoc (done f steps greatest i) (lines_of All clauses (last + 1) (step_of step)) (behind clauses steps i step last)

pub turn_clauses : (f : List Clause) (steps : List Coded) (greatest i : ℕ) (step : Coded) (clauses after : List Clause) (last : ℕ) (lines : List Step) → Turn f steps greatest i step clauses last
    → lines ≡ lines_of All clauses (last + 1) (step_of step) → after ≡ apply_all All clauses lines → after ≡ apply_all All f (done f steps greatest (i + 1))
turn_clauses f steps greatest i step clauses after last lines h e k =
    k ∙ ap (λ g. apply_all All g lines) h.clauses_are ∙ sym (apply_on f (done f steps greatest i) lines) ∙ ap (apply_all All f) (sym (turn_done f steps greatest i step clauses last lines h e))

pub turn_last : (f : List Clause) (steps : List Coded) (greatest i : ℕ) (step : Coded) (clauses : List Clause) (last next : ℕ) → Turn f steps greatest i step clauses last
    → next + 1 ≡ next_variable (step_of step) (last + 1) → next ≡ greatest + witnesses (before steps (i + 1))
turn_last f steps greatest i step clauses last next h e =
    let a : witnesses (before steps (i + 1)) ≡ witnesses (before steps i) + witnesses (step_of step ∷ []) = ap witnesses (coded_more steps i step h.at h.is) ∙ witnesses_on (before steps i) (step_of step ∷ []) in
    omega (arith, a, e, next_is (step_of step) (last + 1), h.last_is)

pub turn_below : (f : List Clause) (steps : List Coded) (greatest i : ℕ) (step : Coded) (clauses after : List Clause) (last next : ℕ) (lines : List Step) → Turn f steps greatest i step clauses last
    → lines ≡ lines_of All clauses (last + 1) (step_of step) → after ≡ apply_all All clauses lines → next + 1 ≡ next_variable (step_of step) (last + 1) → AllBelow (next + 1) after
turn_below f steps greatest i step clauses after last next lines h e k n =
    after_below clauses after (last + 1) (next + 1) (step_of step) h.below (turn_step f steps greatest i step clauses last h) (k ∙ ap (apply_all All clauses) e) n

pub turn_count : (f : List Clause) (steps : List Coded) (greatest i : ℕ) (step : Coded) (clauses : List Clause) (last before_count after_count : ℕ) (lines : List Step) → Turn f steps greatest i step clauses last
    → lines ≡ lines_of All clauses (last + 1) (step_of step) → before_count ≡ length (done f steps greatest i) → after_count ≡ before_count + length lines → after_count ≡ length (done f steps greatest (i + 1))
turn_count f steps greatest i step clauses last n m lines h e p q =
    q ∙ ap (λ z. z + length lines) p ∙ sym (length-append (done f steps greatest i) lines) ∙ ap length (sym (turn_done f steps greatest i step clauses last lines h e))

-- ---- the clauses of the formula

pub live_one : (slots : Slots) (n : ℕ) (c d : Clause) (old after : List Clause) → is_alive slots n ≡ true → c ≡ clause_of slots n → no_repeats c ≡ true → d ≡ firsts c → after ≡ old ++ d ∷ []
    → after ≡ old ++ live (slot_at slots n ∷ [])
live_one slots n c d old after a e h k p =
    p ∙ ap (λ (x : Clause). old ++ x ∷ []) (k ∙ firsts_same c h ∙ e) ∙ ap (λ (o : Option Clause). old ++ live (o ∷ [])) (sym (alive_some slots n a))

none_there : (o : Option Clause) → is_some o ≡ false → live (o ∷ []) ≡ []
none_there None h = refl
none_there (Some c) h = absurd (true≢false h)

pub live_none : (slots : Slots) (n : ℕ) (old : List Clause) → is_alive slots n ≡ false → old ≡ old ++ live (slot_at slots n ∷ [])
live_none slots n old a = sym (append-nil old) ∙ ap (λ (f : List Clause). old ++ f) (sym (none_there (slot_at slots n) a))

-- What a read fault leaves of a proof: the whole steps of the bytes that were given.
use Rattle.std.proofs.Common.{◌≡◌, ◌≤◌, ◌<◌, ◌+◌, ℕ, Bool, false, List, [], ◌∷◌, ◌++◌, length, append_assoc, append-nil, refl, sym, ap, ◌∙◌, arith, inl, inr, Option, Some, None}
use Rattle.std.specs.Prelude.{⊤, ◌⊎◌}
use Rattle.std.proofs.Math.Nat.{eq-or-lt_of_le}
use Rattle.sdcl_io.specs.Ahead.{Ahead, ahead, ahead_of, IsBehind, AreTaken}
use Rattle.sdcl_io.specs.Reading.{Reading}
use Rattle.sdcl_io.specs.Step.{Step, End}
use Rattle.sdcl_io.proofs.Advancing.{taken_on}
use Rattle.sdcl_proof.specs.declared.step.Dialect.{Dialect}
use Rattle.sdcl_proof.specs.declared.step.Step.{Step as Coded}
use Rattle.sdcl_proof.specs.ProofText.{ProofText, Nothing, steps_from}
use Rattle.sdcl_proof.specs.Steps.{step_of}
use Rattle.sdcl_proof.specs.Stepping.{left_of, whole_steps, NoneWhole, CutsOff, IsEnd, IsNextStep}
use Rattle.sdcl_proof.proofs.Leading.{no_word}
use Rattle.sdcl_prcheck.specs.Checking.{LeavesOff, AreAll, AreGiven}

-- At each place from this one on the whole steps that there were are those that were taken, and those that there are; or the text is at its end.
abbrev pub WholeBehind : Dialect → List Step → ℕ → Option Ahead → Option Ahead → Type 0
WholeBehind dialect taken at None now = ⊤
WholeBehind dialect taken at (Some a) None = ⊥
WholeBehind dialect taken at (Some a) (Some b) = ((n : ℕ) → at ≤ n → whole_steps dialect Nothing n a ≡ taken ++ whole_steps dialect Nothing n b) ⊎ IsEnd at b

pub behind_first : (dialect : Dialect) (at : ℕ) (a : Option Ahead) → WholeBehind dialect [] at a a
behind_first dialect at None = tt
behind_first dialect at (Some a) = inl (λ n late. refl)

end_left : (dialect : Dialect) (at : ℕ) (b : Ahead) → IsEnd at b → steps_from dialect b.over b.end Nothing b.words ≡ record { steps = []; ending = End }
end_left dialect at b e = ap (λ (x : Ahead). steps_from dialect x.over x.end Nothing x.words) e ∙ no_word dialect false at Nothing

no_step_at_end : (dialect : Dialect) (at : ℕ) (b : Ahead) (u : Option ProofText) (s : Coded) → IsEnd at b → IsNextStep (Some (steps_from dialect b.over b.end Nothing b.words)) u (Some s) → ⊥
no_step_at_end dialect at b None s e k = k
no_step_at_end dialect at b (Some u) s e k = let j : [] ≡ step_of s ∷ u.steps = ap (λ (x : ProofText). x.steps) (sym (end_left dialect at b e) ∙ k) in cc

behind_by : (dialect : Dialect) (taken : List Step) (s : Step) (at end : ℕ) (a b c : Ahead) → ((n : ℕ) → at ≤ n → whole_steps dialect Nothing n a ≡ taken ++ whole_steps dialect Nothing n b) → at ≤ end
    → CutsOff dialect end (Some b) (Some c) s → WholeBehind dialect (taken ++ s ∷ []) end (Some a) (Some c)
behind_by dialect taken s at end a b c h later (inl k) =
    inl (λ n late. h n (omega (arith, later, late)) ∙ ap (λ ss. taken ++ ss) (k n late) ∙ sym (append_assoc taken (s ∷ []) (whole_steps dialect Nothing n c)))
behind_by dialect taken s at end a b c h later (inr e) = inr e

behind_or : (dialect : Dialect) (taken : List Step) (s : Coded) (at end : ℕ) (a b c : Ahead) (u : Option ProofText) → WholeBehind dialect taken at (Some a) (Some b) → at ≤ end
    → CutsOff dialect end (Some b) (Some c) (step_of s) → IsNextStep (Some (steps_from dialect b.over b.end Nothing b.words)) u (Some s) → WholeBehind dialect (taken ++ step_of s ∷ []) end (Some a) (Some c)
behind_or dialect taken s at end a b c u (inl h) later k next = behind_by dialect taken (step_of s) at end a b c h later k
behind_or dialect taken s at end a b c u (inr e) later k next = absurd (no_step_at_end dialect at b u s e next)

-- one step more
pub behind_step : (dialect : Dialect) (taken : List Step) (s : Coded) (at end : ℕ) (a b c : Option Ahead) (u : Option ProofText) → WholeBehind dialect taken at a b → at ≤ end
    → CutsOff dialect end b c (step_of s) → IsNextStep (left_of dialect b) u (Some s) → WholeBehind dialect (taken ++ step_of s ∷ []) end a c
behind_step dialect taken s at end None b c u h later k next = tt
behind_step dialect taken s at end (Some a) None c u h later k next = absurd h
behind_step dialect taken s at end (Some a) (Some b) None u h later k next = absurd k
behind_step dialect taken s at end (Some a) (Some b) (Some c) u h later k next = behind_or dialect taken s at end a b c u h later k next

end_of_list : (xs ys : List ℕ) → [] ≡ xs ++ ys → ys ≡ []
end_of_list [] ys e = sym e
end_of_list (x ∷ xs) ys e = absurd cc

none_behind : (after : Option (List ℕ)) (n : ℕ) → IsBehind (Some []) after n → AreTaken (Some []) after
none_behind None n h = absurd h
none_behind (Some ys) n h = end_of_list h.0 ys h.1

not_end : (limit : ℕ) (line_start : Bool) (at x : ℕ) (xs : List ℕ) (b : Ahead) → ahead_of limit line_start at (Some (x ∷ xs)) ≡ Some b → IsEnd at b → ⊥
not_end limit line_start at x xs b e h =
    let same : ahead limit line_start at (x ∷ xs) ≡ b = cc in
    let k : at + length (x ∷ xs) ≡ at = ap (λ (y : Ahead). y.end) (same ∙ h) in
    omega (arith, k)

all_at_end : (dialect : Dialect) (taken : List Step) (at : ℕ) (a b : Ahead) → IsEnd at b → LeavesOff taken (left_of dialect (Some a)) (left_of dialect (Some b)) → AreAll taken (left_of dialect (Some a))
all_at_end dialect taken at a b e h = h ∙ ap (λ (x : ProofText). record { steps = taken ++ x.steps; ending = x.ending }) (end_left dialect at b e) ∙ ap (λ ss. record { steps = ss; ending = End }) (append-nil taken)

given_by : (dialect : Dialect) (taken : List Step) (at n : ℕ) (a b : Ahead) (first after : Option (List ℕ)) → WholeBehind dialect taken at (Some a) (Some b) → at ≤ n → NoneWhole dialect n (Some b)
    → LeavesOff taken (left_of dialect (Some a)) (left_of dialect (Some b)) → (IsEnd at b → AreTaken first after) → AreGiven taken dialect n (Some a) first after
given_by dialect taken at n a b first after (inl h) later none left all = inl (h n later ∙ ap (λ ss. taken ++ ss) none ∙ append-nil taken)
given_by dialect taken at n a b first after (inr e) later none left all = inr (all_at_end dialect taken at a b e left, all e)

-- a read fault, with no step whole behind those that were taken
pub given_at : (dialect : Dialect) (taken : List Step) (limit at n m k : ℕ) (line_start : Bool) (a : Option Ahead) (first rest after : Option (List ℕ)) → WholeBehind dialect taken at a (ahead_of limit line_start at rest) → at ≤ n
    → NoneWhole dialect n (ahead_of limit line_start at rest) → LeavesOff taken (left_of dialect a) (left_of dialect (ahead_of limit line_start at rest)) → IsBehind first rest m → IsBehind rest after k
    → AreGiven taken dialect n a first after
given_at dialect taken limit at n m k line_start None first rest after h later none left x y = tt
given_at dialect taken limit at n m k line_start (Some a) first None after h later none left x y = absurd h
given_at dialect taken limit at n m k line_start (Some a) first (Some []) after h later none left x y =
    given_by dialect taken at n a _ first after h later none left (λ e. taken_on first (Some []) after m x (none_behind after k y))
given_at dialect taken limit at n m k line_start (Some a) first (Some (b ∷ bs)) after h later none left x y =
    given_by dialect taken at n a _ first after h later none left (λ e. absurd (not_end limit line_start at b bs _ refl e))

-- ---- the count of read faults

-- a count that rose over two calls, the first of which kept it
pub rise_on : (r s t : Reading) → s.role ≡ r.role → s.world.read_faults r.role ≡ r.world.read_faults r.role → r.world.read_faults r.role < t.world.read_faults r.role
    → s.world.read_faults s.role < t.world.read_faults s.role
rise_on r s t e f h = rw (e, f) h

no_rise : (m n : ℕ) → m ≤ n → (m < n → ⊥) → n ≡ m
no_rise m n later none = elim (eq-or-lt_of_le later) [ inl e ↦ sym e | inr less ↦ absurd (none less) ]

-- a count that both calls kept
pub steady_on : (r s t : Reading) → s.role ≡ r.role → s.world.read_faults r.role ≡ r.world.read_faults r.role → s.world.read_faults r.role ≤ t.world.read_faults r.role
    → (s.world.read_faults s.role < t.world.read_faults s.role → ⊥) → t.world.read_faults r.role ≡ r.world.read_faults r.role
steady_on r s t e f later none = no_rise _ _ later (λ h. none (rw e h)) ∙ f

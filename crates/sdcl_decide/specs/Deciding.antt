-- What a decider remembers, and what a bump does to it.
use Rattle.std.specs.Prelude.{ℕ, ◌≡◌, ◌+◌, ◌*◌, ◌/◌, ◌^◌, ◌≤◌, min, max, Bool, true, false, ◌||◌, nat_lt, List, [], ◌∷◌, length, replicate, slice_index, slice_index_or, slice_set, if◌then◌else◌, ⊤}
use Rattle.std.specs.List.{list_any}
use Rattle.sdcl_base.specs.Literal.{Literal, Clause}
use Rattle.sdcl_base.specs.declared.lit.TheConstants.{MAX_VARIABLE}
use Rattle.sdcl_decide.specs.declared.decider.DecideKind.{DecideKind}
use Rattle.sdcl_decide.specs.declared.decider.DecideKind.TheVariants as kind
use Rattle.sdcl_decide.specs.Queue.{Ranking, unranked, divided, IsFirstOpen}

pub record Preferences : Type 0 where
  pub kind : DecideKind
  -- the saved sign of each variable, at its number
  pub signs : List Bool
  -- the variables with their scores, and which of them were passed
  pub ranking : Ranking
  -- in Scored the increment, in MoveToFront the number of the last bump
  pub step : ℕ

-- the increment at the start
abbrev pub first_step : DecideKind → ℕ
first_step kind.Static = 0
first_step kind.MoveToFront = 0
first_step kind.Scored = 2 ^ 20

-- each saved sign is true, and nothing was bumped or passed
abbrev pub unbumped : DecideKind → ℕ → Preferences
unbumped rule variables =
    record {
      kind = rule;
      signs = replicate (variables + 1) true;
      ranking = unranked variables;
      step = first_step rule;
    }

-- ---- the decision

abbrev pub saved : Preferences → ℕ → Bool
saved d x = slice_index_or d.signs x true

-- the sign with which x is decided: true in Static, and else the saved one
abbrev pub sign_by : DecideKind → Bool → Bool
sign_by kind.Static sign = true
sign_by kind.MoveToFront sign = sign
sign_by kind.Scored sign = sign

abbrev pub sign_of : Preferences → ℕ → Bool
sign_of d x = sign_by d.kind (saved d x)

-- the first open variable by the scores, with its sign
pub record IsDecision (d : Preferences) (lits : Clause) (l : Literal) : Type 0 where
  pub first : IsFirstOpen d.ranking lits l.var
  pub sign : l.positive ≡ sign_of d l.var

-- ---- what changes it

-- x was not passed
abbrev pub put_back : Ranking → ℕ → Ranking
put_back r x = record r { passed = slice_set r.passed x false }

-- the sign of l is saved, and its variable put back
abbrev pub with_saved : Preferences → Literal → Preferences
with_saved d l =
    record d { signs = slice_set d.signs l.var l.positive; ranking = put_back d.ranking l.var }

-- the number of the bump after number n. It stands still at the end
abbrev pub next_bump : ℕ → ℕ
next_bump n = min (n + 1) (2 ^ 41)

-- the score that brings x to the front in bump number n: above those of all earlier bumps, and in
-- one bump greater for a greater variable
abbrev pub front : ℕ → ℕ → ℕ
front n x = n * 2 ^ 22 + x

-- the scores with each of these variables brought to the front
abbrev pub fronted : ℕ → List ℕ → List ℕ → List ℕ
fronted n [] scores = scores
fronted n (x ∷ xs) scores = fronted n xs (slice_set scores x (front n x))

-- the scores with the increment added to each of these variables'
abbrev pub raised : ℕ → List ℕ → List ℕ → List ℕ
raised step [] scores = scores
raised step (x ∷ xs) scores = raised step xs (slice_set scores x (slice_index scores x + step))

abbrev pub with_scores : Ranking → List ℕ → Ranking
with_scores r scores = record r { scores = scores }

-- whether a score is above 2 ^ 60
abbrev pub is_high : List ℕ → Bool
is_high scores = list_any (λ s. nat_lt (2 ^ 60) s) scores

-- the increment after that one: a sixteenth more
abbrev pub grown : ℕ → ℕ
grown step = step + step / 16

-- whether a score or the increment is too great after a bump of Scored
abbrev pub is_too_great : ℕ → List ℕ → Bool
is_too_great step scores = is_high scores || nat_lt (2 ^ 60) step

-- the scores after a bump by the rule. In Scored they are then divided, where one is too great
abbrev pub bumped_scores : DecideKind → ℕ → List ℕ → List ℕ → List ℕ
bumped_scores kind.Static step vars scores = scores
bumped_scores kind.MoveToFront step vars scores = fronted (next_bump step) vars scores
bumped_scores kind.Scored step vars scores =
    if is_too_great (grown step) (raised step vars scores)
    then divided (raised step vars scores)
    else raised step vars scores

-- the number of the bump, or the increment after it, which is divided where the scores are, to 1 at
-- least
abbrev pub bumped_step : DecideKind → ℕ → List ℕ → List ℕ → ℕ
bumped_step kind.Static step vars scores = step
bumped_step kind.MoveToFront step vars scores = next_bump step
bumped_step kind.Scored step vars scores =
    if is_too_great (grown step) (raised step vars scores)
    then max (grown step / 2 ^ 40) 1
    else grown step

-- what a bump of the variables leaves
abbrev pub bumped : Preferences → List ℕ → Preferences
bumped d vars =
    record d {
      ranking = with_scores d.ranking (bumped_scores d.kind d.step vars d.ranking.scores);
      step = bumped_step d.kind d.step vars d.ranking.scores;
    }

-- ---- what it keeps

-- no score is above the one that the last bump would give
abbrev pub AreBehind : ℕ → List ℕ → Type 0
AreBehind n scores = (x : ℕ) → slice_index scores x ≤ front n x

-- no score is above a number
abbrev pub AreAtMost : ℕ → List ℕ → Type 0
AreAtMost most scores = (x : ℕ) → slice_index scores x ≤ most

abbrev pub IsBounded : DecideKind → ℕ → List ℕ → Type 0
IsBounded kind.Static step scores = ⊤
IsBounded kind.MoveToFront step scores = (step ≤ 2 ^ 41) × AreBehind step scores
IsBounded kind.Scored step scores = (step ≤ 2 ^ 60) × AreAtMost (2 ^ 60) scores

pub record IsDecider (rule : DecideKind) (signs : List Bool) (r : Ranking) (step : ℕ) : Type 0 where
  pub small : r.variables ≤ MAX_VARIABLE
  pub signed : length signs ≡ r.variables + 1
  pub scored : length r.scores ≡ r.variables + 1
  pub bounded : IsBounded rule step r.scores

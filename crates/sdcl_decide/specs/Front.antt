-- The order of MoveToFront as a list, and the laws that tie it to the scores. Each law is stated
-- for a public function with an empty body.
use Rattle.std.specs.Prelude.{ℕ, zero, suc, ◌≡◌, ◌+◌, ◌^◌, ◌≤◌, ◌<◌, ◌==◌, ◌↔◌, true, not, List, [], ◌∷◌, length, replicate, filter, find, Some, ⊤}
use Rattle.sdcl_base.specs.Literal.{Clause}
use Rattle.sdcl_base.specs.Sets.{In}
use Rattle.sdcl_base.specs.declared.lit.TheConstants.{MAX_VARIABLE}
use Rattle.sdcl_decide.specs.declared.decider.DecideKind.TheVariants as kind
use Rattle.sdcl_decide.specs.Heap.{comes_before}
use Rattle.sdcl_decide.specs.Queue.{Ranking, IsFirstOpen, is_given}
use Rattle.sdcl_decide.specs.Deciding.{bumped_scores, AreBehind}

-- x at the front of the list, and the others behind it as they stood
abbrev pub to_front : ℕ → List ℕ → List ℕ
to_front x order = x ∷ filter (λ y. not (y == x)) order

-- these variables brought to the front one by one
abbrev pub all_to_front : List ℕ → List ℕ → List ℕ
all_to_front [] order = order
all_to_front (x ∷ xs) order = all_to_front xs (to_front x order)

-- the numbers rise, from b on
abbrev pub Rise : ℕ → List ℕ → Type 0
Rise b [] = ⊤
Rise b (x ∷ xs) = (b ≤ x) × Rise (x + 1) xs

-- each of the variables comes before those behind it
abbrev pub Descend : List ℕ → List ℕ → Type 0
Descend scores [] = ⊤
Descend scores (x ∷ xs) = ((y : ℕ) → In xs y → comes_before scores x y ≡ true) × Descend scores xs

-- the list has the variables from 1 to a number, in their order by the scores
pub record IsOrderOf (variables : ℕ) (scores order : List ℕ) : Type 0 where
  pub all : (x : ℕ) → 1 ≤ x → x ≤ variables → In order x
  pub only : (x : ℕ) → In order x → (1 ≤ x) × (x ≤ variables)
  pub descend : Descend scores order

-- n numbers from b on
abbrev pub numbers_from : ℕ → ℕ → List ℕ
numbers_from b zero = []
numbers_from b (suc n) = b ∷ numbers_from (suc b) n

-- at the start the list is 1 to the number of variables
abbrev pub FrontStarts : Type 0
FrontStarts = (variables : ℕ)
    → IsOrderOf variables (replicate (variables + 1) 0) (numbers_from 1 variables)

-- a bump brings its variables to the front one by one, in ascending order, while bumps are counted
abbrev pub FrontBumps : Type 0
FrontBumps = (variables step : ℕ) (scores order vars rising : List ℕ)
    → variables ≤ MAX_VARIABLE → length scores ≡ variables + 1 → step < 2 ^ 41
    → AreBehind step scores
    → IsOrderOf variables scores order
    → Rise 1 rising → ((x : ℕ) → In rising x ↔ In vars x) → ((x : ℕ) → In vars x → x ≤ variables)
    → let after = bumped_scores kind.MoveToFront step vars scores in
    IsOrderOf variables after (all_to_front rising order)

-- the first open variable by the scores is the first one of the list
abbrev pub FrontDecides : Type 0
FrontDecides = (r : Ranking) (lits : Clause) (order : List ℕ) (x : ℕ)
    → IsOrderOf r.variables r.scores order → IsFirstOpen r lits x
    → find (λ y. not (is_given lits y)) order ≡ Some x

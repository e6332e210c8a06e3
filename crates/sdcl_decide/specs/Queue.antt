-- Variables with scores, some of which were passed.
use Rattle.std.specs.Prelude.{ℕ, ◌≡◌, ◌+◌, ◌/◌, ◌^◌, ◌≤◌, ◌<◌, Bool, true, false, nat_lt, List, length, map, replicate, slice_index, slice_index_or}
use Rattle.sdcl_base.specs.Literal.{Clause, pos_lit, names}
use Rattle.sdcl_base.specs.declared.lit.TheConstants.{MAX_VARIABLE}
use Rattle.sdcl_decide.specs.Heap.{comes_before, rank_at, AreLinked, IsHeapFrom}

pub record Ranking : Type 0 where
  -- the greatest variable
  pub variables : ℕ
  -- the score of each variable, at its number
  pub scores : List ℕ
  -- whether it was passed, at its number
  pub passed : List Bool

-- no score, and no variable passed
abbrev pub unranked : ℕ → Ranking
unranked variables =
    record {
      variables = variables;
      scores = replicate (variables + 1) 0;
      passed = replicate (variables + 1) false;
    }

-- whether variable x was passed
abbrev pub was_passed : Ranking → ℕ → Bool
was_passed r x = slice_index_or r.passed x false

-- whether the literals give variable x a value
abbrev pub is_given : Clause → ℕ → Bool
is_given lits x = names lits (pos_lit x)

-- x is a variable that the literals leave open
pub record IsOpen (variables : ℕ) (lits : Clause) (x : ℕ) : Type 0 where
  pub low : 1 ≤ x
  pub high : x ≤ variables
  pub free : is_given lits x ≡ false

-- x is open, and no open variable comes before it by the scores
pub record IsFirstOpen (r : Ranking) (lits : Clause) (x : ℕ) : Type 0 where
  pub is : IsOpen r.variables lits x
  pub first : (y : ℕ) → IsOpen r.variables lits y → comes_before r.scores y x ≡ false

-- no variable is open
abbrev pub NoneOpen : ℕ → Clause → Type 0
NoneOpen variables lits = (x : ℕ) → 1 ≤ x → x ≤ variables → is_given lits x ≡ true

-- each variable that was passed has a value
abbrev pub IsInStep : Ranking → Clause → Type 0
IsInStep r lits = (x : ℕ) → 1 ≤ x → x ≤ r.variables → was_passed r x ≡ true → is_given lits x ≡ true

-- x was not passed
pub record IsAtHand (r : Ranking) (x : ℕ) : Type 0 where
  pub low : 1 ≤ x
  pub high : x ≤ r.variables
  pub left : was_passed r x ≡ false

-- x was not passed, and no other such variable comes before it
pub record IsForemost (r : Ranking) (x : ℕ) : Type 0 where
  pub is : IsAtHand r x
  pub first : (y : ℕ) → IsAtHand r y → comes_before r.scores y x ≡ false

-- variables that have a value were passed, and nothing else has changed. The foremost of those at
-- hand has none
pub record Settles (lits : Clause) (old new : Ranking) : Type 0 where
  pub same : new ≡ record old { passed = new.passed }
  pub size : length new.passed ≡ length old.passed
  pub stay : (x : ℕ) → was_passed old x ≡ true → was_passed new x ≡ true
  pub only : (x : ℕ) → was_passed old x ≡ false → was_passed new x ≡ true → is_given lits x ≡ true
  pub ready : (x : ℕ) → IsForemost new x → is_given lits x ≡ false

-- what a queue keeps
pub record IsQueue (variables : ℕ) (vars places scores : List ℕ) (size : ℕ) : Type 0 where
  pub width : length vars ≡ variables + 1
  pub small : variables ≤ MAX_VARIABLE
  pub linked : AreLinked vars places
  pub scored : length scores ≡ length vars
  pub within : size ≤ variables
  pub order : IsHeapFrom 1 size (rank_at scores vars)

-- the scores divided by 2 to the 40th, each rounded down
abbrev pub divided : List ℕ → List ℕ
divided scores = map (λ s. s / 2 ^ 40) scores

-- the numbers below n, each at its own place
pub record AreAtOwnPlaces (n : ℕ) (xs : List ℕ) : Type 0 where
  pub width : length xs ≡ n
  pub each : (i : ℕ) → i < n → slice_index xs i ≡ i

-- what stood behind the last place stays behind it, and what has come there has a value
pub record Passes (lits : Clause) (last after : ℕ) (old new : List ℕ) : Type 0 where
  pub stay : (x : ℕ) → nat_lt last (slice_index old x) ≡ true
      → nat_lt after (slice_index new x) ≡ true
  pub only : (x : ℕ) → nat_lt last (slice_index old x) ≡ false
      → nat_lt after (slice_index new x) ≡ true → is_given lits x ≡ true

-- whether a variable at a place was passed, at each place
abbrev pub passed_of : ℕ → List ℕ → List Bool
passed_of size places = map (λ p. nat_lt size p) places

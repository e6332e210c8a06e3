-- What is marked of a trail.
use Rattle.std.specs.Prelude.{◌≡◌, ◌≤◌, ◌+◌, ◌⊎◌, ℕ, suc, true, List, [], ◌∷◌, ◌++◌, map, length, if◌then◌else◌}
use Rattle.std.specs.List.{filter}
use Rattle.sdcl_base.specs.Literal.{Literal, Clause, negated, has, no_variable_twice}
use Rattle.sdcl_base.specs.Propagation.{distinct}
use Rattle.sdcl_base.specs.Sets.{In, Sub}
use Rattle.sdcl_store.specs.Trails.{greatest}
use Rattle.sdcl_analyze.specs.Numbers.{has_number}
use Rattle.sdcl_trail.specs.Levels.{Levels, Entry, levels_of}

-- the literals of entries
abbrev pub lits : List Entry → Clause
lits es = map (λ e. e.lit) es

-- the entries of the last level, and its literals
abbrev pub last_of : List (List Entry) → List Entry
last_of [] = []
last_of (l ∷ []) = l
last_of (l ∷ m ∷ ls) = last_of (m ∷ ls)

abbrev pub last_lits : List (List Entry) → Clause
last_lits ls = lits (last_of ls)

-- the entries of the levels below it, and their literals
abbrev pub lower_of : List (List Entry) → List Entry
lower_of [] = []
lower_of (l ∷ []) = []
lower_of (l ∷ m ∷ ls) = l ++ lower_of (m ∷ ls)

abbrev pub lower_lits : List (List Entry) → Clause
lower_lits [] = []
lower_lits (l ∷ []) = []
lower_lits (l ∷ m ∷ ls) = lits l ++ lower_lits (m ∷ ls)

-- l is false under the literals t, or true with its variable seen
abbrev pub IsMarkable : Clause → List ℕ → Literal → Type 0
IsMarkable t seen l = In t (negated l) ⊎ (In t l × (has_number seen l.var ≡ true))

-- the literals are those that are false below the last level, and whose variables are seen
pub record Gathers (low : Clause) (seen : List ℕ) (lower : Clause) : Type 0 where
  pub sound : (l : Literal) → In lower l → In low (negated l) × (has_number seen l.var ≡ true)
  pub all : (l : Literal) → In low (negated l) → has_number seen l.var ≡ true → In lower l
  pub apart : no_variable_twice lower ≡ true
  pub few : length lower ≤ length seen

-- the same of a trail's levels
abbrev pub GathersOn : Levels → List ℕ → Clause → Type 0
GathersOn t seen lower = Gathers (lower_lits (levels_of t)) seen lower

-- the literals whose variables are seen
abbrev pub seen_among : Clause → List ℕ → Clause
seen_among c seen = filter (λ l. has_number seen l.var) c

-- the last level's literals that became seen with the clause are so many, in each part that has all
-- of them
abbrev pub BecomeSeen : Clause → List ℕ → List ℕ → Clause → ℕ → Type 0
BecomeSeen last seen more c n =
    (part : Clause) → Sub part last → no_variable_twice part ≡ true
    → ((l : Literal) → In c l → In last (negated l) → In part (negated l)
    ⊎ (has_number seen l.var ≡ true))
    → length (seen_among part more) ≡ length (seen_among part seen) + n

-- the same of a trail's last level
abbrev pub BecomeSeenOn : Levels → List ℕ → List ℕ → Clause → ℕ → Type 0
BecomeSeenOn t seen more c n = BecomeSeen (last_lits (levels_of t)) seen more c n

-- the number of the level on which l stands, and the number of levels where it stands on none
abbrev pub level_on : List (List Entry) → Literal → ℕ
level_on [] l = 0
level_on (m ∷ ms) l = if has (lits m) l then 0 else suc (level_on ms l)

-- the greatest level below the last on which complements of the literals stand, and 0 where there
-- is none
abbrev pub back_on : List (List Entry) → Clause → ℕ
back_on ls c = greatest (map (λ m. level_on ls (negated m))
    (filter (λ m. has (lower_lits ls) (negated m)) c))

-- the number of levels on which complements of the literals stand
abbrev pub glue_on : List (List Entry) → Clause → ℕ
glue_on ls c = length (distinct (map (λ m. level_on ls (negated m)) c))

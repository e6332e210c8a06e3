-- Literals that are covered by those that are seen.
use Rattle.std.specs.Prelude.{◌≡◌, ◌==◌, ◌⊎◌, ℕ, suc, true, not, List, [], ◌∷◌, if◌then◌else◌}
use Rattle.std.specs.List.{filter}
use Rattle.sdcl_base.specs.Literal.{Literal, Clause, negated, has, complements}
use Rattle.sdcl_store.specs.Slots.{Slots}
use Rattle.sdcl_store.specs.Analysis.{covered}
use Rattle.sdcl_trail.specs.Levels.{Levels, Entry, levels_of}
use Rattle.sdcl_prop.specs.Seeing.{entries_seen}
use Rattle.sdcl_analyze.specs.Numbers.{has_number}
use Rattle.sdcl_analyze.specs.Marking.{seen_among, lits, lower_of, lower_lits}

-- level 0, and the entries of the levels above it and below the last
abbrev pub root_of : List (List Entry) → List Entry
root_of [] = []
root_of (l ∷ ls) = l

abbrev pub middle_of : List (List Entry) → List Entry
middle_of [] = []
middle_of (l ∷ ls) = lower_of ls

-- the literals that are false below the last level, and whose variables are seen
abbrev pub lower_kept : Levels → List ℕ → Clause
lower_kept t seen = complements (seen_among (lower_lits (levels_of t)) seen)

-- the literals that they cover
abbrev pub covered_of : Slots → Levels → List ℕ → Clause
covered_of slots t seen = covered (lower_kept t seen) (lits (root_of (levels_of t)))
    (entries_seen slots (middle_of (levels_of t)))

-- a reason's literal is seen, or its complement is covered
abbrev pub IsFine : Slots → Levels → List ℕ → Literal → Type 0
IsFine slots t seen m = (has_number seen m.var ≡ true)
    ⊎ (has (covered_of slots t seen) (negated m) ≡ true)

-- the place of the first literal of a variable
abbrev pub height_in : Clause → ℕ → ℕ
height_in [] x = 0
height_in (l ∷ c) x = if l.var == x then 0 else suc (height_in c x)

-- the literals whose complements are not covered
abbrev pub uncovered_of : Slots → Levels → List ℕ → Clause → Clause
uncovered_of slots t seen c = filter (λ l. not (has (covered_of slots t seen) (negated l))) c

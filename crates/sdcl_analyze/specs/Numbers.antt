-- Sets of numbers as lists in which none stands twice.
use Rattle.std.specs.Prelude.{◌≡◌, ◌==◌, ◌≤◌, ◌<◌, ◌+◌, ℕ, Bool, true, false, List, [], ◌∷◌, ◌++◌, length, vec_capacity, slice_index_or, if◌then◌else◌, refl}
use Rattle.std.specs.declared.vec.Vec.{Vec}
use Rattle.std.specs.declared.alloc.Global.{Global}
use Rattle.std.specs.List.{list_any, IsDistinct}
use Rattle.std.specs.Coded.{Coded, code_by, coded×, coded_ℕ, coded_list}
use Rattle.sdcl_base.specs.declared.lit.TheConstants.{MAX_VARIABLE}
use Rattle.sdcl_base.specs.Literal.{Clause}

-- the bound below which the members are, and the members in order
pub record Numbers : Type 0 where
  pub room : ℕ
  pub members : List ℕ

abbrev pub numbers_code : Coded Numbers
numbers_code = code_by (ℕ × List ℕ) (coded× coded_ℕ (coded_list coded_ℕ)) (λ s. (s.room, s.members))
    (λ p. record { room = p.0; members = p.1 }) (λ _. refl)

-- the empty set
abbrev pub none_of : ℕ → Numbers
none_of room = record { room = room; members = [] }

-- both sets and the literals are empty
abbrev pub AreEmpty : Numbers → Numbers → Clause → Type 0
AreEmpty s r lits = (s ≡ none_of s.room) × (r ≡ none_of r.room) × (lits ≡ [])

-- whether x is one of the numbers
abbrev pub has_number : List ℕ → ℕ → Bool
has_number xs x = list_any (λ y. x == y) xs

-- the numbers with x, unless it is there
abbrev pub adjoined : List ℕ → ℕ → List ℕ
adjoined xs x = if has_number xs x then xs else xs ++ x ∷ []

abbrev pub with_number : Numbers → ℕ → Numbers
with_number s x = record { room = s.room; members = adjoined s.members x }

-- the numbers with the variables of the literals
abbrev pub adjoined_all : List ℕ → Clause → List ℕ
adjoined_all xs [] = xs
adjoined_all xs (l ∷ ls) = adjoined_all (adjoined xs l.var) ls

abbrev pub with_variables : Numbers → Clause → Numbers
with_variables s c = record { room = s.room; members = adjoined_all s.members c }

-- no number stands twice
abbrev pub AllDiffer : List ℕ → Type 0
AllDiffer xs = IsDistinct (λ x y. x == y) xs

-- what is true of each set
pub record IsListed (s : Numbers) : Type 0 where
  pub distinct : AllDiffer s.members
  pub below : (x : ℕ) → has_number s.members x ≡ true → x < s.room
  pub few : length s.members ≤ s.room
  pub small : s.room ≤ MAX_VARIABLE + 2

-- what a set keeps
pub record IsMarked (marks : List Bool) (members : Vec ℕ Global) : Type 0 where
  pub exact : (x : ℕ) → slice_index_or marks x false ≡ has_number members.items x
  pub distinct : AllDiffer members.items
  pub memory : length marks ≤ vec_capacity members
  pub small : length marks ≤ MAX_VARIABLE + 2

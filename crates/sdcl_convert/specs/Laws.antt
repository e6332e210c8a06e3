-- Laws over the conversion of proofs, each stated for a public function with an empty body.
use Rattle.std.specs.Prelude.{ℕ, ◌+◌, ◌*◌, ◌<◌, ◌≤◌, ◌≡◌, Bool, true, false, List, [], ◌∷◌, ◌++◌, length}
use Rattle.std.specs.List.{filter, list_any}
use Rattle.sdcl_base.specs.Literal.{Literal, Clause, same_set}
use Rattle.sdcl_base.specs.Sets.{In}
use Rattle.sdcl_base.specs.Redundancy.{pr}
use Rattle.sdcl_base.specs.declared.lit.TheConstants.{MAX_VARIABLE}
use Rattle.sdcl_io.specs.Step.{Step, Add, AddWitness, Delete, Deletions, All, End, Verified, judge, apply_all, ValidSteps}
use Rattle.sdcl_proof.specs.declared.step.Dialect.TheVariants.{Pr, Drat}
use Rattle.sdcl_proof.specs.Steps.{IsClean}
use Rattle.sdcl_proof.specs.RoundTrip.{AreFormed}
use Rattle.sdcl_convert.specs.Checked.{witnesses}
use Rattle.sdcl_convert.specs.Conversion.{reduced, shaken, block, converted, converted_apart, has_witness}

-- x is above every variable of c
abbrev pub Below : ℕ → Clause → Type 0
Below x c = (l : Literal) → In c l → l.var < x

-- x is above every variable of f
abbrev pub AllBelow : ℕ → List Clause → Type 0
AllBelow x f = (d : Clause) → In f d → Below x d

-- x is above every variable of an addition
abbrev pub StepBelow : ℕ → Step → Type 0
StepBelow x (Add c) = Below x c
StepBelow x (AddWitness c w) = Below x c × Below x w
StepBelow x (Delete d) = Unit {0}

-- x is above every variable of the additions
abbrev pub StepsBelow : ℕ → List Step → Type 0
StepsBelow x [] = Unit {0}
StepsBelow x (s ∷ ss) = StepBelow x s × StepsBelow x ss

-- 1 for true
abbrev pub one : Bool → ℕ
one true = 1
one false = 0

-- how many clauses of f have d's literals
abbrev pub copies : List Clause → Clause → ℕ
copies [] d = 0
copies (c ∷ f) d = one (same_set c d) + copies f d

-- f and g are equal up to order, clauses taken as sets
abbrev pub Alike : List Clause → List Clause → Type 0
Alike f g = (d : Clause) → copies f d ≡ copies g d

-- x is a new variable for a clause that is PR over f with the witness w
pub record IsAddition (f : List Clause) (c w : Clause) (x : ℕ) : Type 0 where
  pub formula : AllBelow x f
  pub clause : Below x c
  pub witness : Below x w
  pub redundant : pr f c w ≡ true

-- each line of a block is valid
abbrev pub BlockValid : Type 0
BlockValid = (f : List Clause) (c w : Clause) (x : ℕ) → IsAddition f c w x → ValidSteps f (block f c w x)

-- a block adds its clause to the database, up to order
abbrev pub BlockAdds : Type 0
BlockAdds = (f : List Clause) (c w : Clause) (x : ℕ) → IsAddition f c w x → Alike (f ++ c ∷ []) (apply_all All f (block f c w x))

-- and leaves no clause that names x
abbrev pub BlockLeaves : Type 0
BlockLeaves = (f : List Clause) (c w : Clause) (x : ℕ) → IsAddition f c w x → AllBelow x (apply_all All f (block f c w x))

-- the number of a block's lines
abbrev pub BlockLength : Type 0
BlockLength = (f : List Clause) (c w : Clause) (x : ℕ)
    → length (block f c w x) ≡ 2 * length (filter (reduced w) f) + 4 * length (filter (shaken w) f) + 2 * length w + 3

-- the converted proof of a verified one is verified, with every deletion honoured, where each block takes the next variable
abbrev pub ApartVerified : Type 0
ApartVerified = (mode : Deletions) (f : List Clause) (steps : List Step) (x : ℕ) → AllBelow x f → StepsBelow x steps
    → judge mode f steps End ≡ Verified → judge All f (converted_apart mode f steps x) End ≡ Verified

-- and has no witness
abbrev pub ApartPlain : Type 0
ApartPlain = (mode : Deletions) (f : List Clause) (steps : List Step) (x : ℕ) → list_any has_witness (converted_apart mode f steps x) ≡ false

-- the same, where every block uses one variable
abbrev pub ConvertedVerified : Type 0
ConvertedVerified = (mode : Deletions) (f : List Clause) (steps : List Step) (x : ℕ) → AllBelow x f → StepsBelow x steps
    → judge mode f steps End ≡ Verified → judge All f (converted mode f steps x) End ≡ Verified

abbrev pub ConvertedPlain : Type 0
ConvertedPlain = (mode : Deletions) (f : List Clause) (steps : List Step) (x : ℕ) → list_any has_witness (converted mode f steps x) ≡ false

-- the clauses are clean
abbrev pub AreClean : List Clause → Type 0
AreClean f = (d : Clause) → In f d → IsClean d

-- x and the variables behind it are enough for the proof's blocks, and above those of the formula and the additions
pub record HasRoom (f : List Clause) (ss : List Step) (x : ℕ) : Type 0 where
  pub some : 1 ≤ x
  pub enough : x + witnesses ss ≤ MAX_VARIABLE + 1
  pub formula : AllBelow x f
  pub additions : StepsBelow x ss

-- Where the clauses are clean and the steps well-formed, so are the lines of the converted proof: their text is read as these lines.
abbrev pub ApartFormed : Type 0
ApartFormed = (f : List Clause) (ss : List Step) (x : ℕ) → AreClean f → AreFormed Pr ss → HasRoom f ss x → AreFormed Drat (converted_apart All f ss x)

-- What a sink was told of steps that are to come in this order.
use Rattle.std.specs.Prelude.{◌≡◌, ⊤, List, [], ◌∷◌, ◌++◌, Option, Some, None}
use Rattle.sdcl_io.specs.Step.{Step}
use Rattle.sdcl_io.specs.Telling.{IsTold}

-- the step that failed, where one did, is the next
abbrev pub IsNextOf : Option Step → List Step → Type 0
IsNextOf None more = ⊤
IsNextOf (Some torn) [] = ⊥
IsNextOf (Some torn) (s ∷ ss) = torn ≡ s

-- the first of the steps were taken, and where one failed, it is the next
pub record AreFirstOf {S : Type 0} (tells : S → List Step → Option Step → Type 0) (old new : S) (steps : List Step) : Type 0 where
  pub done : List Step
  pub more : List Step
  pub torn : Option Step
  pub parts : steps ≡ done ++ more
  pub next : IsNextOf torn more
  pub told : IsTold tells old new done torn

-- What a sink is told between two of its states.
use Rattle.std.specs.Prelude.{◌⊎◌, List, [], ◌∷◌, ◌++◌, Option, Some, None}
use Rattle.sdcl_io.specs.Step.{Step}

-- these steps, or events, more were taken, and then this one failed
abbrev pub IsTold : {S X : Type 0} → (S → List X → Option X → Type 0) → S → S → List X → Option X → Type 0
IsTold {S} {X} tells old new more torn = (before : List X) → tells old before None → tells new (before ++ more) torn

-- the step was not told, or it failed, or it was taken
abbrev pub MayBeTold : {S : Type 0} → (S → List Step → Option Step → Type 0) → S → S → Step → Type 0
MayBeTold tells old new step = IsTold tells old new [] None ⊎ (IsTold tells old new [] (Some step) ⊎ IsTold tells old new (step ∷ []) None)

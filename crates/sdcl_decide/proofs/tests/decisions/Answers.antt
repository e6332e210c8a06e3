use Rattle.std.proofs.Common.{rules, [], ◌∷◌}
use Rattle.std.proofs.lemmas.Bool.Decides.{Decides-eqb}
use Rattle.std.proofs.lemmas.Map.Made.{IsDistinct-from_AllPairs}
use Rattle.sdcl_decide.proofs.tests.decisions.Goals as goal

pub bump-requires-clause-distinct : goal.bump-requires-clause-distinct
bump-requires-clause-distinct c =
    IsDistinct-from_AllPairs Decides-eqb (5 ∷ 3 ∷ 4 ∷ []) (search rules)

pub bump-requires-2-clause-distinct : goal.bump-requires-2-clause-distinct
bump-requires-2-clause-distinct c = IsDistinct-from_AllPairs Decides-eqb (4 ∷ 7 ∷ []) (search rules)

-- How a ranking keeps in step with a trail, so that the decision is that of the rule. Each law is
-- stated for a public function with an empty body.
use Rattle.std.specs.Prelude.{ℕ, ◌≡◌, true, false}
use Rattle.sdcl_base.specs.Literal.{Clause}
use Rattle.sdcl_decide.specs.Queue.{Ranking, unranked, was_passed, is_given, IsInStep, Settles}
use Rattle.sdcl_decide.specs.Deciding.{put_back}

-- nothing was passed at the start
abbrev pub InStepStarts : Type 0
InStepStarts = (variables : ℕ) (lits : Clause) → IsInStep (unranked variables) lits

-- settling keeps in step
abbrev pub InStepSettles : Type 0
InStepSettles = (r s : Ranking) (lits : Clause) → Settles lits r s → IsInStep r lits
    → IsInStep s lits

-- so does a variable that is put back, and it is then at hand
abbrev pub InStepPutsBack : Type 0
InStepPutsBack = (r : Ranking) (lits : Clause) (x : ℕ) → IsInStep r lits
    → IsInStep (put_back r x) lits × (was_passed (put_back r x) x ≡ false)

-- and so do other literals, where each variable that has lost its value is at hand
abbrev pub InStepTurns : Type 0
InStepTurns = (r : Ranking) (before after : Clause) → IsInStep r before
    → ((x : ℕ) → is_given before x ≡ true → was_passed r x ≡ true → is_given after x ≡ true)
    → IsInStep r after

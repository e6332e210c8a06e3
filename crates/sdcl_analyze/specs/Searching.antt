-- The search for covered literals.
use Rattle.std.specs.Prelude.{◌≡◌, ◌==◌, ◌≤◌, ◌<◌, ◌||◌, ℕ, ⊤, Bool, true, false, List, [], ◌∷◌, Option, Some, None, take, length, if◌then◌else◌}
use Rattle.std.specs.Option.{option_eq}
use Rattle.sdcl_base.specs.Literal.{Literal, Clause, has}
use Rattle.sdcl_base.specs.Sets.{In}
use Rattle.sdcl_base.specs.declared.lit.ClauseId.{ClauseId}
use Rattle.sdcl_store.specs.Slots.{Slots, clause_of}
use Rattle.sdcl_trail.specs.Levels.{Levels, entries, level_in, reason_in, levels_of}
use Rattle.sdcl_analyze.specs.declared.minimising.Frame.{Frame}
use Rattle.sdcl_analyze.specs.declared.minimising.Standing.{Standing}
use Rattle.sdcl_analyze.specs.declared.minimising.Standing.TheVariants as standing
use Rattle.sdcl_analyze.specs.declared.minimising.Look.{Look}
use Rattle.sdcl_analyze.specs.declared.minimising.Look.TheVariants as look
use Rattle.sdcl_prop.specs.Seeing.{FitsOver}
use Rattle.sdcl_analyze.specs.Numbers.{has_number}
use Rattle.sdcl_analyze.specs.Marking.{lits, lower_lits}
use Rattle.sdcl_analyze.specs.Covering.{middle_of, covered_of, IsFine, height_in}

-- what is known of a variable, from its reason
abbrev pub unknown : Option ClauseId → Standing
unknown None = standing.Uncovered
unknown (Some id) = standing.Unknown id

-- what is known of a variable
abbrev pub standing_of : Levels → List ℕ → List ℕ → ℕ → Standing
standing_of t entered covered x =
    if option_eq (λ a b. a == b) (level_in (levels_of t) x) (Some 0) || has_number covered x
    then standing.Covered
    else if has_number entered x then standing.Uncovered
    else unknown (reason_in (entries (levels_of t)) x)

-- the memory is right about k
pub record Knows (slots : Slots) (t : Levels) (seen entered covered : List ℕ)
    (k : Literal) : Type 0 where
  pub yes : has_number covered k.var ≡ true → has (covered_of slots t seen) k ≡ true
  pub no : has_number entered k.var ≡ true → has_number covered k.var ≡ false
      → has (covered_of slots t seen) k ≡ false

-- the frame is of a literal between level 0 and the last level, and what was passed of its reason
-- is fine
pub record FrameFits (slots : Slots) (t : Levels) (seen entered : List ℕ) (f : Frame) : Type 0 where
  pub lit : Literal
  pub on : In (lits (middle_of (levels_of t))) lit
  pub var : lit.var ≡ f.var
  pub reason : reason_in (entries (levels_of t)) f.var ≡ Some f.reason
  pub there : has_number entered f.var ≡ true
  pub past : (m : Literal) → In (take f.at (clause_of slots f.reason.0)) m → (m ≡ lit → ⊥)
      → IsFine slots t seen m

-- those further up are of earlier literals
abbrev pub Stacked : Clause → List Frame → Type 0
Stacked low [] = ⊤
Stacked low (f ∷ fs) = ((g : Frame) → In fs g → height_in low g.var < height_in low f.var)
    × Stacked low fs

-- what the search keeps
pub record Searched (slots : Slots) (t : Levels) (seen entered covered : List ℕ)
    (stack : List Frame) : Type 0 where
  pub sound : (k : Literal) → In (lower_lits (levels_of t)) k → has_number covered k.var ≡ true
      → has (covered_of slots t seen) k ≡ true
  pub done : (k : Literal) → In (lower_lits (levels_of t)) k → has_number entered k.var ≡ true
      → has_number covered k.var ≡ false → ((f : Frame) → In stack f → f.var ≡ k.var → ⊥)
      → has (covered_of slots t seen) k ≡ false
  pub frames : (f : Frame) → In stack f → FrameFits slots t seen entered f
  pub order : Stacked (lower_lits (levels_of t)) stack
  pub few : length stack ≤ length entered

-- the next variable to search is an earlier one that was not entered
pub record Waits (slots : Slots) (t : Levels) (seen entered : List ℕ) (f : Frame) (at x : ℕ)
    (id : ClauseId) : Type 0 where
  pub next : Literal
  pub on : In (lits (middle_of (levels_of t))) next
  pub var : next.var ≡ x
  pub reason : reason_in (entries (levels_of t)) x ≡ Some id
  pub fresh : has_number entered x ≡ false
  pub earlier : height_in (lower_lits (levels_of t)) x < height_in (lower_lits (levels_of t)) f.var
  pub past : (k : Literal) → In (lits (middle_of (levels_of t))) k → k.var ≡ f.var → (m : Literal)
      → In (take at (clause_of slots f.reason.0)) m → (m ≡ k → ⊥) → IsFine slots t seen m

-- what a look at a frame's reason finds
abbrev pub LookFinds : Slots → Levels → List ℕ → List ℕ → Frame → Look → Type 0
LookFinds slots t seen entered f look.Covered = (k : Literal) → In (lower_lits (levels_of t)) k
    → k.var ≡ f.var → has (covered_of slots t seen) k ≡ true
LookFinds slots t seen entered f look.Uncovered = (k : Literal) → In (lower_lits (levels_of t)) k
    → k.var ≡ f.var → has (covered_of slots t seen) k ≡ false
LookFinds slots t seen entered f (look.Waits at x id) = Waits slots t seen entered f at x id

-- the searches of a trail of two levels or more that fits
abbrev pub FitsAbove : Slots → Levels → Type 0
FitsAbove slots t = (1 < length (levels_of t)) × FitsOver slots t

-- the earlier literals are known
abbrev pub KnowsBefore : Slots → Levels → List ℕ → List ℕ → List ℕ → ℕ → Type 0
KnowsBefore slots t seen entered covered x = (k : Literal) → In (lower_lits (levels_of t)) k
    → height_in (lower_lits (levels_of t)) k.var < height_in (lower_lits (levels_of t)) x
    → Knows slots t seen entered covered k

-- the answer is whether the variable's literal is covered
abbrev pub TellsCovered : Slots → Levels → List ℕ → ℕ → Bool → Type 0
TellsCovered slots t seen x b = (k : Literal) → In (lower_lits (levels_of t)) k → k.var ≡ x
    → b ≡ has (covered_of slots t seen) k

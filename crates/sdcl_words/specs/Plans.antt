-- What the words of a command ask for.
use Rattle.std.specs.Prelude.{◌≡◌, ⊤, ℕ, ◌≤◌, Bool, false, not, ◌&&◌, List, Option, Some, None}
use Rattle.std.specs.Prelude.{IfSome, Result, Ok, Err}
use Rattle.std.specs.Str.{bytes_eq}
use Rattle.sdcl_base.specs.declared.lit.TheConstants.{MAX_VARIABLE}
use Rattle.sdcl_outer.specs.declared.solving.Options.{Options}
use Rattle.sdcl_words.specs.declared.options.TheConstants.{MOST_LEARNED}
use Rattle.sdcl_words.specs.declared.plan.TheConstants.{MOST_DRILLED}
use Rattle.sdcl_words.specs.declared.plan.Plan as declared
use Rattle.sdcl_words.specs.declared.plan.Plan.TheVariants as plan
use Rattle.sdcl_words.specs.declared.plan.PlanError.{PlanError}
use Rattle.sdcl_words.specs.declared.plan.PlanError.TheVariants as error

-- the files that a command reads
pub record Names : Type 0 where
  pub formula : List ℕ
  pub proof : List ℕ

-- the files of a solving: what is read, and what is written, where it is named
pub record SolveNames : Type 0 where
  pub formula : List ℕ
  pub proof : Option (List ℕ)
  pub journal : Option (List ℕ)

-- what a run is to do, and with which files
pub data Plan : Type 0 where
  Solve : (names : SolveNames) (options : Options) → Plan
  Check : (names : Names) → Plan
  Drat : (names : Names) → Plan
  Convert : (names : Names) (output : List ℕ) → Plan
  Drill : (holes : ℕ) → Plan

-- what a plan of the code asks for
abbrev pub plan_in : declared.Plan → Plan
plan_in (plan.Solve f p j o) = Solve (record { formula = f; proof = p; journal = j }) o
plan_in (plan.Check f p) = Check (record { formula = f; proof = p })
plan_in (plan.Drat f p) = Drat (record { formula = f; proof = p })
plan_in (plan.Convert f p o) = Convert (record { formula = f; proof = p }) o
plan_in (plan.Drill holes) = Drill holes

-- ---- what is written has a name of its own

-- whether there is such a name, and it is this one
abbrev pub has_name : Option (List ℕ) → List ℕ → Bool
has_name None name = false
has_name (Some own) name = bytes_eq own name

-- whether there are two such names, and they are the same
abbrev pub is_same : Option (List ℕ) → Option (List ℕ) → Bool
is_same a None = false
is_same a (Some name) = has_name a name

-- whether the proof has another name than the formula, and the journal another one than both
abbrev pub are_apart : SolveNames → Bool
are_apart n =
    not (has_name n.proof n.formula)
    && (not (has_name n.journal n.formula) && not (is_same n.journal n.proof))

-- two files that are written have different names
abbrev pub AreDifferent : Option (List ℕ) → Option (List ℕ) → Type 0
AreDifferent proof journal = IfSome proof (λ p. IfSome journal (λ j. p ≡ j → ⊥))

-- what is written has a name of its own
abbrev pub AreApart : Plan → Type 0
AreApart (Solve names options) =
    IfSome names.proof (λ p. p ≡ names.formula → ⊥)
    × IfSome names.journal (λ j. j ≡ names.formula → ⊥)
    × AreDifferent names.proof names.journal
AreApart (Check names) = ⊤
AreApart (Drat names) = ⊤
AreApart (Convert names output) = (output ≡ names.formula → ⊥) × (output ≡ names.proof → ⊥)
AreApart (Drill holes) = ⊤

-- the numbers are within their ranges
abbrev pub AreWithin : Plan → Type 0
AreWithin (Solve names options) =
    (options.budget ≤ MOST_LEARNED)
    × (options.depth ≤ MAX_VARIABLE)
    × (options.inner_budget ≤ MOST_LEARNED)
AreWithin (Check names) = ⊤
AreWithin (Drat names) = ⊤
AreWithin (Convert names output) = ⊤
AreWithin (Drill holes) = (1 ≤ holes) × (holes ≤ MOST_DRILLED)

-- ---- an answer

-- the plan is the one that is wanted
abbrev pub IsWanted : Option Plan → Plan → Type 0
IsWanted wanted p = (wanted ≡ Some p) × AreApart p × AreWithin p

-- the plan that is wanted is given, or there is none, or memory was not found
abbrev pub Answers : Option Plan → Result declared.Plan PlanError → Type 0
Answers wanted (Ok p) = IsWanted wanted (plan_in p)
Answers wanted (Err error.Usage) = wanted ≡ None
Answers wanted (Err error.NoMemory) = ⊤

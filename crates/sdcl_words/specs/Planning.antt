-- The plan that the words of a command make.
use Rattle.std.specs.Prelude.{ℕ, not, ◌&&◌, List, [], ◌∷◌, codes, Option, Some, None}
use Rattle.std.specs.Prelude.{if◌then◌else◌, option_and_then, option_map, string_bytes}
use Rattle.std.specs.Str.{bytes_eq}
use Rattle.std.specs.declared.string.String.{String}
use Rattle.std.specs.declared.alloc.Global.{Global}
use Rattle.clap.specs.Words.{Row, Text, first_of}
use Rattle.sdcl_base.specs.declared.lit.TheConstants.{MAX_VARIABLE}
use Rattle.sdcl_base.specs.declared.mode.ReductMode.{ReductMode}
use Rattle.sdcl_base.specs.declared.mode.ReductMode.TheVariants.{Off, Positive, Filtered}
use Rattle.sdcl_decide.specs.declared.decider.DecideKind.{DecideKind}
use Rattle.sdcl_decide.specs.declared.decider.DecideKind.TheVariants.{Static, MoveToFront, Scored}
use Rattle.sdcl_restart.specs.declared.restart.RestartKind.{RestartKind}
use Rattle.sdcl_restart.specs.declared.restart.RestartKind.TheVariants.{Never, Luby, Glue}
use Rattle.sdcl_outer.specs.declared.solving.Options.{Options}
use Rattle.sdcl_words.specs.declared.plan.TheConstants.{MOST_DRILLED}
use Rattle.sdcl_words.specs.Plans.{Names, SolveNames, Plan, Solve, Check, Drat, Convert, Drill}
use Rattle.sdcl_words.specs.Plans.{are_apart}
use Rattle.sdcl_words.specs.declared.verb.Verb.{Verb}
use Rattle.sdcl_words.specs.declared.verb.Verb.TheVariants as verb
use Rattle.sdcl_words.specs.Values.{meant_by, number_option, word_option, wanted_number}
use Rattle.sdcl_words.specs.Taking.{app_for, rows_taken}

-- ---- the options of `solve`

-- the words that an option takes, each with what it stands for
abbrev pub reduct_words : List (Text × ReductMode)
reduct_words =
    (codes "off", Off) ∷ (codes "positive", Positive) ∷ (codes "filtered", Filtered) ∷ []

abbrev pub decide_words : List (Text × DecideKind)
decide_words =
    (codes "static", Static) ∷ (codes "front", MoveToFront) ∷ (codes "scored", Scored) ∷ []

abbrev pub restart_words : List (Text × RestartKind)
restart_words = (codes "none", Never) ∷ (codes "luby", Luby) ∷ (codes "glue", Glue) ∷ []

-- the greatest budget of learned clauses
abbrev pub most_learned : ℕ
most_learned = 1000000000

-- what comes of a value, where there is one
abbrev pub with_value : {T U : Type 0} → Option T → (T → Option U) → Option U
with_value value next = option_and_then next value

-- each option by its name, its values and its default
abbrev pub options_given : List Row → Option Options
options_given rows =
    with_value (number_option (codes "budget") 0 most_learned 10000000 rows) (λ budget.
    with_value (word_option (codes "reduct") reduct_words Filtered rows) (λ reduct.
    with_value (number_option (codes "depth") 0 MAX_VARIABLE 20 rows) (λ depth.
    with_value (number_option (codes "inner-budget") 0 most_learned 1000 rows) (λ inner_budget.
    with_value (word_option (codes "decide") decide_words Static rows) (λ decide.
    with_value (word_option (codes "restart") restart_words Never rows) (λ restart.
    Some (record {
      budget = budget;
      reduct = reduct;
      depth = depth;
      inner_budget = inner_budget;
      decide = decide;
      restart = restart;
    })))))))

-- ---- the commands

-- the names of a solving
abbrev pub solve_names : List Row → Option SolveNames
solve_names rows = option_map (λ formula. record {
  formula = formula;
  proof = first_of (codes "proof") rows;
  journal = first_of (codes "journal") rows;
}) (first_of (codes "cnf") rows)

-- the names of the formula and its proof
abbrev pub input_names : List Row → Option Names
input_names rows = with_value (first_of (codes "cnf") rows) (λ formula.
    with_value (first_of (codes "proof") rows) (λ proof.
    Some (record { formula = formula; proof = proof })))

-- a check of a PR proof, and of a DRAT proof
abbrev pub check_planned : List Row → Option Plan
check_planned rows = option_map (λ names. Check names) (input_names rows)

abbrev pub drat_planned : List Row → Option Plan
drat_planned rows = option_map (λ names. Drat names) (input_names rows)

-- a solving, where what is written has a name of its own
abbrev pub solve_planned : List Row → Option Plan
solve_planned rows = with_value (solve_names rows) (λ names.
    with_value (options_given rows) (λ options.
    if are_apart names then Some (Solve names options) else None))

-- a conversion, where what is written has a name of its own
abbrev pub convert_planned : List Row → Option Plan
convert_planned rows = with_value (input_names rows) (λ names.
    with_value (first_of (codes "out") rows) (λ output.
    if not (bytes_eq output names.formula) && not (bytes_eq output names.proof)
    then Some (Convert names output) else None))

-- a drill
abbrev pub drill_planned : List Row → Option Plan
drill_planned rows =
    option_map (λ holes. Drill holes) (wanted_number (codes "holes") 1 MOST_DRILLED rows)

-- ---- the words

-- the commands by their names
abbrev pub verbs : List (Text × Verb)
verbs =
    (codes "solve", verb.Solve) ∷ (codes "check", verb.Check) ∷ (codes "drat", verb.Drat)
    ∷ (codes "convert", verb.Convert) ∷ (codes "drill", verb.Drill) ∷ []

-- what a command asks for, by what its arguments give
abbrev pub planned_by : Verb → List Row → Option Plan
planned_by verb.Solve = solve_planned
planned_by verb.Check = check_planned
planned_by verb.Drat = drat_planned
planned_by verb.Convert = convert_planned
planned_by verb.Drill = drill_planned

-- the command that the first word names
abbrev pub verb_in : List (String Global) → Option Verb
verb_in [] = None
verb_in (word ∷ rest) = meant_by verbs (string_bytes word)

-- what the words ask for; `clap` reads the first as the program's name
abbrev pub planned : List (String Global) → Option Plan
planned words = with_value (verb_in words) (λ verb.
    with_value (rows_taken (app_for verb) words) (planned_by verb))

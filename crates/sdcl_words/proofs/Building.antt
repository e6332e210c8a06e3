-- A command that is built argument by argument.
use Rattle.std.proofs.Common.{◌≡◌, ap, ◌∙◌, Result, Ok, Err, IfOk}
use Rattle.clap.specs.Words.{App, Rule, app_of}
use Rattle.clap.specs.declared.builder.command.Command.{Command}
use Rattle.sdcl_words.specs.Taking.{with_argument}

-- one argument more, behind what was there
pub one_more : {E : Type 0} (r : Result Command E) (a b : App) (rule : Rule) → IfOk r (λ c. app_of c ≡ with_argument a rule) → a ≡ b → IfOk r (λ c. app_of c ≡ with_argument b rule)
one_more (Ok c) a b rule is same = is ∙ ap (λ (x : App). with_argument x rule) same
one_more (Err e) a b rule is same = is

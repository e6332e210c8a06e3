use Rattle.std.proofs.Common.{◌≡◌, ap, ◌∙◌, codes}
use Rattle.clap.specs.Words.{App, app_of}
use Rattle.sdcl_words.specs.Taking.{with_argument, option_rule}
use Rattle.sdcl_words.proofs.Building.{one_more}
use Rattle.sdcl_words.proofs.command.with_numbers.Goals as goal

pub returns : goal.returns
returns c =
    let one : app_of c.in_ok-command.command ≡ with_argument (app_of c.args.command) (option_rule (codes "budget")) = c.in_ok-command.ensures in
    let two : app_of c.in_ok-command-2.command ≡ with_argument (app_of c.in_ok-command.command) (option_rule (codes "depth")) = c.in_ok-command-2.ensures in
    one_more c.with_option-3.result (app_of c.in_ok-command-2.command) _ (option_rule (codes "inner-budget")) c.with_option-3.ensures (two ∙ ap (λ (a : App). with_argument a (option_rule (codes "depth"))) one)

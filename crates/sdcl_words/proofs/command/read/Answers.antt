use Rattle.std.proofs.Common.{rules, ◌≡◌}
use Rattle.clap.specs.Words.{app_of, kind_of}
use Rattle.clap.specs.declared.error.kind.ErrorKind.TheVariants.{OutOfMemory}
use Rattle.sdcl_words.proofs.Refusing.{taken, refused}
use Rattle.sdcl_words.proofs.command.read.Goals as goal

pub returns-in-Ok-clause-taken : goal.returns-in-Ok-clause-taken
returns-in-Ok-clause-taken c =
    taken (app_of c.in_ok-command.command) c.args.verb c.args.words.now c.in-Ok.matches c.in_ok-command.ensures c.in-Ok.ensures.matches c.in-Ok.ensures.kinds

pub returns-clause-refused : goal.returns-clause-refused
returns-clause-refused c =
    let other : kind_of c.in-Err.error ≡ OutOfMemory → ⊥ = search rules in
    λ _. refused (app_of c.in_ok-command.command) c.args.verb c.args.words.now c.in-Err.error c.in_ok-command.ensures c.in-Err.ensures.kinds other

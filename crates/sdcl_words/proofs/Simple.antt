-- Each command is a simple one, to `clap`.
use Rattle.std.proofs.Common.{◌≡◌, true, refl}
use Rattle.clap.specs.Words.{is_simple}
use Rattle.clap.specs.Faults.{is_simple_and_free}
use Rattle.sdcl_words.specs.Taking.{app_for, with_argument}
use Rattle.sdcl_words.specs.declared.verb.Verb.{Verb}
use Rattle.sdcl_words.specs.declared.verb.Verb.TheVariants as verb

pub simple : (v : Verb) → is_simple (app_for v) ≡ true
unfolding with_argument
simple verb.Solve = refl
simple verb.Check = refl
simple verb.Drat = refl
simple verb.Convert = refl
simple verb.Drill = refl

pub free : (v : Verb) → is_simple_and_free (app_for v) ≡ true
unfolding with_argument
free verb.Solve = refl
free verb.Check = refl
free verb.Drat = refl
free verb.Convert = refl
free verb.Drill = refl

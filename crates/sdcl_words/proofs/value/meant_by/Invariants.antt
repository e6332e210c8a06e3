use Rattle.std.proofs.Common.{◌≡◌, map, drop}
use Rattle.sdcl_words.specs.Values as spec
use Rattle.sdcl_words.proofs.Meaning.{named}
use Rattle.sdcl_words.proofs.value.meant_by.Given as goal

abbrev pub invariant-loop-word : goal.invariant-loop-word
invariant-loop-word g l = spec.meant_by (map named (drop l.word-index l.words)) l.text ≡ spec.meant_by (map named l.words) l.text

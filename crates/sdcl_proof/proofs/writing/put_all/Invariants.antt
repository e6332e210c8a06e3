use Rattle.std.proofs.Common.{◌≡◌, ◌≤◌, ◌*◌, take}
use Rattle.arrayvec.specs.ArrayVec.{array_vec_len}
use Rattle.sdcl_proof.specs.Lines.{literals_text}
use Rattle.sdcl_proof.proofs.writing.put_all.Given as goal

abbrev pub invariant-loop-l : goal.invariant-loop-l
invariant-loop-l l = record {
  text : l.text.items ≡ literals_text (take l.l-index l.lits);
  short : array_vec_len l.text ≤ 12 * l.l-index;
}

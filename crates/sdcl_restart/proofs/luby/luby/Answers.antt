use Rattle.sdcl_restart.proofs.Terms.{place_first, place_high, place_low}
use Rattle.sdcl_restart.proofs.luby.luby.Goals.{then-k-half, else-k-half}
use Rattle.sdcl_restart.proofs.luby.luby.Goals as goal

pub loop-k-init : goal.loop-k-init
loop-k-init c = place_first c.args.place c.requires.first c.requires.room

pub loop-k-preserved : goal.loop-k-preserved
loop-k-preserved c =
    elim c.if-k-half.branch [
      | then-k-half w ↦ rw w.k-is (place_high c.args.place c.loop-k.k c.loop-k.half
          c.loop-k.invariant c.loop-k-test.true w.if-k-half.true)
      | else-k-half w ↦ rw w.k-is (place_low c.args.place c.loop-k.k c.loop-k.half
          c.loop-k.invariant c.loop-k-test.true w.if-k-half.false)
    ]

use Rattle.std.proofs.Common.{◌∙◌, refl, arith}
use Rattle.std.proofs.lemmas.Slice.{put_mid-paste}
use Rattle.lists.specs.Over.{over}
use Rattle.lists.proofs.Overwriting.{over_nil}
use Rattle.simulation.proofs.RelationBytes.{length_set, bytes_next}
use Rattle.simulation.proofs.query.put_rows.Goals as goal

pub loop-q-init : goal.loop-q-init
loop-q-init c = over_nil _ _

pub loop-q-preserved : goal.loop-q-preserved
unfolding over
loop-q-preserved c =
    bytes_next c.args.out.now c.args.rows.now c.loop-q.out c.loop-q.q c.index-rows-q.result _ c.loop-q.invariant
    (put_mid-paste _ _ _ _ _ _ (c.copy_from_slice.ensures.after ∙ c.bytes.ensures) (length_set _ ∙ omega arith) refl)
    c.loop-q-test.true c.index-rows-q.is (omega arith)

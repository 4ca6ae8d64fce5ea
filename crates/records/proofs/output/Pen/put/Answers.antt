use Rattle.std.proofs.Common.{List, ℕ, ◌+◌, length, ap, arith, refl}
use Rattle.std.proofs.lemmas.Slice.{put_mid-paste}
use Rattle.lists.specs.Over.{over}
use Rattle.records.proofs.output.Pen.put.Goals as goal

pub returns : goal.returns
unfolding over
returns c =
    let pen = c.args.self.now in
    ap (λ (now : List ℕ). record pen { out = record pen.out { now = now }; at = pen.at + length c.args.bytes.now })
    (put_mid-paste _ _ _ _ _ _ c.copy_from_slice.ensures.after (omega arith) refl)

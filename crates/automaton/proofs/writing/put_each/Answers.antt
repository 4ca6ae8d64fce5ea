use Rattle.std.proofs.Common.{[], ◌∷◌, arith}
use Rattle.std.proofs.lemmas.List.{drop_all, drop_more}
use Rattle.records.proofs.Pens.{all_left, next_fits, next_left, none_left}
use Rattle.automaton.proofs.writing.put_each.Goals as goal

pub loop-byte-init : goal.loop-byte-init
loop-byte-init c = all_left c.requires

pub put-requires : goal.put-requires
put-requires c =
    let first = drop_more c.args.bytes.now c.loop-byte.byte-index 0 c.loop-byte-test.true in
    omega (arith, next_fits c.loop-byte.invariant (_ ∷ []) _ first)

pub loop-byte-preserved : goal.loop-byte-preserved
loop-byte-preserved c =
    next_left c.loop-byte.invariant (_ ∷ []) _ (drop_more c.args.bytes.now c.loop-byte.byte-index 0 c.loop-byte-test.true) c.put.ensures

pub returns : goal.returns
returns c = none_left c.loop-byte.invariant (drop_all c.loop-byte.byte-index c.args.bytes.now c.loop-byte-test.false)

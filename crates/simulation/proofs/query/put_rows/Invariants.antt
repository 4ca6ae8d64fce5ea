-- After q turns the bytes of the first q rows are written.
use Rattle.std.proofs.Common.{◌≡◌, take}
use Rattle.lists.specs.Over.{over}
use Rattle.simulation.specs.Inner.{bytes_of}
use Rattle.simulation.proofs.query.put_rows.Given as goal

abbrev pub invariant-loop-q : goal.invariant-loop-q
invariant-loop-q l = l.out ≡ over l.fn.out 0 (bytes_of (take l.q l.rows))

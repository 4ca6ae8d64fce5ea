-- Three numbers of two bytes.
use Rattle.automaton.specs.Table.{size_in}
use Rattle.automaton.proofs.table.size_in.Goals as goal

pub returns : goal.returns
unfolding size_in
returns c = rw (c.from.ensures, c.number2.ensures, c.from-2.ensures, c.number2-2.ensures, c.from-3.ensures, c.number2-3.ensures)

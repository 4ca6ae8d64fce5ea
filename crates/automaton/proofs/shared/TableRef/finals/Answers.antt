use Rattle.std.proofs.Common.{sym}
use Rattle.sets.proofs.StateSets.{states_under}
use Rattle.automaton.proofs.shared.TableRef.finals.Goals as goal

pub returns : goal.returns
returns c = rw (← c.self.view_is) (sym (states_under _ _ c.self.invariant.0.states c.self.invariant.1))

use Rattle.std.proofs.lemmas.List.{length-map}
use Rattle.automaton.specs.Decoded.{size_of}
use Rattle.automaton.proofs.shared.TableRef.size.Goals as goal

pub returns-clause-value : goal.returns-clause-value
unfolding size_of
returns-clause-value c = rw (← c.self.view_is, length-map)

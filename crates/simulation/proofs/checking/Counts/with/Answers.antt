-- Each answer has its count.
use Rattle.std.proofs.Common.{◌≡◌}
use Rattle.trees.specs.declared.evaluation.Answer.TheVariants.{Accepted, Rejected}
use Rattle.records.specs.Answers.{reading_of}
use Rattle.records.specs.Read.{map_read}
use Rattle.trees.specs.Answers.{is_acceptance, acceptance_of}
use Rattle.simulation.specs.Check.{counted}
use Rattle.simulation.proofs.checking.Counts.with.Goals as goal

pub returns-in-Ok-Accepted : goal.returns-in-Ok-Accepted
unfolding acceptance_of is_acceptance reading_of map_read counted
returns-in-Ok-Accepted c =
    let e : c.in-Ok-Accepted.field-0 ≡ Accepted = rw c.in-Ok-Accepted.is at c.in-Ok-Accepted.field-0-is in
    rw (c.in-Ok-Accepted.is, e, c.more.ensures)

pub returns-in-Ok-Rejected : goal.returns-in-Ok-Rejected
unfolding acceptance_of is_acceptance reading_of map_read counted
returns-in-Ok-Rejected c =
    let e : c.in-Ok-Rejected.field-0 ≡ Rejected c.in-Ok-Rejected.field-0-0 = rw c.in-Ok-Rejected.is at c.in-Ok-Rejected.field-0-is in
    rw (c.in-Ok-Rejected.is, e, c.more-in-Ok-Rejected.ensures)

pub returns-in-Err : goal.returns-in-Err
unfolding acceptance_of is_acceptance reading_of map_read counted
returns-in-Err c = rw (c.in-Err.is, c.more-in-Err.ensures)

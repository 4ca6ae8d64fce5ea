-- `fensullay::numbers::answer` meets its contract.
use Rattle.fensullay.specs.Exports.{answered, ended, done}
use Rattle.records.specs.Answers.{reading_of}
use Rattle.fensullay.proofs.numbers.answer.Goals as goal

pub returns-in-Ok : goal.returns-in-Ok
unfolding answered ended done reading_of
returns-in-Ok g c = record { value = rw c.in-Ok.is; numbers_after = rw (c.in-Ok.is, c.put_all.ensures) }

pub returns-in-Err : goal.returns-in-Err
unfolding answered ended done reading_of
returns-in-Err g c = record { value = rw (c.in-Err.is, c.from.ensures); numbers_after = rw c.in-Err.is }

-- Each return is one of the cases of `due`.
use Rattle.std.proofs.Common.{sym}
use borrow.Author.Tests.{eq-eqb, ne_eqb}
use Rattle.std.proofs.lemmas.Result.{err_from_is_err_and}
use Rattle.records.specs.Read.{◌>>◌, check}
use Rattle.records.specs.Answers.{reading_of, opening_of}
use Rattle.automaton.specs.Table.{due}
use Rattle.automaton.proofs.table.due.Goals as goal

pub returns-in_err-found : goal.returns-in_err-found
unfolding reading_of opening_of due
returns-in_err-found c =
    let p = err_from_is_err_and c.from_residual.result c.from_residual.ensures.1 in
    rw (p.1, p.2, ← c.in_err-found.ensures)

pub returns-in_default : goal.returns-in_default
unfolding reading_of opening_of due
returns-in_default c = rw (sym (rw c.in_default.is at c.in_ok-found.ensures))

pub returns-then-found-from : goal.returns-then-found-from
unfolding reading_of opening_of due check ◌>>◌
returns-then-found-from c =
    rw (sym (rw c.in-Some.is at c.in_ok-found.ensures), ne_eqb _ _ (rw c.from.ensures at c.if-found-from.true))

pub returns : goal.returns
unfolding reading_of opening_of due check ◌>>◌
returns c =
    rw (sym (rw c.in-Some.is at c.in_ok-found.ensures), eq-eqb _ _ (rw c.from.ensures at c.if-found-from.false))

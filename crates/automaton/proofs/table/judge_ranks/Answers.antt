-- Each return is one of the ways through `judge_ranks`.
use borrow.Author.Tests.{eq-eqb, ne_eqb}
use Rattle.records.specs.Read.{◌>>◌, check}
use Rattle.automaton.specs.Table.{judge_ranks}
use Rattle.records.specs.Answers.{reading_of}
use Rattle.automaton.proofs.table.judge_ranks.Goals as goal

pub returns-then-b-m : goal.returns-then-b-m
unfolding reading_of judge_ranks check ◌>>◌
returns-then-b-m c = rw (ne_eqb _ _ c.if-b-m.true)

pub returns-then-not-all_ranks : goal.returns-then-not-all_ranks
unfolding reading_of judge_ranks check ◌>>◌
returns-then-not-all_ranks c = rw (eq-eqb _ _ c.if-b-m.false, ← c.if-not-all_ranks.ensures)

pub returns : goal.returns
unfolding reading_of judge_ranks check ◌>>◌
returns c = rw (eq-eqb _ _ c.if-b-m.false, ← c.if-not-all_ranks.ensures)

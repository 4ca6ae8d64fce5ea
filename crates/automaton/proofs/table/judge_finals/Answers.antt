-- Each return is one of the ways through `judge_finals`.
use borrow.Author.Tests.{eq-eqb, ne_eqb}
use Rattle.records.specs.Read.{◌>>◌, check}
use Rattle.automaton.specs.Table.{judge_finals}
use Rattle.records.specs.Answers.{reading_of}
use Rattle.automaton.proofs.table.judge_finals.Goals as goal

pub returns-then-b-ne0 : goal.returns-then-b-ne0
unfolding reading_of judge_finals check ◌>>◌
returns-then-b-ne0 c = rw (ne_eqb _ _ c.if-b-ne0.true)

pub returns-then-not-all_below : goal.returns-then-not-all_below
unfolding reading_of judge_finals check ◌>>◌
returns-then-not-all_below c = rw (eq-eqb _ _ c.if-b-ne0.false, ← c.if-not-all_below.ensures)

pub returns-then-not-rising : goal.returns-then-not-rising
unfolding reading_of judge_finals check ◌>>◌
returns-then-not-rising c =
    rw (eq-eqb _ _ c.if-b-ne0.false, ← c.if-not-all_below.ensures, ← c.if-not-rising.ensures)

pub returns : goal.returns
unfolding reading_of judge_finals check ◌>>◌
returns c = rw (eq-eqb _ _ c.if-b-ne0.false, ← c.if-not-all_below.ensures, ← c.if-not-rising.ensures)

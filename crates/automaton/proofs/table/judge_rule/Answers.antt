-- Each return is one of the ways through `judge_rule`.
use borrow.Author.Tests.{le-leb, lt-leb, lt-ltb, le-ltb, eq-eqb, ne_eqb}
use Rattle.lists.proofs.Arrays.{part_to_end}
use Rattle.records.specs.Read.{◌>>◌, check}
use Rattle.automaton.specs.Table.{judge_rule}
use Rattle.records.specs.Answers.{reading_of}
use Rattle.automaton.proofs.table.judge_rule.Goals as goal

pub returns-then-b-lt4 : goal.returns-then-b-lt4
unfolding reading_of judge_rule check ◌>>◌
returns-then-b-lt4 c = rw (lt-leb _ _ c.if-b-lt4.true)

pub returns-then-symbol-ranks : goal.returns-then-symbol-ranks
unfolding reading_of judge_rule check ◌>>◌
returns-then-symbol-ranks c =
    rw (le-leb _ _ c.if-b-lt4.false, ← c.number2.ensures, ← c.from-symbol.ensures, le-ltb _ _ c.if-symbol-ranks.true)

pub returns-then-b-rank : goal.returns-then-b-rank
unfolding reading_of judge_rule check ◌>>◌
returns-then-b-rank c =
    let symbol = lt-ltb _ _ c.if-symbol-ranks.false in
    rw (le-leb _ _ c.if-b-lt4.false, ← c.number2.ensures, ← c.from-symbol.ensures, symbol, ← c.from-rank.ensures, ne_eqb _ _ c.if-b-rank.true)

-- The states stand from the second field on.
pub returns-then-not-all_below : goal.returns-then-not-all_below
unfolding reading_of judge_rule check ◌>>◌
returns-then-not-all_below c =
    let symbol = lt-ltb _ _ c.if-symbol-ranks.false in
    let states = rw part_to_end at c.if-not-all_below.ensures in
    rw (le-leb _ _ c.if-b-lt4.false, ← c.number2.ensures, ← c.from-symbol.ensures, symbol, ← c.from-rank.ensures, eq-eqb _ _ c.if-b-rank.false, ← states)

pub returns : goal.returns
unfolding reading_of judge_rule check ◌>>◌
returns c =
    let symbol = lt-ltb _ _ c.if-symbol-ranks.false in
    let states = rw part_to_end at c.if-not-all_below.ensures in
    rw (le-leb _ _ c.if-b-lt4.false, ← c.number2.ensures, ← c.from-symbol.ensures, symbol, ← c.from-rank.ensures, eq-eqb _ _ c.if-b-rank.false, ← states)

-- Each return is one of the ways through `judge_size`.
use Rattle.std.proofs.Common.{refl}
use borrow.Author.Tests.{le-leb, lt-leb, eq-eqb, ne_eqb}
use Rattle.records.specs.Read.{◌>>◌, check}
use Rattle.automaton.specs.Table.{judge_size}
use Rattle.records.specs.Answers.{reading_of}
use Rattle.automaton.proofs.table.judge_size.Goals as goal
use Rattle.automaton.proofs.table.judge_size.Goals.{then-size-gt256-via-then-size-gt256, then-size-gt256-via-else-size-gt256+then-size-gt256-2, then-size-gt256-via-else-size-gt256+else-size-gt256-2+then-size-gt1024}

pub returns-then-b-ne6 : goal.returns-then-b-ne6
unfolding reading_of judge_size check ◌>>◌
returns-then-b-ne6 c = rw (ne_eqb _ _ c.if-b-ne6.true)

pub returns-then-size-gt256 : goal.returns-then-size-gt256
unfolding reading_of judge_size check ◌>>◌
returns-then-size-gt256 c =
    rw (eq-eqb _ _ c.if-b-ne6.false, ← c.size_in-size.ensures)
    (elim c.then-size-gt256.branch [
      | then-size-gt256-via-then-size-gt256 w ↦ rw (lt-leb _ _ w.if-size-gt256.true) refl
      | then-size-gt256-via-else-size-gt256+then-size-gt256-2 w ↦ rw (le-leb _ _ w.if-size-gt256.false, lt-leb _ _ w.if-size-gt256-2.true) refl
      | then-size-gt256-via-else-size-gt256+else-size-gt256-2+then-size-gt1024 w ↦
          rw (le-leb _ _ w.if-size-gt256.false, le-leb _ _ w.if-size-gt256-2.false, lt-leb _ _ w.if-size-gt1024.true) refl
    ])

pub returns : goal.returns
unfolding reading_of judge_size check ◌>>◌
returns c =
    let n = le-leb _ _ c.if-size-gt256.false in
    let m = le-leb _ _ c.if-size-gt256-2.false in
    rw (eq-eqb _ _ c.if-b-ne6.false, ← c.size_in-size.ensures, n, m, le-leb _ _ c.if-size-gt1024.false)

-- A pen: a lent buffer, and the place in it where the next byte goes.
use Rattle.std.specs.Prelude.{ℕ, ◌+◌, ◌≤◌, List, length}
use Rattle.std.specs.Borrow.{MutBor}
use Rattle.lists.specs.Over.{over}
use Rattle.records.specs.declared.output.Pen.{Pen}

-- At the start of a buffer.
abbrev pub pen_on : MutBor (List ℕ) → Pen
pen_on out = record { out = out; at = 0 }

-- Some bytes written at the place, which is behind them afterwards.
abbrev pub put_in : List ℕ → Pen → Pen
put_in bytes pen = record pen { out = record pen.out { now = over pen.out.now pen.at bytes }; at = pen.at + length bytes }

-- Room for n bytes.
abbrev pub HasRoom : ℕ → Pen → Type 0
HasRoom n pen = pen.at + n ≤ length pen.out.now

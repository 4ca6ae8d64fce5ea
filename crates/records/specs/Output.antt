-- Bytes written into a lent buffer.
use Rattle.std.specs.Prelude.{ℕ, List, ◌++◌, cond, length, drop, leb}
use Rattle.records.specs.Read.{Read, found, refused}

-- Bytes written into a lent buffer: the answer, their length or 13 where the room is short, and the buffer afterwards,
-- in which what stands after the result stays.
unfoldable pub written : List ℕ → List ℕ → Read ℕ
written bytes out = cond (leb (length bytes) (length out)) (found (length bytes)) (refused 13)

unfoldable pub written_over : List ℕ → List ℕ → List ℕ
written_over bytes out = cond (leb (length bytes) (length out)) (bytes ++ drop (length bytes) out) out

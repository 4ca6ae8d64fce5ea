-- A read puts its bytes after those that are there already; so the buffer's start is all that was read.
use Rattle.std.proofs.Common.{◌≡◌, ℕ, ◌+◌, ◌≤◌, List, ◌++◌, rules, length, take, length-take-le}
use Rattle.std.proofs.Math.Seq.{take-append-add}
use Rattle.std.proofs.lemmas.List.{take-append-le}
use Rattle.std.proofs.KnownBytes.{Consumes-trans}
use borrow.Rule.Slice.PartMut.{put_mid, post_of}
use Rattle.cases.proofs.read_full.Goals as goal

-- Of an array whose part from `at` on was written over with ys: its start, n elements into the part.
start_written : (at k n : ℕ) (xs ys : List ℕ) → at ≤ length xs → n ≤ length ys → take (at + n) (put_mid at k xs ys) ≡ take at xs ++ take n ys
start_written at k n xs ys inside few =
    rw (length-take-le at xs inside, take-append-le n ys (post_of at k xs) few) at
    (take-append-add (take at xs) (ys ++ post_of at k xs) n)

pub loop-done-preserved : goal.loop-done-preserved
loop-done-preserved g c =
    let more = Consumes-trans _ _ _ _ _ c.loop-done.invariant.1 c.in_ok-n.ensures.bytes.0 in
    (search rules, rw (start_written c.loop-done.done _ c.in_ok-n.n c.loop-done.buf c.read.new.buf c.loop-done.invariant.0 c.in_ok-n.ensures.bound.0) more)

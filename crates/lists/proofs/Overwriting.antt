-- Numbers written over an array (`over`): the length stays, one run after another is one run, and runs that grow turn by turn, as loops write them.
-- From the laws of `paste`; used by the code that writes bytes, and for sets put at the entries of an array.
use Prim.Native.Nat.{ℕ, ◌+◌, ◌≤◌}
use mathlib.Core.Path.{◌≡◌, ap, ◌∙◌}
use mathlib.Core.List.{List, [], ◌∷◌, ◌++◌, append_assoc}
use mathlib.Core.Bool.{Bool, true, false}
use native.Mathlib.Nat.{add_assoc, zero-add}
use native.Mathlib.Omega.{arith}
use lib.ListN.{length, drop, length-append}
use lib.Seq.{take-length, take_at, drop_at, drop-drop}
use lib.Seq.{paste-zero, length-paste, take-paste, drop-paste}
use Rattle.lists.specs.Lists.{from, keep}
use Rattle.lists.specs.Over.{over}
use Rattle.lists.proofs.Ranges.{from_step, length_from}
use Rattle.lists.proofs.Keeping.{keep_append, keep_shorter}

pub over_nil : (out : List ℕ) (at : ℕ) → out ≡ over out at []
unfolding over
over_nil out at = paste-zero out at []

pub over_length : (l new : List ℕ) (at : ℕ) → at + length new ≤ length l → length (over l at new) ≡ length l
unfolding over
over_length l new at room = length-paste l at new (length new) room (omega arith)

-- A run after a first part.
pub over_behind : (p q bytes : List ℕ) (at : ℕ) → length p ≡ at → over (p ++ q) at bytes ≡ (p ++ bytes) ++ drop (length bytes) q
unfolding over
over_behind p q bytes at e =
    rw (take_at p q at e, take-length bytes, ← (drop-drop (length bytes) at (p ++ q)), drop_at p q at e)

-- One run after another is one run.
pub over_over : (out : List ℕ) (at : ℕ) (xs ys : List ℕ) (k : ℕ) → k ≡ at + length xs → k + length ys ≤ length out
    → over (over out at xs) k ys ≡ over out at (xs ++ ys)
unfolding over
over_over out at xs ys k e h =
    let start : at ≤ length out = omega arith in
    rw (
      e,
      take-paste out at xs (length xs) start (omega arith),
      ← drop-drop (length ys) (at + length xs) (over out at xs),
      drop-paste out at xs (length xs) start (omega arith),
      take-length (xs ++ ys),
    )
    (simp (take-length, append_assoc, length-append, drop-drop, add_assoc))

-- The same along equations, as calls leave them.
pub over_then : (out : List ℕ) (at : ℕ) (xs now : List ℕ) (k : ℕ) (ys next : List ℕ)
    → now ≡ over out at xs → next ≡ over now k ys → k ≡ at + length xs → k + length ys ≤ length out
    → next ≡ over out at (xs ++ ys)
over_then out at xs now k ys next e f place fits = rw (f, e) (over_over out at xs ys k place fits)

-- Numbers that grow turn by turn.
pub record Run : Type 0 where
  pub upto : ℕ → List ℕ
  pub turn : ℕ → List ℕ
  pub step : (j : ℕ) → upto (j + 1) ≡ upto j ++ turn j

pub length_step : (r : Run) (j : ℕ) → length (r.upto (j + 1)) ≡ length (r.upto j) + length (r.turn j)
length_step r j = ap length (r.step j) ∙ length-append (r.upto j) (r.turn j)

-- What is kept of the numbers below n, turn by turn.

pub kept_few : (test : ℕ → Bool) (n : ℕ) → length (keep test (from 0 n)) ≤ n
kept_few test n = omega (arith, keep_shorter test (from 0 n), length_from 0 n)

pub single_kept : (test : ℕ → Bool) (q : ℕ) → test q ≡ true → keep test (q ∷ []) ≡ q ∷ []
unfolding keep
single_kept test q e = rw e

pub single_dropped : (test : ℕ → Bool) (q : ℕ) → test q ≡ false → keep test (q ∷ []) ≡ []
unfolding keep
single_dropped test q e = rw e

pub keep_step : (test : ℕ → Bool) (q : ℕ) → keep test (from 0 (q + 1)) ≡ keep test (from 0 q) ++ keep test (q ∷ [])
keep_step test q = rw (from_step, keep_append, zero-add)

abbrev pub kept : (ℕ → Bool) → Run
kept test = record { upto = λ q. keep test (from 0 q); turn = λ q. keep test (q ∷ []); step = keep_step test }

-- The parts of a line and of the four lines; and how long a line is at most. From the laws of decimals, for the functions of src/lines.rt.
use Prim.Native.Nat.{ℕ, ◌+◌, ◌*◌, ◌≤◌, ◌<◌}
use native.Mathlib.Numerals.{add-one}
use native.Mathlib.Omega.{arith}
use mathlib.Core.Path.{◌≡◌, refl}
use mathlib.Core.List.{List, [], ◌∷◌, ◌++◌, append_assoc}
use lib.ListN.{length, drop, get_or, length-append}
use lib.Seq.{drop-cons}
use Rattle.std.specs.Prelude.{codes}
use Rattle.lists.specs.Lists.{All, none, also}
use Rattle.records.proofs.Pens.{by_pen}
use Rattle.automaton.specs.declared.table.Size.{Size}
use Rattle.reporting.specs.Report.{decimal, numbers_in, line, reduced_word, states_word, rules_word, rounds_word}
use Rattle.reporting.specs.Inner.{reduced_lines}
use Rattle.reporting.proofs.Decimal.{digits_few, decimal_one, decimal_more}

-- The next number of a line, a line, and the four lines.

pub next_left_number : (vs : List ℕ) (j : ℕ) → j < length vs
    → numbers_in (drop j vs) ++ (10 ∷ []) ≡ (32 ∷ decimal (get_or vs j 0)) ++ (numbers_in (drop (j + 1) vs) ++ (10 ∷ []))
unfolding numbers_in
next_left_number vs j h = rw (add-one, drop-cons vs j 0 h, append_assoc)

pub line_parts : (word vs : List ℕ) → line word vs ≡ word ++ (numbers_in vs ++ (10 ∷ []))
unfolding line
line_parts word vs = refl

pub reduced_parts : (old new : Size) (rounds : ℕ) → reduced_lines old new rounds
    ≡ line (codes "reduced") [] ++ (line (codes "states") (old.states ∷ new.states ∷ []) ++ (line (codes "rules") (old.rules ∷ new.rules ∷ [])
    ++ line (codes "rounds") (rounds ∷ [])))
unfolding reduced_lines reduced_word states_word rules_word rounds_word
reduced_parts old new rounds = refl

-- What a search needs for the functions of src/lines.rt.
pub ruleset by_line = (by_pen, decimal_one, decimal_more, next_left_number, line_parts, reduced_parts)

-- Numbers of at most five digits.
abbrev pub Short : ℕ → Type 0
Short v = v < 100000

pub numbers_short : {vs : List ℕ} → All Short vs → length (numbers_in vs) ≤ 6 * length vs
unfolding numbers_in
numbers_short none = omega arith
numbers_short (also {x = v} {xs = vs} h hs) =
    rw length-append (omega (arith, digits_few v h, numbers_short hs))

pub line_short : (word : List ℕ) {vs : List ℕ} → All Short vs → length (line word vs) ≤ length word + (6 * length vs + 1)
unfolding line
line_short word hs = simp length-append (omega (arith, numbers_short hs))

-- The rules of rows: the rule of a row by its number, those of one row more, that the rule of a row is one of them, and that their numbers are bytes. By induction on the rows; for
-- the loops over rules.
use Prim.Native.Nat.{ℕ, zero, suc, ◌+◌, ◌<◌}
use native.Mathlib.Omega.{arith}
use native.Mathlib.Numerals.{add-one}
use mathlib.Core.Path.{◌≡◌, sym, ap}
use mathlib.Core.List.{List, [], ◌∷◌, ◌++◌, Memᴰ}
use mathlib.Core.List.Memᴰ
use lib.ListN.{length, take, get_or}
use Rattle.automaton.specs.Automaton.{Rule}
use Rattle.automaton.specs.Row.{rule_of, rule_at, rules_of}
use Rattle.automaton.specs.declared.row.Row.{Row}

pub rule_is : (rows : List Row) (i : ℕ) (row : Row) → i < length rows → row ≡ get_or rows i row → rule_at (rules_of rows) i ≡ rule_of row
unfolding rule_at
rule_is [] i row h is = absurd (omega arith)
rule_is (x ∷ xs) zero row h is = ap rule_of (sym is)
rule_is (x ∷ xs) (suc i) row h is = rule_is xs i row (omega arith) is

rules_upto : (rows : List Row) (i : ℕ) (row : Row) → i < length rows → row ≡ get_or rows i row
    → rules_of (take (suc i) rows) ≡ rules_of (take i rows) ++ (rule_of row ∷ [])
rules_upto [] i row h is = absurd (omega arith)
rules_upto (x ∷ xs) zero row h is = ap (λ (r : Row). rule_of r ∷ []) (sym is)
rules_upto (x ∷ xs) (suc i) row h is = ap (λ (us : List Rule). rule_of x ∷ us) (rules_upto xs i row (omega arith) is)

pub rules_more : (rows : List Row) (i : ℕ) (row : Row) → i < length rows → row ≡ get_or rows i row
    → rules_of (take (i + 1) rows) ≡ rules_of (take i rows) ++ (rule_of row ∷ [])
rules_more rows i row h is = rw add-one (rules_upto rows i row h is)

-- The rule of a row is one of the rules.
pub rule_in : (rows : List Row) (i : ℕ) (row : Row) → i < length rows → row ≡ get_or rows i row → Memᴰ (rule_of row) (rules_of rows)
rule_in [] i row h is = absurd (omega arith)
rule_in (x ∷ xs) zero row h is = Memᴰ.head (ap rule_of is)
rule_in (x ∷ xs) (suc i) row h is = Memᴰ.tail (rule_in xs i row (omega arith) is)

pub rules_low : (rows : List Row) (u : Rule) → Memᴰ u (rules_of rows) → (u.symbol < 256) × (u.target < 256)
rules_low [] u m = absurd (Memᴰ.not-nil m)
rules_low (x ∷ xs) u (Memᴰ.head same) = rw same x.numbers
rules_low (x ∷ xs) u (Memᴰ.tail m) = rules_low xs u m

-- Rules by their number, and the rules of rows; used by the code that decodes and writes, and by all code above that reads rules.
use Prim.Native.Nat.{ℕ, zero, suc, ◌+◌, ◌≤◌, ◌<◌}
use native.Mathlib.Numerals.{add-one}
use native.Mathlib.Omega.{arith}
use mathlib.Core.Path.{◌≡◌, refl}
use mathlib.Core.List.Memᴰ
use mathlib.Core.List.{List, [], ◌∷◌, Memᴰ}
use lib.ListN.{length, drop, length-take}
use Rattle.automaton.specs.Automaton.{Rule}
use Rattle.automaton.specs.Row.{rule_of, rule_at}
use Rattle.automaton.specs.declared.row.Row.{Row}

pub rule_in_lem : (rules : List Rule) (i : ℕ) → i < length rules → Memᴰ (rule_at rules i) rules
unfolding rule_at
rule_in_lem [] i h = absurd (omega arith)
rule_in_lem (u ∷ us) zero h = Memᴰ.head refl
rule_in_lem (u ∷ us) (suc i) h = Memᴰ.tail (rule_in_lem us i (omega arith))

pub rules_each : (P : Rule → Type 0) (rules : List Rule) → ((i : ℕ) → i < length rules → P (rule_at rules i))
    → (u : Rule) → Memᴰ u rules → P u
unfolding rule_at
rules_each P [] h u m = absurd (Memᴰ.not-nil m)
rules_each P (v ∷ us) h u (Memᴰ.head same) = rw same (h 0 (omega arith))
rules_each P (v ∷ us) h u (Memᴰ.tail m) = rules_each P us (λ i l. h (suc i) (omega arith)) u m

pub rules_at : (rules : List Rule) (i : ℕ) → i < length rules → drop i rules ≡ rule_at rules i ∷ drop (i + 1) rules
unfolding rule_at
rules_at [] i h = absurd (omega arith)
rules_at (u ∷ us) zero h = refl
rules_at (u ∷ us) (suc i) h = rw add-one (rw add-one at (rules_at us i (omega arith)))

-- A row's rule has at most eight children.
pub row_children_few : (row : Row) → length (rule_of row).children ≤ 8
row_children_few row = omega (arith, row.rank_in, length-take row.rank row.children)

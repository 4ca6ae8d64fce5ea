-- The parts of a table in bytes: the rules that are left, the final states, how long they are. For the proofs of the functions that write.
use Prim.Native.Nat.{ℕ, suc, ◌+◌, ◌*◌, ◌≤◌, ◌<◌}
use mathlib.Core.Path.{◌≡◌, refl, sym, ap, ◌∙◌}
use mathlib.Core.List.{List, [], ◌∷◌, ◌++◌}
use native.Mathlib.Numerals.{add-one}
use native.Mathlib.Omega.{arith}
use lib.ListN.{length, drop, get_or, length-append}
use lib.Seq.{drop-cons}
use Rattle.std.specs.List.{sum_by}
use Rattle.std.proofs.lemmas.List.{length-map}
use Rattle.std.proofs.lemmas.List.Recursion.{is_sum_by}
use Rattle.lists.proofs.Overwriting.{kept_few}
use Rattle.sets.specs.Set.{member}
use Rattle.sets.specs.Inner.{states_in}
use Rattle.records.proofs.Pens.{by_pen}
use Rattle.automaton.specs.Automaton.{Rule, Automaton}
use Rattle.automaton.specs.Table.{encode_rule, encode_rules, encode}
use Rattle.automaton.specs.Row.{rule_of, rules_of}
use Rattle.automaton.specs.Decoded.{size_of}
use Rattle.automaton.specs.declared.row.Row.{Row}
use Rattle.automaton.specs.declared.table.Size.{Size}
use Rattle.automaton.proofs.Encoding.{length_encode, length_rules}
use Rattle.automaton.proofs.Rows.{row_children_few}

-- The states below n of a set: at most n, and those of its meet with the set of all below n.

pub states_few : (n : ℕ) (set : List ℕ) → length (states_in n set) ≤ n
unfolding states_in
states_few n set = kept_few (member set) n

-- What a search needs for the functions of src/writing.rt.
pub ruleset by_table = (by_pen, length-map, states_few, row_children_few)

-- How long some rows' rules are.

pub rules_sum : (rows : List Row) → sum_by (λ (row : Row). 10 + 2 * length (rule_of row).children) rows ≡ length (encode_rules (rules_of rows))
unfolding encode_rules
rules_sum rows =
    sym (is_sum_by (λ (rows : List Row). length (encode_rules (rules_of rows))) (λ (row : Row). 10 + 2 * length (rule_of row).children) refl
    (λ row rows. length_rules (rule_of row) (rules_of rows)) rows)

pub rules_most : (rows : List Row) → length (encode_rules (rules_of rows)) ≤ 26 * length rows
unfolding encode_rules
rules_most [] = omega arith
rules_most (row ∷ rows) = omega (arith, length_rules (rule_of row) (rules_of rows), row_children_few row, rules_most rows)

-- The next of some rows.
pub next_rule : (rows : List Row) (i : ℕ) (row : Row) → i < length rows → row ≡ get_or rows i row
    → encode_rules (rules_of (drop i rows)) ≡ encode_rule (rule_of row) ++ encode_rules (rules_of (drop (i + 1) rows))
unfolding encode_rules
next_rule rows i row h e =
    rw add-one
    (ap (λ (rows : List Row). encode_rules (rules_of rows)) (drop-cons rows i row h ∙ ap (λ (r : Row). r ∷ drop (suc i) rows) (sym e)))

-- How long the whole table is.

pub length_written : (A : Automaton) (size : Size) (rows : List Row) (met : List ℕ) (count rules_length : ℕ) → size ≡ size_of A
    → A.finals ≡ states_in 256 met → count ≡ length (states_in 256 met) → rules_of rows ≡ A.rules
    → rules_length ≡ length (encode_rules (rules_of rows)) → length (encode A) ≡ 24 + size.symbols + 2 * count + rules_length
unfolding size_of
length_written A size rows met count rules_length e f g h i =
    rw e (omega (arith, length_encode A, ap length f, ap (λ (us : List Rule). length (encode_rules us)) h))

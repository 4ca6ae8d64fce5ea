-- Rules written in front over others: the first rows hold the new rules, and the rows that are still to be read are the old ones. For `retain`
-- and `rename_rules`.
use Prim.Native.Nat.{ℕ, ◌+◌, ◌≤◌, ◌<◌}
use native.Mathlib.Numerals.{add-one}
use native.Mathlib.Omega.{arith}
use mathlib.Core.Path.{◌≡◌, refl, sym, ap, ◌∙◌}
use mathlib.Core.List.{List, [], ◌∷◌, ◌++◌, map, map-append, append-nil}
use mathlib.Core.Bool.{Bool, true, false}
use lib.ListN.{length, take, get_or, set}
use lib.Seq.{get_or-set_other, take-suc-set}
use Rattle.lists.specs.Lists.{from, keep}
use Rattle.lists.proofs.Overwriting.{keep_step, single_kept, single_dropped}
use Rattle.automaton.specs.Automaton.{Rule, renamed}
use Rattle.automaton.specs.Row.{rule_of, rule_at, rules_of}
use Rattle.automaton.specs.declared.row.Row.{Row}
use Rattle.refinement.proofs.RuleRows.{rule_is, rules_more}

-- The first n rows hold the rules us, and those from row i on are as before.
pub record Overwritten (old : List Row) (us : List Rule) (i n : ℕ) (rows : List Row) : Type 0 where
  pub few : n ≤ i
  pub rules : rules_of (take n rows) ≡ us
  pub rest : (j : ℕ) (d : Row) → i ≤ j → get_or rows j d ≡ get_or old j d

none_written : (old : List Row) → Overwritten old [] 0 0 old
none_written old = record { few = omega arith; rules = refl; rest = λ j d h. refl }

module _ {old : List Row} {us : List Rule} {i n : ℕ} {rows : List Row} (w : Overwritten old us i n rows) where
  row_passed : Overwritten old us (i + 1) n rows
  row_passed = let few = w.few in record { few = omega arith; rules = w.rules; rest = λ j d h. w.rest j d (omega arith) }

  rule_written : n < length rows → (row : Row) → Overwritten old (us ++ (rule_of row ∷ [])) (i + 1) (n + 1) (set rows n row)
  rule_written room row =
      let few = w.few in
      record {
        few = omega arith;
        rules = rw (add-one, take-suc-set rows n row room, map-append, w.rules);
        rest = λ j d h. get_or-set_other rows n j row d (λ e. omega arith) ∙ w.rest j d (omega arith);
      }

  -- Row i is still the old one.
  row_there : (row : Row) → row ≡ get_or rows i row → row ≡ get_or old i row
  row_there row is = is ∙ w.rest i row (omega arith)

-- The ones of the first i rules whose number passes a test.
module _ (test : ℕ → Bool) (old : List Row) where
  abbrev pub Retained : ℕ → ℕ → List Row → Type 0
  Retained i n rows = Overwritten old (map (rule_at (rules_of old)) (keep test (from 0 i))) i n rows

  pub retained_none : Retained 0 0 old
  unfolding keep from
  retained_none = none_written old

  module _ {i n : ℕ} {rows : List Row} (w : Retained i n rows) where
    pub retained_skip : test i ≡ false → Retained (i + 1) n rows
    retained_skip e = rw (keep_step, single_dropped test i e, append-nil) (row_passed w)

    module _ (low : i < length old) (room : i < length rows) (row : Row) (is : row ≡ get_or rows i row) where
      pub rule_there : rule_at (rules_of old) i ≡ rule_of row
      rule_there = rule_is old i row low (row_there w row is)

      pub retained_keep : test i ≡ true → Retained (i + 1) (n + 1) (set rows n row)
      retained_keep e =
          let few = w.few in
          rw (keep_step, single_kept test i e, map-append, rule_there) (rule_written w (omega arith) row)

-- The first i rules with new names.
module _ (name : ℕ → ℕ) (old : List Row) where
  abbrev pub Renamed : ℕ → List Row → Type 0
  Renamed i rows = Overwritten old (map (renamed name) (rules_of (take i old))) i i rows

  pub renamed_next : {i : ℕ} {rows : List Row} → Renamed i rows → i < length old → i < length rows → (row new : Row)
      → row ≡ get_or rows i row → rule_of new ≡ renamed name (rule_of (get_or rows i row)) → Renamed (i + 1) (set rows i new)
  renamed_next {i} w low room row new is e =
      let same : rule_of new ≡ renamed name (rule_of row) = e ∙ ap (λ (r : Row). renamed name (rule_of r)) (sym is) in
      rw (rules_more old i row low (row_there w row is), map-append, ← same) (rule_written w room new)

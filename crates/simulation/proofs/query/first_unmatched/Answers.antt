-- The first rule that passes the closure's test, said of the relation.
use Rattle.std.proofs.Common.{ℕ, ◌≡◌, ◌<◌, ◌∙◌, Bool, true, false, not, ◌&&◌, List, [], ◌∷◌, length, get_or, sym, ap, refl, eqb, rules, tests, arith}
use mathlib.Core.Bool.{◌||◌}
use Rattle.std.proofs.lemmas.Iterator.{YieldsList-from_slice, IsFirst-from_position}
use Rattle.std.proofs.lemmas.Iterator.Adapters.{serves_from_places}
use Rattle.std.proofs.lemmas.List.{get_or-map}
use Rattle.std.specs.List.{AllWithin, HoldsAt}
use Rattle.std.specs.Prelude.{Option, Some, None}
use Rattle.std.specs.Option.{MatchOption}
use Rattle.lists.specs.Lists.{any}
use Rattle.automaton.specs.Automaton.{Rule}
use Rattle.automaton.specs.Row.{rule_of, rules_of, rule_at}
use Rattle.automaton.specs.declared.row.Row.{Row}
use Rattle.indexing.specs.Index.{keyed}
use Rattle.indexing.proofs.Indexing.{rules_long}
use Rattle.refinement.specs.Simulation.{Relation, matched_by}
use Rattle.refinement.specs.Inner.{answered}
use Rattle.refinement.proofs.Answering.{keyed_within, keyed_matched}
use Rattle.simulation.specs.Inner.{FirstUnmatched}
use Rattle.simulation.proofs.query.first_unmatched.Goals as goal

-- Where there is a row with a number, there is a row.
some_row : (rows : List Row) (i : ℕ) → i < length rows → Row
some_row [] i h = absurd (omega arith)
some_row (x ∷ xs) i h = x

module _ (R : Relation) (rows : List Row) (numbers : List ℕ) (q : ℕ) where
  abbrev unmatched : Row → Bool
  unmatched row = eqb (rule_of row).target q && not (any (λ (j : ℕ). matched_by R (rule_of row) (rule_at (rules_of rows) j)) numbers)

  module _ (r : ℕ) (e : numbers ≡ keyed (λ (u : Rule). u.target) (rules_of rows) r) where
    answered_at : (i : ℕ) → i < length rows → (d : Row) (t : Bool) → unmatched (get_or rows i d) ≡ t
        → answered (rules_of rows) R q r (rule_at (rules_of rows) i) ≡ not t
    unfolding rule_at
    answered_at i h d t is =
        ap (answered (rules_of rows) R q r) (get_or-map rule_of rows i d _ h)
        ∙ ap (λ (m : Bool). not (eqb (rule_of (get_or rows i d)).target q) || m) (sym (keyed_matched _ r e R _)) ∙ go _ _ ∙ ap not is
      where
        go : (a m : Bool) → (not a || m) ≡ not (a && not m)
        go true true = refl
        go true false = refl
        go false m = refl

    first_is : (a : Option ℕ) → MatchOption a (AllWithin (λ (row : Row). unmatched row ≡ false) rows 0 (length rows))
        (λ (i : ℕ). (i < length rows) × HoldsAt (λ (row : Row). unmatched row ≡ true) rows i
        × AllWithin (λ (row : Row). unmatched row ≡ false) rows 0 i)
        → FirstUnmatched (rules_of rows) R q r a
    unfolding FirstUnmatched
    first_is None h = λ j l.
        let inside : j < length rows = omega (arith, rules_long rows) in
        let d = some_row rows j inside in
        answered_at j inside d false (h j d (omega arith) inside)
    first_is (Some i) h =
        let d = some_row rows i h.0 in (
          omega (arith, rules_long rows),
          (answered_at i h.0 d true (h.1 d), λ j l. answered_at j (omega arith) d false (h.2 j d (omega arith) l)),
        )

pub position-requires-clause-callable : goal.position-requires-clause-callable
position-requires-clause-callable c =
    let within = keyed_within c.args.rules.now c.args.r (c.numbers-numbers.ensures ∙ c.requires c.args.r (omega arith)) in
    serves_from_places (YieldsList-from_slice c.args.rules.now cc) (λ x q k. search rules) (λ x k l h. search (rules, within))

pub returns : goal.returns
returns c =
    first_is c.args.relation.now c.args.rules.now c.numbers-numbers.result.now c.args.q c.args.r
    (c.numbers-numbers.ensures ∙ c.requires c.args.r (omega arith)) c.position.result
    (IsFirst-from_position _ _ c.position.result
    (λ (row : Row). unmatched c.args.relation.now c.args.rules.now c.numbers-numbers.result.now c.args.q row ≡ true)
    (λ (row : Row). unmatched c.args.relation.now c.args.rules.now c.numbers-numbers.result.now c.args.q row ≡ false)
    c.position.ensures.ran (YieldsList-from_slice c.args.rules.now cc) (λ x q k. search (rules, tests)) (λ x q k. search (rules, tests)))

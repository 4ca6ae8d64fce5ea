use Rattle.std.proofs.Common.{ℕ, ◌<◌, ◌≡◌, List, length, get_or, arith, ap, ◌∙◌}
use Rattle.std.proofs.lemmas.List.{length-map}
use lib.Seq.{take_all}
use Rattle.lists.specs.Lists.{any}
use Rattle.sets.specs.Set.{words, empty_set}
use Rattle.sets.proofs.StateSets.{member_empty}
use Rattle.automaton.specs.Automaton.{Rule, Automaton}
use Rattle.automaton.specs.Row.{rule_of, rules_of, rule_at}
use Rattle.automaton.specs.declared.row.Row.{Row}
use Rattle.indexing.proofs.Indexing.{at_member}
use Rattle.trees.specs.Inner.{gathered}
use Rattle.trees.proofs.evaluation.NodeStates.{targets_one_more, rule_is}
use Rattle.trees.proofs.evaluation.Evaluator.targets.Goals as goal

pub loop-i-init : goal.loop-i-init
unfolding any empty_set words gathered
loop-i-init c = λ q low. member_empty q low

pub bounds-rules-from : goal.bounds-rules-from
bounds-rules-from c =
    let ranked = (rw (← c.self.view_is) at c.requires) _ (at_member c.args.numbers.now c.loop-i.i-index c.loop-i-test.true) in
    rw c.from.ensures (omega (arith, ranked.0, ap length c.rules-rules.ensures, length-map c.rules-rules.result.now rule_of))

-- The rule of the row that is looked at.
row_rule : (A : Automaton) (rows : List Row) (i k : ℕ) (row : Row) → rules_of rows ≡ A.rules → i ≡ k → k < length A.rules
    → row ≡ get_or rows i row → rule_of row ≡ rule_at A.rules k
row_rule A rows i k row are same low is =
    let within : i < length rows = omega (arith, ap length are, length-map rows rule_of) in
    rule_is rows i row within is ∙ rw (are, same)

pub children_of_rank-children-requires : goal.children_of_rank-children-requires
children_of_rank-children-requires c =
    let ranked = c.requires _ (at_member c.args.numbers.now c.loop-i.i-index c.loop-i-test.true) in
    let rule = row_rule c.args.self.now _ _ _ _ (c.rules-rules.ensures ∙ ap (λ (A : Automaton). A.rules) c.self.view_is) c.from.ensures ranked.0 c.index-rules-from.is in
    omega (arith, ap (λ (u : Rule). length u.children) rule, ranked.1)

pub fits-requires : goal.fits-requires
fits-requires c =
    let ranked = c.requires _ (at_member c.args.numbers.now c.loop-i.i-index c.loop-i-test.true) in
    let rule = row_rule c.args.self.now _ _ _ _ (c.rules-rules.ensures ∙ ap (λ (A : Automaton). A.rules) c.self.view_is) c.from.ensures ranked.0 c.index-rules-from.is in
    rw c.children_of_rank-children.ensures (omega (arith, ap (λ (u : Rule). length u.children) rule, ranked.1))

pub loop-i-preserved : goal.loop-i-preserved
loop-i-preserved c =
    let ranked = c.requires _ (at_member c.args.numbers.now c.loop-i.i-index c.loop-i-test.true) in
    let rule = row_rule c.args.self.now _ _ _ _ (c.rules-rules.ensures ∙ ap (λ (A : Automaton). A.rules) c.self.view_is) c.from.ensures ranked.0 c.index-rules-from.is in
    rw (
      c.add_if.ensures,
      c.target.ensures,
      c.fits.ensures,
      c.children_of_rank-children.ensures,
    )
    (rw (← rule) at (targets_one_more c.args.self.now.rules c.args.numbers.now c.args.trees.now _ c.loop-i.i-index c.loop-i-test.true c.loop-i.invariant))

pub returns : goal.returns
returns c =
    rw (c.gathered.ensures, ← take_all c.loop-i.i-index c.args.numbers.now c.loop-i-test.false) c.loop-i.invariant

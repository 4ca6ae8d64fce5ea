-- The rows are those of the rules.
use Rattle.std.proofs.Common.{◌≡◌, ◌<◌, ◌∙◌, ℕ, List, length, get_or, sym, ap, refl}
use Rattle.automaton.specs.Automaton.{Rule}
use Rattle.automaton.specs.Row.{rule_of, rule_at, rules_of}
use Rattle.automaton.specs.declared.row.Row.{Row}
use Rattle.refinement.proofs.RuleRows.{rule_is}
use Rattle.reduction.specs.Inner.{goes_at}
use Rattle.reduction.proofs.marking.goes_for.Goals as goal

-- The row that stands at a number that is known by another name.
row_is : (rows : List Row) (n m : ℕ) (row : Row) → n < length rows → m ≡ n → row ≡ get_or rows m row → rule_of row ≡ rule_at (rules_of rows) n
row_is rows n m row h e is = sym (rule_is rows n row h (rw e at is))

pub goes-requires : goal.goes-requires
goes-requires g c =
    let (low, high) = c.requires.in_bounds in
    ap (λ (u : Rule). u.target) (row_is _ _ _ _ high c.from-j.ensures c.index-rules-j.is) ∙ c.requires.target
    ∙ sym (ap (λ (u : Rule). u.target) (row_is _ _ _ _ low refl c.index-rules-i.is))

pub returns : goal.returns
unfolding goes_at
returns g c =
    let (low, high) = c.requires.in_bounds in
    c.goes.ensures
    ∙ rw (row_is _ _ _ _ high c.from-j.ensures c.index-rules-j.is, row_is c.args.rules.now _ _ _ low refl c.index-rules-i.is, c.from-j.ensures) refl

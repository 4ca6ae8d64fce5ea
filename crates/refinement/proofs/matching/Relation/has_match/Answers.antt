use Rattle.std.proofs.Common.{◌≡◌, ◌<◌, ◌∙◌, ℕ, Bool, true, false, List, length, get_or, sym, ap, rules}
use Rattle.std.proofs.lemmas.List.{get_or_default}
use Rattle.std.proofs.lemmas.Iterator.{YieldsList-from_slice, cases_from_any}
use Rattle.std.proofs.lemmas.Iterator.Adapters.{serves_from_places}
use Rattle.lists.proofs.Elements.{all_at}
use Rattle.automaton.specs.Automaton.{Rule}
use Rattle.automaton.specs.Row.{rule_of, rules_of, rule_at}
use Rattle.automaton.specs.declared.row.Row.{Row}
use Rattle.indexing.proofs.Indexing.{rule_of_row}
use Rattle.refinement.specs.Simulation.{Relation, matched_by}
use Rattle.refinement.proofs.Answering.{any_within}
use Rattle.refinement.proofs.matching.Relation.has_match.Goals as goal

-- The answer for a rule is the one for its number.
match_at : (R : Relation) (u : Rule) (rows : List Row) (n m : ℕ) (row : Row) {t : Bool} → n ≡ m → n < length rows → row ≡ get_or rows n row
    → t ≡ matched_by R u (rule_of row) → t ≡ matched_by R u (rule_at (rules_of rows) m)
match_at R u rows n m row e h is t = rw (← e) (t ∙ ap (matched_by R u) (sym (rule_of_row rows n row h is)))

pub any-requires-clause-callable : goal.any-requires-clause-callable
any-requires-clause-callable c =
    let within = all_at c.requires in
    serves_from_places (YieldsList-from_slice c.args.numbers.now cc) (λ x q k. search rules)
    (λ x k l h. let low : x.now < length c.args.others.now = rw (h, get_or_default c.args.numbers.now k x.now 0 l) (within k l) in search rules)

pub returns : goal.returns
returns c =
    let test : ℕ → Bool = λ (j : ℕ). matched_by c.args.self.now (rule_of c.args.rule.now) (rule_at (rules_of c.args.others.now) j) in
    any_within test c.requires c.any.result
    (cases_from_any c.any.new.self _ c.any.result (λ (j : ℕ). j < length c.args.others.now → true ≡ test j)
    (λ (j : ℕ). j < length c.args.others.now → false ≡ test j) c.any.ensures.ran (YieldsList-from_slice c.args.numbers.now cc)
    (λ x q k l. search (rules, match_at)) (λ x q k. (search rules, λ l. search (rules, match_at))))

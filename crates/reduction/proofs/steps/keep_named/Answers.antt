-- The rules that name states of the set alone are kept.
use Rattle.std.proofs.Common.{◌≡◌, ◌∙◌, ℕ, List, ◌&&◌, ap, ap₂, length, take, refl, sym, rules}
use Rattle.lists.specs.Lists.{all}
use Rattle.lists.proofs.Search.{all_agree}
use Rattle.sets.specs.Set.{member}
use Rattle.sets.specs.Inner.{states_in}
use Rattle.automaton.specs.Automaton.{Rule}
use Rattle.automaton.specs.Row.{rule_of, rule_at, rules_of}
use Rattle.stages.specs.Steps.{names_only}
use Rattle.indexing.proofs.Indexing.{rules_long}
use Rattle.reduction.proofs.steps.StageSets.{member_among, named_sound, kept_rules}
use Rattle.reduction.proofs.steps.keep_named.Goals as goal

names_test : (words : List ℕ) → length words ≡ 4 → (u : Rule)
    → (member words u.target && all (member words) u.children) ≡ names_only (states_in 256 words) u
unfolding names_only
names_test words four u =
    ap₂ ◌&&◌ (member_among words four u.target) (all_agree (member words) _ u.children (λ q m. member_among words four q))

pub returns : goal.returns
returns c =
    let words = c.args.states.words in
    let test = names_only (states_in 256 words) in
    let kept = c.retain.ensures.rules (λ i. test (rule_at (rules_of c.args.rules.now) i)) (λ i row b f l is.
    let e : b ≡ (member words row.now.target && all (member words) (take row.now.rank row.now.children)) = search rules in
    e ∙ names_test words c.args.states.four (rule_of row.now) ∙ ap test (sym is)) in
    rw (kept, ← rules_long c.args.rules.now, kept_rules (rules_of c.args.rules.now) _ test (λ i l. refl)) refl

pub invariant_of-result : goal.invariant_of-result
invariant_of-result c = record { sound = rw (returns c) (named_sound _ _ _ c.requires.finals); few = search rules }

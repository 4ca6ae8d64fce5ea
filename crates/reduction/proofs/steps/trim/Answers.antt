-- Up from no state, the set that grows has the productive states.
use Rattle.std.proofs.Common.{◌≡◌, ◌∙◌, refl, ℕ, List, []}
use Rattle.std.proofs.lemmas.List.{length-map}
use Rattle.lists.specs.Lists.{any, among}
use Rattle.sets.specs.Set.{empty_set}
use Rattle.sets.specs.Inner.{Has}
use Rattle.sets.proofs.StateSets.{member_empty}
use Rattle.automaton.specs.Decoded.{automaton_of}
use Rattle.reduction.proofs.steps.StageSets.{meet_inside}
use Rattle.reduction.proofs.steps.EachStep.{without_finals, without_finals_sound, trimmed_is}
use Rattle.reduction.proofs.steps.trim.Goals as goal

none_final : (words : List ℕ) → words ≡ empty_set → Has words (among [])
unfolding among any
none_final words e q l = rw e (member_empty q l)

pub keep_named-requires-clause-few : goal.keep_named-requires-clause-few
keep_named-requires-clause-few c = rw length-map at c.table.invariant.0.count

pub keep_named-requires-clause-finals : goal.keep_named-requires-clause-finals
keep_named-requires-clause-finals c q m = meet_inside c.table.inside.finals.words _ q (rw c.meet.ensures at m)

pub returns : goal.returns
returns c =
    let A = automaton_of c.table.inside in
    let w = c.table.invariant.0 in
    c.keep_named.ensures ∙ rw (c.meet.ensures, ← c.table.view_is) (trimmed_is A w c.table.inside.finals.words _ refl
    (c.grow-states.ensures (without_finals A w) (without_finals_sound A w) refl (none_final _ c.empty.ensures)))

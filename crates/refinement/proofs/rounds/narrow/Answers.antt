use Rattle.std.proofs.Common.{◌∙◌, ◌&&◌, Bool, sym, ap}
use Rattle.sets.specs.Set.{member}
use Rattle.sets.proofs.StateLoops.{states_passed, state_comes, among_done}
use Rattle.automaton.specs.Row.{rule_of}
use Rattle.refinement.proofs.Answering.{keyed_within, keyed_matched}
use Rattle.refinement.proofs.rounds.Narrowing.{narrowed_none, narrowed_stays, narrowed_out, narrowed_all}
use Rattle.refinement.proofs.rounds.narrow.Goals as goal

pub loop-r-init : goal.loop-r-init
loop-r-init g c = narrowed_none _ _

-- The index has the rules of the next state.
pub has_match-requires : goal.has_match-requires
has_match-requires g c =
    let p = states_passed c.args.row.words _ _ c.states-r-items.ensures c.into_iter-r-iterator.ensures.into_iter_gives c.loop-r.yielded_by in
    keyed_within c.args.others.now c.in-Some.r (c.numbers.ensures ∙ c.requires _ (state_comes _ p c.in-Some.ensures.steps).low)

pub loop-r-preserved-then-not-has_match : goal.loop-r-preserved-then-not-has_match
loop-r-preserved-then-not-has_match g c =
    rw c.without-narrowed.ensures (narrowed_out c.loop-r.invariant c.in-Some.r (sym (rw c.numbers.ensures at c.if-not-has_match.ensures)))

pub loop-r-preserved : goal.loop-r-preserved
loop-r-preserved g c = narrowed_stays c.loop-r.invariant c.in-Some.r (sym (rw c.numbers.ensures at c.if-not-has_match.ensures))

pub returns : goal.returns
returns g c r h =
    let p = states_passed c.args.row.words _ _ c.states-r-items.ensures c.into_iter-r-iterator.ensures.into_iter_gives c.loop-r.yielded_by in
    narrowed_all c.loop-r.invariant (among_done p c.in-None.ensures.steps.0) r h
    ∙ ap (λ (t : Bool). member c.args.row.words r && t) (keyed_matched _ r (c.requires r h) c.args.relation.now (rule_of c.args.rule.now))

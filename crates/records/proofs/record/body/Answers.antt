-- A record that opens lies within the bytes; otherwise the body is empty.
use Rattle.std.proofs.Common.{arith, ◌≡◌, sym, ◌∙◌}
use Rattle.records.specs.Record.{whole, opened}
use Rattle.records.specs.Answers.{opening_of}
use Rattle.records.proofs.Opening.{Within, opened_within, body_within, body_none}
use Rattle.records.proofs.Answers.{none_opens}
use Rattle.records.proofs.record.body.Goals as goal
use Rattle.records.proofs.record.body.Goals.{In-Ok-Some, in_default-via-in-Ok+in_default, in_default-via-in_default}

pub returns-in_default : goal.returns-in_default
returns-in_default c =
    body_none _ (none_opens _ _ c.open.ensures (λ r h.
    elim c.in_default.branch [ in_default-via-in-Ok+in_default w ↦ grind arith | in_default-via-in_default w ↦ grind arith ]))

opens : (c : In-Ok-Some) → opened c.args.t.now ≡ whole c.in-Ok-Some.field-0-0.kind c.in-Ok-Some.field-0-0.end
unfolding opening_of
opens c = sym c.open.ensures ∙ rw (c.in-Ok-Some.is, c.in-Ok-Some.field-0-is)

lies_within : (c : In-Ok-Some) → Within c.args.t.now c.in-Ok-Some.field-0-0.kind c.in-Ok-Some.field-0-0.end
lies_within c = opened_within _ _ _ (opens c)

pub slice_bounds-result-count : goal.slice_bounds-result-count
slice_bounds-result-count c = omega (arith, (lies_within c).start, (lies_within c).stop)

pub slice_bounds-result-start : goal.slice_bounds-result-start
slice_bounds-result-start c = omega (arith, (lies_within c).start, (lies_within c).stop)

pub slice_bounds-result-end-2 : goal.slice_bounds-result-end-2
slice_bounds-result-end-2 c = omega (arith, (lies_within c).stop)

pub returns : goal.returns
returns c = sym (body_within _ (opens (goal.at.returns c).In-Ok-Some))

-- A rule is due, or whatever stands there is refused.
use Rattle.std.proofs.Common.{◌∙◌, sym}
use Rattle.std.proofs.lemmas.Result.{err_from_is_err_and}
use Rattle.records.specs.Answers.{reading_of}
use Rattle.records.specs.Read.{◌>>◌}
use Rattle.automaton.proofs.head.Bodies.{next_rule, next_behind}
use Rattle.automaton.proofs.head.Rules.next_end.Goals as goal

pub returns-then-self-gt0 : goal.returns-then-self-gt0
returns-then-self-gt0 c = c.rule_end.ensures ∙ sym (next_rule _ _ _ _ c.if-self-gt0.true)

pub returns-in_err-due : goal.returns-in_err-due
unfolding reading_of ◌>>◌
returns-in_err-due c =
    let p = err_from_is_err_and c.from_residual.result c.from_residual.ensures.1 in
    rw (p.1, p.2, next_behind _ _ c.args.self.now.left c.args.self.now.rest.now c.if-self-gt0.false, ← c.in_err-due.ensures)

pub returns : goal.returns
unfolding reading_of ◌>>◌
returns c = rw (next_behind _ _ c.args.self.now.left c.args.self.now.rest.now c.if-self-gt0.false, ← c.in_ok-due.ensures)

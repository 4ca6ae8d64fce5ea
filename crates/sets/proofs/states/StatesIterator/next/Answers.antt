use Rattle.std.proofs.Common.{[], ◌≡◌, ◌<◌, ◌^◌, ◌∙◌, rules, arith, sym, ap, length}
use Rattle.sets.specs.Inner.{states_left, states_from}
use Rattle.sets.proofs.StateLists.{states_pass, states_end, states_first, lowest}
use Rattle.sets.proofs.states.StatesIterator.next.Goals as goal

pub returns-then-self-ge3-clause-steps : goal.returns-then-self-ge3-clause-steps
unfolding states_left
returns-then-self-ge3-clause-steps c =
    let inside : c.loop-self.self.at < 4 = c.loop-self.self.inside in
    let ended : states_from c.loop-self.self.words c.loop-self.self.at c.loop-self.self.rest ≡ [] =
    rw c.loop-self-test.true (states_end _ _ inside (omega arith)) in
    (sym c.loop-self.invariant ∙ ended, ended)

pub loop-self-preserved : goal.loop-self-preserved
unfolding states_left
loop-self-preserved c =
    sym (rw c.loop-self-test.true (states_pass _ _ (omega arith))) ∙ c.loop-self.invariant

pub overflow_cast-result : goal.overflow_cast-result
overflow_cast-result c =
    let small : c.loop-self.self.rest < 2 ^ 64 = search rules in
    let inside : c.loop-self.self.at < 4 = c.loop-self.self.inside in
    let low = (lowest 64 64 c.loop-self.self.rest (omega arith) small c.loop-self-test.false).within in
    record { fits = omega arith }

pub returns-clause-steps : goal.returns-clause-steps
unfolding states_left
returns-clause-steps c =
    let small : c.loop-self.self.rest < 2 ^ 64 = search rules in
    sym c.loop-self.invariant ∙ states_first _ _ _ c.loop-self.self.inside small c.loop-self-test.false

pub returns-clause-goes : goal.returns-clause-goes
unfolding states_left
returns-clause-goes c =
    let small : c.loop-self.self.rest < 2 ^ 64 = search rules in
    let next = ap length (sym c.loop-self.invariant ∙ states_first _ _ _ c.loop-self.self.inside small c.loop-self-test.false) in
    record {
      on = λ _. (tt, tt, omega (arith, next));
      keeps = tt;
      rests = λ _. tt;
    }

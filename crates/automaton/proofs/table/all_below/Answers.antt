-- The chain tests each number.
use Rattle.std.proofs.Common.{◌∙◌, rules, ltb}
use borrow.Author.Tests.{tests}
use Rattle.std.proofs.lemmas.Iterator.Search.{all_from_yields_List}
use Rattle.records.specs.Bytes.{numbers}
use Rattle.automaton.proofs.Chunks.{all_same, numbers_yielded}
use Rattle.automaton.proofs.table.all_below.Goals as goal

pub returns : goal.returns
returns c =
    all_from_yields_List (λ q. ltb q c.args.n) _ _ c.all.result c.all.ensures.ran
    (numbers_yielded c.args.b.now c.chunks_exact.ensures.rest c.chunks_exact.ensures.size) (λ x b q k. search (rules, tests))
    ∙ all_same _ (numbers c.args.b.now)

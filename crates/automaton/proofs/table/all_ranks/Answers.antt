-- The chain tests each byte.
use Rattle.std.proofs.Common.{◌∙◌, rules, leb}
use borrow.Author.Tests.{tests}
use Rattle.std.proofs.lemmas.Iterator.{YieldsList-from_slice}
use Rattle.std.proofs.lemmas.Iterator.Search.{all_from_yields_List}
use Rattle.automaton.proofs.Chunks.{all_same}
use Rattle.automaton.proofs.table.all_ranks.Goals as goal

pub returns : goal.returns
returns c =
    all_from_yields_List (λ x. leb x 8) _ _ c.all.result c.all.ensures.ran (YieldsList-from_slice c.args.b.now (cc))
    (λ x b q k. search (rules, tests)) ∙ all_same _ c.args.b.now

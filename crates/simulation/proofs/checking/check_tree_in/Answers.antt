-- A table that is not refused is the automaton that was decoded.
use Rattle.std.proofs.Common.{◌∙◌, sym}
use Rattle.std.proofs.lemmas.List.{length-replicate}
use Rattle.std.proofs.lemmas.Result.{err_from_is_err_and}
use Rattle.records.specs.Answers.{reading_of}
use Rattle.records.specs.Read.{map_read}
use Rattle.trees.specs.Answers.{finding_of}
use Rattle.simulation.proofs.Acceptance.{table_refused, table_found}
use Rattle.simulation.proofs.checking.check_tree_in.Goals as goal

pub decode-requires : goal.decode-requires
decode-requires g c = λ k few long. rw length-replicate (c.requires.room k few long)

pub returns-in_err-decoded : goal.returns-in_err-decoded
unfolding finding_of reading_of map_read
returns-in_err-decoded g c =
    let p = err_from_is_err_and c.from_residual.result c.from_residual.ensures.1 in
    rw (p.1, p.2) (table_refused _ _ _ c.in_err-decoded.ensures)

pub returns : goal.returns
unfolding reading_of
returns g c = rw c.view.ensures at c.accept_tree.ensures ∙ table_found _ _ (sym c.in_ok-decoded.ensures) _

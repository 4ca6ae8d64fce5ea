-- Lists of one length are paired where each pair is in the relation.
use Rattle.std.proofs.Common.{◌∙◌, ℕ, sym, rules, tests}
use Rattle.std.proofs.lemmas.Iterator.{YieldsList-from_slice, YieldsList-from_zip}
use Rattle.std.proofs.lemmas.Iterator.Search.{all_from_yields_List}
use borrow.Author.Tests.{ne_eqb}
use Rattle.refinement.specs.Simulation.{related}
use Rattle.refinement.proofs.matching.Children.{paired_other, paired_zip}
use Rattle.refinement.proofs.matching.Relation.pairs.Goals as goal

pub returns-then-qs-rs : goal.returns-then-qs-rs
returns-then-qs-rs c =
    all_from_yields_List (λ (p : ℕ × ℕ). related c.args.self.now p.0 p.1) c.all.new.self _ _ c.all.ensures.ran
    (YieldsList-from_zip (YieldsList-from_slice c.args.qs.now cc) (YieldsList-from_slice c.args.rs.now cc)) (λ x b q k. search (rules, tests))
    ∙ paired_zip _ _ _ c.if-qs-rs.true

pub returns-else-qs-rs : goal.returns-else-qs-rs
returns-else-qs-rs c = ne_eqb _ _ c.if-qs-rs.false ∙ sym (paired_other _ _ _ c.if-qs-rs.false)

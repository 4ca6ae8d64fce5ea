-- The laws of the two ways in which a set of states grows, and of the two reasons for which a rule goes.
use Prim.Native.Nat.{ℕ}
use mathlib.Core.Path.{◌≡◌, sym, ap}
use mathlib.Core.Logic.{inl, inr}
use mathlib.Core.Bool.{Bool, true, ◌&&◌}
use lib.Dec.{eqb}
use borrow.Author.Tests.{eqb-true}
use Rattle.lists.specs.Lists.{all, among}
use Rattle.lists.proofs.Booleans.{and_true_in, and_true_out}
use Rattle.lists.proofs.Elements.{all_member}
use Rattle.lists.proofs.Search.{all_in, all_out, among_out}
use Rattle.automaton.specs.Automaton.{Rule}
use Rattle.refinement.specs.Simulation.{Relation}
use Rattle.stages.specs.Steps.{same_rule, dominated_by}
use Rattle.stages.proofs.SameRules.{same_rule_out}
use Rattle.reduction.specs.Inner.{repeats, dominates, Adding}

pub up_adding : Adding (λ (set : ℕ → Bool) (u : Rule) (q : ℕ). eqb u.target q && all set u.children)
up_adding = record {
  more = λ s t passes u low q h.
      let (is, there) = and_true_out (eqb u.target q) (all s u.children) h in
      and_true_in is (all_in t u.children (λ p m. passes p (all_member low.children m) (all_out s there p m)));
  named = λ s u q h. inl (sym (eqb-true u.target q (and_true_out (eqb u.target q) (all s u.children) h).0));
}

pub down_adding : Adding (λ (set : ℕ → Bool) (u : Rule) (q : ℕ). set u.target && among u.children q)
down_adding = record {
  more = λ s t passes u low q h.
      let (there, is) = and_true_out (s u.target) (among u.children q) h in
      and_true_in (passes u.target low.target there) is;
  named = λ s u q h. inr (among_out u.children q (and_true_out (s u.target) (among u.children q) h).1);
}

pub repeats_same_target : (R : Relation) (u v : Rule) (before : Bool) → repeats R u v before ≡ true → v.target ≡ u.target
unfolding repeats
repeats_same_target R u v before h = ap (λ (w : Rule). w.target) (same_rule_out _ _ (and_true_out before (same_rule v u) h).1)

pub dominates_same_target : (R : Relation) (u v : Rule) (before : Bool) → dominates R u v before ≡ true → v.target ≡ u.target
unfolding dominates dominated_by
dominates_same_target R u v before h = sym (eqb-true u.target v.target (and_true_out (eqb u.target v.target) _ h).0)

-- The tests for equal lists of states and equal rules, as facts. For `Firsts`, `Pruning` and the code that marks rules.
use Prim.Native.Nat.{ℕ}
use mathlib.Core.Path.{◌≡◌, refl, ap₂}
use mathlib.Core.List.{List, [], ◌∷◌}
use mathlib.Core.Bool.{true, false≢true}
use lib.Dec.{eqb}
use borrow.Author.Tests.{eq-eqb, eqb-true}
use Rattle.lists.proofs.Booleans.{and_true_in, and_true_out}
use Rattle.automaton.specs.Automaton.{Rule}
use Rattle.stages.specs.Steps.{same_states, same_rule}

pub same_states_out : (qs rs : List ℕ) → same_states qs rs ≡ true → qs ≡ rs
unfolding same_states
same_states_out [] [] h = refl
same_states_out [] (r ∷ rs) h = absurd (false≢true h)
same_states_out (q ∷ qs) [] h = absurd (false≢true h)
same_states_out (q ∷ qs) (r ∷ rs) h =
    let s = and_true_out (eqb q r) (same_states qs rs) h in
    ap₂ ◌∷◌ (eqb-true q r s.0) (same_states_out qs rs s.1)

pub same_states_refl : (qs : List ℕ) → same_states qs qs ≡ true
unfolding same_states
same_states_refl [] = refl
same_states_refl (q ∷ qs) = and_true_in (eq-eqb q q refl) (same_states_refl qs)

pub same_rule_out : (u v : Rule) → same_rule u v ≡ true → u ≡ v
unfolding same_rule
same_rule_out u v h =
    let a = and_true_out (eqb u.symbol v.symbol) _ h in
    let b = and_true_out (eqb u.target v.target) (same_states u.children v.children) a.1 in
    let s : u.symbol ≡ v.symbol = eqb-true u.symbol v.symbol a.0 in
    let t : u.target ≡ v.target = eqb-true u.target v.target b.0 in
    let c : u.children ≡ v.children = same_states_out u.children v.children b.1 in
    λ i. record { symbol = s i; target = t i; children = c i }

pub same_rule_refl : (u : Rule) → same_rule u u ≡ true
unfolding same_rule
same_rule_refl u =
    and_true_in (eq-eqb u.symbol u.symbol refl)
    (and_true_in (eq-eqb u.target u.target refl) (same_states_refl u.children))

-- Why a rule stays: of the rules it may go for, all have its target, so that a search among these decides. For the functions that mark.
use Prim.Native.Nat.{ℕ, ◌<◌}
use mathlib.Core.Path.{◌≡◌, refl, ap, subst, ◌∙◌}
use mathlib.Core.List.Memᴰ
use mathlib.Core.List.{List, [], ◌∷◌, Memᴰ}
use mathlib.Core.Bool.{Bool, true, not, ◌&&◌}
use lib.ListN.{length, get_or}
use Rattle.std.proofs.lemmas.List.{get_or_read}
use lib.Dec.{eqb}
use lib.Pointwise.{pointwise}
use borrow.Author.Tests.{eq-eqb}
use Rattle.lists.specs.Lists.{from, any}
use Rattle.lists.proofs.Booleans.{and_true_in, and_true_out, same_bool}
use Rattle.lists.proofs.Search.{any_keep, any_same}
use Rattle.automaton.specs.Automaton.{Rule}
use Rattle.automaton.specs.Row.{rule_at, rules_of}
use Rattle.automaton.specs.declared.row.Row.{Row}
use Rattle.indexing.specs.Index.{keyed}
use Rattle.indexing.proofs.Indexing.{at_member, keyed_members, rules_long}
use Rattle.refinement.specs.Simulation.{Relation, matched_by}
use Rattle.stages.specs.Steps.{same_states, same_rule, dominated_by}
use Rattle.reduction.specs.Inner.{repeats, dominates, goes_at, stays}

-- Lists of states compared as `==` does.
pub same_compared : (qs rs : List ℕ) → pointwise eqb qs rs ≡ same_states qs rs
unfolding same_states
same_compared [] [] = refl
same_compared [] (r ∷ rs) = refl
same_compared (q ∷ qs) [] = refl
same_compared (q ∷ qs) (r ∷ rs) = rw (same_compared qs rs)

module _ (R : Relation) (u v : Rule) (before : Bool) (same : v.target ≡ u.target) where
  pub repeats_compared : repeats R u v before ≡ (before && (eqb v.symbol u.symbol && pointwise eqb v.children u.children))
  unfolding repeats same_rule
  repeats_compared = rw (eq-eqb v.target u.target same, same_compared v.children u.children)

  pub dominates_compared : dominates R u v before ≡ (matched_by R u v && not (pointwise eqb u.children v.children))
  unfolding dominates dominated_by
  dominates_compared = rw (same, eq-eqb u.target u.target refl, same_compared u.children v.children)

-- The numbers of the rules that have the target of rule i.
abbrev pub alike : List Rule → ℕ → List ℕ
alike rules i = keyed (λ (u : Rule). u.target) rules (rule_at rules i).target

pub alike_at : (rows : List Row) (i : ℕ) (numbers : List ℕ) → numbers ≡ alike (rules_of rows) i → (k j : ℕ) → k < length numbers
    → j ≡ get_or numbers k j → (j < length rows) × ((rule_at (rules_of rows) j).target ≡ (rule_at (rules_of rows) i).target)
alike_at rows i numbers e k j h is =
    let m : Memᴰ j (alike (rules_of rows) i) =
    subst (λ (xs : List ℕ). Memᴰ j xs) e (Memᴰ.cast (get_or_read numbers k j h is 0) (at_member numbers k h)) in
    let (low, same) = keyed_members (λ (u : Rule). u.target) (rules_of rows) (rule_at (rules_of rows) i).target j m in
    (rw rules_long at low, same)

pub alike_decide : (goes_for : Relation → Rule → Rule → Bool → Bool)
    → ((R : Relation) (u v : Rule) (before : Bool) → goes_for R u v before ≡ true → v.target ≡ u.target)
    → (R : Relation) (rules : List Rule) (i : ℕ) (numbers : List ℕ) → numbers ≡ alike rules i
    → not (any (goes_at goes_for R rules i) numbers) ≡ stays goes_for R rules i
unfolding keyed stays goes_at
alike_decide goes_for same_target R rules i numbers e =
    rw e (ap not (any_keep (goes_at goes_for R rules i) _ (from 0 (length rules))
    ∙ any_same _ _ 0 (length rules) (λ j a b. same_bool
    (λ h. (and_true_out (eqb (rule_at rules j).target (rule_at rules i).target) _ h).1)
    (λ h. and_true_in (eq-eqb (rule_at rules j).target (rule_at rules i).target (same_target R _ _ _ h)) h))))

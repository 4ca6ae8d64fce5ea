-- The loop of `narrow`: states are taken out of a row one after the other. The states that the loop has passed are judged, the others are as they
-- were.
use Prim.Native.Nat.{ℕ, ◌<◌}
use mathlib.Core.Path.{◌≡◌, refl, sym, ap, ◌∙◌}
use mathlib.Core.List.{List, [], ◌∷◌, ◌++◌}
use mathlib.Core.Bool.{Bool, true, false, not, ◌&&◌, ◌||◌, and-true, and-false, or-true, or-false}
use lib.Dec.{eqb}
use borrow.Author.Tests.{eqb-true}
use Rattle.lists.specs.Lists.{among, any}
use Rattle.lists.proofs.Booleans.{and_same}
use Rattle.sets.specs.Set.{member, without_state}
use Rattle.sets.specs.Inner.{Has}
use Rattle.sets.proofs.StateSets.{member_without, same_test}
use Rattle.sets.proofs.StateLoops.{among_more}

-- The states of a row that pass a test, or were not passed yet.
pub record Narrowed (test : ℕ → Bool) (row xs left : List ℕ) : Type 0 where
  pub has : Has left (λ (r : ℕ). member row r && (not (among xs r) || test r))

pub narrowed_none : (test : ℕ → Bool) (row : List ℕ) → Narrowed test row [] row
unfolding among any
narrowed_none test row = record { has = λ r h. sym (and-true (member row r)) }

module _ {test : ℕ → Bool} {row xs left : List ℕ} (n : Narrowed test row xs left) (q : ℕ) where
  pub narrowed_stays : test q ≡ true → Narrowed test row (xs ++ (q ∷ [])) left
  narrowed_stays is = record { has = λ r h. n.has r h ∙ ap (λ (t : Bool). member row r && t) (rw among_more (go r (eqb q r) refl)) }
    where
      go : (r : ℕ) (t : Bool) → eqb q r ≡ t → (not (among xs r) || test r) ≡ (not (among xs r || t) || test r)
      go r true e = rw (← eqb-true q r e, is, or-true (not (among xs q)), or-true (not (among xs q || true)))
      go r false e = rw or-false

  pub narrowed_out : test q ≡ false → Narrowed test row (xs ++ (q ∷ [])) (without_state left q)
  narrowed_out fails = record {
    has = λ r h. member_without left q r h ∙ rw (n.has r h, among_more, same_test r q q r sym sym) (go r (eqb q r) refl);
  }
    where
      go : (r : ℕ) (t : Bool) → eqb q r ≡ t
          → (not t && (member row r && (not (among xs r) || test r))) ≡ (member row r && (not (among xs r || t) || test r))
      go r true e = rw (← eqb-true q r e, fails, or-true, and-false)
      go r false e = rw or-false

-- All states of the row are passed.
pub narrowed_all : {test : ℕ → Bool} {row xs left : List ℕ} → Narrowed test row xs left → ((q : ℕ) → q < 256 → among xs q ≡ member row q)
    → Has left (λ (r : ℕ). member row r && test r)
narrowed_all {test} {row} n all r h = n.has r h ∙ and_same (member row r) (λ is. rw (all r h, is))

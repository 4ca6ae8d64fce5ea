-- The children of two rules, pair by pair: for the chain in `pairs`.
use Prim.Native.Nat.{ℕ}
use native.Mathlib.Omega.{arith}
use mathlib.Core.Path.{◌≡◌, refl, ap}
use mathlib.Core.List.{List, [], ◌∷◌}
use mathlib.Core.Bool.{Bool, false, ◌&&◌}
use lib.ListN.{length}
use Rattle.std.specs.List.{list_all, zip}
use Rattle.lists.proofs.Booleans.{and_false_right}
use Rattle.refinement.specs.Simulation.{Relation, related, paired}

pub paired_other : (R : Relation) (qs rs : List ℕ) → (length qs ≡ length rs → ⊥) → paired R qs rs ≡ false
unfolding paired
paired_other R [] [] d = absurd (d refl)
paired_other R [] (r ∷ rs) d = refl
paired_other R (q ∷ qs) [] d = refl
paired_other R (q ∷ qs) (r ∷ rs) d = and_false_right (related R q r) (paired_other R qs rs (λ e. d (omega arith)))

pub paired_zip : (R : Relation) (qs rs : List ℕ) → length qs ≡ length rs
    → list_all (λ (p : ℕ × ℕ). related R p.0 p.1) (zip qs rs) ≡ paired R qs rs
unfolding paired
paired_zip R [] [] e = refl
paired_zip R [] (r ∷ rs) e = absurd (omega arith)
paired_zip R (q ∷ qs) [] e = absurd (omega arith)
paired_zip R (q ∷ qs) (r ∷ rs) e = ap (λ (t : Bool). related R q r && t) (paired_zip R qs rs (omega arith))

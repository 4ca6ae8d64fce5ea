-- Lists related position by position, and simulations one after the other. By induction on the lists; for `Maximality` and for the steps of
-- reduction, which are simulations there and back.
use Prim.Native.Nat.{ℕ}
use mathlib.Core.Path.{refl, ◌∙◌}
use mathlib.Core.List.{List, [], ◌∷◌, Memᴰ}
use Rattle.automaton.specs.Automaton.{Rule}
use Rattle.refinement.specs.Simulation.{Each, none, also, Simulates}

pub each_map :
    {D E : ℕ → ℕ → Type 0} {qs rs : List ℕ} → Each D qs rs → ((q r : ℕ) → D q r → E q r) → Each E qs rs
each_map none f = none
each_map (also d ds) f = also (f _ _ d) (each_map ds f)

pub each_compose :
    {D E : ℕ → ℕ → Type 0} {qs ss rs : List ℕ} → Each D qs ss → Each E ss rs →
    Each (λ (q r : ℕ). (s : ℕ) × D q s × E s r) qs rs
each_compose none none = none
each_compose (also d ds) (also e es) = also (_, d, e) (each_compose ds es)

pub each_refl : {D : ℕ → ℕ → Type 0} {qs : List ℕ} → ((q : ℕ) → Memᴰ q qs → D q q) → Each D qs qs
each_refl {qs = []} f = none
each_refl {qs = q ∷ qs} f = also (f q (Memᴰ.head refl)) (each_refl (λ p m. f p (Memᴰ.tail m)))

pub simulates_compose :
    (P Q R : List Rule) (D E : ℕ → ℕ → Type 0) → Simulates P Q D → Simulates Q R E →
    Simulates P R (λ (q r : ℕ). (s : ℕ) × D q s × E s r)
unfolding Simulates
simulates_compose P Q R D E f g q r (s, d, e) u m at-q =
    let v = f q s d u m at-q in
    let w = g s r e v.rule v.is_rule v.target in
    record {
      rule = w.rule;
      is_rule = w.is_rule;
      target = w.target;
      symbol = v.symbol ∙ w.symbol;
      children = each_compose v.children w.children;
    }

-- The two-byte numbers of some bytes, as an iterator over their chunks gives them: in a chain and in a loop. From the laws of fields; for the proofs of
-- the functions that judge and decode.
use Prim.Native.Nat.{ℕ, ◌<◌}
use native.Mathlib.Omega.{arith}
use mathlib.Core.Path.{◌≡◌, refl, ap, ◌∙◌}
use mathlib.Core.List.{List, [], ◌∷◌, ◌++◌}
use mathlib.Core.Bool.{Bool, ◌&&◌}
use lib.ListN.{length}
use denote.Ref.{Bor}
use Rattle.std.specs.Prelude.{Some, None}
use Rattle.std.specs.List.{list_all}
use Rattle.std.specs.declared.slice.ChunksExact.{ChunksExact}
use Rattle.std.specs.Slice.Iter.{chunks_exact_rest, chunks_exact_size, chunks_exact_steps}
use Rattle.std.proofs.lemmas.Iterator.{YieldsList}
use Rattle.std.proofs.lemmas.Iterator.Splits.{YieldsList-from_shown_while}
use Rattle.lists.specs.Lists.{all}
use Rattle.records.specs.Bytes.{number2, numbers}

-- A test of all elements, in the library's words and in those of specs/.
pub all_same : {A : Type 0} (test : A → Bool) (xs : List A) → list_all test xs ≡ all test xs
unfolding all
all_same test [] = refl
all_same test (x ∷ xs) = ap (λ (t : Bool). test x && t) (all_same test xs)

few : (b : List ℕ) → length b < 2 → numbers b ≡ []
unfolding numbers
few [] h = refl
few (x ∷ []) h = refl
few (x ∷ (y ∷ b)) h = absurd (omega arith)

pub pair : (p b : List ℕ) → length p ≡ 2 → numbers (p ++ b) ≡ number2 p ∷ numbers b
unfolding numbers number2
pair [] b h = absurd (omega arith)
pair (x ∷ []) b h = absurd (omega arith)
pair (x ∷ (y ∷ [])) b h = refl
pair (x ∷ (y ∷ (z ∷ p))) b h = absurd (omega arith)

-- One turn of a loop over the chunks: the next number, or the end.
module _ (s t : ChunksExact ℕ) (two : chunks_exact_size s ≡ 2) where
  pub next_number : (q : Bor (List ℕ)) → chunks_exact_steps s (Some q) t
      → (chunks_exact_size t ≡ 2) × (numbers (chunks_exact_rest s) ≡ number2 q.now ∷ numbers (chunks_exact_rest t))
  next_number q h = (h.0 ∙ two, rw h.1.0 (pair q.now (chunks_exact_rest t) (h.1.1 ∙ two)))

  pub no_number : chunks_exact_steps s None t → numbers (chunks_exact_rest s) ≡ []
  no_number h = few (chunks_exact_rest s) (omega (arith, h.1.0, two))

-- All of them.
pub numbers_yielded : {s : ChunksExact ℕ} (b : List ℕ) → chunks_exact_rest s ≡ b → chunks_exact_size s ≡ 2
    → YieldsList chunks_exact_steps (λ (q : Bor (List ℕ)). number2 q.now) s (numbers b)
numbers_yielded {s} b rest two =
    rw (← rest)
    (YieldsList-from_shown_while chunks_exact_steps (λ (q : Bor (List ℕ)). number2 q.now) (λ (u : ChunksExact ℕ). numbers (chunks_exact_rest u))
    (λ (u : ChunksExact ℕ). chunks_exact_size u ≡ 2) (λ u t h e. ap length (no_number u t h e)) (λ u q t h e. next_number u t h q e) s two)

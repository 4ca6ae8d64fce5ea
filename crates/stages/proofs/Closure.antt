-- A closure is the least set of the states that its test does not enlarge: each time keeps more of the same list, so it ends in time. From
-- what a weaker test keeps (`Dominance`); for steps 1 and 5 (`Trimming`, `Restricting`) and the code that finds these states.
use Prim.Native.Nat.{ℕ, zero, suc, ◌≤◌, ◌<◌}
use native.Mathlib.Omega.{arith}
use mathlib.Core.Path.{◌≡◌, refl, ap}
use mathlib.Core.Logic.{◌⊎◌, inl, inr}
use mathlib.Core.List.Memᴰ
use mathlib.Core.List.{List, [], ◌∷◌, Memᴰ}
use mathlib.Core.Bool.{Bool, true}
use lib.ListN.{length}
use Rattle.lists.specs.Lists.{Rising, empty, keep}
use Rattle.lists.proofs.Keeping.{keep_in, keep_out, keep_shorter}
use Rattle.lists.proofs.Dominance.{keep_grows}
use Rattle.lists.proofs.Rising.{rising_keep}
use Rattle.stages.specs.Steps.{found_in, closure}

-- With more states found before, the test finds no fewer.
unfoldable pub Monotone : (List ℕ → ℕ → Bool) → Type 0
Monotone test =
    (xs ys : List ℕ) → ((p : ℕ) → Memᴰ p xs → Memᴰ p ys) → (q : ℕ) → test xs q ≡ true → test ys q ≡ true

module _ (test : List ℕ → ℕ → Bool) (states : List ℕ) where
  found_least : (P : ℕ → Type 0)
      → ((earlier : List ℕ) → ((p : ℕ) → Memᴰ p earlier → P p) → (q : ℕ) → Memᴰ q states → test earlier q ≡ true → P q)
      → (times q : ℕ) → Memᴰ q (found_in test states times) → P q
  unfolding found_in
  found_least P step zero q m = absurd (Memᴰ.not-nil m)
  found_least P step (suc times) q m =
      let earlier : List ℕ = found_in test states times in
      let k = keep_out (test earlier) states m in
      step earlier (found_least P step times) q k.0 k.1

  pub closure_least : (P : ℕ → Type 0)
      → ((earlier : List ℕ) → ((p : ℕ) → Memᴰ p earlier → P p) → (q : ℕ) → Memᴰ q states → test earlier q ≡ true → P q)
      → (q : ℕ) → Memᴰ q (closure test states) → P q
  unfolding closure
  closure_least P step = found_least P step (length states)

  pub closure_states : (q : ℕ) → Memᴰ q (closure test states) → Memᴰ q states
  closure_states = closure_least (λ (q : ℕ). Memᴰ q states) (λ earlier h q m e. m)

  found_rising : Rising states → (times : ℕ) → Rising (found_in test states times)
  unfolding found_in
  found_rising r zero = empty
  found_rising r (suc times) = rising_keep (test (found_in test states times)) r

  pub closure_rising : Rising states → Rising (closure test states)
  unfolding closure
  closure_rising r = found_rising r (length states)

  module _ (monotone : Monotone test) where
    found_later : (m n : ℕ) → m ≤ n → (q : ℕ) → Memᴰ q (found_in test states m) → Memᴰ q (found_in test states n)
    unfolding found_in Monotone
    found_later zero n l q k = absurd (Memᴰ.not-nil k)
    found_later (suc m) zero l q k = absurd (omega arith)
    found_later (suc m) (suc n) l q k =
        let h = keep_out (test (found_in test states m)) states k in
        keep_in (test (found_in test states n)) h.0
        (monotone (found_in test states m) (found_in test states n) (found_later m n (omega arith)) q h.1)

    -- Either a time adds nothing, or each time up to it has added a state.
    settled_or_long : (n : ℕ) → (found_in test states (suc n) ≡ found_in test states n) ⊎ (n < length (found_in test states (suc n)))
    unfolding found_in Monotone
    settled_or_long zero = first (keep (test []) states)
      where
        first : (xs : List ℕ) → (xs ≡ []) ⊎ (0 < length xs)
        first [] = inl refl
        first (x ∷ xs) = inr (omega arith)
    settled_or_long (suc n) = go (settled_or_long n) (keep_grows (test before) (test now) states
        (λ q m. monotone before now (found_later n (suc n) (omega arith)) q))
      where
        before : List ℕ
        before = found_in test states n

        now : List ℕ
        now = keep (test before) states

        after : List ℕ
        after = keep (test now) states

        go : (now ≡ before) ⊎ (n < length now) → (after ≡ now) ⊎ (length now < length after)
            → (after ≡ now) ⊎ (suc n < length after)
        go (inl e) r = inl (ap (λ (xs : List ℕ). keep (test xs) states) e)
        go (inr l) (inl e) = inl e
        go (inr l) (inr m) = inr (omega arith)

    closure_fixed : keep (test (closure test states)) states ≡ closure test states
    unfolding closure found_in
    closure_fixed = go (settled_or_long (length states))
      where
        earlier : List ℕ
        earlier = found_in test states (length states)

        go : (keep (test earlier) states ≡ earlier) ⊎ (length states < length (keep (test earlier) states)) → keep (test earlier) states ≡ earlier
        go (inl e) = e
        go (inr l) = absurd (omega (arith, keep_shorter (test earlier) states))

    pub closure_closed : (q : ℕ) → Memᴰ q states → test (closure test states) q ≡ true → Memᴰ q (closure test states)
    closure_closed q m h = rw closure_fixed at (keep_in (test (closure test states)) m h)

    pub closure_found : (times : ℕ) → length states ≤ times
        → (q : ℕ) → Memᴰ q (closure test states) → Memᴰ q (found_in test states times)
    unfolding closure
    closure_found times = found_later (length states) times

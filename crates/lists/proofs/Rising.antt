-- Rising lists: their parts, what is kept of them, the test for them, their length, and that their members determine them. By induction on the list;
-- used for final states and for ranges of states.
use Prim.Native.Nat.{ℕ, ◌+◌, ◌≤◌, ◌<◌}
use native.Mathlib.Omega.{arith}
use mathlib.Core.Path.{◌≡◌, refl, sym, ap₂}
use mathlib.Core.List.Memᴰ
use mathlib.Core.List.{List, [], ◌∷◌, ◌++◌, Memᴰ}
use mathlib.Core.Bool.{Bool, true, false, cond}
use lib.ListN.{length}
use lib.Dec.{ltb}
use borrow.Author.Tests.{ltb-true, lt-ltb}
use Rattle.lists.specs.Lists.{All, also, Rising, empty, single, step, rising, keep}
use Rattle.lists.proofs.Booleans.{and_true_out}
use Rattle.lists.proofs.Keeping.{keep_out}

pub rising_rest : {x : ℕ} {xs : List ℕ} → Rising (x ∷ xs) → Rising xs
rising_rest single = empty
rising_rest (step h r) = r

pub rising_above : {x q : ℕ} {xs : List ℕ} → Rising (x ∷ xs) → Memᴰ q xs → x < q
rising_above single m = absurd (Memᴰ.not-nil m)
rising_above (step {b = b} h r) (Memᴰ.head e) = omega arith
rising_above (step {b = b} h r) (Memᴰ.tail m) = let l = rising_above r m in omega arith

pub rising_add : {x : ℕ} {xs : List ℕ} → ((q : ℕ) → Memᴰ q xs → x < q) → Rising xs → Rising (x ∷ xs)
rising_add {xs = []} h r = single
rising_add {xs = y ∷ ys} h r = step (h y (Memᴰ.head refl)) r

-- The parts of a rising list around one of its elements.
pub rising_part : (xs : List ℕ) {ys : List ℕ} → Rising (xs ++ ys) → Rising ys
rising_part [] r = r
rising_part (x ∷ xs) r = rising_part xs (rising_rest r)

pub rising_before : (q : ℕ) (ys : List ℕ) {p : ℕ} {xs : List ℕ} → Rising (xs ++ (q ∷ ys)) → Memᴰ p xs → p < q
rising_before q ys r (Memᴰ.head {xs = xs} e) = let h = rising_above r (behind xs) in omega arith
  where
    behind : (zs : List ℕ) → Memᴰ q (zs ++ (q ∷ ys))
    behind [] = Memᴰ.head refl
    behind (z ∷ zs) = Memᴰ.tail (behind zs)
rising_before q ys r (Memᴰ.tail m) = rising_before q ys (rising_rest r) m

pub rising_keep : (test : ℕ → Bool) {xs : List ℕ} → Rising xs → Rising (keep test xs)
unfolding keep
rising_keep test {xs = []} r = empty
rising_keep test {xs = x ∷ xs} r = go (test x) (rising_keep test (rising_rest r))
  where
    go : (t : Bool) → Rising (keep test xs) → Rising (cond t (x ∷ keep test xs) (keep test xs))
    go true k = rising_add (λ q m. rising_above r (keep_out test xs m).0) k
    go false k = k

-- A rising list is determined by its members.
pub rising_same : (xs ys : List ℕ) → Rising xs → Rising ys → ((q : ℕ) → Memᴰ q xs → Memᴰ q ys)
    → ((q : ℕ) → Memᴰ q ys → Memᴰ q xs) → xs ≡ ys
rising_same [] [] a b f g = refl
rising_same [] (y ∷ ys) a b f g = absurd (Memᴰ.not-nil (g y (Memᴰ.head refl)))
rising_same (x ∷ xs) [] a b f g = absurd (Memᴰ.not-nil (f x (Memᴰ.head refl)))
rising_same (x ∷ xs) (y ∷ ys) a b f g =
    let e : x ≡ y = first (f x (Memᴰ.head refl)) (g y (Memᴰ.head refl)) in
    ap₂ ◌∷◌ e (rising_same xs ys (rising_rest a) (rising_rest b)
    (λ q m. other (rising_above a m) e (f q (Memᴰ.tail m)))
    (λ q m. other (rising_above b m) (sym e) (g q (Memᴰ.tail m))))
  where
    first : Memᴰ x (y ∷ ys) → Memᴰ y (x ∷ xs) → x ≡ y
    first (Memᴰ.head e) n = e
    first (Memᴰ.tail m) (Memᴰ.head e) = sym e
    first (Memᴰ.tail m) (Memᴰ.tail n) =
        let h = rising_above b m in let k = rising_above a n in absurd (omega arith)

    other : {p q r : ℕ} {zs : List ℕ} → p < q → p ≡ r → Memᴰ q (r ∷ zs) → Memᴰ q zs
    other l e (Memᴰ.head f) = absurd (omega arith)
    other l e (Memᴰ.tail m) = m

pub rising→Rising : (xs : List ℕ) → rising xs ≡ true → Rising xs
unfolding rising
rising→Rising [] h = empty
rising→Rising (a ∷ []) h = single
rising→Rising (a ∷ (b ∷ xs)) h =
    let c = and_true_out (ltb a b) (rising (b ∷ xs)) h in step (ltb-true a b c.0) (rising→Rising (b ∷ xs) c.1)

pub Rising→rising : {xs : List ℕ} → Rising xs → rising xs ≡ true
unfolding rising
Rising→rising empty = refl
Rising→rising single = refl
Rising→rising (step h r) = rw (lt-ltb _ _ h) (Rising→rising r)

rising_count : {n a : ℕ} {xs : List ℕ} → Rising (a ∷ xs) → All (λ (q : ℕ). q < n) (a ∷ xs) → a + length (a ∷ xs) ≤ n
rising_count single (also h hs) = omega arith
rising_count (step l r) (also h hs) = omega (arith, rising_count r hs)

-- Of the numbers below n there are at most n.
pub rising_length : {n : ℕ} {xs : List ℕ} → Rising xs → All (λ (q : ℕ). q < n) xs → length xs ≤ n
rising_length {xs = []} r hs = omega arith
rising_length {xs = x ∷ xs} r hs = omega (arith, rising_count r hs)

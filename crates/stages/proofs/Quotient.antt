-- Step 3: equivalent states have the same representative, so ≤ is antisymmetric on the representatives, and a stage carries over to its
-- quotient: a state goes into its representative, and a representative back to each state above it. From the laws of ≤ (`Maximality`); for
-- `Agreement`, `Fixpoint` and the reduction's steps.
use Prim.Native.Nat.{ℕ, ◌≤◌}
use native.Mathlib.Omega.{arith}
use mathlib.Core.Path.{◌≡◌, refl, sym, ap, ◌∙◌}
use mathlib.Core.List.Memᴰ
use mathlib.Core.List.{List, ◌∷◌, map, Memᴰ, []}
use mathlib.Core.Bool.{Bool, true, false, cond}
use lib.Dec.{eqb}
use borrow.Author.Tests.{eq-eqb, eqb-true}
use Rattle.lists.specs.Lists.{Rising, Distinct, from, any}
use Rattle.lists.proofs.Keeping.{keep_in, keep_out, all_keep}
use Rattle.lists.proofs.Booleans.{and_true_in, and_true_out}
use Rattle.lists.proofs.Search.{any_in, any_out}
use Rattle.lists.proofs.Ranges.{from_rising, from_member}
use Rattle.lists.proofs.Elements.{all_member}
use Rattle.lists.proofs.Rising.{rising_rest, rising_above, rising_keep}
use Rattle.automaton.specs.Automaton.{Rule, renamed}
use Rattle.refinement.specs.Simulation.{Matched, Simulates, related}
use Rattle.refinement.proofs.Maximality as maximality
use Rattle.refinement.proofs.Refinement.{Within}
use Rattle.refinement.proofs.Maximality.{Closed}
use Rattle.refinement.proofs.Simulations.{each_map, each_compose, simulates_compose}
use Rattle.stages.specs.Steps.{Stage, below, equivalent, first_of, representative, quotient}
use Rattle.stages.specs.Inner.{Sound}
use Rattle.stages.proofs.Carrying.{Carries, Orders, renamed_simulates, each_named, simulates_same, simulates_inside}
use Rattle.stages.proofs.Firsts.{firsts_in, firsts_out, firsts_distinct}

-- The first state that passes a test.

first_found : (test : ℕ → Bool) {q : ℕ} {qs : List ℕ} → Memᴰ q qs → test q ≡ true
    → Memᴰ (first_of test qs) qs × (test (first_of test qs) ≡ true)
unfolding first_of
first_found test (Memᴰ.head {x = x} e) h =
    let passes : test x ≡ true = ap test (sym e) ∙ h in rw passes (Memᴰ.head refl, passes)
first_found test (Memᴰ.tail {x = x} {xs = xs} m) h = go (test x) refl (first_found test m h)
  where
    go : (t : Bool) → test x ≡ t → Memᴰ (first_of test xs) xs × (test (first_of test xs) ≡ true)
        → Memᴰ (cond t x (first_of test xs)) (x ∷ xs) × (test (cond t x (first_of test xs)) ≡ true)
    go true e r = (Memᴰ.head refl, e)
    go false e r = (Memᴰ.tail r.0, r.1)

first_least : (test : ℕ → Bool) {q : ℕ} {qs : List ℕ} → Rising qs → Memᴰ q qs → test q ≡ true → first_of test qs ≤ q
unfolding first_of
first_least test {qs = []} rising m h = elim m [ ]
first_least test {q = q} {qs = x ∷ xs} rising (Memᴰ.head e) h = let passes : test x ≡ true = ap test (sym e) ∙ h in rw passes (omega arith)
first_least test {q = q} {qs = x ∷ xs} rising (Memᴰ.tail m) h = go (test x) (first_least test (rising_rest rising) m h)
  where
    go : (t : Bool) → first_of test xs ≤ q → cond t x (first_of test xs) ≤ q
    go true l = let above = rising_above rising m in omega arith
    go false l = l

-- The block of a state, by its representative; how the quotient tells its states and its final states.
abbrev block_of : Stage → ℕ → ℕ
block_of S = representative (below S) S.states

abbrev is_block : Stage → ℕ → Bool
is_block S q = eqb (block_of S q) q

abbrev is_final_block : Stage → ℕ → Bool
is_final_block S q = any (λ (f : ℕ). eqb (block_of S f) q) S.finals

module _ (S : Stage) (sound : Sound S) where
  -- ≤.

  states_closed : Closed S.rules S.states
  unfolding Closed
  states_closed u m t = sound.children u m

  below_states : (q r : ℕ) → Within (below S) q r → Memᴰ q S.states × Memᴰ r S.states
  unfolding below
  below_states = maximality.relation_states S.rules S.states

  pub below_reflexive : (q : ℕ) → Memᴰ q S.states → Within (below S) q q
  unfolding below
  below_reflexive = maximality.relation_reflexive S.rules S.states states_closed

  pub below_transitive : (q r s : ℕ) → Within (below S) q r → Within (below S) r s → Within (below S) q s
  unfolding below
  below_transitive = maximality.relation_transitive S.rules S.states

  pub below_simulates : Simulates S.rules S.rules (Within (below S))
  unfolding below
  below_simulates = maximality.relation_simulates S.rules S.states

  pub below_largest : (D : ℕ → ℕ → Type 0) → Simulates S.rules S.rules D
      → ((q r : ℕ) → D q r → Memᴰ q S.states × Memᴰ r S.states) → (q r : ℕ) → D q r → Within (below S) q r
  unfolding below
  below_largest = maximality.relation_largest S.rules S.states

  -- Representatives.

  representative_found : (q : ℕ) → Memᴰ q S.states
      → Memᴰ (block_of S q) S.states × (Within (below S) q (block_of S q) × Within (below S) (block_of S q) q)
  unfolding representative equivalent
  representative_found q m =
      let r = below_reflexive q m in
      let (n, e) = first_found (equivalent (below S) q) m (and_true_in r r) in (n, and_true_out (related (below S) q _) _ e)

  pub representative_below : (q : ℕ) → Memᴰ q S.states → Within (below S) (representative (below S) S.states q) q
  representative_below q m = (representative_found q m).1.1

  pub below_representative : (q : ℕ) → Memᴰ q S.states → Within (below S) q (representative (below S) S.states q)
  below_representative q m = (representative_found q m).1.0

  pub representative_least : (q r : ℕ) → Memᴰ r S.states → Within (below S) q r → Within (below S) r q
      → representative (below S) S.states q ≤ r
  unfolding representative equivalent
  representative_least q r m h k = first_least (equivalent (below S) q) sound.rising m (and_true_in h k)

  -- The representative is the first equivalent number below 256, since no other number is related to a state.
  pub first_same : (q : ℕ) → Memᴰ q S.states
      → first_of (equivalent (below S) q) (from 0 256) ≡ representative (below S) S.states q
  unfolding representative equivalent
  first_same q m =
      let test : ℕ → Bool = equivalent (below S) q in
      let r = below_reflexive q m in
      let all_low : (p : ℕ) → Memᴰ p S.states → Memᴰ p (from 0 256) =
      λ p n. let h = all_member sound.low n in from_member 256 0 p (omega arith) (omega arith) in
      let a = first_found test m (and_true_in r r) in
      let b = first_found test (all_low q m) (and_true_in r r) in
      let inside = (below_states q _ (and_true_out (related (below S) q (first_of test (from 0 256))) _ b.1).0).1 in
      let up = first_least test (from_rising 0 256) (all_low _ a.0) a.1 in
      let down = first_least test sound.rising inside b.1 in
      omega arith

  same_representative : (q r : ℕ) → Within (below S) q r → Within (below S) r q → block_of S q ≡ block_of S r
  same_representative q r h k = omega (arith, no_less q r h k, no_less r q k h)
    where
      no_less : (q r : ℕ) → Within (below S) q r → Within (below S) r q → block_of S q ≤ block_of S r
      no_less q r h k =
          let (m, (up, down)) = representative_found r (below_states q r h).1 in
          representative_least q (block_of S r) m (below_transitive q r _ h up) (below_transitive _ r q down k)

  pub representative_state : (q : ℕ) → Memᴰ q S.states
      → Memᴰ (representative (below S) S.states q) (quotient (below S) S).states
  unfolding quotient
  representative_state q m =
      keep_in (is_block S) (representative_found q m).0
      (eq-eqb (block_of S (block_of S q)) (block_of S q) (same_representative (block_of S q) q (representative_below q m) (below_representative q m)))

  representative_self : (p : ℕ) → Memᴰ p (quotient (below S) S).states → representative (below S) S.states p ≡ p
  unfolding quotient
  representative_self p m = eqb-true (block_of S p) p (keep_out (is_block S) S.states m).1

  pub quotient_states : (p : ℕ) → Memᴰ p (quotient (below S) S).states → Memᴰ p S.states
  unfolding quotient
  quotient_states p m = (keep_out (is_block S) S.states m).0

  -- Final states.

  pub final_representative : (f : ℕ) → Memᴰ f S.finals
      → Memᴰ (representative (below S) S.states f) (quotient (below S) S).finals
  unfolding quotient
  final_representative f m =
      keep_in (is_final_block S) (representative_found f (sound.finals f m)).0
      (any_in (λ (g : ℕ). eqb (block_of S g) (block_of S f)) m (eq-eqb (block_of S f) (block_of S f) refl))

  pub representative_final : (p : ℕ) → Memᴰ p (quotient (below S) S).finals
      → (f : ℕ) × Memᴰ f S.finals × (representative (below S) S.states f ≡ p)
  unfolding quotient
  representative_final p m =
      let s = any_out (λ (f : ℕ). eqb (block_of S f) p) S.finals (keep_out (is_final_block S) S.states m).1 in
      (s.element, s.member, eqb-true (block_of S s.element) p s.passes)

  -- Rules.

  rule_in_lem : (u : Rule) → Memᴰ u S.rules → Memᴰ (renamed (block_of S) u) (quotient (below S) S).rules
  unfolding quotient
  rule_in_lem u m = firsts_in (map (renamed (block_of S)) S.rules) (Memᴰ.map (renamed (block_of S)) m)

  rule_out : (w : Rule) → Memᴰ w (quotient (below S) S).rules → (u : Rule) × Memᴰ u S.rules × (renamed (block_of S) u ≡ w)
  unfolding quotient
  rule_out w m = Memᴰ.of_map (renamed (block_of S)) S.rules (firsts_out (map (renamed (block_of S)) S.rules) m)

  pub quotient_distinct : Distinct (quotient (below S) S).rules
  unfolding quotient
  quotient_distinct = firsts_distinct (map (renamed (block_of S)) S.rules)

  pub quotient_sound : Sound (quotient (below S) S)
  unfolding quotient renamed
  quotient_sound =
      record {
        rising = rising_keep (is_block S) sound.rising;
        low = all_keep (is_block S) sound.low;
        finals_rising = rising_keep (is_final_block S) sound.rising;
        finals = λ q m.
            let (f, n, e) = representative_final q m in Memᴰ.cast (sym e) (representative_state f (sound.finals f n));
        targets = λ w m.
            let (u, n, e) = rule_out w m in
            Memᴰ.cast (ap (λ (v : Rule). v.target) (sym e)) (representative_state u.target (sound.targets u n));
        children = λ w m q c.
            let (u, n, e) = rule_out w m in
            let (p, k, f) = Memᴰ.of_map (block_of S) u.children (rw (← e) at c) in
            Memᴰ.cast (sym f) (representative_state p (sound.children u n p k));
      }

  into_quotient : Simulates S.rules (quotient (below S) S).rules (λ (q p : ℕ). p ≡ block_of S q)
  into_quotient = renamed_simulates (block_of S) S.rules (quotient (below S) S).rules rule_in_lem

  back_quotient : Simulates (quotient (below S) S).rules S.rules (Within (below S))
  unfolding Simulates renamed
  back_quotient p q h w m e =
      let (u, n, f) = rule_out w m in
      let above : Within (below S) u.target (block_of S u.target) = below_representative u.target (sound.targets u n) in
      let t : block_of S u.target ≡ p = ap (λ (v : Rule). v.target) f ∙ e in
      let v = below_simulates u.target q (below_transitive u.target p q (rw t at above) h) u n refl in
      let answer : Matched (Within (below S)) S.rules q (renamed (block_of S) u) = record {
        rule = v.rule;
        is_rule = v.is_rule;
        target = v.target;
        symbol = v.symbol;
        children = each_map
            (each_compose (each_named (block_of S) u.children (λ c k. representative_below c (sound.children u n c k))) v.children)
            (λ c d (s, a, b). below_transitive c s d a b);
      } in
      rw f at answer

  pub quotient_carries : Carries (λ (q : ℕ). q) S (quotient (below S) S)
  quotient_carries =
      record {
        into = λ q p. p ≡ block_of S q;
        back = Within (below S);
        into_simulates = into_quotient;
        back_simulates = back_quotient;
        final_into = λ f m. (block_of S f, final_representative f m, refl);
        final_back = λ p m.
            let (f, n, e) = representative_final p m in (f, n, rw e at (representative_below f (sound.finals f n)));
        origin_state = quotient_states;
        origin_into = λ p m. sym (representative_self p m);
        origin_back = λ p m. below_reflexive p (quotient_states p m);
        origin_injective = λ p q m n e. e;
      }

  pub quotient_ordered : Orders (below S) (quotient (below S) S)
  quotient_ordered =
      let Q = quotient (below S) S in
      record {
        reflexive = λ p m. below_reflexive p (quotient_states p m);
        transitive = below_transitive;
        antisymmetric = λ p q m n h k. sym (representative_self p m) ∙ same_representative p q h k ∙ representative_self q n;
        simulates = simulates_same Q.rules Q.rules _ _
            (simulates_inside Q quotient_sound _ (simulates_compose Q.rules S.rules Q.rules (Within (below S)) _ back_quotient into_quotient))
            (λ p q (m, n, (s, h, e)). (m, n, rw e (below_transitive p s _ h (below_representative s (below_states p s h).1))))
            (λ p q (m, n, h). (m, n, (q, h, sym (representative_self q n))));
      }

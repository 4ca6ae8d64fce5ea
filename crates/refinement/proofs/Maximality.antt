-- The relation is the largest simulation on the states: a simulation stays within every round. Its rounds are bounded. From `Refinement`; for
-- the theorems on the preorder and for the steps of reduction.
use Prim.Native.Nat.{ℕ, zero, suc, ◌+◌, ◌*◌, ◌-◌, ◌≤◌}
use mathlib.Core.Path.{◌≡◌, refl, sym, ◌∙◌}
use mathlib.Core.List.Memᴰ
use mathlib.Core.List.{List, [], ◌∷◌, map, Memᴰ}
use mathlib.Core.Bool.{Bool, true}
use native.Mathlib.Nat.{zero-mul, suc-mul, mul-suc}
use native.Mathlib.Omega.{arith}
use lib.ListN.{length, length-append, length-map}
use lib.Dec.{eqb}
use borrow.Author.Tests.{eq-eqb, eqb-true}
use Rattle.lists.specs.Lists.{keep}
use Rattle.lists.proofs.Keeping.{keep_append, keep_map, keep_both, keep_agree, keep_in, keep_shorter}
use Rattle.lists.proofs.Booleans.{and_true_in, and_true_out, same_bool}
use Rattle.automaton.specs.Automaton.{Rule}
use Rattle.refinement.specs.Simulation.{Matched, Simulates, Relation, survives, refine, all_pairs, relation_at, rounds, relation}
use Rattle.refinement.proofs.Refinement.{Within, related_member, member_related, pair_member, member_pair, refine_related}
use Rattle.refinement.proofs.Refinement.{refine_out, survives_matched, matched_survives, refine_shorter, refine_all, rounds_fixed}
use Rattle.refinement.proofs.Refinement.{rounds_least}
use Rattle.refinement.proofs.Simulations.{each_map, each_refl, simulates_compose}

pub matched_map : {D E : ℕ → ℕ → Type 0} {rules : List Rule} {r : ℕ} {u : Rule}
    → ((q s : ℕ) → D q s → E q s) → Matched D rules r u → Matched E rules r u
matched_map f a =
    record {
      rule = a.rule;
      is_rule = a.is_rule;
      target = a.target;
      symbol = a.symbol;
      children = each_map a.children f;
    }

-- Each rule of a state has its children among the states.
unfoldable pub Closed : List Rule → List ℕ → Type 0
Closed rules states =
    (u : Rule) → Memᴰ u rules → Memᴰ u.target states
    → (q : ℕ) → Memᴰ q u.children → Memᴰ q states

abbrev Same : List ℕ → ℕ → ℕ → Type 0
Same states q r = (q ≡ r) × Memᴰ q states

module _ (rules : List Rule) (states : List ℕ) where
  same_simulates : Closed rules states → Simulates rules rules (Same states)
  unfolding Closed Simulates
  same_simulates closed q r d u m e =
      record {
        rule = u;
        is_rule = m;
        target = e ∙ d.0;
        symbol = refl;
        children = each_refl (λ p n. (refl, closed u m (Memᴰ.cast e d.1) p n));
      }

  within_round : (D : ℕ → ℕ → Type 0) → Simulates rules rules D
      → ((q r : ℕ) → D q r → Memᴰ q states × Memᴰ r states)
      → (j q r : ℕ) → D q r → Within (relation_at rules states j) q r
  unfolding relation_at Simulates
  within_round D simulates inside zero q r d = let s = inside q r d in member_related (pair_member s.0 s.1)
  within_round D simulates inside (suc j) q r d =
      refine_related rules (relation_at rules states j) q r
      ∙ and_true_in (within_round D simulates inside j q r d)
      (matched_survives rules (relation_at rules states j) q r
      (λ u m e. matched_map (within_round D simulates inside j) (simulates q r d u m e)))

  same_round : Closed rules states → (j q r : ℕ) → Same states q r → Within (relation_at rules states j) q r
  same_round closed =
      within_round (Same states) (same_simulates closed) (λ q r d. (d.1, Memᴰ.cast (sym d.0) d.1))

  round_states : (j q r : ℕ) → Within (relation_at rules states j) q r → Memᴰ q states × Memᴰ r states
  unfolding relation_at
  round_states zero q r e = member_pair states states (related_member (all_pairs states states) q r e)
  round_states (suc j) q r e = round_states j q r (refine_out rules (relation_at rules states j) q r e).0

  relation_fixed : refine rules (relation rules states) ≡ relation rules states
  unfolding relation relation_at
  relation_fixed = rounds_fixed rules states

  pub relation_simulates : Simulates rules rules (Within (relation rules states))
  unfolding Simulates
  relation_simulates q r e =
      let R = relation rules states in survives_matched rules R q r (refine_out rules R q r (rw relation_fixed e)).1

  pub relation_largest : (D : ℕ → ℕ → Type 0) → Simulates rules rules D
      → ((q r : ℕ) → D q r → Memᴰ q states × Memᴰ r states)
      → (q r : ℕ) → D q r → Within (relation rules states) q r
  unfolding relation
  relation_largest D simulates inside q r d =
      within_round D simulates inside (rounds rules states) q r d

  pub relation_states : (q r : ℕ) → Within (relation rules states) q r → Memᴰ q states × Memᴰ r states
  unfolding relation
  relation_states q r e = round_states (rounds rules states) q r e

  pub relation_reflexive : Closed rules states → (q : ℕ) → Memᴰ q states → Within (relation rules states) q q
  unfolding relation
  relation_reflexive closed q m =
      same_round closed (rounds rules states) q q (refl, m)

  pub relation_transitive : (q r s : ℕ) → Within (relation rules states) q r → Within (relation rules states) r s
      → Within (relation rules states) q s
  relation_transitive q r s h k =
      let R = relation rules states in
      relation_largest (λ (p t : ℕ). (o : ℕ) × Within R p o × Within R o t)
      (simulates_compose rules rules rules (Within R) (Within R) relation_simulates relation_simulates)
      (λ a c d. ((relation_states a d.0 d.1).0, (relation_states d.0 c d.2).1)) q s (r, h, k)

-- The number of rounds.

length_pairs : (qs rs : List ℕ) → length (all_pairs qs rs) ≡ length qs * length rs
unfolding all_pairs
length_pairs [] rs = sym (zero-mul (length rs))
length_pairs (q ∷ qs) rs =
    simp (length-append, length-map) (omega (arith, suc-mul (length qs) (length rs), length_pairs qs rs))

-- The pairs (q, q).
unfoldable diagonal : Relation → Relation
diagonal R = keep (λ (p : ℕ × ℕ). eqb p.0 p.1) R

diagonal_kept : (test : ℕ × ℕ → Bool) (R : Relation)
    → ((p : ℕ × ℕ) → Memᴰ p R → p.0 ≡ p.1 → test p ≡ true) → diagonal (keep test R) ≡ diagonal R
unfolding diagonal
diagonal_kept test R h =
    keep_both _ test R ∙ keep_agree _ _ R (λ p m. same_bool
    (λ e. (and_true_out (test p) _ e).1) (λ e. and_true_in (h p m (eqb-true p.0 p.1 e)) e))

diagonal_row : {q : ℕ} (rs : List ℕ) → Memᴰ q rs → 1 ≤ length (diagonal (map (λ (r : ℕ). (q, r)) rs))
unfolding diagonal
diagonal_row {q} rs m = rw (keep_map, length-map) (some (keep_in (eqb q) m (eq-eqb q q refl)))
  where
    some : {q : ℕ} {rs : List ℕ} → Memᴰ q rs → 1 ≤ length rs
    some (Memᴰ.head e) = omega arith
    some (Memᴰ.tail m) = omega arith

diagonal_pairs : (qs rs : List ℕ) → ((q : ℕ) → Memᴰ q qs → Memᴰ q rs)
    → length qs ≤ length (diagonal (all_pairs qs rs))
unfolding diagonal all_pairs keep
diagonal_pairs [] rs h = omega arith
diagonal_pairs (q ∷ qs) rs h =
    let row : Relation = map (λ (r : ℕ). (q, r)) rs in
    rw (keep_append (λ (p : ℕ × ℕ). eqb p.0 p.1) row (all_pairs qs rs), length-append)
    (omega (arith, diagonal_row rs (h q (Memᴰ.head refl)), diagonal_pairs qs rs (λ p m. h p (Memᴰ.tail m))))

module _ (rules : List Rule) (states : List ℕ) where
  diagonal_round : Closed rules states → (j : ℕ) → length states ≤ length (diagonal (relation_at rules states j))
  unfolding relation_at refine
  diagonal_round closed zero = diagonal_pairs states states (λ q m. m)
  diagonal_round closed (suc j) =
      let R = relation_at rules states j in
      rw (diagonal_kept (survives rules R) R
      (λ p m e. (refine_out rules R p.0 p.1 (same_round rules states closed (suc j) p.0 p.1
      (e, (round_states rules states j p.0 p.1 (member_related m)).0))).1))
      (diagonal_round closed j)

  pub rounds_lose : (j : ℕ) → j ≤ rounds rules states
      → j + length (relation_at rules states j) ≤ length states * length states
  unfolding relation_at
  rounds_lose zero h = omega (arith, length_pairs states states)
  rounds_lose (suc j) h =
      let R = relation_at rules states j in
      let other : length (refine rules R) ≡ length R → ⊥ = λ e. rounds_least rules states j h (refine_all rules R e) in
      omega (arith, refine_shorter rules R, rounds_lose j (omega arith))

  rounds_bound : Closed rules states → rounds rules states + length states ≤ length states * length states
  unfolding diagonal
  rounds_bound closed =
      let j = rounds rules states in
      let shorter = keep_shorter (λ (p : ℕ × ℕ). eqb p.0 p.1) (relation_at rules states j) in
      omega (arith, rounds_lose j (omega arith), diagonal_round closed j)

  pub rounds_below : Closed rules states → rounds rules states ≤ length states * (length states - 1)
  rounds_below closed = go (length states) (rounds_bound closed)
    where
      go : (n : ℕ) → rounds rules states + n ≤ n * n → rounds rules states ≤ n * (n - 1)
      go zero h = omega arith
      go (suc n) h =
          let before : suc n - 1 ≡ n = omega arith in rw before (omega (arith, mul-suc (suc n) n))

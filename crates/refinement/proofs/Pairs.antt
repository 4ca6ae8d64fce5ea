-- A pair that is not in the relation has a rule without a match; no pair stands twice, and the number of pairs is counted row by row. From
-- `Refinement` and `Maximality`; for the two queries.
use Prim.Native.Nat.{ℕ, zero, suc, ◌+◌}
use mathlib.Core.Path.{◌≡◌, refl, sym, ap, ◌∙◌}
use mathlib.Core.Logic.{◌⊎◌, inl, inr}
use mathlib.Core.List.Memᴰ
use mathlib.Core.List.{List, [], ◌∷◌, map, Memᴰ}
use mathlib.Core.Bool.{Bool, true, ◌&&◌}
use lib.ListN.{length, length-append, length-map}
use Rattle.lists.specs.Lists.{Distinct, bare, new, keep}
use Rattle.lists.proofs.Keeping.{keep_append, keep_map, keep_both, keep_agree, keep_all}
use Rattle.lists.proofs.Distinctness.{keep_distinct, distinct_map, distinct_append}
use Rattle.automaton.specs.Automaton.{Rule}
use Rattle.refinement.specs.Simulation.{Simulates, Matched, related, survives, refine, all_pairs, relation_at, rounds, relation}
use Rattle.refinement.proofs.Refinement.{Within, member_related, member_pair, refine_related, survives_matched}
use Rattle.refinement.proofs.Maximality.{matched_map, relation_simulates, relation_largest, relation_states}

module _ (rules : List Rule) (states : List ℕ) where
  -- A pair all of whose rules are matched is in the relation: with it the relation would still be a simulation.
  With : ℕ → ℕ → ℕ → ℕ → Type 0
  With q r p s = Within (relation rules states) p s ⊎ ((p ≡ q) × (s ≡ r))

  pub survives_related : (q r : ℕ) → Memᴰ q states → Memᴰ r states → survives rules (relation rules states) (q, r) ≡ true
      → Within (relation rules states) q r
  unfolding With Simulates
  survives_related q r mq mr h =
      let R = relation rules states in
      relation_largest rules states (With q r)
      (λ p s d u m e. answer p s d u m e)
      (λ p s d. inside p s d)
      q r (inr (refl, refl))
    where
      answer : (p s : ℕ) → With q r p s → (u : Rule) → Memᴰ u rules → u.target ≡ p → Matched (With q r) rules s u
      answer p s (inl w) u m e = matched_map (λ a b x. inl x) (relation_simulates rules states p s w u m e)
      answer p s (inr d) u m e =
          rw d.1 (matched_map (λ a b x. inl x) (survives_matched rules (relation rules states) q r h u m (e ∙ d.0)))

      inside : (p s : ℕ) → With q r p s → Memᴰ p states × Memᴰ s states
      inside p s (inl w) = relation_states rules states p s w
      inside p s (inr e) = (Memᴰ.cast e.0 mq, Memᴰ.cast e.1 mr)

-- The pairs that pass a test, counted row by row.
unfoldable pub pairs_in : (ℕ → ℕ → Bool) → List ℕ → List ℕ → ℕ
pairs_in f [] rs = 0
pairs_in f (q ∷ qs) rs = length (keep (f q) rs) + pairs_in f qs rs

all_length : (f : ℕ × ℕ → Bool) (qs rs : List ℕ) → length (keep f (all_pairs qs rs)) ≡ pairs_in (λ (q r : ℕ). f (q, r)) qs rs
unfolding all_pairs keep pairs_in
all_length f [] rs = refl
all_length f (q ∷ qs) rs =
    rw (keep_append, length-append, keep_map, length-map, all_length f qs rs)

-- All pairs, each once.
pairs_distinct : {qs rs : List ℕ} → Distinct qs → Distinct rs → Distinct (all_pairs qs rs)
unfolding all_pairs
pairs_distinct bare e = bare
pairs_distinct {rs = rs} (new {x = q} {xs = qs} other d) e =
    distinct_append (distinct_map (λ (r : ℕ). (q, r)) (λ r s m n same. ap (λ (p : ℕ × ℕ). p.1) same) e) (pairs_distinct d e) apart
  where
    apart : (p : ℕ × ℕ) → Memᴰ p (map (λ (r : ℕ). (q, r)) rs) → Memᴰ p (all_pairs qs rs) → ⊥
    apart p m n =
        let first = Memᴰ.of_map (λ (r : ℕ). (q, r)) rs m in
        other (Memᴰ.cast (ap (λ (t : ℕ × ℕ). t.0) first.2) (member_pair qs rs n).0)

module _ (rules : List Rule) (states : List ℕ) where
  kept_round : (j : ℕ) → relation_at rules states j
      ≡ keep (λ (p : ℕ × ℕ). related (relation_at rules states j) p.0 p.1) (all_pairs states states)
  unfolding relation_at refine
  kept_round zero = sym (keep_all _ (all_pairs states states) (λ p m. member_related m))
  kept_round (suc j) =
      let R = relation_at rules states j in
      let before : ℕ × ℕ → Bool = λ (p : ℕ × ℕ). related R p.0 p.1 in
      ap (keep (survives rules R)) (kept_round j)
      ∙ keep_both (survives rules R) before (all_pairs states states)
      ∙ keep_agree (λ (p : ℕ × ℕ). before p && survives rules R p) _
      (all_pairs states states) (λ p m. sym (refine_related rules R p.0 p.1))

  pub relation_length : length (relation rules states) ≡ pairs_in (related (relation rules states)) states states
  unfolding relation
  relation_length =
      ap length (kept_round (rounds rules states))
      ∙ all_length (λ (p : ℕ × ℕ). related (relation_at rules states (rounds rules states)) p.0 p.1) states states

  pub relation_distinct : Distinct states → Distinct (relation rules states)
  unfolding relation
  relation_distinct d = rw (kept_round (rounds rules states)) (keep_distinct _ (pairs_distinct d d))

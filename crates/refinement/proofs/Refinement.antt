-- A relation in work, as a set of pairs: what a round keeps of it, its tests as the matches of the paper, and that its rounds end, for a round
-- that changes something loses a pair. Maximality and the rounds are built on it.
use Prim.Native.Nat.{ℕ, zero, suc, ◌≤◌, ◌<◌}
use mathlib.Core.Path.{◌≡◌, refl, sym, ap, ap₂, ◌∙◌}
use mathlib.Core.Logic.{◌⊎◌, inl, inr, ⊎_elim}
use mathlib.Core.List.Memᴰ
use mathlib.Core.List.{List, [], ◌∷◌, map, Memᴰ}
use mathlib.Core.Bool.{Bool, true, false, not, ◌&&◌, ◌||◌, false≢true}
use native.Mathlib.Nat.{eq-or-lt_of_le}
use native.Mathlib.Omega.{arith}
use lib.ListN.{length}
use lib.Dec.{eqb}
use borrow.Author.Tests.{eq-eqb, eqb-true, eqb-false}
use Rattle.lists.specs.Lists.{keep}
use Rattle.lists.proofs.Keeping.{keep_in, keep_out, keep_shorter, keep_full}
use Rattle.lists.proofs.Booleans.{and_true_out, and_true_in, same_bool}
use Rattle.lists.proofs.Search.{any_in, any_out, all_in, all_out}
use Rattle.automaton.specs.Automaton.{Rule}
use Rattle.refinement.specs.Simulation.{Each, none, also, Matched, Relation, related, paired, matched_by, survives, matched, refine}
use Rattle.refinement.specs.Simulation.{all_pairs, relation_at, settle, rounds}

abbrev pub Within : Relation → ℕ → ℕ → Type 0
Within R q r = related R q r ≡ true

-- Pairs.

pub same_pair : (p : ℕ × ℕ) (q r : ℕ) → (eqb p.0 q && eqb p.1 r) ≡ true → p ≡ (q, r)
same_pair p q r e =
    let s = and_true_out (eqb p.0 q) (eqb p.1 r) e in
    ap₂ (λ (a b : ℕ). (a, b)) (eqb-true p.0 q s.0) (eqb-true p.1 r s.1)

pub related_member : (R : Relation) (q r : ℕ) → Within R q r → Memᴰ (q, r) R
unfolding related
related_member R q r e =
    let s = any_out (λ (p : ℕ × ℕ). eqb p.0 q && eqb p.1 r) R e in
    Memᴰ.cast (sym (same_pair s.element q r s.passes)) s.member

pub member_related : {R : Relation} {q r : ℕ} → Memᴰ (q, r) R → Within R q r
unfolding related
member_related {R} {q} {r} m =
    any_in (λ (p : ℕ × ℕ). eqb p.0 q && eqb p.1 r) m (and_true_in (eq-eqb q q refl) (eq-eqb r r refl))

pub pair_member : {q r : ℕ} {qs rs : List ℕ} → Memᴰ q qs → Memᴰ r rs → Memᴰ (q, r) (all_pairs qs rs)
unfolding all_pairs
pair_member {r} {rs} (Memᴰ.head {x = p} {xs = ps} e) n =
    Memᴰ.append_left (all_pairs ps rs) (Memᴰ.cast (ap (λ (a : ℕ). (a, r)) e) (Memᴰ.map (λ (a : ℕ). (p, a)) n))
pair_member {rs} (Memᴰ.tail {x = p} m) n = Memᴰ.append_right (map (λ (a : ℕ). (p, a)) rs) (pair_member m n)

pub member_pair : (qs rs : List ℕ) {q r : ℕ} → Memᴰ (q, r) (all_pairs qs rs) → Memᴰ q qs × Memᴰ r rs
unfolding all_pairs
member_pair [] rs m = absurd (Memᴰ.not-nil m)
member_pair (p ∷ ps) rs {q} {r} m = go (member_pair ps rs) (Memᴰ.append_cases (map (λ (a : ℕ). (p, a)) rs) m)
  where
    go : (Memᴰ (q, r) (all_pairs ps rs) → Memᴰ q ps × Memᴰ r rs)
        → Memᴰ {A = ℕ × ℕ} (q, r) (map (λ (a : ℕ). (p, a)) rs) ⊎ Memᴰ (q, r) (all_pairs ps rs)
        → Memᴰ q (p ∷ ps) × Memᴰ r rs
    go rest (inl n) =
        let s = Memᴰ.of_map (λ (a : ℕ). (p, a)) rs n in
        let e : ◌≡◌ {A = ℕ × ℕ} (q, r) (p, s.0) = sym s.2 in
        (Memᴰ.head (ap (λ (t : ℕ × ℕ). t.0) e), Memᴰ.cast (ap (λ (t : ℕ × ℕ). t.1) e) s.1)
    go rest (inr n) = let s = rest n in (Memᴰ.tail s.0, s.1)

-- What a round keeps.

pub keep_related : (test : ℕ × ℕ → Bool) (R : Relation) (q r : ℕ)
    → related (keep test R) q r ≡ (related R q r && test (q, r))
keep_related test R q r =
    same_bool
    (λ e. let k = keep_out test R (related_member (keep test R) q r e) in and_true_in (member_related k.0) k.1)
    (λ e. let s = and_true_out (related R q r) (test (q, r)) e in member_related (keep_in test (related_member R q r s.0) s.1))

pub refine_related : (rules : List Rule) (R : Relation) (q r : ℕ)
    → related (refine rules R) q r ≡ (related R q r && survives rules R (q, r))
unfolding refine
refine_related rules R = keep_related (survives rules R) R

pub refine_out : (rules : List Rule) (R : Relation) (q r : ℕ) → Within (refine rules R) q r
    → Within R q r × (survives rules R (q, r) ≡ true)
refine_out rules R q r e = and_true_out (related R q r) (survives rules R (q, r)) (sym (refine_related rules R q r) ∙ e)

pub paired_each : (R : Relation) (qs rs : List ℕ) → paired R qs rs ≡ true → Each (Within R) qs rs
unfolding paired
paired_each R [] [] e = none
paired_each R [] (r ∷ rs) e = absurd (false≢true e)
paired_each R (q ∷ qs) [] e = absurd (false≢true e)
paired_each R (q ∷ qs) (r ∷ rs) e =
    let s = and_true_out (related R q r) (paired R qs rs) e in also s.0 (paired_each R qs rs s.1)

pub each_paired : (R : Relation) {qs rs : List ℕ} → Each (Within R) qs rs → paired R qs rs ≡ true
unfolding paired
each_paired R none = refl
each_paired R (also h hs) = and_true_in h (each_paired R hs)

pub matched_out : (rules : List Rule) (R : Relation) (r : ℕ) (u : Rule) → matched rules R r u ≡ true → Matched (Within R) rules r u
unfolding matched matched_by
matched_out rules R r u h =
    let s = any_out (λ (v : Rule). eqb v.target r && matched_by R u v) rules h in
    let v = s.element in
    let a = and_true_out (eqb v.target r) (matched_by R u v) s.passes in
    let b = and_true_out (eqb u.symbol v.symbol) (paired R u.children v.children) a.1 in
    record {
      rule = v;
      is_rule = s.member;
      target = eqb-true v.target r a.0;
      symbol = eqb-true u.symbol v.symbol b.0;
      children = paired_each R u.children v.children b.1;
    }

pub matched_in : (rules : List Rule) (R : Relation) (r : ℕ) (u : Rule) → Matched (Within R) rules r u → matched rules R r u ≡ true
unfolding matched matched_by
matched_in rules R r u a =
    any_in (λ (v : Rule). eqb v.target r && matched_by R u v) a.is_rule
    (and_true_in (eq-eqb _ r a.target) (and_true_in (eq-eqb _ _ a.symbol) (each_paired R a.children)))

pub survives_matched : (rules : List Rule) (R : Relation) (q r : ℕ) → survives rules R (q, r) ≡ true
    → (u : Rule) → Memᴰ u rules → u.target ≡ q → Matched (Within R) rules r u
unfolding survives
survives_matched rules R q r h u m e =
    let f = all_out (λ (v : Rule). not (eqb v.target q) || matched rules R r v) h u m in
    matched_out rules R r u (rw (eq-eqb u.target q e) at f)

pub matched_survives : (rules : List Rule) (R : Relation) (q r : ℕ)
    → ((u : Rule) → Memᴰ u rules → u.target ≡ q → Matched (Within R) rules r u) → survives rules R (q, r) ≡ true
unfolding survives
matched_survives rules R q r h = all_in _ rules (λ u m. go u m (eqb u.target q) refl)
  where
    go : (u : Rule) → Memᴰ u rules → (t : Bool) → eqb u.target q ≡ t → (not t || matched rules R r u) ≡ true
    go u m true e = matched_in rules R r u (h u m (eqb-true u.target q e))
    go u m false e = refl

-- The rounds.

pub refine_shorter : (rules : List Rule) (R : Relation) → length (refine rules R) ≤ length R
unfolding refine
refine_shorter rules R = keep_shorter (survives rules R) R

pub refine_all : (rules : List Rule) (R : Relation) → length (refine rules R) ≡ length R → refine rules R ≡ R
unfolding refine
refine_all rules R = keep_full (survives rules R) R

module _ (rules : List Rule) (states : List ℕ) where
  -- Where `settle` stops that starts in round j.
  record Settled (j n : ℕ) : Type 0 where
    fixed : relation_at rules states (suc n) ≡ relation_at rules states n
    least : (i : ℕ) → j ≤ i → i < n → relation_at rules states (suc i) ≡ relation_at rules states i → ⊥

  settle_settled : (fuel j : ℕ) → length (relation_at rules states j) ≤ fuel
      → Settled j (settle rules fuel j (relation_at rules states j))
  unfolding settle relation_at
  settle_settled zero j l =
      let R = relation_at rules states j in
      let shorter = refine_shorter rules R in
      record { fixed = refine_all rules R (omega arith); least = λ i a b. absurd (omega arith) }
  settle_settled (suc fuel) j l =
      go (eqb (length (refine rules R)) (length R)) refl (settle_settled fuel (suc j))
    where
      R : Relation
      R = relation_at rules states j

      go : (t : Bool) → eqb (length (refine rules R)) (length R) ≡ t
          → (length (refine rules R) ≤ fuel → Settled (suc j) (settle rules fuel (suc j) (refine rules R)))
          → Settled j (elim t [ true ↦ j | false ↦ settle rules fuel (suc j) (refine rules R) ])
      go true e later =
          record {
            fixed = refine_all rules R (eqb-true (length (refine rules R)) (length R) e);
            least = λ i a b. absurd (omega arith);
          }
      go false e later =
          let other = eqb-false (length (refine rules R)) (length R) e in
          let shorter = refine_shorter rules R in
          let s = later (omega arith) in
          record {
            fixed = s.fixed;
            least = λ i a b f.
                ⊎_elim (λ (e : j ≡ i). other (rw (← e) at (ap length f))) (λ c. s.least i c b f) (eq-or-lt_of_le a);
          }

  settled : Settled 0 (rounds rules states)
  unfolding rounds relation_at
  settled = settle_settled (length (all_pairs states states)) 0 (omega arith)

  pub rounds_fixed : relation_at rules states (suc (rounds rules states)) ≡ relation_at rules states (rounds rules states)
  rounds_fixed = settled.fixed

  pub rounds_least : (i : ℕ) → i < rounds rules states → relation_at rules states (suc i) ≡ relation_at rules states i → ⊥
  rounds_least i = settled.least i (omega arith)

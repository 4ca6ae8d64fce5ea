-- An irreducible automaton is its own reduction: each step finds every state and rule in order and leaves it where it is. From the steps'
-- own laws; for demand 3, where a reduced table is reduced again.
use Prim.Native.Nat.{ℕ, zero, suc, ◌+◌, ◌≤◌, ◌<◌}
use native.Mathlib.Decide.{ℕ_discrete}
use native.Mathlib.Omega.{arith}
use mathlib.Core.Path.{◌≡◌, refl, sym, ap, ◌∙◌}
use mathlib.Core.Logic.{inl, inr}
use mathlib.Core.List.Memᴰ
use mathlib.Core.List.{List, map, Memᴰ}
use mathlib.Core.Bool.{not}
use lib.Dec.{eqb}
use borrow.Author.Tests.{eq-eqb, ne_eqb}
use Rattle.lists.specs.Lists.{Rising, from, among}
use Rattle.lists.proofs.Mapping.{map_fixed}
use Rattle.lists.proofs.Keeping.{keep_all}
use Rattle.lists.proofs.Ranges.{from_rising, length_from, member_from}
use Rattle.lists.proofs.Booleans.{and_true_in}
use Rattle.lists.proofs.Search.{all_in, among_in}
use Rattle.lists.proofs.Rising.{rising_same}
use Rattle.automaton.specs.Automaton.{Rule, renamed, Automaton, WellFormed}
use Rattle.trees.specs.Run.{Run, Runs, at, none, also, root, roots, IsRun, AreRuns, Occurs, OccursIn, Useful}
use Rattle.refinement.specs.Simulation.{Relation}
use Rattle.refinement.proofs.Maximality.{Closed}
use Rattle.simulation.specs.Query.{simulation_of}
use Rattle.stages.specs.Steps.{buildable, productive, names_only, trimmed, below, representative, firsts, quotient, dominated}
use Rattle.stages.specs.Steps.{pruned, kept, restricted, position, numbered, shortened, reduce}
use Rattle.stages.specs.Irreducible.{Irreducible}
use Rattle.stages.specs.Inner.{Sound}
use Rattle.stages.proofs.Carrying.{whole, whole_sound}
use Rattle.stages.proofs.Closure.{closure_states}
use Rattle.stages.proofs.Trimming.{occurs_productive, trimmed_sound}
use Rattle.stages.proofs.Firsts.{firsts_same}
use Rattle.stages.proofs.Quotient.{representative_below, below_representative, quotient_sound, final_representative}
use Rattle.stages.proofs.Quotient.{representative_final}
use Rattle.stages.proofs.Restricting.{kept_states, finals_kept, children_kept, restricted_sound}

-- The states of a run are reached from the root by rules.
module _ (rules : List Rule) (states : List ℕ) (closed : Closed rules states) where
  mutual
    unfolding Closed IsRun Occurs root roots

    occurs_closed : (r : Run) → IsRun rules r → Memᴰ (root r) states → (p : ℕ) → Occurs p r → Memᴰ p states
    occurs_closed (at q f rs) h m p (inl e) = Memᴰ.cast e m
    occurs_closed (at q f rs) h m p (inr o) =
        let u = h.0 in
        occurs_in_closed rs h.1 (λ c n. closed u.rule u.is_rule (Memᴰ.cast u.target m) c (rw u.children n)) p o

    occurs_in_closed : (rs : Runs) → AreRuns rules rs → ((q : ℕ) → Memᴰ q (roots rs) → Memᴰ q states)
        → (p : ℕ) → OccursIn p rs → Memᴰ p states
    occurs_in_closed none h m p o = absurd o
    occurs_in_closed (also r rs) h m p (inl o) = occurs_closed r h.0 (m (root r) (Memᴰ.head refl)) p o
    occurs_in_closed (also r rs) h m p (inr o) = occurs_in_closed rs h.1 (λ q n. m q (Memᴰ.tail n)) p o

position_from : (n i q : ℕ) → i ≤ q → q < i + n → i + position (from i n) q ≡ q
unfolding from position
position_from zero i q l h = absurd (omega arith)
position_from (suc n) i q l h =
    elim (ℕ_discrete q i) [
      | yes e ↦ rw (eq-eqb i q (sym e)) (omega arith)
      | no d ↦ rw (ne_eqb i q (λ e. d (sym e))) (omega (arith, position_from n (suc i) q (omega arith) (omega arith)))
    ]

module _ (B : Automaton) (w : WellFormed B) where
  sound : Sound (whole B)
  sound = whole_sound B w

  renamed_fixed : (name : ℕ → ℕ) → ((q : ℕ) → Memᴰ q (from 0 B.states) → name q ≡ q) → map (renamed name) B.rules ≡ B.rules
  unfolding renamed
  renamed_fixed name h =
      map_fixed (renamed name) B.rules (λ u m i. record {
        symbol = u.symbol;
        target = h u.target (sound.targets u m) i;
        children = map_fixed name u.children (λ q n. h q (sound.children u m q n)) i;
      })

  numbered_same : numbered B.ranks (whole B) ≡ B
  unfolding numbered
  numbered_same =
      let own : (q : ℕ) → Memᴰ q (from 0 B.states) → position (from 0 B.states) q ≡ q =
      λ q m. let (l, h) = member_from B.states 0 q m in omega (arith, position_from B.states 0 q l h) in
      λ i. record {
        states = length_from 0 B.states i;
        ranks = B.ranks;
        finals = map_fixed (position (from 0 B.states)) B.finals (λ q m. own q (sound.finals q m)) i;
        rules = renamed_fixed (position (from 0 B.states)) own i;
      }

  module _ (irreducible : Irreducible B) where
    every_state : {xs : List ℕ} → Rising xs → ((q : ℕ) → Memᴰ q xs → Memᴰ q (from 0 B.states))
        → ((q : ℕ) → Useful B q → Memᴰ q xs) → xs ≡ from 0 B.states
    every_state {xs} rises inside found =
        rising_same xs (from 0 B.states) rises (from_rising 0 B.states) inside
        (λ q m. found q (irreducible.useful q (omega (arith, member_from B.states 0 q m))))

    productive_same : productive B ≡ from 0 B.states
    unfolding productive trimmed
    productive_same =
        every_state (trimmed_sound B w).rising (closure_states (buildable B.rules) (from 0 B.states))
        (λ q u. occurs_productive B w u.run u.is_run q u.occurs)

    trimmed_same : trimmed B ≡ whole B
    unfolding trimmed names_only
    trimmed_same =
        let all : List ℕ = from 0 B.states in
        rw productive_same (λ i. record {
          states = all;
          finals = keep_all (among all) B.finals (λ q m. among_in (sound.finals q m)) i;
          rules = keep_all (names_only all) B.rules (λ u m. and_true_in (among_in (sound.targets u m))
              (all_in (among all) u.children (λ q n. among_in (sound.children u m q n)))) i;
        })

    abbrev R : Relation
    R = below (whole B)

    representative_same : (q : ℕ) → Memᴰ q (from 0 B.states) → representative R (from 0 B.states) q ≡ q
    unfolding below simulation_of
    representative_same q m =
        irreducible.antisymmetric _ q (representative_below (whole B) sound q m) (below_representative (whole B) sound q m)

    quotient_same : quotient R (whole B) ≡ whole B
    unfolding quotient
    quotient_same =
        let all : List ℕ = from 0 B.states in
        λ i. record {
          states = keep_all (λ (q : ℕ). eqb (representative R all q) q) all (λ q m. eq-eqb _ q (representative_same q m)) i;
          finals = rising_same (quotient R (whole B)).finals B.finals (quotient_sound (whole B) sound).finals_rising w.rising final_out final_in i;
          rules = (ap firsts (renamed_fixed (representative R all) representative_same)
              ∙ firsts_same B.rules irreducible.distinct) i;
        }
      where
        final_in : (q : ℕ) → Memᴰ q B.finals → Memᴰ q (quotient R (whole B)).finals
        final_in q m =
            Memᴰ.cast (sym (representative_same q (sound.finals q m))) (final_representative (whole B) sound q m)

        final_out : (q : ℕ) → Memᴰ q (quotient R (whole B)).finals → Memᴰ q B.finals
        final_out q m =
            let (f, n, e) = representative_final (whole B) sound q m in
            Memᴰ.cast (sym e ∙ representative_same f (sound.finals f n)) n

    pruned_same : pruned R (whole B) ≡ whole B
    unfolding pruned below simulation_of
    pruned_same i = record {
      states = from 0 B.states;
      finals = B.finals;
      rules = keep_all (λ (u : Rule). not (dominated R B.rules u)) B.rules (λ u m. ap not (irreducible.undominated u m)) i;
    }

    kept_same : kept (whole B) ≡ from 0 B.states
    unfolding Closed restricted
    kept_same =
        every_state (restricted_sound (whole B) sound).rising (kept_states (whole B) sound)
        (λ q u. occurs_closed B.rules (kept (whole B)) (children_kept (whole B) sound) u.run u.is_run
        (finals_kept (whole B) sound (root u.run) u.final) q u.occurs)

    restricted_same : restricted (whole B) ≡ whole B
    unfolding restricted
    restricted_same =
        rw kept_same (λ i. record {
          states = from 0 B.states;
          finals = B.finals;
          rules = keep_all (λ (u : Rule). among (from 0 B.states) u.target) B.rules
              (λ u m. among_in (sound.targets u m)) i;
        })

    pub irreducible_fixed : reduce B ≡ B
    unfolding reduce shortened
    irreducible_fixed = rw (trimmed_same, quotient_same, pruned_same, restricted_same) numbered_same

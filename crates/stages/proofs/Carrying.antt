-- A stage carries over to another if downward simulations go there and back. Then trees reach final states of both alike, and the ≤ of
-- the second lies, taken back, within that of the first. One step after the other carries over too: each of the steps 3 to 6 is an
-- instance of its own (`Quotient`, `Pruning`, `Restricting`, `Numbering`), and `Agreement` puts them together.
use Prim.Native.Nat.{ℕ}
use native.Mathlib.Omega.{arith}
use mathlib.Core.Path.{◌≡◌, refl, sym, ap, ◌∙◌}
use mathlib.Core.List.{List, [], ◌∷◌, map, Memᴰ}
use Rattle.lists.specs.Lists as lists
use Rattle.lists.proofs.Ranges.{from_low, from_rising, from_member}
use Rattle.lists.proofs.Elements.{all_member}
use Rattle.automaton.specs.Automaton.{Rule, renamed, Automaton, WellFormed}
use Rattle.trees.specs.Tree.{Tree}
use Rattle.trees.specs.Run.{Reaches}
use Rattle.refinement.specs.Simulation.{Each, none, also, Simulates, Relation}
use Rattle.refinement.proofs.Refinement.{Within}
use Rattle.refinement.proofs.Maximality.{matched_map, relation_simulates, relation_largest, relation_states}
use Rattle.refinement.proofs.Simulations.{each_refl, simulates_compose}
use Rattle.simulation.proofs.Language.{simulates_reaches}
use Rattle.simulation.proofs.Preorder.{simulable_all}
use Rattle.stages.specs.Steps.{Stage, below}
use Rattle.stages.specs.Inner.{Sound}

-- The stage of all states of an automaton.
abbrev pub whole : Automaton → Stage
whole A = record { states = lists.from 0 A.states; finals = A.finals; rules = A.rules }

pub whole_sound : (A : Automaton) → WellFormed A → Sound (whole A)
whole_sound A w =
    record {
      rising = from_rising 0 A.states;
      low = from_low 0 A.states 256 (omega (arith, w.states));
      finals_rising = w.rising;
      finals = λ q m. from_member A.states 0 q (omega arith) (omega (arith, all_member w.finals m));
      targets = (simulable_all A w).targets;
      children = (simulable_all A w).children;
    }

-- Simulations.

-- Some of the rules can do no more than all.
pub part_simulates : (rules others : List Rule) → ((u : Rule) → Memᴰ u rules → Memᴰ u others)
    → Simulates rules others (λ (q r : ℕ). q ≡ r)
unfolding Simulates
part_simulates rules others part q r d u m e =
    record { rule = u; is_rule = part u m; target = e ∙ d; symbol = refl; children = each_refl (λ p n. refl) }

-- Renamed rules can do what the rules can.
pub renamed_simulates : (name : ℕ → ℕ) (rules others : List Rule) → ((u : Rule) → Memᴰ u rules → Memᴰ (renamed name u) others)
    → Simulates rules others (λ (q i : ℕ). i ≡ name q)
unfolding Simulates renamed
renamed_simulates name rules others named q i d u m e =
    record { rule = renamed name u; is_rule = named u m; target = ap name e ∙ sym d; symbol = refl; children = each_name u.children }
  where
    each_name : (qs : List ℕ) → Each (λ (q i : ℕ). i ≡ name q) qs (map name qs)
    each_name [] = none
    each_name (q ∷ qs) = also refl (each_name qs)

pub each_named : {D : ℕ → ℕ → Type 0} (name : ℕ → ℕ) (qs : List ℕ) → ((q : ℕ) → Memᴰ q qs → D (name q) q) → Each D (map name qs) qs
each_named name [] h = none
each_named name (q ∷ qs) h = also (h q (Memᴰ.head refl)) (each_named name qs (λ p m. h p (Memᴰ.tail m)))

pub simulates_same : (rules others : List Rule) (D E : ℕ → ℕ → Type 0) → Simulates rules others D
    → ((q r : ℕ) → D q r → E q r) → ((q r : ℕ) → E q r → D q r) → Simulates rules others E
unfolding Simulates
simulates_same rules others D E simulates f g q r e u m t = matched_map f (simulates q r (g q r e) u m t)

-- A relation between the states of a stage alone. A simulation is one there too: the children of rules are such states.
abbrev pub Inside : Stage → (ℕ → ℕ → Type 0) → ℕ → ℕ → Type 0
Inside S D q r = Memᴰ q S.states × Memᴰ r S.states × D q r

pub each_inside : {D : ℕ → ℕ → Type 0} {P : ℕ → Type 0} {qs rs : List ℕ} → Each D qs rs
    → ((q : ℕ) → Memᴰ q qs → P q) → ((r : ℕ) → Memᴰ r rs → P r) → Each (λ (q r : ℕ). P q × P r × D q r) qs rs
each_inside none f g = none
each_inside (also {q = q} {r = r} d ds) f g =
    also (f q (Memᴰ.head refl), g r (Memᴰ.head refl), d)
    (each_inside ds (λ p m. f p (Memᴰ.tail m)) (λ p m. g p (Memᴰ.tail m)))

pub simulates_inside : (S : Stage) → Sound S → (D : ℕ → ℕ → Type 0) → Simulates S.rules S.rules D
    → Simulates S.rules S.rules (Inside S D)
unfolding Simulates
simulates_inside S sound D simulates q r (m, n, d) u is_rule e =
    let v = simulates q r d u is_rule e in
    record {
      rule = v.rule;
      is_rule = v.is_rule;
      target = v.target;
      symbol = v.symbol;
      children = each_inside v.children (sound.children u is_rule) (sound.children v.rule v.is_rule);
    }

-- A relation that is ≤ on a stage, as that of an earlier stage is on one that came of it, and antisymmetric there.
pub record Orders (R : Relation) (S : Stage) : Type 0 where
  pub reflexive : (q : ℕ) → Memᴰ q S.states → Within R q q
  pub transitive : (q r s : ℕ) → Within R q r → Within R r s → Within R q s
  pub antisymmetric : (q r : ℕ) → Memᴰ q S.states → Memᴰ r S.states → Within R q r → Within R r q → q ≡ r
  pub simulates : Simulates S.rules S.rules (Inside S (Within R))

-- Each state is final or, by rules, under a final state.
unfoldable pub Connected : Stage → Type 1
Connected S =
    (P : ℕ → Type 0) → ((q : ℕ) → Memᴰ q S.finals → P q)
    → ((u : Rule) → Memᴰ u S.rules → P u.target → (q : ℕ) → Memᴰ q u.children → P q)
    → (q : ℕ) → Memᴰ q S.states → P q

-- Stage S carries over to T: what a state of S goes into, or a state of T goes back to, can do no less. Each state of T stands for one of S,
-- its origin, which goes into it and to which it goes back; different ones have different origins. Each final state of S goes into one of T,
-- and each of T goes back to one of S; a state of S that is neither final nor an origin may go nowhere.
pub record Carries (origin : ℕ → ℕ) (S T : Stage) : Type 1 where
  pub into : ℕ → ℕ → Type 0
  pub back : ℕ → ℕ → Type 0
  pub into_simulates : Simulates S.rules T.rules into
  pub back_simulates : Simulates T.rules S.rules back
  pub final_into : (q : ℕ) → Memᴰ q S.finals → (i : ℕ) × Memᴰ i T.finals × into q i
  pub final_back : (i : ℕ) → Memᴰ i T.finals → (q : ℕ) × Memᴰ q S.finals × back i q
  pub origin_state : (i : ℕ) → Memᴰ i T.states → Memᴰ (origin i) S.states
  pub origin_into : (i : ℕ) → Memᴰ i T.states → into (origin i) i
  pub origin_back : (i : ℕ) → Memᴰ i T.states → back i (origin i)
  pub origin_injective : (i j : ℕ) → Memᴰ i T.states → Memᴰ j T.states → origin i ≡ origin j → i ≡ j

pub carries_compose : {f g : ℕ → ℕ} {S T U : Stage} → Carries f S T → Carries g T U → Carries (λ (i : ℕ). f (g i)) S U
carries_compose {f} {g} {S} {T} {U} c d =
    record {
      into = λ q r. (p : ℕ) × c.into q p × d.into p r;
      back = λ r q. (p : ℕ) × d.back r p × c.back p q;
      into_simulates =
          simulates_compose S.rules T.rules U.rules c.into d.into c.into_simulates d.into_simulates;
      back_simulates =
          simulates_compose U.rules T.rules S.rules d.back c.back d.back_simulates c.back_simulates;
      final_into = λ q m. let (p, n, h) = c.final_into q m in let (r, o, k) = d.final_into p n in (r, o, (p, h, k));
      final_back = λ r m. let (p, n, h) = d.final_back r m in let (q, o, k) = c.final_back p n in (q, o, (p, h, k));
      origin_state = λ i m. c.origin_state (g i) (d.origin_state i m);
      origin_into = λ i m. (g i, c.origin_into (g i) (d.origin_state i m), d.origin_into i m);
      origin_back = λ i m. (g i, d.origin_back i m, c.origin_back (g i) (d.origin_state i m));
      origin_injective = λ i j m n e.
          d.origin_injective i j m n (c.origin_injective (g i) (g j) (d.origin_state i m) (d.origin_state j n) e);
    }

-- What follows for two stages of which the first carries over to the second.

abbrev pub ReachesFinal : Stage → Tree → Type 0
ReachesFinal S t = (q : ℕ) × Memᴰ q S.finals × Reaches S.rules t q

module _ {origin : ℕ → ℕ} {S T : Stage} (c : Carries origin S T) where
  reaches_into : (t : Tree) (q i : ℕ) → c.into q i → Reaches S.rules t q → Reaches T.rules t i
  reaches_into = simulates_reaches S.rules T.rules c.into c.into_simulates

  pub final_trees : (t : Tree) → ReachesFinal S t → ReachesFinal T t
  final_trees t (q, m, r) = let (i, n, d) = c.final_into q m in (i, n, reaches_into t q i d r)

  pub final_trees_back : (t : Tree) → ReachesFinal T t → ReachesFinal S t
  final_trees_back t (i, m, r) =
      let (q, n, d) = c.final_back i m in
      (q, n, simulates_reaches T.rules S.rules c.back c.back_simulates t i q d r)

  pub origin_reached : (t : Tree) (i : ℕ) → Memᴰ i T.states → Reaches S.rules t (origin i) → Reaches T.rules t i
  origin_reached t i m = reaches_into t (origin i) i (c.origin_into i m)

  -- ≤ on T lies within ≤ on S: there and back with it is a simulation on S.
  pub origins_below : Sound S → (i j : ℕ) → Within (below T) i j → Within (below S) (origin i) (origin j)
  unfolding below
  origins_below sound i j h =
      let (m, n) = relation_states T.rules T.states i j h in
      relation_largest S.rules S.states _
      (simulates_inside S sound _ (simulates_compose S.rules T.rules S.rules c.into _ c.into_simulates
      (simulates_compose T.rules T.rules S.rules (Within (below T)) c.back (relation_simulates T.rules T.states)
      c.back_simulates)))
      (λ q r (a, b, d). (a, b)) (origin i) (origin j)
      (c.origin_state i m, c.origin_state j n, (i, c.origin_into i m, (j, h, c.origin_back j n)))

-- Step 6: positions in a rising list rise with its members, so renaming by position is one to one, and a stage carries over to the automaton
-- of its numbers. For `Agreement`, `Fixpoint`, `Sizes` and the code that numbers states.
use Prim.Native.Nat.{ℕ, zero, suc, ◌<◌}
use native.Mathlib.Omega.{arith}
use mathlib.Core.Path.{◌≡◌, refl, sym, ap, ◌∙◌}
use mathlib.Core.List.Memᴰ
use mathlib.Core.List.{List, [], ◌∷◌, map, map-map, Memᴰ}
use mathlib.Core.Bool.{Bool, true, false, cond, true≢false}
use lib.ListN.{length, get_or}
use lib.Dec.{eqb}
use borrow.Author.Tests.{eq-eqb, eqb-true, ne_eqb}
use Rattle.lists.specs.Lists.{Rising, empty, Distinct}
use Rattle.lists.proofs.Mapping.{map_fixed}
use Rattle.lists.proofs.Distinctness.{distinct_map}
use Rattle.lists.proofs.Ranges.{member_from}
use Rattle.lists.proofs.Booleans.{never_true}
use Rattle.lists.proofs.Search.{any_in, any_out}
use Rattle.lists.proofs.Rising.{rising_rest, rising_above, rising_add}
use Rattle.automaton.specs.Automaton.{Rule, renamed}
use Rattle.refinement.specs.Simulation.{Each, none, also, Simulates, Relation}
use Rattle.refinement.proofs.Refinement.{Within}
use Rattle.stages.specs.Steps.{Stage, dominated_by, dominated, position, numbered}
use Rattle.stages.specs.Inner.{Sound}
use Rattle.stages.proofs.Carrying.{Carries, Connected, whole, renamed_simulates, each_named}
use Rattle.stages.proofs.Pruning.{DominatedBy, dominated_out, dominated_in}

-- Positions.

position_at : {q : ℕ} {states : List ℕ} → Memᴰ q states
    → (position states q < length states) × (get_or states (position states q) 0 ≡ q)
unfolding position
position_at {q} (Memᴰ.head {x = x} {xs = xs} e) = rw (eq-eqb x q (sym e)) (omega arith, sym e)
position_at {q} (Memᴰ.tail {x = x} {xs = xs} m) = go (eqb x q) refl (position_at m)
  where
    go : (t : Bool) → eqb x q ≡ t → (position xs q < length xs) × (get_or xs (position xs q) 0 ≡ q)
        → (cond t 0 (suc (position xs q)) < suc (length xs)) × (get_or (x ∷ xs) (cond t 0 (suc (position xs q))) 0 ≡ q)
    go true e l = (omega arith, eqb-true x q e)
    go false e l = (omega arith, l.1)

position_rises : {p q : ℕ} {states : List ℕ} → Rising states → Memᴰ p states → Memᴰ q states → p < q
    → position states p < position states q
unfolding position
position_rises r (Memᴰ.head e) (Memᴰ.head f) l = absurd (omega arith)
position_rises {p} {q} r (Memᴰ.head {x = x} e) (Memᴰ.tail n) l =
    rw (eq-eqb x p (sym e), ne_eqb x q (λ (f : x ≡ q). omega arith)) (omega arith)
position_rises r (Memᴰ.tail m) (Memᴰ.head f) l = let h = rising_above r m in absurd (omega arith)
position_rises {p} {q} r (Memᴰ.tail {x = x} m) (Memᴰ.tail n) l =
    let h = rising_above r m in
    let k = rising_above r n in
    let later = position_rises (rising_rest r) m n l in
    rw (ne_eqb x p (λ (f : x ≡ p). omega arith), ne_eqb x q (λ (f : x ≡ q). omega arith)) (omega arith)

position_of : {states : List ℕ} → Rising states → (i : ℕ) → i < length states
    → Memᴰ (get_or states i 0) states × (position states (get_or states i 0) ≡ i)
unfolding position
position_of {states = []} r i h = absurd (omega arith)
position_of {states = x ∷ xs} r zero h = (Memᴰ.head refl, rw (eq-eqb x x refl))
position_of {states = x ∷ xs} r (suc i) h =
    let (m, e) = position_of (rising_rest r) i (omega arith) in
    let k = rising_above r m in
    (Memᴰ.tail m, rw (ne_eqb x (get_or xs i 0) (λ (f : x ≡ get_or xs i 0). omega arith)) (ap suc e))

module _ (states : List ℕ) (rising : Rising states) where
  pub position_low : (q : ℕ) → Memᴰ q states → position states q < length states
  position_low q m = (position_at m).0

  pub positions_rising : (xs : List ℕ) → Rising xs → ((q : ℕ) → Memᴰ q xs → Memᴰ q states)
      → Rising (map (position states) xs)
  positions_rising [] r inside = empty
  positions_rising (x ∷ xs) r inside = rising_add above (positions_rising xs (rising_rest r) (λ q m. inside q (Memᴰ.tail m)))
    where
      above : (i : ℕ) → Memᴰ i (map (position states) xs) → position states x < i
      above i m =
          let s = Memᴰ.of_map (position states) xs m in
          rw (← s.2)
          (position_rises rising (inside x (Memᴰ.head refl)) (inside s.0 (Memᴰ.tail s.1)) (rising_above r s.1))

each_map_both : {D E : ℕ → ℕ → Type 0} (f : ℕ → ℕ) → ((q r : ℕ) → D q r → E (f q) (f r)) → {qs rs : List ℕ} → Each D qs rs
    → Each E (map f qs) (map f rs)
each_map_both f h none = none
each_map_both f h (also d ds) = also (h _ _ d) (each_map_both f h ds)

module _ (ranks : List ℕ) (S : Stage) (sound : Sound S) where
  abbrev place : ℕ → ℕ
  place = position S.states

  abbrev origin : ℕ → ℕ
  origin i = get_or S.states i 0

  abbrev PlaceOf : ℕ → ℕ → Type 0
  PlaceOf i q = Memᴰ q S.states × (i ≡ place q)

  placed_back : (q : ℕ) → Memᴰ q S.states → origin (place q) ≡ q
  placed_back q m = (position_at m).1

  place_injective : (q r : ℕ) → Memᴰ q S.states → Memᴰ r S.states → place q ≡ place r → q ≡ r
  place_injective q r m n e = sym (placed_back q m) ∙ ap origin e ∙ placed_back r n

  children_back : (u : Rule) → Memᴰ u S.rules → map origin (map place u.children) ≡ u.children
  children_back u m =
      map-map origin place u.children
      ∙ map_fixed (λ (q : ℕ). origin (place q)) u.children (λ q c. placed_back q (sound.children u m q c))

  rule_back : (u : Rule) → Memᴰ u S.rules → renamed origin (renamed place u) ≡ u
  unfolding renamed
  rule_back u m = λ i. record {
    symbol = u.symbol;
    target = placed_back u.target (sound.targets u m) i;
    children = children_back u m i;
  }

  origin_placed : (i : ℕ) → Memᴰ i (whole (numbered ranks S)).states → PlaceOf i (origin i)
  unfolding numbered
  origin_placed i m =
      let (n, e) = position_of sound.rising i (omega (arith, member_from (length S.states) 0 i m)) in (n, sym e)

  back_numbered : Simulates (numbered ranks S).rules S.rules PlaceOf
  unfolding Simulates numbered renamed
  back_numbered i q d v m e =
      let (u, n, f) = Memᴰ.of_map (renamed place) S.rules m in
      let same : place u.target ≡ place q = ap (λ (w : Rule). w.target) f ∙ e ∙ d.1 in
      record {
        rule = u;
        is_rule = n;
        target = place_injective u.target q (sound.targets u n) d.0 same;
        symbol = sym (ap (λ (w : Rule). w.symbol) f);
        children = rw (ap (λ (w : Rule). w.children) f) at (each_named {D = PlaceOf} place u.children (λ p k. (sound.children u n p k, refl)));
      }

  pub numbered_carries : Carries (λ (i : ℕ). get_or S.states i 0) S (whole (numbered ranks S))
  unfolding numbered
  numbered_carries =
      record {
        into = λ q i. i ≡ place q;
        back = PlaceOf;
        into_simulates = renamed_simulates place S.rules (numbered ranks S).rules (λ u m. Memᴰ.map (renamed place) m);
        back_simulates = back_numbered;
        final_into = λ q m. (place q, Memᴰ.map place m, refl);
        final_back = λ i m. let (q, n, e) = Memᴰ.of_map place S.finals m in (q, n, (sound.finals q n, sym e));
        origin_state = λ i m. (origin_placed i m).0;
        origin_into = λ i m. (origin_placed i m).1;
        origin_back = origin_placed;
        origin_injective = λ i j m n e. (origin_placed i m).1 ∙ ap place e ∙ sym (origin_placed j n).1;
      }

  pub numbered_connected : Connected S → Connected (whole (numbered ranks S))
  unfolding Connected numbered renamed
  numbered_connected connected P final child i m =
      let (n, e) = origin_placed i m in
      rw (← e) at (connected (λ (q : ℕ). P (place q)) (λ q o. final (place q) (Memᴰ.map place o))
      (λ u o h q c. child (renamed place u) (Memᴰ.map (renamed place) o) h (place q) (Memᴰ.map place c)) (origin i) n)

  pub numbered_distinct : Distinct S.rules → Distinct (numbered ranks S).rules
  unfolding numbered
  numbered_distinct = distinct_map (renamed place) (λ u v m n e. sym (rule_back u m) ∙ ap (renamed origin) e ∙ rule_back v n)

  -- No rule is dominated where none was, under relations that agree.
  pub numbered_undominated : (R' R : Relation) → ((i j : ℕ) → Within R' i j → Within R (get_or S.states i 0) (get_or S.states j 0))
      → ((u : Rule) → Memᴰ u S.rules → dominated R S.rules u ≡ false)
      → (v : Rule) → Memᴰ v (numbered ranks S).rules → dominated R' (numbered ranks S).rules v ≡ false
  unfolding dominated numbered renamed
  numbered_undominated R' R agree none-dominated v m = never_true (λ h.
      let (u, mu, eu) = Memᴰ.of_map (renamed place) S.rules m in
      let f = any_out (dominated_by R' v) (map (renamed place) S.rules) h in
      let (x, mx, ex) = Memᴰ.of_map (renamed place) S.rules f.member in
      let d : DominatedBy R' (renamed place u) (renamed place x) = dominated_out R' _ _ (rw (eu, ex) f.passes) in
      true≢false (sym (any_in (dominated_by R u) mx (dominated_in R u x (record {
        target = place_injective u.target x.target (sound.targets u mu) (sound.targets x mx) d.target;
        symbol = d.symbol;
        children = rw (children_back u mu, children_back x mx) at (each_map_both {E = Within R} origin agree d.children);
        differ = λ e. d.differ (ap (map place) e);
      }))) ∙ none-dominated u mu))

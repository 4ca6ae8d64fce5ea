-- A reduced automaton is well-formed and encodes to no more bytes: each step keeps a part of the states, final states and rules or renames.
-- For the reducing call, which writes it where the table stood, and for `Agreement` and demand 3.
use Prim.Native.Nat.{ℕ, zero, suc, ◌+◌, ◌≤◌, ◌<◌}
use native.Mathlib.Omega.{arith}
use mathlib.Core.Path.{◌≡◌, refl, sym, ap, ◌∙◌}
use mathlib.Core.List.Memᴰ
use mathlib.Core.List.{List, [], ◌∷◌, map, Memᴰ}
use mathlib.Core.Bool.{Bool, true, false, cond, not}
use lib.ListN.{length, get_or, length-map}
use lib.Dec.{eqb}
use borrow.Author.Tests.{eq-eqb, eqb-true, ne_eqb}
use Rattle.lists.specs.Lists.{Rising, from, keep, among}
use Rattle.lists.proofs.Ranges.{length_from}
use Rattle.lists.proofs.Keeping.{keep_out, keep_all, keep_shorter}
use Rattle.lists.proofs.Booleans.{not_true_out}
use Rattle.lists.proofs.Elements.{all_member, all_mapped}
use Rattle.lists.proofs.Rising.{rising_rest, rising_above, rising_keep}
use Rattle.automaton.specs.Automaton.{Rule, renamed, Automaton, WellFormed, WellFormedRule}
use Rattle.automaton.specs.Table.{encode_rules, encode}
use Rattle.automaton.proofs.Encoding.{length_rules, length_encode}
use Rattle.stages.specs.Steps.{Stage, found_in, closure, buildable, productive, trimmed, below, representative, firsts, quotient}
use Rattle.stages.specs.Steps.{pruned, needed, kept, restricted, position, numbered, shortened, reduce}
use Rattle.stages.proofs.Trimming.{trimmed_sound}
use Rattle.stages.specs.Inner.{Sound}
use Rattle.stages.proofs.Firsts.{firsts_out}
use Rattle.stages.proofs.Quotient.{representative_final, quotient_sound}
use Rattle.stages.proofs.Soundness.{stage3, stage4, sound_shortened}
use Rattle.stages.proofs.Numbering.{position_low, positions_rising}

-- Lengths of what is kept.

pub closure_shorter : (test : List ℕ → ℕ → Bool) (states : List ℕ) → length (closure test states) ≤ length states
unfolding closure found_in
closure_shorter test states = go (length states)
  where
    go : (times : ℕ) → length (found_in test states times) ≤ length states
    go zero = omega arith
    go (suc times) = keep_shorter (test (found_in test states times)) states

-- A rising list is no longer than a list that has its members.

abbrev is_other : ℕ → ℕ → Bool
is_other y x = not (eqb y x)

all_but_one : (y : ℕ) {xs : List ℕ} → Rising xs → length xs ≤ 1 + length (keep (is_other y) xs)
unfolding keep
all_but_one y {xs = []} r = omega arith
all_but_one y {xs = x ∷ xs} r = go (eqb y x) refl (all_but_one y (rising_rest r))
  where
    others : List ℕ
    others = keep (is_other y) xs

    go : (t : Bool) → eqb y x ≡ t → length xs ≤ 1 + length others → suc (length xs) ≤ 1 + length (cond (not t) (x ∷ others) others)
    go true e l =
        let same : y ≡ x = eqb-true y x e in
        let all = keep_all (is_other y) xs (λ z m. ap not (ne_eqb y z (λ (f : y ≡ z). omega (arith, rising_above r m)))) in
        omega (arith, ap length all)
    go false e l = omega arith

rising_few : (ys : List ℕ) {xs : List ℕ} → Rising xs → ((q : ℕ) → Memᴰ q xs → Memᴰ q ys) → length xs ≤ length ys
rising_few [] {xs = []} r inside = omega arith
rising_few [] {xs = x ∷ xs} r inside = absurd (Memᴰ.not-nil (inside x (Memᴰ.head refl)))
rising_few (y ∷ ys) {xs} r inside =
    let fewer = rising_few ys (rising_keep (is_other y) r) (λ q m. let (n, e) = keep_out (is_other y) xs m in later q e (inside q n)) in
    omega (arith, fewer, all_but_one y r)
  where
    later : (q : ℕ) → not (eqb y q) ≡ true → Memᴰ q (y ∷ ys) → Memᴰ q ys
    later q e (Memᴰ.head f) = absurd (not_true_out e (eq-eqb y q (sym f)))
    later q e (Memᴰ.tail m) = m

-- Rules that are no more than others, and no longer in bytes.
record Smaller (us vs : List Rule) : Type 0 where
  count : length us ≤ length vs
  size : length (encode_rules us) ≤ length (encode_rules vs)

smaller_trans : {us vs ws : List Rule} → Smaller us vs → Smaller vs ws → Smaller us ws
smaller_trans a b = record { count = omega arith; size = omega arith }

smaller_also : (u v : Rule) {us vs : List Rule} → length u.children ≡ length v.children → Smaller us vs
    → Smaller (u ∷ us) (v ∷ vs)
smaller_also u v {us} {vs} e a = record { count = omega arith; size = omega (arith, length_rules u us, length_rules v vs) }

smaller_skip : (v : Rule) {us vs : List Rule} → Smaller us vs → Smaller us (v ∷ vs)
smaller_skip v {us} {vs} a = record { count = omega arith; size = omega (arith, length_rules v vs) }

keep_smaller : (test : Rule → Bool) (us : List Rule) → Smaller (keep test us) us
unfolding keep
keep_smaller test [] = record { count = omega arith; size = omega arith }
keep_smaller test (u ∷ us) = go (test u) (keep_smaller test us)
  where
    go : (t : Bool) → Smaller (keep test us) us → Smaller (cond t (u ∷ keep test us) (keep test us)) (u ∷ us)
    go true a = smaller_also u u refl a
    go false a = smaller_skip u a

firsts_smaller : (us : List Rule) → Smaller (firsts us) us
unfolding firsts
firsts_smaller [] = record { count = omega arith; size = omega arith }
firsts_smaller (u ∷ us) = smaller_also u u refl (smaller_trans (keep_smaller _ (firsts us)) (firsts_smaller us))

renamed_smaller : (name : ℕ → ℕ) (us : List Rule) → Smaller (map (renamed name) us) us
unfolding renamed
renamed_smaller name [] = record { count = omega arith; size = omega arith }
renamed_smaller name (u ∷ us) = smaller_also (renamed name u) u (length-map u.children name) (renamed_smaller name us)

-- The stages of a reduction.

module _ (A : Automaton) (w : WellFormed A) where
  abbrev S : Stage
  S = trimmed A

  sound : Sound (trimmed A)
  sound = trimmed_sound A w

  -- A rule that is left has the symbol and the number of children of a rule.
  rule_left : (u : Rule) → Memᴰ u (shortened (trimmed A)).rules
      → (u.symbol < length A.ranks) × (length u.children ≡ get_or A.ranks u.symbol 0)
  unfolding shortened restricted pruned quotient trimmed renamed
  rule_left u m =
      let a = (keep_out _ (stage4 S).rules m).0 in
      let b = (keep_out _ (stage3 S).rules a).0 in
      let (v, c, e) = Memᴰ.of_map _ S.rules (firsts_out _ b) in
      let r : WellFormedRule A v = all_member w.rules (keep_out _ A.rules c).0 in
      let symbol : u.symbol ≡ v.symbol = sym (ap (λ (x : Rule). x.symbol) e) in
      let arity : length u.children ≡ length v.children =
      ap (λ (x : Rule). length x.children) (sym e) ∙ length-map v.children _ in
      rw (symbol, arity) (r.symbol, r.arity)

  states_few : length (shortened (trimmed A)).states ≤ A.states
  unfolding shortened restricted pruned quotient trimmed kept productive
  states_few =
      omega (
        arith,
        closure_shorter (needed (stage4 S)) (stage3 S).states,
        keep_shorter (λ (q : ℕ). eqb (representative (below S) S.states q) q) S.states,
        closure_shorter (buildable A.rules) (from 0 A.states),
        length_from 0 A.states,
      )

  finals_few : length (shortened (trimmed A)).finals ≤ length A.finals
  unfolding shortened restricted pruned quotient trimmed
  finals_few =
      let block : ℕ → ℕ = representative (below S) S.states in
      let blocks = rising_few (map block S.finals) (quotient_sound S sound).finals_rising
      (λ q m. let (f, n, e) = representative_final S sound q m in Memᴰ.cast (sym e) (Memᴰ.map block n)) in
      omega (arith, blocks, length-map S.finals block, keep_shorter (among (productive A)) A.finals)

  rules_smaller : Smaller (reduce A).rules A.rules
  unfolding reduce numbered shortened restricted pruned quotient trimmed
  rules_smaller =
      smaller_trans (renamed_smaller _ _) (smaller_trans (keep_smaller _ (stage4 S).rules) (smaller_trans (keep_smaller _ (stage3 S).rules)
      (smaller_trans (firsts_smaller _) (smaller_trans (renamed_smaller _ S.rules) (keep_smaller _ A.rules)))))

  pub reduce_well_formed : WellFormed (reduce A)
  unfolding reduce numbered renamed
  reduce_well_formed =
      let K : Stage = shortened S in
      let left = sound_shortened S sound in
      let low = position_low K.states left.rising in
      let few = states_few in
      let fewer = rules_smaller in
      record {
        states = omega arith;
        symbols = w.symbols;
        ranks = w.ranks;
        finals = all_mapped (position K.states) K.finals (λ q m. low q (left.finals q m));
        rising = positions_rising K.states left.rising K.finals left.finals_rising left.finals;
        count = omega arith;
        rules = all_mapped (renamed (position K.states)) K.rules (λ u m. record {
          symbol = (rule_left u m).0;
          arity = length-map u.children (position K.states) ∙ (rule_left u m).1;
          target = low u.target (left.targets u m);
          children = all_mapped (position K.states) u.children (λ q c. low q (left.children u m q c));
        });
      }

  pub reduce_shorter : length (encode (reduce A)) ≤ length (encode A)
  unfolding reduce numbered
  reduce_shorter =
      let K : Stage = shortened S in
      let fewer = rules_smaller in
      omega (arith, length_encode A, length_encode (reduce A), length-map K.finals (position K.states), finals_few)

-- Stages in sets and rows: a set of states as a rising list, the marked rules as a list of rules, and rules under names that agree on the
-- states. From the laws of lists and sets alone, for EachStep and for the functions of src/steps.rt.
use Prim.Native.Nat.{ℕ, ◌/◌, ◌%◌, ◌^◌, ◌≤◌, ◌<◌}
use native.Mathlib.Nat.{zero-div}
use native.Mathlib.Omega.{arith}
use mathlib.Core.Path.{◌≡◌, refl, sym, ap, ◌∙◌}
use mathlib.Core.List.{List, map, Memᴰ}
use mathlib.Core.Bool.{Bool, true, false}
use lib.ListN.{length, get_or}
use lib.Dec.{ltb}
use borrow.Author.Tests.{eqb-true, ltb-true, ltb-false}
use Rattle.std.proofs.lemmas.List.{get_or_past}
use Rattle.lists.specs.Lists.{All, Rising, from, keep, among}
use Rattle.lists.proofs.Booleans.{and_true_out, same_bool}
use Rattle.lists.proofs.Mapping.{map_agree}
use Rattle.lists.proofs.Keeping.{all_keep, keep_agree, keep_in, keep_map, keep_out}
use Rattle.lists.proofs.Ranges.{from_low, from_rising, from_member, member_from}
use Rattle.lists.proofs.Search.{all_out, among_in, among_out}
use Rattle.lists.proofs.Rising.{rising_keep, rising_same}
use Rattle.sets.specs.Set.{member, meet_of}
use Rattle.sets.specs.Inner.{Has, states_in}
use Rattle.sets.proofs.StateSets.{member_meet, states_low}
use Rattle.automaton.specs.Automaton.{Rule, renamed}
use Rattle.automaton.specs.Row.{rule_at}
use Rattle.indexing.proofs.Indexing.{rules_numbered}
use Rattle.stages.specs.Steps.{Stage, names_only}
use Rattle.stages.specs.Inner.{Sound}

-- The states of a set.

pub states_rising : (words : List ℕ) → Rising (states_in 256 words)
unfolding states_in
states_rising words = rising_keep (member words) (from_rising 0 256)

pub states_few : (words : List ℕ) → All (λ (q : ℕ). q < 256) (states_in 256 words)
unfolding states_in
states_few words = all_keep (member words) (from_low 0 256 256 (omega arith))

pub states_out : (words : List ℕ) (q : ℕ) → Memᴰ q (states_in 256 words) → (q < 256) × (member words q ≡ true)
unfolding states_in
states_out words q m = (states_low 256 words q m, (keep_out (member words) (from 0 256) m).1)

pub states_inside : (words : List ℕ) (q : ℕ) → q < 256 → member words q ≡ true → Memᴰ q (states_in 256 words)
unfolding states_in
states_inside words q l h = keep_in (member words) (from_member 256 0 q (omega arith) (omega arith)) h

pub states_has : (words : List ℕ) → Has words (among (states_in 256 words))
states_has words q l =
    same_bool (λ h. among_in (states_inside words q l h)) (λ h. (states_out words q (among_out (states_in 256 words) q h)).1)

-- The words of a set have no bit beyond the last state's.

no_more : (words : List ℕ) → length words ≡ 4 → (q : ℕ) → 256 ≤ q → member words q ≡ true → ⊥
unfolding member
no_more words four q l h =
    let none : get_or words (q / 64) 0 ≡ 0 = get_or_past words (q / 64) 0 (omega (arith, four)) in
    let zero : get_or words (q / 64) 0 / 2 ^ (q % 64) ≡ 0 = rw none (zero-div (2 ^ (q % 64))) in
    let one : get_or words (q / 64) 0 / 2 ^ (q % 64) % 2 ≡ 1 = eqb-true _ 1 h in
    omega (arith, zero, one)

pub member_among : (words : List ℕ) → length words ≡ 4 → (q : ℕ) → member words q ≡ among (states_in 256 words) q
member_among words four q = go (ltb q 256) refl
  where
    go : (t : Bool) → ltb q 256 ≡ t → member words q ≡ among (states_in 256 words) q
    go true e = states_has words q (ltb-true q 256 e)
    go false e =
        let l = ltb-false q 256 e in
        same_bool (λ h. absurd (no_more words four q l h))
        (λ h. let low = (states_out words q (among_out (states_in 256 words) q h)).0 in absurd (omega arith))

-- The states of a set below n are the rising list that has its members.
pub set_states : (words xs : List ℕ) (n : ℕ) → n ≤ 256 → Rising xs → ((q : ℕ) → Memᴰ q xs → q < n) → Has words (among xs)
    → states_in n words ≡ xs
unfolding states_in
set_states words xs n few rising low has =
    rising_same (keep (member words) (from 0 n)) xs (rising_keep (member words) (from_rising 0 n)) rising
    (λ q m. let o = keep_out (member words) (from 0 n) m in
    let b = member_from n 0 q o.0 in
    among_out xs q (sym (has q (omega arith)) ∙ o.1))
    (λ q m. let l = low q m in
    keep_in (member words) (from_member n 0 q (omega arith) (omega arith)) (has q (omega arith) ∙ among_in m))

pub meet_inside : (words others : List ℕ) (q : ℕ) → Memᴰ q (states_in 256 (meet_of words others)) → Memᴰ q (states_in 256 others)
meet_inside words others q m =
    let (l, h) = states_out (meet_of words others) q m in
    states_inside others q l (and_true_out (member words q) _ (sym (member_meet words others q l) ∙ h)).1

-- Rules that name states of a set alone.

pub named_sound : (states finals : List ℕ) (rules : List Rule)
    → ((q : ℕ) → Memᴰ q (states_in 256 finals) → Memᴰ q (states_in 256 states))
    → Sound (record {
      states = states_in 256 states;
      finals = states_in 256 finals;
      rules = keep (names_only (states_in 256 states)) rules;
    })
unfolding names_only
named_sound states finals rules inside =
    let xs = states_in 256 states in
    let named = λ (u : Rule) (m : Memᴰ u (keep (names_only xs) rules)). and_true_out (among xs u.target) _ (keep_out (names_only xs) rules m).1 in
    record {
      rising = states_rising states;
      low = states_few states;
      finals_rising = states_rising finals;
      finals = inside;
      targets = λ u m. among_out xs u.target (named u m).0;
      children = λ u m q n. among_out xs q (all_out (among xs) (named u m).1 q n);
    }

-- The rules whose number passes a test that depends on the rule alone.
pub kept_rules : (rules : List Rule) (by_number : ℕ → Bool) (test : Rule → Bool)
    → ((i : ℕ) → i < length rules → by_number i ≡ test (rule_at rules i))
    → map (rule_at rules) (keep by_number (from 0 (length rules))) ≡ keep test rules
kept_rules rules by_number test h =
    let k = length rules in
    ap (map (rule_at rules)) (keep_agree by_number (λ (i : ℕ). test (rule_at rules i)) (from 0 k)
    (λ i m. let b = member_from k 0 i m in h i (omega arith)))
    ∙ sym (keep_map test (rule_at rules) (from 0 k)) ∙ ap (keep test) (rules_numbered rules)

pub renamed_agree : (f g : ℕ → ℕ) (S : Stage) → Sound S → ((q : ℕ) → Memᴰ q S.states → f q ≡ g q)
    → map (renamed f) S.rules ≡ map (renamed g) S.rules
unfolding renamed
renamed_agree f g S sound h =
    map_agree (renamed f) (renamed g) S.rules
    (λ u m. let t : f u.target ≡ g u.target = h u.target (sound.targets u m) in
    let c : map f u.children ≡ map g u.children = map_agree f g u.children (λ q n. h q (sound.children u m q n)) in
    rw (t, c))

-- What the calls of each step leave in the sets and the rows is the stage that the step defines: from the contracts of the calls and what
-- `stages` proves of the steps, for the functions of src/steps.rt.
use Prim.Native.Nat.{ℕ, ◌<◌}
use native.Mathlib.Omega.{arith}
use mathlib.Core.Path.{◌≡◌, refl, sym, ap, ◌∙◌}
use mathlib.Core.List.Memᴰ
use mathlib.Core.List.{List, [], map, Memᴰ}
use mathlib.Core.Bool.{Bool, true, not, ◌&&◌}
use lib.ListN.{length, get_or}
use lib.Dec.{eqb, ltb}
use borrow.Author.Tests.{eq-eqb, eqb-true, ltb-true, lt-ltb}
use Rattle.lists.specs.Lists.{empty, all, from, keep, any, among}
use Rattle.lists.proofs.Mapping.{map_agree}
use Rattle.lists.proofs.Booleans.{and_true_in, and_true_out, same_bool}
use Rattle.lists.proofs.Elements.{all_member}
use Rattle.lists.proofs.Keeping.{keep_agree, keep_in, keep_out}
use Rattle.lists.proofs.Ranges.{from_low, from_rising, from_member, member_from}
use Rattle.lists.proofs.Rising.{rising_length}
use Rattle.lists.proofs.Search.{any_in, any_out, any_map, all_in, among_in, among_out}
use Rattle.sets.specs.Set.{member, meet_of}
use Rattle.sets.specs.Inner.{Has, states_in}
use Rattle.sets.proofs.StateSets.{member_meet}
use Rattle.automaton.specs.Automaton.{Rule, Automaton, WellFormed, WellFormedRule, renamed}
use Rattle.automaton.specs.Row.{rule_at}
use Rattle.indexing.proofs.Indexing.{rules_numbered}
use Rattle.refinement.specs.Simulation.{Relation}
use Rattle.refinement.specs.Inner.{Simulable}
use Rattle.stages.specs.Steps.{Stage, closure, buildable, productive, names_only, trimmed, below, equivalent, first_of, representative}
use Rattle.stages.specs.Steps.{same_rule, firsts, quotient, dominated_by, dominated, needed, kept, restricted, position, numbered}
use Rattle.stages.specs.Inner.{Sound}
use Rattle.stages.proofs.Closure.{closure_states}
use Rattle.stages.proofs.Firsts.{firsts_places}
use Rattle.stages.proofs.Trimming.{trimmed_sound}
use Rattle.stages.proofs.Quotient.{below_reflexive, first_same, final_representative, representative_final, representative_state}
use Rattle.stages.proofs.Quotient.{quotient_states, quotient_sound}
use Rattle.stages.proofs.Restricting.{kept_states, finals_kept, children_kept, restricted_sound}
use Rattle.stages.proofs.Numbering.{position_low, positions_rising}
use Rattle.reduction.specs.Inner.{name_in, repeats, dominates, goes_at, stays, staying, grows}
use Rattle.reduction.proofs.steps.StageSets.{states_out, set_states, kept_rules, renamed_agree}

-- Step 1: up from no state, the set that grows has the productive states.

abbrev pub up : (ℕ → Bool) → Rule → ℕ → Bool
up set u q = eqb u.target q && all set u.children

module _ (A : Automaton) (w : WellFormed A) where
  abbrev pub without_finals : Stage
  without_finals = record { states = from 0 A.states; finals = []; rules = A.rules }

  state_of : (q : ℕ) → q < A.states → Memᴰ q (from 0 A.states)
  state_of q h = from_member A.states 0 q (omega arith) (omega arith)

  formed : (u : Rule) → Memᴰ u A.rules → WellFormedRule A u
  formed u m = all_member w.rules m

  pub without_finals_sound : Sound without_finals
  without_finals_sound = record {
    rising = from_rising 0 A.states;
    low = from_low 0 A.states 256 (omega (arith, w.states));
    finals_rising = empty;
    finals = λ q m. absurd (Memᴰ.not-nil m);
    targets = λ u m. state_of u.target (formed u m).target;
    children = λ u m q n. state_of q (all_member (formed u m).children n);
  }

  module _ (finals words : List ℕ) (finals_are : states_in A.states finals ≡ A.finals)
      (grown : Has words (among (closure (grows up without_finals) without_finals.states))) where
    has_productive : Has words (among (productive A))
    unfolding productive buildable grows among any
    has_productive = grown

    states_are : states_in 256 words ≡ (trimmed A).states
    unfolding trimmed
    states_are =
        set_states words (productive A) 256 (omega arith) (trimmed_sound A w).rising (λ q m. all_member (trimmed_sound A w).low m)
        has_productive

    final_out : (q : ℕ) → Memᴰ q A.finals → member finals q ≡ true
    unfolding states_in
    final_out q m = (keep_out (member finals) (from 0 A.states) (rw finals_are m)).1

    final_there : (q : ℕ) → (member finals q && among (productive A) q) ≡ true → among (trimmed A).finals q ≡ true
    unfolding trimmed states_in productive
    final_there q h =
        let (final, kept) = and_true_out (member finals q) (among (productive A) q) h in
        let low = member_from A.states 0 q (closure_states _ (from 0 A.states) q (among_out (productive A) q kept)) in
        among_in (keep_in (among (productive A))
        (rw finals_are at (keep_in (member finals) (from_member A.states 0 q (omega arith) (omega arith)) final)) kept)

    final_back : (q : ℕ) → among (trimmed A).finals q ≡ true → (member finals q && among (productive A) q) ≡ true
    unfolding trimmed
    final_back q h =
        let (final, kept) = keep_out (among (productive A)) A.finals (among_out _ q h) in
        and_true_in (final_out q final) kept

    has_finals : Has (meet_of finals words) (among (trimmed A).finals)
    has_finals q l =
        member_meet finals words q l ∙ ap (λ (t : Bool). member finals q && t) (has_productive q l)
        ∙ same_bool (final_there q) (final_back q)

    pub trimmed_is : (record {
      states = states_in 256 words;
      finals = states_in 256 (meet_of finals words);
      rules = keep (names_only (states_in 256 words)) A.rules;
    }) ≡ trimmed A
    unfolding trimmed
    trimmed_is =
        let last : states_in 256 (meet_of finals words) ≡ (trimmed A).finals =
        set_states (meet_of finals words) (trimmed A).finals 256 (omega arith) (trimmed_sound A w).finals_rising
        (λ q m. all_member (trimmed_sound A w).low ((trimmed_sound A w).finals q m)) has_finals in
        rw (states_are, last) refl

  arity : (u : Rule) → Memᴰ u (trimmed A).rules → length u.children ≡ get_or A.ranks u.symbol 0
  unfolding trimmed
  arity u m = (formed u (keep_out _ A.rules m).0).arity

  -- What step 2 asks.
  pub trimmed_simulable : Simulable (trimmed A).rules (trimmed A).states
  trimmed_simulable = record {
    targets = (trimmed_sound A w).targets;
    children = (trimmed_sound A w).children;
    arity = λ u v m n same. arity u m ∙ ap (λ (f : ℕ). get_or A.ranks f 0) same ∙ sym (arity v n);
  }

-- Step 5: down from the final states, it has those that the step keeps.

abbrev pub down : (ℕ → Bool) → Rule → ℕ → Bool
down set u q = set u.target && among u.children q

module _ (S : Stage) (sound : Sound S) (words : List ℕ) (grown : Has words (among (closure (grows down S) S.states))) where
  pub kept_is : states_in 256 words ≡ kept S
  unfolding kept needed grows restricted
  kept_is =
      set_states words (kept S) 256 (omega arith) (restricted_sound S sound).rising
      (λ q m. all_member sound.low (kept_states S sound q m)) grown

  pub finals_grown : (q : ℕ) → Memᴰ q S.finals → Memᴰ q (states_in 256 words)
  finals_grown q m = rw kept_is (finals_kept S sound q m)

  pub restricted_is : (record {
    states = states_in 256 words;
    finals = S.finals;
    rules = keep (names_only (states_in 256 words)) S.rules;
  }) ≡ restricted S
  unfolding restricted names_only
  restricted_is =
      let rules_are : keep (names_only (kept S)) S.rules ≡ keep (λ (u : Rule). among (kept S) u.target) S.rules =
      keep_agree (names_only (kept S)) (λ (u : Rule). among (kept S) u.target) S.rules (λ u m. same_bool
      (λ h. (and_true_out (among (kept S) u.target) _ h).0)
      (λ h. and_true_in h (all_in (among (kept S)) u.children
      (λ q n. among_in (children_kept S sound u m (among_out (kept S) u.target h) q n))))) in
      rw (kept_is, rules_are) refl

-- Step 3: of equal rules the first stays.

first_stays : (R : Relation) (rules : List Rule) (i : ℕ) → i < length rules
    → stays repeats R rules i ≡ not (any (λ (j : ℕ). same_rule (rule_at rules j) (rule_at rules i)) (from 0 i))
unfolding stays goes_at repeats
first_stays R rules i l =
    let same : ℕ → Bool = λ j. same_rule (rule_at rules j) (rule_at rules i) in
    let earlier : ℕ → Bool = λ j. ltb j i && same j in
    ap not (same_bool
    (λ h. let f = any_out earlier (from 0 (length rules)) h in
    let (before, is) = and_true_out (ltb f.element i) (same f.element) f.passes in
    any_in same (from_member i 0 f.element (omega arith) (omega (arith, ltb-true f.element i before))) is)
    (λ h. let f = any_out same (from 0 i) h in
    let (low, high) = member_from i 0 f.element f.member in
    any_in earlier (from_member (length rules) 0 f.element (omega arith) (omega arith))
    (and_true_in (lt-ltb f.element i (omega arith)) f.passes)))

staying_firsts : (R : Relation) (rules : List Rule) → staying repeats R rules ≡ firsts rules
unfolding staying
staying_firsts R rules =
    ap (map (rule_at rules)) (keep_agree (stays repeats R rules) _ (from 0 (length rules))
    (λ i m. let b = member_from (length rules) 0 i m in first_stays R rules i (omega arith)))
    ∙ firsts_places (rule_at rules) (length rules) ∙ ap firsts (rules_numbered rules)

module _ (states finals : List ℕ) (rules : List Rule) where
  abbrev pub stage : Stage
  stage = record { states = states_in 256 states; finals = states_in 256 finals; rules = rules }

  module _ (sound : Sound stage) (names : List ℕ)
      (named : (q : ℕ) → q < 256 → member states q ≡ true → equivalent (below stage) q q ≡ true
      → name_in names q ≡ first_of (equivalent (below stage) q) (from 0 256)) where
    block_of : ℕ → ℕ
    block_of = representative (below stage) stage.states

    name_block : (q : ℕ) → Memᴰ q stage.states → name_in names q ≡ block_of q
    unfolding equivalent block_of
    name_block q m =
        let r = below_reflexive stage sound q m in
        let (l, h) = states_out states q m in
        named q l h (and_true_in r r) ∙ first_same stage sound q m

    block_self : (q : ℕ) → Memᴰ q (quotient (below stage) stage).states → block_of q ≡ q
    unfolding quotient block_of
    block_self q m = eqb-true (block_of q) q (keep_out _ stage.states m).1

    grouped_targets : (next : List Rule) → next ≡ map (renamed (name_in names)) rules
        → next ≡ map (renamed (representative (below stage) stage.states)) rules
    unfolding block_of
    grouped_targets next e = e ∙ renamed_agree (name_in names) block_of stage sound name_block

    grouped_states : (set : List ℕ) → Has set (λ (r : ℕ). any (λ (q : ℕ). eqb (name_in names q) r) stage.states)
        → states_in 256 set ≡ (quotient (below stage) stage).states
    unfolding block_of
    grouped_states set has =
        let left = quotient_sound stage sound in
        set_states set (quotient (below stage) stage).states 256 (omega arith) left.rising (λ q m. all_member left.low m)
        (λ r l. has r l ∙ same_bool
        (λ t. let f = any_out (λ (q : ℕ). eqb (name_in names q) r) stage.states t in
        let same : block_of f.element ≡ r = sym (name_block f.element f.member) ∙ eqb-true (name_in names f.element) r f.passes in
        among_in (rw same at (representative_state stage sound f.element f.member)))
        (λ t. let m = among_out _ r t in
        let n = quotient_states stage sound r m in
        any_in (λ (q : ℕ). eqb (name_in names q) r) n (eq-eqb (name_in names r) r (name_block r n ∙ block_self r m))))

    grouped_finals : (set : List ℕ) → Has set (λ (r : ℕ). any (λ (q : ℕ). eqb (name_in names q) r) stage.finals)
        → states_in 256 set ≡ (quotient (below stage) stage).finals
    unfolding block_of
    grouped_finals set has =
        let left = quotient_sound stage sound in
        set_states set (quotient (below stage) stage).finals 256 (omega arith) left.finals_rising (λ q m. all_member left.low (left.finals q m))
        (λ r l. has r l ∙ same_bool
        (λ t. let f = any_out (λ (q : ℕ). eqb (name_in names q) r) stage.finals t in
        let same : block_of f.element ≡ r =
        sym (name_block f.element (sound.finals _ f.member)) ∙ eqb-true (name_in names f.element) r f.passes in
        among_in (rw same at (final_representative stage sound f.element f.member)))
        (λ t. let (f, m, e) = representative_final stage sound r (among_out _ r t) in
        any_in (λ (q : ℕ). eqb (name_in names q) r) m (eq-eqb (name_in names f) r (name_block f (sound.finals f m) ∙ e))))

    pub grouped_is : (R : Relation) (next left : List Rule) → next ≡ map (renamed (name_in names)) rules → left ≡ staying repeats R next
        → (set last : List ℕ) → Has set (λ (r : ℕ). any (λ (q : ℕ). eqb (name_in names q) r) stage.states)
        → Has last (λ (r : ℕ). any (λ (q : ℕ). eqb (name_in names q) r) stage.finals)
        → (record { states = states_in 256 set; finals = states_in 256 last; rules = left }) ≡ quotient (below stage) stage
    unfolding quotient
    grouped_is R next left e rules_are set last has has_last =
        let rules_left : left ≡ (quotient (below stage) stage).rules =
        rules_are ∙ staying_firsts R next ∙ ap firsts (grouped_targets next e) in
        rw (grouped_states set has, grouped_finals last has_last, rules_left) refl

-- Step 4: no dominated rule stays.

pub staying_undominated : (R : Relation) (rules : List Rule)
    → staying dominates R rules ≡ keep (λ (u : Rule). not (dominated R rules u)) rules
unfolding staying stays goes_at dominates dominated
staying_undominated R rules =
    kept_rules rules _ (λ (u : Rule). not (dominated R rules u))
    (λ i l. ap not (sym (any_map (dominated_by R (rule_at rules i)) (rule_at rules) (from 0 (length rules)))
    ∙ ap (any (dominated_by R (rule_at rules i))) (rules_numbered rules)))

-- Step 6.

module _ (states finals : List ℕ) (rules : List Rule) (sound : Sound (stage states finals rules)) (names : List ℕ)
    (named : (q : ℕ) → q < 256 → member states q ≡ true → name_in names q ≡ position (states_in 256 states) q) where
  abbrev left : Stage
  left = stage states finals rules

  name_position : (q : ℕ) → Memᴰ q left.states → name_in names q ≡ position left.states q
  name_position q m = let (l, h) = states_out states q m in named q l h

  pub numbered_finals : (set : List ℕ) → Has set (λ (r : ℕ). any (λ (q : ℕ). eqb (name_in names q) r) left.finals)
      → states_in (length left.states) set ≡ map (position left.states) left.finals
  unfolding among
  numbered_finals set h =
      set_states set (map (position left.states) left.finals) (length left.states)
      (rising_length sound.rising sound.low)
      (positions_rising left.states sound.rising left.finals sound.finals_rising sound.finals)
      (λ i m. let (q, o, f) = Memᴰ.of_map (position left.states) left.finals m in
      rw (← f) (position_low left.states sound.rising q (sound.finals q o)))
      (λ r l. h r l
      ∙ sym (any_map (λ (i : ℕ). eqb i r) (name_in names) left.finals)
      ∙ ap (any (λ (i : ℕ). eqb i r))
      (map_agree (name_in names) (position left.states) left.finals (λ q m. name_position q (sound.finals q m))))

  pub numbered_is : (ranks set : List ℕ) (count : ℕ) (next : List Rule) → count ≡ length left.states
      → next ≡ map (renamed (name_in names)) rules
      → Has set (λ (r : ℕ). any (λ (q : ℕ). eqb (name_in names q) r) left.finals)
      → (record { states = count; ranks = ranks; finals = states_in count set; rules = next }) ≡ numbered ranks left
  unfolding numbered
  numbered_is ranks set count next c e h =
      let rules_are : next ≡ map (renamed (position left.states)) rules =
      e ∙ renamed_agree (name_in names) (position left.states) left sound name_position in
      rw (c, rules_are, numbered_finals set h) refl

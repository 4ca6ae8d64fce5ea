-- The loop of `simulate`: what holds before a round, that it holds again once the changed rows are put back, and what follows where no row
-- changed. A round may pass over rules that no change touches: where the rows of a rule's children stay the same, so do its matches.
use Prim.Native.Nat.{ℕ, suc, ◌+◌, ◌≤◌, ◌<◌}
use native.Mathlib.Nat.{mul-le-mul}
use native.Mathlib.Numerals.{add-one}
use native.Mathlib.Omega.{arith}
use mathlib.Core.Path.{◌≡◌, refl, sym, ap, ap₂, ◌∙◌}
use mathlib.Core.List.{List, [], ◌∷◌, Memᴰ}
use mathlib.Core.Bool.{Bool, true, false, not, ◌&&◌, and-true, true≢false}
use lib.ListN.{length}
use lib.Dec.{eqb, ltb}
use borrow.Author.Tests.{eq-eqb, ne_eqb, ltb-true, ltb-false, lt-ltb, le-ltb}
use Rattle.lists.specs.Lists.{from}
use Rattle.lists.proofs.Overwriting.{kept_few}
use Rattle.lists.proofs.Ranges.{member_from}
use Rattle.lists.proofs.Booleans.{and_same, never_true}
use Rattle.lists.proofs.Search.{any_none_out, any_agree, all_in, all_out}
use Rattle.sets.specs.Set.{member, empty_set, same_set}
use Rattle.sets.specs.Entries.{entry_at}
use Rattle.sets.specs.Inner.{with_all, set_of, states_in, Has}
use Rattle.sets.specs.declared.set.StateSet.{StateSet}
use Rattle.sets.proofs.StateSets.{member_empty, length_set_of, same_set_out, bounded_set_of, sets_differ}
use Rattle.automaton.specs.Automaton.{Rule}
use Rattle.refinement.specs.Simulation.{Relation, related, paired, matched_by, matched, survives, refine, all_pairs, relation_at, rounds}
use Rattle.refinement.specs.Simulation.{relation}
use Rattle.refinement.specs.Inner.{relation_in, answers, touches, Quiet, Copied, Rounded}
use Rattle.refinement.proofs.Refinement.{related_member, member_pair, keep_related, refine_related, refine_out, rounds_fixed, rounds_least}
use Rattle.refinement.proofs.Maximality.{rounds_lose}
use Rattle.refinement.proofs.RelationRows.{related_in, relation_next, relation_same}

-- Two relations that agree on the children of a rule.
module _ (R S : Relation) where
  paired_same : (qs rs : List ℕ) → ((q : ℕ) → Memᴰ q qs → (r : ℕ) → related R q r ≡ related S q r)
      → paired R qs rs ≡ paired S qs rs
  unfolding paired
  paired_same [] [] same = refl
  paired_same [] (r ∷ rs) same = refl
  paired_same (q ∷ qs) [] same = refl
  paired_same (q ∷ qs) (r ∷ rs) same =
      ap₂ ◌&&◌ (same q (Memᴰ.head refl) r) (paired_same qs rs (λ p m. same p (Memᴰ.tail m)))

  matched_same : (u : Rule) → ((q : ℕ) → Memᴰ q u.children → (r : ℕ) → related R q r ≡ related S q r)
      → (rules : List Rule) (r : ℕ) → matched rules R r u ≡ matched rules S r u
  unfolding matched matched_by
  matched_same u same rules r =
      any_agree _ _ rules (λ v m.
      ap (λ (t : Bool). eqb v.target r && (eqb u.symbol v.symbol && t)) (paired_same u.children v.children same))

-- A pair of the next relation had its matches in the last one; where the rows of an untouched rule's children are those of the last one, it
-- has them still.
pub quiet_refined : (rules : List Rule) (last next : Relation) (changed : List ℕ) → next ≡ refine rules last
    → ((u : Rule) → Memᴰ u rules → (q : ℕ) → Memᴰ q u.children → member changed q ≡ false
    → (r : ℕ) → related last q r ≡ related next q r)
    → Quiet rules rules next (touches changed)
unfolding Quiet touches survives
quiet_refined rules last next changed is same u m untouched r e =
    let before = refine_out rules last u.target r (ap (λ (R : Relation). related R u.target r) (sym is) ∙ e) in
    sym (matched_same last next u (λ q c. same u m q c (any_none_out (member changed) untouched q c)) rules r)
    ∙ rw (eq-eqb u.target u.target refl) at (all_out _ before.1 u m)

-- Rows that have the same states relate the same.
pub rows_related : (last next : List StateSet) (q : ℕ) → Has (entry_at next q) (member (entry_at last q))
    → (r : ℕ) → related (relation_in last) q r ≡ related (relation_in next) q r
unfolding relation_in
rows_related last next q same r =
    let all = all_pairs (from 0 256) (from 0 256) in
    keep_related (λ (p : ℕ × ℕ). member (entry_at last p.0) p.1) all q r
    ∙ and_same (related all q r) (λ e.
    let b = member_from 256 0 r (member_pair (from 0 256) (from 0 256) (related_member all q r e)).1 in
    sym (same r (omega arith)))
    ∙ sym (keep_related (λ (p : ℕ × ℕ). member (entry_at next p.0) p.1) all q r)

-- Round j is before the last where the set of the states whose rows change in it is not empty.
module _ (rules : List Rule) (states : List ℕ) (j : ℕ) (early : j ≤ rounds rules states) (R : Relation) (is : R ≡ relation_at rules states j)
    (changed : StateSet) where
  pub changed_more : (((q : ℕ) → q < 256 → member changed.words q ≡ false) → refine rules R ≡ R)
      → (refine rules R ≡ R → (q : ℕ) → q < 256 → member changed.words q ≡ true → ⊥)
      → not (same_set changed.words empty_set) ≡ ltb j (rounds rules states)
  unfolding relation_at set_of with_all
  changed_more unchanged-fixed fixed-unchanged = go (same_set changed.words empty_set) refl
    where
      go : (t : Bool) → same_set changed.words empty_set ≡ t → not t ≡ ltb j (rounds rules states)
      go true e =
          let empty : changed.words ≡ empty_set = same_set_out changed.words empty_set changed.four (length_set_of []) e in
          let fixed = unchanged-fixed (λ q h. ap (λ (l : List ℕ). member l q) empty ∙ member_empty q h) in
          let last : j < rounds rules states → ⊥ = λ b. rounds_least rules states j b (rw is at fixed) in
          sym (le-ltb j (rounds rules states) (omega arith))
      go false e =
          let other : j ≡ rounds rules states → ⊥ = λ last.
          sets_differ changed.words empty_set changed.four (length_set_of []) changed.bits (bounded_set_of []) e (λ q h.
          never_true (fixed-unchanged (rw (is, last) (rounds_fixed rules states)) q h) ∙ sym (member_empty q h)) in
          sym (lt-ltb j (rounds rules states) (omega arith))

-- What holds after j rounds and one: the relation is the next one, and a state is in the set where its row changed in the last of them.
pub record Going (set : List ℕ) (rules : List Rule) (states : List ℕ) (R : Relation) (next : List StateSet) (changed : List ℕ) (j : ℕ) : Type 0 where
  pub early : j ≤ rounds rules states
  pub holds : R ≡ relation_at rules states (suc j)
  pub quiet : Quiet rules rules R (touches changed)
  pub more : not (same_set changed empty_set) ≡ ltb j (rounds rules states)
  pub copied : Copied set R next

-- The changed rows of the next relation in the place of the last ones.
module _ (set : List ℕ) (rules : List Rule) (rows after next : List StateSet) (lost : StateSet)
    (targets : (u : Rule) → Memᴰ u rules → member set u.target ≡ true)
    (round : Rounded set (answers rules rules (relation_in rows)) (relation_in rows) next lost.words)
    (put : (q : ℕ) → q < 256 → member lost.words q ≡ true → entry_at after q ≡ entry_at next q)
    (stay : (q : ℕ) → q < 256 → member lost.words q ≡ false → entry_at after q ≡ entry_at rows q) where
  abbrev R : Relation
  R = relation_in rows

  put_copied : Copied set (relation_in after) next
  unfolding Copied
  put_copied q h m r b = go (member lost.words q) refl
    where
      go : (t : Bool) → member lost.words q ≡ t → member (entry_at next q) r ≡ related (relation_in after) q r
      go true e = sym (related_in after q r h b ∙ ap (λ (row : List ℕ). member row r) (put q h e))
      go false e =
          round.same q h m e r b ∙ related_in rows q r h b ∙ sym (related_in after q r h b ∙ ap (λ (row : List ℕ). member row r) (stay q h e))

  next_row : (q : ℕ) → q < 256 → member set q ≡ true → Has (entry_at next q) (related (refine rules R) q)
  unfolding survives answers
  next_row q h m r b = round.next_rows q h m r b ∙ sym (refine_related rules R q r)

  -- A state that is no rule's target keeps its row.
  no_target : (q r : ℕ) → member set q ≡ false → survives rules R (q, r) ≡ true
  unfolding survives
  no_target q r out =
      all_in _ rules (λ u m. rw (ne_eqb u.target q (λ e. true≢false (sym (targets u m) ∙ ap (member set) e ∙ out))))

  put_refined : relation_in after ≡ refine rules R
  unfolding Copied
  put_refined = relation_next rules rows after (λ q h r b. go q h r b (member set q) refl)
    where
      go : (q : ℕ) → q < 256 → (r : ℕ) → r < 256 → (t : Bool) → member set q ≡ t → member (entry_at after q) r ≡ related (refine rules R) q r
      go q h r b true e = sym (related_in after q r h b) ∙ sym (put_copied q h e r b) ∙ next_row q h e r b
      go q h r b false e =
          let on : member lost.words q ≡ false = never_true (λ l. true≢false (sym (round.fewer q h l).0 ∙ e)) in
          ap (λ (row : List ℕ). member row r) (stay q h on) ∙ sym (related_in rows q r h b)
          ∙ sym (refine_related rules R q r ∙ rw (no_target q r e, and-true (related R q r)))

  put_quiet : ((u : Rule) → Memᴰ u rules → (q : ℕ) → Memᴰ q u.children → q < 256)
      → Quiet rules rules (relation_in after) (touches lost.words)
  put_quiet children =
      quiet_refined rules R (relation_in after) lost.words put_refined (λ u m q c e.
      rows_related rows after q (λ r b. ap (λ (row : List ℕ). member row r) (stay q (children u m q c) e)))

  -- A row that lost a state is another one.
  put_other : refine rules R ≡ R → (q : ℕ) → q < 256 → member lost.words q ≡ true → ⊥
  put_other fixed q h e =
      let f = round.fewer q h e in
      f.1 (λ r b m. next_row q h f.0 r b ∙ ap (λ (S : Relation). related S q r) fixed ∙ m)

  pub going_next : (states : List ℕ) (before : List StateSet) (changed : List ℕ) (j : ℕ)
      → ((u : Rule) → Memᴰ u rules → (q : ℕ) → Memᴰ q u.children → q < 256)
      → Going set rules states R before changed j → not (same_set changed empty_set) ≡ true
      → Going set rules states (relation_in after) next lost.words (j + 1)
  unfolding relation_at
  going_next states before changed j children g some =
      let early : j + 1 ≤ rounds rules states = omega (arith, ltb-true j (rounds rules states) (sym g.more ∙ some)) in
      let is : R ≡ relation_at rules states (j + 1) = rw add-one g.holds in
      record {
        early = early;
        holds = put_refined ∙ ap (refine rules) is;
        quiet = put_quiet children;
        more = changed_more rules states (j + 1) early R is lost
            (λ none. sym put_refined ∙ relation_same rows after (λ q h r b. ap (λ (row : List ℕ). member row r) (stay q h (none q h)))) put_other;
        copied = put_copied;
      }

module _ {set : List ℕ} {rules : List Rule} {states : List ℕ} {R : Relation} {next : List StateSet} {changed : List ℕ} {j : ℕ}
    (g : Going set rules states R next changed j) where
  pub going_done : not (same_set changed empty_set) ≡ false → (j ≡ rounds rules states) × (R ≡ relation rules states)
  unfolding relation
  going_done none =
      let late = ltb-false j (rounds rules states) (sym g.more ∙ none) in
      let last : j ≡ rounds rules states = omega (arith, g.early) in
      (last, g.holds ∙ rw last (rounds_fixed rules states))

  -- Each round but the last loses one of 256 · 256 pairs.
  pub going_few : length states ≤ 256 → not (same_set changed empty_set) ≡ true → j < 65536
  going_few few some =
      omega (
        arith,
        ltb-true j (rounds rules states) (sym g.more ∙ some),
        rounds_lose rules states (rounds rules states) (omega arith),
        mul-le-mul few few,
      )

-- There are at most 256 states.
pub states_few : (set : List ℕ) → length (states_in 256 set) ≤ 256
unfolding states_in
states_few set = kept_few (member set) 256

-- The first round, where all pairs of some states are there: a state has a match for a rule where it has a rule of the same symbol. What the
-- loop of `simulate` starts with, from what `start`, `first_round` and `copy_rows` leave.
use Prim.Native.Nat.{ℕ, ◌<◌}
use native.Mathlib.Omega.{arith}
use mathlib.Core.Path.{◌≡◌, refl, sym, ap, ap₂, ◌∙◌}
use mathlib.Core.List.{List, [], ◌∷◌, Memᴰ}
use mathlib.Core.Bool.{Bool, true, false, not, ◌&&◌, ◌||◌, and-true, and-false}
use lib.ListN.{length}
use lib.Dec.{eqb}
use borrow.Author.Tests.{eq-eqb, ne_eqb, eqb-true, eqb-false, not-true, not-false}
use Rattle.lists.specs.Lists.{all}
use Rattle.lists.proofs.Booleans.{and_true_in, and_true_out, and_false_left}
use Rattle.lists.proofs.Search.{any_agree, all_agree}
use Rattle.sets.specs.Set.{member, same_set}
use Rattle.sets.specs.Entries.{entry_at}
use Rattle.sets.specs.Inner.{states_in, Has}
use Rattle.sets.specs.declared.set.StateSet.{StateSet}
use Rattle.sets.proofs.StateSets.{same_set_out, sets_differ, states_low}
use Rattle.sets.proofs.EntrySets.{entry_length, entry_bounded}
use Rattle.automaton.specs.Automaton.{Rule}
use Rattle.refinement.specs.Simulation.{Relation, related, paired, matched_by, matched, survives, refine, all_pairs, relation_at}
use Rattle.refinement.specs.Inner.{relation_in, Simulable, is_target, touches, Quiet, Copied}
use Rattle.refinement.proofs.Refinement.{member_related, pair_member, refine_related}
use Rattle.refinement.proofs.RelationRows.{related_in, relation_start, relation_next, relation_same}
use Rattle.refinement.proofs.rounds.Going.{rows_related, quiet_refined, changed_more, Going}

module _ (rules : List Rule) (states : List ℕ) (s : Simulable rules states) where
  paired_all : (qs rs : List ℕ) → length qs ≡ length rs → ((q : ℕ) → Memᴰ q qs → Memᴰ q states)
      → ((r : ℕ) → Memᴰ r rs → Memᴰ r states) → paired (all_pairs states states) qs rs ≡ true
  unfolding paired
  paired_all [] [] long left right = refl
  paired_all [] (r ∷ rs) long left right = absurd (omega arith)
  paired_all (q ∷ qs) [] long left right = absurd (omega arith)
  paired_all (q ∷ qs) (r ∷ rs) long left right =
      and_true_in (member_related (pair_member (left q (Memᴰ.head refl)) (right r (Memᴰ.head refl))))
      (paired_all qs rs (omega arith) (λ p m. left p (Memᴰ.tail m)) (λ p m. right p (Memᴰ.tail m)))

  matched_first : (u : Rule) → Memᴰ u rules → (r : ℕ) → matched rules (all_pairs states states) r u ≡ is_target rules u.symbol r
  unfolding matched matched_by is_target
  matched_first u m r =
      any_agree _ _ rules (λ v n. go v n (eqb u.symbol v.symbol) refl)
    where
      go : (v : Rule) → Memᴰ v rules → (t : Bool) → eqb u.symbol v.symbol ≡ t
          → (eqb v.target r && (t && paired (all_pairs states states) u.children v.children))
          ≡ (eqb v.symbol u.symbol && eqb v.target r)
      go v n true e =
          let same : u.symbol ≡ v.symbol = eqb-true u.symbol v.symbol e in
          rw (
            paired_all u.children v.children (s.arity u v m n same) (s.children u m) (s.children v n),
            eq-eqb v.symbol u.symbol (sym same),
            and-true,
          )
      go v n false e =
          rw (ne_eqb v.symbol u.symbol (λ f. eqb-false u.symbol v.symbol e (sym f)), and-false)

-- What `start` leaves and the first round makes of it, by the targets that the rules of each symbol have.
module _ (rules : List Rule) (set : StateSet) (s : Simulable rules (states_in 256 set.words))
    (symbols : (u : Rule) → Memᴰ u rules → u.symbol < 256)
    (holders : List StateSet) (held : (f : ℕ) → f < 256 → Has (entry_at holders f) (is_target rules f)) (start first : List StateSet)
    (started : (q : ℕ) → q < 256 → Has (entry_at start q) (λ (r : ℕ). member set.words q && member set.words r))
    (rounded : (q : ℕ) → q < 256 → Has (entry_at first q) (λ (r : ℕ). member (entry_at start q) r
    && all (λ (u : Rule). not (eqb u.target q) || member (entry_at holders u.symbol) r) rules)) where
  abbrev states : List ℕ
  states = states_in 256 set.words

  all_pairs_lem : relation_in start ≡ all_pairs states states
  all_pairs_lem = relation_start start set.words started

  first_refined : relation_in first ≡ refine rules (relation_in start)
  unfolding survives
  first_refined =
      relation_next rules start first (λ q h r b.
      rounded q h r b ∙ ap₂ ◌&&◌ (sym (related_in start q r h b))
      (all_agree _ (λ (u : Rule). not (eqb u.target q) || matched rules (relation_in start) r u) rules
      (λ u m. ap (λ (t : Bool). not (eqb u.target q) || t)
      (held u.symbol (symbols u m) r b ∙ sym (ap (λ (R : Relation). matched rules R r u) all_pairs_lem
      ∙ matched_first rules states s u m r))))
      ∙ sym (refine_related rules (relation_in start) q r))

  -- The states whose rows are not the whole set.
  module _ (changed : StateSet) (is : Has changed.words (λ (q : ℕ). member set.words q && not (same_set (entry_at first q) set.words))) where
    -- A row that is not changed has the states that it had, all of the set or none.
    row_same : (q : ℕ) → q < 256 → member changed.words q ≡ false → Has (entry_at first q) (member (entry_at start q))
    row_same q h e = go (member set.words q) refl
      where
        go : (t : Bool) → member set.words q ≡ t → Has (entry_at first q) (member (entry_at start q))
        go true m r b =
            let whole : entry_at first q ≡ set.words =
            same_set_out (entry_at first q) set.words (entry_length first q) set.four
            (not-false _ (rw m at (sym (is q h) ∙ e))) in
            ap (λ (row : List ℕ). member row r) whole ∙ sym (started q h r b ∙ rw m)
        go false m r b =
            let out : member (entry_at start q) r ≡ false = started q h r b ∙ rw m in
            rounded q h r b ∙ and_false_left _ out ∙ sym out

    first_quiet : Quiet rules rules (relation_in first) (touches changed.words)
    first_quiet =
        quiet_refined rules (relation_in start) (relation_in first) changed.words first_refined (λ u m q c e.
        rows_related start first q (row_same q (states_low 256 set.words q (s.children u m q c)) e))

    changed_other : refine rules (relation_in start) ≡ relation_in start → (q : ℕ) → q < 256 → member changed.words q ≡ true → ⊥
    changed_other fixed q h e =
        let both = and_true_out (member set.words q) _ (sym (is q h) ∙ e) in
        sets_differ (entry_at first q) set.words (entry_length first q) set.four (entry_bounded first q) set.bits
        (not-true _ both.1) (λ r b.
        sym (related_in first q r h b) ∙ ap (λ (R : Relation). related R q r) (first_refined ∙ fixed)
        ∙ related_in start q r h b ∙ started q h r b ∙ rw both.0)

    pub going_first : (next : List StateSet) → Copied set.words (relation_in first) next → Going set.words rules states (relation_in first) next changed.words 0
    unfolding relation_at
    going_first next copied =
        record {
          early = omega arith;
          holds = first_refined ∙ ap (refine rules) all_pairs_lem;
          quiet = first_quiet;
          more = changed_more rules states 0 (omega arith) (relation_in start) all_pairs_lem changed
              (λ none. sym first_refined ∙ relation_same start first (λ q h. row_same q h (none q h))) changed_other;
          copied = copied;
        }

-- The loop of `round`: after some of the rules each row is narrowed by those of them that are touched. Where no other rule takes a state out of
-- a row, this is what all rules leave.
use Prim.Native.Nat.{ℕ, ◌<◌}
use native.Mathlib.Decide.{ℕ_discrete}
use mathlib.Core.Path.{◌≡◌, refl, sym, ap, ◌∙◌}
use mathlib.Core.List.{List, [], ◌∷◌, ◌++◌, Memᴰ}
use mathlib.Core.Bool.{Bool, true, false, not, ◌&&◌, ◌||◌, and-true, and_assoc, true≢false, false≢true}
use lib.ListN.{length, set}
use lib.Dec.{eqb}
use borrow.Author.Tests.{eq-eqb, ne_eqb, eqb-true}
use Rattle.lists.specs.Lists.{all}
use Rattle.lists.proofs.Booleans.{and_true_out, and_false_left, and_false_right, and_same, or_true_left, same_bool}
use Rattle.lists.proofs.Search.{all_agree}
use Rattle.sets.specs.Set.{member, empty_set, with_state}
use Rattle.sets.specs.Entries.{entry_at}
use Rattle.sets.specs.Inner.{Has}
use Rattle.sets.specs.declared.set.StateSet.{StateSet}
use Rattle.sets.proofs.StateSets.{member_empty, member_with, with_each}
use Rattle.sets.proofs.EntrySets.{entry_put, entry_other}
use Rattle.automaton.specs.Automaton.{Rule}
use Rattle.refinement.specs.Simulation.{Relation, related, matched}
use Rattle.refinement.specs.Inner.{answers, touches, Quiet, Copied, Rounded}
use Rattle.refinement.proofs.rounds.Replacing.{all_next}

-- Of some rules those that are touched and have target q have a match of target r.
abbrev pub narrowing : (Rule → Bool) → List Rule → Relation → List Rule → ℕ → ℕ → Bool
narrowing touched others R rules q r = all (λ (u : Rule). not (touched u && eqb u.target q) || matched others R r u) rules

pub rounded_none : {states : List ℕ} (touched : Rule → Bool) (others : List Rule) {R : Relation} {next : List StateSet} → Copied states R next
    → Rounded states (narrowing touched others R []) R next empty_set
unfolding Copied all
rounded_none touched others {R} copied =
    record {
      next_rows = λ q h m r b. copied q h m r b ∙ sym (and-true (related R q r));
      same = λ q h m e. copied q h m;
      fewer = λ q h e. absurd (false≢true (sym (member_empty q h) ∙ e));
    }

module _ {states : List ℕ} {stays : ℕ → ℕ → Bool} {R : Relation} {next : List StateSet} {lost : List ℕ} (w : Rounded states stays R next lost) where
  rounded_agrees : (other : ℕ → ℕ → Bool) → ((q r : ℕ) → related R q r ≡ true → stays q r ≡ other q r) → Rounded states other R next lost
  rounded_agrees other same = record {
    next_rows = λ q h m r b. w.next_rows q h m r b ∙ and_same (related R q r) (same q r);
    same = w.same;
    fewer = w.fewer;
  }

module _ (touched : Rule → Bool) (others us : List Rule) (u : Rule) {states : List ℕ} {R : Relation} {next : List StateSet} {lost : List ℕ}
    (w : Rounded states (narrowing touched others R us) R next lost) where
  abbrev before : ℕ → ℕ → Bool
  before = narrowing touched others R us

  abbrev after : ℕ → ℕ → Bool
  after = narrowing touched others R (us ++ (u ∷ []))

  -- A rule that is not touched, or has another target, asks nothing.
  nothing_asked : (q r : ℕ) → (touched u && eqb u.target q) ≡ false → before q r ≡ after q r
  nothing_asked q r e = sym (all_next us u _ ∙ rw (e, and-true))

  pub rounded_pass : touched u ≡ false → Rounded states after R next lost
  rounded_pass out = rounded_agrees w after (λ q r m. nothing_asked q r (and_false_left (eqb u.target q) out))

  -- A rule that is touched narrows the row of its target.
  module _ (row : StateSet) (is : touched u ≡ true) (low : u.target < 256) (known : member states u.target ≡ true)
      (narrowed : Has row.words (λ (r : ℕ). member (entry_at next u.target) r && matched others R r u)) where
    row_after : (r : ℕ) → r < 256 → member row.words r ≡ (related R u.target r && after u.target r)
    row_after r b =
        rw (all_next us u, is, eq-eqb u.target u.target refl)
        (narrowed r b ∙ ap (λ (t : Bool). t && matched others R r u) (w.next_rows u.target low known r b)
        ∙ and_assoc (related R u.target r) (before u.target r) (matched others R r u))

    other_after : (p : ℕ) → (p ≡ u.target → ⊥) → p < 256 → member states p ≡ true
        → Has (entry_at next p) (λ (r : ℕ). related R p r && after p r)
    other_after p d h m r b =
        w.next_rows p h m r b ∙ ap (λ (t : Bool). related R p r && t)
        (nothing_asked p r (and_false_right (touched u) (ne_eqb u.target p (λ e. d (sym e)))))

    -- The row is what it was, or has lost a state.
    pub rounded_kept : row.words ≡ entry_at next u.target → Rounded states after R next lost
    rounded_kept kept = record {
      next_rows = λ p h m r b. elim (ℕ_discrete p u.target) [
        | yes e ↦ rw e (ap (λ (set : List ℕ). member set r) (sym kept) ∙ row_after r b)
        | no d ↦ other_after p d h m r b
      ];
      same = w.same;
      fewer = w.fewer;
    }

    pub rounded_fewer : u.target < length next → (Has row.words (member (entry_at next u.target)) → ⊥)
        → Rounded states after R (set next u.target row) (with_state lost u.target)
    rounded_fewer room other = record {
      next_rows = λ p h m r b. elim (ℕ_discrete p u.target) [
        | yes e ↦ rw (e, row_at) (row_after r b)
        | no d ↦ rw (entry_other next u.target row p d) (other_after p d h m r b)
      ];
      same = λ p h m out. let off = sym (member_with lost u.target p h) ∙ out in elim (ℕ_discrete p u.target) [
        | yes e ↦ absurd (true≢false (sym (or_true_left (member lost p) (eq-eqb p u.target e)) ∙ off))
        | no d ↦ rw (entry_other next u.target row p d) (w.same p h m (rw (ne_eqb p u.target d) at off))
      ];
      fewer = with_each
          (λ (p : ℕ). (member states p ≡ true)
          × (((r : ℕ) → r < 256 → related R p r ≡ true → member (entry_at (set next u.target row) p) r ≡ true) → ⊥))
          lost u.target
          (λ p h on. let f = w.fewer p h on in (f.0, λ all. f.1 (λ r b m. was_there p r b (all r b m)))) (
            known,
            λ all. other (λ r b. same_bool
                (λ m. (and_true_out _ (matched others R r u) (sym (narrowed r b) ∙ m)).0)
                (λ m. rw row_at at (all r b (and_true_out _ (before u.target r) (sym (w.next_rows u.target low known r b) ∙ m)).0))),
          );
    }
      where
        row_at : entry_at (set next u.target row) u.target ≡ row.words
        row_at = entry_put next u.target row room

        was_there : (p r : ℕ) → r < 256 → member (entry_at (set next u.target row) p) r ≡ true → member (entry_at next p) r ≡ true
        was_there p r b m = elim (ℕ_discrete p u.target) [
          | yes e ↦ rw e (and_true_out _ (matched others R r u) (sym (narrowed r b) ∙ rw (e, row_at) at m)).0
          | no d ↦ rw (entry_other next u.target row p d) at m
        ]

-- Where the others are quiet, each rule of a row's state has a match for the states that are left.
pub rounded_all : (rules others : List Rule) (changed : List ℕ) {states : List ℕ} {R : Relation} {next : List StateSet} {lost : List ℕ}
    → Quiet rules others R (touches changed) → Rounded states (narrowing (touches changed) others R rules) R next lost
    → Rounded states (answers rules others R) R next lost
unfolding Quiet answers
rounded_all rules others changed {R = R} quiet w =
    rounded_agrees w _ (λ q r is. all_agree _ _ rules (λ u m. asked q r is u m (eqb u.target q) refl (touches changed u) refl))
  where
    asked : (q r : ℕ) → related R q r ≡ true → (u : Rule) → Memᴰ u rules → (t : Bool) → eqb u.target q ≡ t
        → (s : Bool) → touches changed u ≡ s → (not (s && t) || matched others R r u) ≡ (not t || matched others R r u)
    asked q r e u m t is true on = refl
    asked q r e u m true is false out =
        sym (quiet u m out r (ap (λ (p : ℕ). related R p r) (eqb-true u.target q is) ∙ e))
    asked q r e u m false is false out = refl

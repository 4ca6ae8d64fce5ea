-- Sets put one after the other: at the entries of the states of a set, for the loops of `start`, `copy_rows` and `put_back`; and by the rules of
-- some rows, for those of `hold_targets` and `first_round`.
use Prim.Native.Nat.{ℕ, ◌<◌}
use native.Mathlib.Decide.{ℕ_discrete}
use mathlib.Core.Path.{◌≡◌, refl, sym, ap, ◌∙◌}
use mathlib.Core.List.{List, [], ◌∷◌, ◌++◌}
use mathlib.Core.Bool.{Bool, true, false, not, cond, ◌&&◌, ◌||◌, and-true, and_assoc, or-true, or-false, or_comm}
use lib.ListN.{length, set}
use lib.Dec.{eqb}
use borrow.Author.Tests.{eq-eqb, ne_eqb}
use Rattle.lists.specs.Lists.{all, among, any}
use Rattle.lists.proofs.Search.{any_append, all_joined}
use Rattle.sets.specs.Set.{member, empty_set, with_state, meet_of}
use Rattle.sets.specs.Entries.{entry_at}
use Rattle.sets.specs.Inner.{Has}
use Rattle.sets.specs.declared.set.StateSet.{StateSet}
use Rattle.sets.proofs.StateSets.{same_test, member_empty, member_with, member_meet}
use Rattle.sets.proofs.StateLoops.{among_more}
use Rattle.sets.proofs.EntrySets.{entry_put, entry_other}
use Rattle.automaton.specs.Automaton.{Rule}
use Rattle.refinement.specs.Inner.{is_target}

-- The entries of some states are new, and the others old.
pub record Replaced (states : List ℕ) (new old : ℕ → List ℕ) (sets : List StateSet) : Type 0 where
  pub entries : (e : ℕ) → e < 256 → entry_at sets e ≡ cond (among states e) (new e) (old e)

pub replaced_none : (new : ℕ → List ℕ) (sets : List StateSet) → Replaced [] new (entry_at sets) sets
unfolding among any
replaced_none new sets = record { entries = λ e h. refl }

pub replaced_more : {states : List ℕ} {new old : ℕ → List ℕ} {sets : List StateSet} (at q : ℕ) (s : StateSet)
    → Replaced states new old sets → at ≡ q → at < length sets → s.words ≡ new q → Replaced (states ++ (q ∷ [])) new old (set sets at s)
replaced_more {states} {new} {old} {sets} at q s r place room is = rw place record {
  entries = λ e h. elim (ℕ_discrete e q) [
    | yes same ↦ rw (same, among_more states q q, eq-eqb q q refl, or-true) (entry_put sets q s (rw place at room) ∙ is)
    | no other ↦ rw (among_more states q e, ne_eqb q e (λ f. other (sym f)), or-false) (entry_other sets q s e other ∙ r.entries e h)
  ];
}

-- All states of a set are passed.
module _ (set : List ℕ) {states : List ℕ} {new old : ℕ → List ℕ} {sets : List StateSet} (r : Replaced states new old sets)
    (all : (q : ℕ) → q < 256 → among states q ≡ member set q) (q : ℕ) (h : q < 256) where
  pub replaced_in : member set q ≡ true → entry_at sets q ≡ new q
  replaced_in is = r.entries q h ∙ rw (all q h, is)

  pub replaced_out : member set q ≡ false → entry_at sets q ≡ old q
  replaced_out is = r.entries q h ∙ rw (all q h, is)

  -- Where it is the set that is put, over empty ones, the entries of its states are the set, and the others are empty.
  pub replaced_start : new q ≡ set → old q ≡ empty_set → Has (entry_at sets q) (λ (s : ℕ). member set q && member set s)
  replaced_start whole empty s b = go (member set q) refl
    where
      go : (t : Bool) → member set q ≡ t → member (entry_at sets q) s ≡ (t && member set s)
      go true e = ap (λ (row : List ℕ). member row s) (replaced_in e ∙ whole)
      go false e = ap (λ (row : List ℕ). member row s) (replaced_out e ∙ empty) ∙ member_empty s b

-- By one rule more.

pub target_none : (f r : ℕ) → is_target [] f r ≡ false
unfolding is_target any
target_none f r = refl

-- A state of the old entry q that is held for the symbol of each rule of target q.
abbrev pub met : List StateSet → List StateSet → List Rule → ℕ → ℕ → Bool
met holders old rules q r =
    member (entry_at old q) r && all (λ (u : Rule). not (eqb u.target q) || member (entry_at holders u.symbol) r) rules

pub met_none : (holders old : List StateSet) (q r : ℕ) → member (entry_at old q) r ≡ met holders old [] q r
unfolding all
met_none holders old q r = sym (and-true (member (entry_at old q) r))

module _ (us : List Rule) (u : Rule) where
  target_next : (f r : ℕ) → is_target (us ++ (u ∷ [])) f r ≡ (is_target us f r || (eqb u.symbol f && eqb u.target r))
  unfolding is_target any
  target_next f r = rw (any_append, or-false)

  pub all_next : (test : Rule → Bool) → all test (us ++ (u ∷ [])) ≡ (all test us && test u)
  unfolding all
  all_next test = rw (all_joined, and-true)

  -- The set of the rule's symbol gets the rule's target.
  pub hold_next : (holders : List StateSet) (at : ℕ) (s : StateSet) → at ≡ u.symbol → at < length holders
      → s.words ≡ with_state (entry_at holders at) u.target
      → ((f : ℕ) → f < 256 → Has (entry_at holders f) (is_target us f))
      → (f : ℕ) → f < 256 → Has (entry_at (set holders at s) f) (is_target (us ++ (u ∷ [])) f)
  hold_next holders at s place room is has f h r b =
      elim (ℕ_discrete f at) [
        | yes same ↦
            rw (same, entry_put holders at s room, is, member_with _ u.target r b)
            (rw (target_next at r, has at (rw same at h) r b, eq-eqb u.symbol at (sym place), same_test r u.target u.target r sym sym)
            (or_comm (eqb u.target r) (is_target us at r)))
        | no other ↦
            rw (entry_other holders at s f other)
            (has f h r b ∙ rw (target_next f r, ne_eqb u.symbol f (λ e. other (sym e ∙ sym place)), or-false))
      ]

  -- The entry of the rule's target keeps what is held for the rule's symbol.
  pub meet_next : (holders old sets : List StateSet) (at : ℕ) (s : StateSet) → at ≡ u.target → at < length sets
      → s.words ≡ meet_of (entry_at sets at) (entry_at holders u.symbol)
      → ((q : ℕ) → q < 256 → Has (entry_at sets q) (met holders old us q))
      → (q : ℕ) → q < 256 → Has (entry_at (set sets at s) q) (met holders old (us ++ (u ∷ [])) q)
  meet_next holders old sets at s place room is has q h r b =
      elim (ℕ_discrete q at) [
        | yes same ↦
            rw (same, entry_put sets at s room, is, member_meet _ _ r b)
            (rw (has at (rw same at h) r b, all_next, eq-eqb u.target at (sym place))
            (and_assoc (member (entry_at old at) r) _ (member (entry_at holders u.symbol) r)))
        | no other ↦
            rw (entry_other sets at s q other)
            (has q h r b ∙ rw (all_next, ne_eqb u.target q (λ e. other (sym e ∙ sym place)), and-true))
      ]

-- New names: the first state that passes a test, the number of a member among the members, and arrays and sets of names that grow state by state.
-- From the laws of lists and sets, for the functions of src/blocks.rt.
use Prim.Native.Nat.{ℕ, zero, suc, ◌+◌, ◌≤◌, ◌<◌}
use native.Mathlib.Omega.{arith}
use native.Mathlib.Numerals.{add-one}
use native.Mathlib.Decide.{ℕ_discrete}
use mathlib.Core.Path.{◌≡◌, refl, sym, ap, ◌∙◌}
use mathlib.Core.List.{List, [], ◌∷◌, ◌++◌, append_assoc}
use mathlib.Core.Bool.{Bool, true, false, cond, false≢true, or-false}
use lib.ListN.{length, set, replicate, length-append, length-replicate, length-set}
use lib.Seq.{get_or-set_same, get_or-set_other}
use lib.Dec.{eqb}
use borrow.Author.Tests.{eq-eqb, le-ltb, ne_eqb}
use Rattle.std.specs.List.{find, range_with_len}
use Rattle.std.specs.Prelude.{Option, None, Some}
use Rattle.std.specs.Option.{option_map, unwrap_or}
use Rattle.std.proofs.lemmas.List.{get_or-replicate}
use Rattle.lists.specs.Lists.{from, keep, any, among}
use Rattle.lists.proofs.Booleans.{and_false_left, or_false_out}
use Rattle.lists.proofs.Overwriting.{kept_few}
use Rattle.lists.proofs.Search.{any_append}
use Rattle.sets.specs.Set.{member, with_state}
use Rattle.sets.specs.Inner.{states_in, Has}
use Rattle.sets.proofs.StateLoops.{Passed, Comes, state_comes, among_done, among_more}
use Rattle.refinement.specs.Simulation.{Relation}
use Rattle.stages.specs.Steps.{equivalent, first_of, position}
use Rattle.reduction.specs.Inner.{name_in}
use Rattle.reduction.proofs.growth.Growing.{member_more}

-- The search from i on, where the state d behind those that are searched passes.
first_searched : (test : ℕ → Bool) (m i n d : ℕ) → m < n → d ≡ i + m → test d ≡ true
    → unwrap_or (find test (range_with_len i m)) d ≡ first_of test (from i n)
unfolding first_of from
first_searched test zero i zero d h e is = absurd (omega arith)
first_searched test zero i (suc n) d h e is = let same : d ≡ i = omega arith in rw (same, rw same at is)
first_searched test (suc m) i zero d h e is = absurd (omega arith)
first_searched test (suc m) i (suc n) d h e is =
    go (test i) (rw add-one at (first_searched test m (i + 1) n d (omega arith) (omega arith) is))
  where
    go : (t : Bool) → unwrap_or (find test (range_with_len (suc i) m)) d ≡ first_of test (from (suc i) n)
        → unwrap_or (cond t (Some i) (find test (range_with_len (i + 1) m))) d ≡ cond t i (first_of test (from (suc i) n))
    go true f = refl
    go false f = rw add-one f

pub found_first : (test : ℕ → Bool) (r : Option ℕ) (q : ℕ) → q < 256 → option_map (λ (x : ℕ). x) r ≡ find test (range_with_len 0 q)
    → test q ≡ true → unwrap_or r q ≡ first_of test (from 0 256)
found_first test None q h e is = ap (λ (o : Option ℕ). unwrap_or o q) e ∙ first_searched test q 0 256 q h (omega arith) is
found_first test (Some x) q h e is = ap (λ (o : Option ℕ). unwrap_or o q) e ∙ first_searched test q 0 256 q h (omega arith) is

-- As many members stand before a member as there are below it.
pub position_kept : (test : ℕ → Bool) (d i n q : ℕ) → q ≡ i + d → d < n → test q ≡ true
    → position (keep test (from i n)) q ≡ length (keep test (from i d))
unfolding position keep from
position_kept test d i zero q e h is = absurd (omega arith)
position_kept test zero i (suc n) q e h is =
    let same : i ≡ q = omega arith in
    rw (same, is, eq-eqb q q refl)
position_kept test (suc d) i (suc n) q e h is =
    go (test i) (position_kept test d (suc i) n q (omega arith) (omega arith) is)
  where
    rest : List ℕ
    rest = keep test (from (suc i) n)

    go : (t : Bool) → position rest q ≡ length (keep test (from (suc i) d))
        → position (cond t (i ∷ rest) rest) q
        ≡ length (cond t (i ∷ keep test (from (suc i) d)) (keep test (from (suc i) d)))
    go true f = rw (ne_eqb i q (omega arith)) (ap suc f)
    go false f = f

pub states_few : (states : List ℕ) → length (states_in 256 states) ≤ 256
unfolding states_in
states_few states = kept_few (member states) 256

position_low : (states : List ℕ) (q : ℕ) → q < 256 → member states q ≡ true → position (states_in 256 states) q ≤ q
unfolding states_in
position_low states q h is = omega (arith, position_kept (member states) q 0 256 q (omega arith) h is, kept_few (member states) q)

-- A state that is not among those before it has their number.
position_here : (xs later : List ℕ) (q : ℕ) → among xs q ≡ false → position (xs ++ (q ∷ later)) q ≡ length xs
unfolding position among any
position_here [] later q out = rw (eq-eqb q q refl)
position_here (x ∷ xs) later q out =
    let (other, rest) = or_false_out (eqb x q) _ out in
    rw other (ap suc (position_here xs later q rest))

-- An array of names, none of which is above its state.
pub record Lowered (names : List ℕ) : Type 0 where
  pub long : length names ≡ 256
  pub low : (p : ℕ) → p < 256 → name_in names p ≤ p

-- The states that were passed have names as P says.
pub record Named (P : ℕ → ℕ → Type 0) (xs names : List ℕ) : Type 0 where
  pub at : (p : ℕ) → p < 256 → among xs p ≡ true → P p (name_in names p)

-- A name is the representative of its state, or the number of its state among some.

abbrev pub Represents : Relation → ℕ → ℕ → Type 0
Represents R p v = equivalent R p p ≡ true → v ≡ first_of (equivalent R p) (from 0 256)

abbrev pub Numbers : List ℕ → ℕ → ℕ → Type 0
Numbers states p v = v ≡ position states p

pub lowered_none : (names : List ℕ) → names ≡ replicate 256 0 → Lowered names
unfolding name_in
lowered_none names e = record {
  long = rw e (length-replicate {A = ℕ} 256 0);
  low = λ p h. rw e (omega (arith, get_or-replicate {A = ℕ} 256 p 0 0 h));
}

pub named_none : (P : ℕ → ℕ → Type 0) (names : List ℕ) → Named P [] names
unfolding among any
named_none P names = record { at = λ p h m. absurd (false≢true m) }

module _ (names : List ℕ) (l : Lowered names) (place q v : ℕ) (e : place ≡ q) (h : q < 256) where
  pub lowered_more : v ≤ q → Lowered (set names place v)
  unfolding name_in
  lowered_more few =
      let long = l.long in
      record {
        long = length-set names place v ∙ l.long;
        low = λ p b. rw e (elim (ℕ_discrete p q) [
          | yes s ↦ rw (s, get_or-set_same names q v 0 (omega arith)) few
          | no d ↦ rw (get_or-set_other names q p v 0 d) (l.low p b)
        ]);
      }

  pub named_more : (P : ℕ → ℕ → Type 0) (xs : List ℕ) → Named P xs names → P q v → Named P (xs ++ (q ∷ [])) (set names place v)
  unfolding name_in
  named_more P xs n here =
      let long = l.long in
      record {
        at = λ p b m. rw e (elim (ℕ_discrete p q) [
          | yes s ↦ rw (s, get_or-set_same names q v 0 (omega arith)) here
          | no d ↦
              rw (get_or-set_other names q p v 0 d)
              (n.at p b (rw (among_more, ne_eqb q p (λ s. d (sym s)), or-false) at m))
        ]);
      }

-- The first states of a set are numbered, as many as `count` says; the others are left.
pub record Numbered (states left : List ℕ) (count : ℕ) (names : List ℕ) : Type 0 where
  pub passed : List ℕ
  pub long : length passed ≡ count
  pub parts : Passed states passed left
  pub low : Lowered names
  pub named : Named (Numbers (states_in 256 states)) passed names

pub numbered_none : (states names : List ℕ) → names ≡ replicate 256 0 → Numbered states (states_in 256 states) 0 names
numbered_none states names e = record {
  passed = [];
  long = refl;
  parts = record { all = refl };
  low = lowered_none names e;
  named = named_none (Numbers (states_in 256 states)) names;
}

module _ {states left : List ℕ} {count : ℕ} {names : List ℕ} (n : Numbered states left count names) where
  -- The next state comes at the place that its number says, and has at least as many states below it.
  module _ (q : ℕ) (later : List ℕ) (e : left ≡ q ∷ later) where
    next : Comes states n.passed q
    next = state_comes later n.parts e

    number_is : count ≡ position (states_in 256 states) q
    number_is =
        sym n.long
        ∙ sym (rw (n.parts.all, e) (position_here n.passed later q (next.below q next.low ∙ and_false_left _ (le-ltb q q (omega arith)))))

    pub number_low : count ≤ q
    number_low = omega (arith, number_is, position_low states q next.low next.is)

    pub numbered_more : (place v : ℕ) → place ≡ q → v ≡ count → Numbered states later (count + 1) (set names place v)
    numbered_more place v at is = record {
      passed = n.passed ++ (q ∷ []);
      long = omega (arith, n.long, length-append n.passed (q ∷ []));
      parts = record { all = n.parts.all ∙ rw (e, append_assoc) };
      low = lowered_more names n.low place q v at next.low (omega (arith, number_low));
      named = named_more names n.low place q v at next.low (Numbers (states_in 256 states)) n.passed n.named (is ∙ number_is);
    }

  pub numbered_all : left ≡ [] → (q : ℕ) → q < 256 → member states q ≡ true → name_in names q ≡ position (states_in 256 states) q
  numbered_all none q h is = n.named.at q h (among_done n.parts none q h ∙ is)

-- A set has the names of the states that were passed.
abbrev pub Renames : (ℕ → ℕ) → List ℕ → List ℕ → Type 0
Renames name xs set = Has set (λ (r : ℕ). any (λ (p : ℕ). eqb (name p) r) xs)

pub renames_more : (name : ℕ → ℕ) (set xs : List ℕ) (q : ℕ) → Renames name xs set → Renames name (xs ++ (q ∷ [])) (with_state set (name q))
unfolding any
renames_more name set xs q has r h = rw (any_append, or-false, member_more set (name q) r h, has r h)

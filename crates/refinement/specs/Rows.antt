-- The rows of a relation, made again of its pairs: at q the set of the states below 256 that q is related to. A relation fixes its rows, for sets with
-- the same states have the same words.
use Prim.Native.Nat.{ℕ, suc, ◌+◌, ◌^◌, ◌<◌, zero-le, suc-le-suc}
use native.Mathlib.Bridge.{le_prop}
use native.Mathlib.Nat.{ℕ_set, add-zero, add-suc, suc-add, zero-add}
use mathlib.Core.HLevel.{is_prop→PathP, Π_prop}
use mathlib.Core.Path.{◌≡◌, refl, sym, subst, ap, ap₂, ◌∙◌}
use mathlib.Core.List.{List, [], ◌∷◌, map}
use mathlib.Core.Bool.{Bool, true, ◌&&◌, ◌||◌}
use lib.Dec.{eqb}
use lib.ListN.{length, get_or}
use borrow.Author.Tests.{eq-eqb, eqb-true}
use Rattle.lists.specs.Lists.{from, keep, any}
use Rattle.lists.proofs.Booleans.{and_true_in, and_true_out, same_bool}
use Rattle.lists.proofs.Ranges.{from_member}
use Rattle.lists.proofs.Search.{any_in, any_out, any_append, any_map, any_keep, among_kept}
use Rattle.sets.specs.Set.{member}
use Rattle.sets.specs.Entries.{entry_at}
use Rattle.sets.specs.Inner.{set_of}
use Rattle.sets.specs.declared.set.StateSet.{StateSet}
use Rattle.sets.proofs.EntrySets.{entry_bounded, entry_length, entry_read}
use Rattle.sets.proofs.StateSets.{same_members, member_set_of, length_set_of, bounded_set_of}
use Rattle.refinement.specs.Simulation.{Relation, related, all_pairs}
use Rattle.refinement.specs.Inner.{relation_in}

unfoldable pub row_of : Relation → ℕ → StateSet
row_of R q =
    let states = keep (related R q) (from 0 256) in
    record { words = set_of states; four = length_set_of states; bits = bounded_set_of states }

unfoldable pub rows_of : Relation → List StateSet
rows_of R = map (row_of R) (from 0 256)

-- A pair is in the relation that rows hold exactly if its row has its other state.

any_pairs : (test : ℕ × ℕ → Bool) (qs rs : List ℕ) → any test (all_pairs qs rs) ≡ any (λ (q : ℕ). any (λ (r : ℕ). test (q, r)) rs) qs
unfolding any all_pairs
any_pairs test [] rs = refl
any_pairs test (q ∷ qs) rs =
    any_append test (map (λ (r : ℕ). (q, r)) rs) (all_pairs qs rs)
    ∙ ap₂ ◌||◌ (any_map test (λ (r : ℕ). (q, r)) rs) (any_pairs test qs rs)

module _ (rows : List StateSet) (q r : ℕ) (a : q < 256) (b : r < 256) where
  abbrev has_pair : ℕ → ℕ → Bool
  has_pair p s = member (entry_at rows p) s && (eqb p q && eqb s r)

  pair_has : any (λ (p : ℕ). any (has_pair p) (from 0 256)) (from 0 256) ≡ true → member (entry_at rows q) r ≡ true
  pair_has e =
      let f = any_out (λ (p : ℕ). any (has_pair p) (from 0 256)) (from 0 256) e in
      let g = any_out (has_pair f.element) (from 0 256) f.passes in
      let (has, same) = and_true_out (member (entry_at rows f.element) g.element) (eqb f.element q && eqb g.element r) g.passes in
      let (first, second) = and_true_out (eqb f.element q) (eqb g.element r) same in
      sym (ap₂ (λ (p s : ℕ). member (entry_at rows p) s) (eqb-true f.element q first) (eqb-true g.element r second)) ∙ has

  has_in : member (entry_at rows q) r ≡ true → any (λ (p : ℕ). any (has_pair p) (from 0 256)) (from 0 256) ≡ true
  has_in e =
      any_in (λ (p : ℕ). any (has_pair p) (from 0 256)) (from_member 256 0 q zero-le a)
      (any_in (has_pair q) (from_member 256 0 r zero-le b) (and_true_in e (and_true_in (eq-eqb q q refl) (eq-eqb r r refl))))

  pub related_row : related (relation_in rows) q r ≡ member (entry_at rows q) r
  unfolding related relation_in
  related_row =
      any_keep (λ (p : ℕ × ℕ). eqb p.0 q && eqb p.1 r) (λ (p : ℕ × ℕ). member (entry_at rows p.0) p.1) (all_pairs (from 0 256) (from 0 256))
      ∙ any_pairs (λ (p : ℕ × ℕ). has_pair p.0 p.1) (from 0 256) (from 0 256)
      ∙ same_bool pair_has has_in

-- A row is the one that was.

set_same : (a b : StateSet) → a.words ≡ b.words → a ≡ b
set_same a b e = λ i. record {
  words = e i;
  four = is_prop→PathP (λ j. length (e j) ≡ 4) (λ j. ℕ_set (length (e j)) 4) a.four b.four i;
  bits = is_prop→PathP (λ j. (k : ℕ) → get_or (e j) k 0 < 2 ^ 64) (λ j. Π_prop (λ k. le_prop)) a.bits b.bits i;
}

row_back : (rows : List StateSet) (q : ℕ) (d : StateSet) → q < 256 → q < length rows → row_of (relation_in rows) q ≡ get_or rows q d
unfolding row_of
row_back rows q d h l =
    let states = keep (related (relation_in rows) q) (from 0 256) in
    set_same (row_of (relation_in rows) q) (get_or rows q d)
    (same_members (set_of states) (entry_at rows q) (length_set_of states) (entry_length rows q) (bounded_set_of states) (entry_bounded rows q)
    (λ r b. member_set_of states r b ∙ among_kept (related (relation_in rows) q) 256 r b ∙ related_row rows q r h b)
    ∙ sym (entry_read rows q d l))

-- And so all rows are, where there are 256.

mapped : (f : ℕ → StateSet) (i : ℕ) (rows : List StateSet)
    → ((q : ℕ) (d : StateSet) → q < length rows → f (i + q) ≡ get_or rows q d) → map f (from i (length rows)) ≡ rows
unfolding from
mapped f i [] h = refl
mapped f i (x ∷ xs) h =
    ap₂ ◌∷◌ (ap f (sym (add-zero i)) ∙ h 0 x (suc-le-suc zero-le))
    (mapped f (suc i) xs (λ q d l. ap f (suc-add i q ∙ sym (add-suc i q)) ∙ h (suc q) d (suc-le-suc l)))

pub rows_back : (rows : List StateSet) → length rows ≡ 256 → rows_of (relation_in rows) ≡ rows
unfolding rows_of
rows_back rows long =
    let row = row_of (relation_in rows) in
    ap (λ (n : ℕ). map row (from 0 n)) (sym long)
    ∙ mapped row 0 rows (λ q d l. ap row (zero-add q) ∙ row_back rows q d (subst (λ (n : ℕ). q < n) long l) l)

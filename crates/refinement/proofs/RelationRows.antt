-- The relation that rows hold, pair by pair: what it is from what the rows have. The rounds, the queries and the calls that read a relation use it.
use Prim.Native.Nat.{ℕ, ◌<◌}
use mathlib.Core.Path.{◌≡◌, refl, sym, ap, ◌∙◌}
use mathlib.Core.List.{List, [], ◌∷◌, ◌++◌, map, Memᴰ}
use mathlib.Core.Bool.{Bool, true, false, cond, ◌&&◌}
use native.Mathlib.Omega.{arith}
use Rattle.lists.specs.Lists.{from, keep}
use Rattle.lists.proofs.Keeping.{keep_append, keep_map, keep_both, keep_agree, keep_none}
use Rattle.lists.proofs.Ranges.{member_from}
use Rattle.sets.specs.Set.{member, empty_set}
use Rattle.sets.specs.Entries.{entry_at}
use Rattle.sets.specs.Inner.{states_in, Has}
use Rattle.sets.specs.declared.set.StateSet.{StateSet}
use Rattle.sets.proofs.StateSets.{member_empty}
use Rattle.automaton.specs.Automaton.{Rule}
use Rattle.refinement.specs.Simulation.{related, survives, refine, all_pairs}
use Rattle.refinement.specs.Inner.{relation_in}
use Rattle.refinement.specs.Rows.{related_row}
use Rattle.refinement.proofs.Refinement.{member_pair, refine_related}

-- The pairs of states that pass a test each.
keep_all_pairs : (f g : ℕ → Bool) (qs rs : List ℕ)
    → all_pairs (keep f qs) (keep g rs) ≡ keep (λ (p : ℕ × ℕ). f p.0 && g p.1) (all_pairs qs rs)
unfolding all_pairs keep
keep_all_pairs f g [] rs = refl
keep_all_pairs f g (q ∷ qs) rs = rw (keep_append, keep_map, ← keep_all_pairs f g qs rs) (go (f q))
  where
    none : (rs : List ℕ) → keep (λ (r : ℕ). false) rs ≡ []
    none [] = refl
    none (r ∷ rs) = none rs

    go : (t : Bool) → all_pairs (cond t (q ∷ keep f qs) (keep f qs)) (keep g rs)
        ≡ map (λ (r : ℕ). (q, r)) (keep (λ (r : ℕ). t && g r) rs) ++ all_pairs (keep f qs) (keep g rs)
    go true = refl
    go false = rw (none rs)

-- The relation in some rows.

all_below : (p : ℕ × ℕ) → Memᴰ p (all_pairs (from 0 256) (from 0 256)) → (p.0 < 256) × (p.1 < 256)
all_below p m =
    let s = member_pair (from 0 256) (from 0 256) m in
    let a = member_from 256 0 _ s.0 in
    let b = member_from 256 0 _ s.1 in
    (omega arith, omega arith)

pub related_in : (rows : List StateSet) (q r : ℕ) → q < 256 → r < 256
    → related (relation_in rows) q r ≡ member (entry_at rows q) r
related_in = related_row

relation_is : (rows : List StateSet) (test : ℕ × ℕ → Bool)
    → ((q : ℕ) → q < 256 → Has (entry_at rows q) (λ (r : ℕ). test (q, r)))
    → relation_in rows ≡ keep test (all_pairs (from 0 256) (from 0 256))
unfolding relation_in
relation_is rows test has =
    keep_agree _ test (all_pairs (from 0 256) (from 0 256))
    (λ p m. let s = all_below p m in has p.0 s.0 p.1 s.1)

-- Rows without a state.
pub relation_none : (rows : List StateSet) → ((q : ℕ) → q < 256 → entry_at rows q ≡ empty_set) → relation_in rows ≡ []
unfolding relation_in
relation_none rows empty =
    keep_none _ (all_pairs (from 0 256) (from 0 256)) (λ p m.
    let s = all_below p m in ap (λ (set : List ℕ). member set p.1) (empty p.0 s.0) ∙ member_empty p.1 s.1)

pub relation_start : (rows : List StateSet) (set : List ℕ)
    → ((q : ℕ) → q < 256 → Has (entry_at rows q) (λ (r : ℕ). member set q && member set r))
    → relation_in rows ≡ all_pairs (states_in 256 set) (states_in 256 set)
unfolding states_in
relation_start rows set has =
    relation_is rows (λ (p : ℕ × ℕ). member set p.0 && member set p.1) has
    ∙ sym (keep_all_pairs (member set) (member set) (from 0 256) (from 0 256))

pub relation_next : (rules : List Rule) (last next : List StateSet)
    → ((q : ℕ) → q < 256 → Has (entry_at next q) (related (refine rules (relation_in last)) q))
    → relation_in next ≡ refine rules (relation_in last)
unfolding refine relation_in
relation_next rules last next has =
    relation_is next
    (λ (p : ℕ × ℕ). member (entry_at last p.0) p.1 && survives rules (relation_in last) p)
    (λ q h r l. has q h r l ∙ refine_related rules (relation_in last) q r ∙ rw (related_in last q r h l))
    ∙ sym (keep_both (survives rules (relation_in last)) (λ (p : ℕ × ℕ). member (entry_at last p.0) p.1)
    (all_pairs (from 0 256) (from 0 256)))

pub relation_same : (last next : List StateSet) → ((q : ℕ) → q < 256 → Has (entry_at next q) (member (entry_at last q)))
    → relation_in next ≡ relation_in last
unfolding relation_in
relation_same last next same = relation_is next (λ (p : ℕ × ℕ). member (entry_at last p.0) p.1) same

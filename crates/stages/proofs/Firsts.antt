-- Of equal rules the first stays: no rule is lost, none stands twice, a list without equal rules stays as it is, and the first ones are told
-- by their places. For `Quotient`, `Fixpoint`, `Sizes` and the code that marks the first rules.
use Prim.Native.Nat.{ℕ, zero, suc}
use native.Mathlib.Nat.{zero-add}
use native.Mathlib.Numerals.{add-one}
use mathlib.Core.Path.{◌≡◌, refl, sym, ap, ◌∙◌}
use mathlib.Core.List.Memᴰ
use mathlib.Core.List.{List, [], ◌∷◌, map, Memᴰ}
use mathlib.Core.Bool.{Bool, true, false, cond, not, ◌&&◌, ◌||◌, false≢true}
use Rattle.lists.specs.Lists.{Distinct, bare, new, from, keep, any}
use Rattle.lists.proofs.Keeping.{keep_both, keep_agree, keep_all, keep_in, keep_out}
use Rattle.lists.proofs.Booleans.{not_true_in}
use Rattle.lists.proofs.Distinctness.{keep_distinct}
use Rattle.lists.proofs.Ranges.{from_step}
use Rattle.lists.proofs.Search.{any_append}
use Rattle.automaton.specs.Automaton.{Rule}
use Rattle.stages.specs.Steps.{same_rule, firsts}
use Rattle.stages.proofs.SameRules.{same_rule_out, same_rule_refl}

-- Whether a rule differs from the one that stays.
abbrev differs : Rule → Rule → Bool
differs u v = not (same_rule u v)

pub firsts_in : (us : List Rule) {u : Rule} → Memᴰ u us → Memᴰ u (firsts us)
unfolding firsts
firsts_in [] m = absurd (Memᴰ.not-nil m)
firsts_in (x ∷ us) (Memᴰ.head e) = Memᴰ.head e
firsts_in (x ∷ us) {u} (Memᴰ.tail m) = go (same_rule x u) refl (firsts_in us m)
  where
    go : (t : Bool) → same_rule x u ≡ t → Memᴰ u (firsts us) → Memᴰ u (x ∷ keep (differs x) (firsts us))
    go true e n = Memᴰ.head (sym (same_rule_out x u e))
    go false e n = Memᴰ.tail (keep_in (differs x) n (ap not e))

pub firsts_out : (us : List Rule) {u : Rule} → Memᴰ u (firsts us) → Memᴰ u us
unfolding firsts
firsts_out [] m = m
firsts_out (x ∷ us) (Memᴰ.head e) = Memᴰ.head e
firsts_out (x ∷ us) (Memᴰ.tail m) =
    Memᴰ.tail (firsts_out us (keep_out (differs x) (firsts us) m).0)

pub firsts_distinct : (us : List Rule) → Distinct (firsts us)
unfolding firsts
firsts_distinct [] = bare
firsts_distinct (u ∷ us) =
    new (λ m. false≢true (ap not (sym (same_rule_refl u)) ∙ (keep_out (differs u) (firsts us) m).1))
    (keep_distinct (differs u) (firsts_distinct us))

pub firsts_same : (us : List Rule) → Distinct us → firsts us ≡ us
unfolding firsts
firsts_same [] d = refl
firsts_same (u ∷ us) (new h d) =
    ap (λ (vs : List Rule). u ∷ vs)
    (rw (firsts_same us d) (keep_all (differs u) us (λ v m. not_true_in (λ e. h (Memᴰ.cast (same_rule_out u v e) m)))))

-- The first ones by their places: those that no element before them is equal to.

module _ (f : ℕ → Rule) where
  -- Rule i is new, and so is a rule that stands after i.
  is_new : ℕ → Bool
  is_new i = not (any (λ (j : ℕ). same_rule (f j) (f i)) (from 0 i))

  unseen : ℕ → Rule → Bool
  unseen i v = not (any (λ (j : ℕ). same_rule (f j) v) (from 0 i))

  unseen_next : (i : ℕ) (v : Rule) → (not (same_rule (f i) v) && unseen i v) ≡ unseen (suc i) v
  unfolding unseen any
  unseen_next i v =
      rw (← add-one i, from_step 0 i, zero-add, any_append (λ (j : ℕ). same_rule (f j) v) (from 0 i) (i ∷ []))
      (go (any (λ (j : ℕ). same_rule (f j) v) (from 0 i)) (same_rule (f i) v))
    where
      go : (s t : Bool) → (not t && not s) ≡ not (s || (t || false))
      go true true = refl
      go true false = refl
      go false true = refl
      go false false = refl

  new_firsts : (n i : ℕ) → map f (keep is_new (from i n)) ≡ keep (unseen i) (firsts (map f (from i n)))
  unfolding keep from firsts is_new unseen
  new_firsts zero i = refl
  new_firsts (suc n) i =
      let rest : List Rule = firsts (map f (from (suc i) n)) in
      let same : keep (unseen i) (keep (λ (v : Rule). not (same_rule (f i) v)) rest) ≡ keep (unseen (suc i)) rest =
      keep_both (unseen i) (λ (v : Rule). not (same_rule (f i) v)) rest
      ∙ keep_agree (λ (v : Rule). not (same_rule (f i) v) && unseen i v) (unseen (suc i)) rest (λ v m. unseen_next i v) in
      rw same (go (is_new i) (new_firsts n (suc i)))
    where
      go : (t : Bool) → map f (keep is_new (from (suc i) n)) ≡ keep (unseen (suc i)) (firsts (map f (from (suc i) n)))
          → map f (cond t (i ∷ keep is_new (from (suc i) n)) (keep is_new (from (suc i) n)))
          ≡ cond t (f i ∷ keep (unseen (suc i)) (firsts (map f (from (suc i) n)))) (keep (unseen (suc i)) (firsts (map f (from (suc i) n))))
      go true e = ap (λ (l : List Rule). f i ∷ l) e
      go false e = e

  pub firsts_places : (n : ℕ)
      → map f (keep (λ (i : ℕ). not (any (λ (j : ℕ). same_rule (f j) (f i)) (from 0 i))) (from 0 n)) ≡ firsts (map f (from 0 n))
  unfolding is_new unseen from any
  firsts_places n = new_firsts n 0 ∙ keep_all (unseen 0) (firsts (map f (from 0 n))) (λ v m. refl)

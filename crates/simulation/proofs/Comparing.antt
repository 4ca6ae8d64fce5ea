-- Which answers the promise on the pair query allows: yes where q ≤ r; otherwise the number of each unmatched rule, and no other. For the
-- examples of document 01.
use Prim.Native.Nat.{ℕ, suc, ◌-◌}
use native.Mathlib.Omega.{arith}
use mathlib.Core.Path.{◌≡◌, refl, sym, ap, ◌∙◌}
use mathlib.Core.Logic.{◌⊎◌, inl, inr, ◌↔◌}
use mathlib.Core.List.Memᴰ
use mathlib.Core.List.{List, [], ◌∷◌, Memᴰ}
use mathlib.Core.Bool.{Bool, true, false, not, ◌&&◌, false≢true}
use lib.ListN.{length, drop, length-drop}
use lib.Dec.{eqb}
use borrow.Author.Tests.{eqb-true, eq-eqb, not-true}
use Rattle.lists.specs.Lists.{from, keep}
use Rattle.lists.proofs.Keeping.{keep_in, keep_out}
use Rattle.lists.proofs.Ranges.{from_member}
use Rattle.lists.proofs.Booleans.{and_true_out}
use Rattle.std.specs.Prelude.{Result, Option}
use Rattle.records.specs.declared.refusal.Refusal.{Refusal}
use Rattle.records.specs.Read.{Read, found, refused, map_read}
use Rattle.records.proofs.Reading.{refused≢found}
use Rattle.automaton.specs.Automaton.{Rule, Automaton}
use Rattle.automaton.specs.Table.{judge}
use Rattle.refinement.specs.Simulation.{matched}
use Rattle.simulation.specs.Query.{simulation_of, pair_query, Unmatched, Comparison, yes, rule, comparison_of, is_yes, Compares}

-- The first of some rules is a rule of q that no rule of r matches; and the numbers of all such rules.
unfoldable pub unmatched_first : Automaton → ℕ → ℕ → List Rule → Bool
unmatched_first A q r [] = false
unmatched_first A q r (u ∷ us) = eqb u.target q && not (matched A.rules (simulation_of A) r u)

unfoldable pub unmatched_numbers : Automaton → ℕ → ℕ → List ℕ
unmatched_numbers A q r = keep (λ (i : ℕ). unmatched_first A q r (drop i A.rules)) (from 0 (length A.rules))

module _ (A : Automaton) (q r i : ℕ) where
  unmatched_number : Unmatched A q r i → Memᴰ i (unmatched_numbers A q r)
  unfolding unmatched_numbers unmatched_first
  unmatched_number u =
      let size : length A.rules - i ≡ suc (length u.behind) = sym (length-drop i A.rules) ∙ ap length u.number in
      keep_in _ (from_member (length A.rules) 0 i (omega arith) (omega arith))
      (rw (u.number, u.unmatched, u.target, eq-eqb q q refl))

  number_unmatched : Memᴰ i (unmatched_numbers A q r) → Unmatched A q r i
  unfolding unmatched_numbers unmatched_first
  number_unmatched m = go (drop i A.rules) refl (keep_out _ _ m).1
    where
      go : (us : List Rule) → drop i A.rules ≡ us → unmatched_first A q r us ≡ true → Unmatched A q r i
      go [] e h = absurd (false≢true h)
      go (u ∷ us) e h =
          let s = and_true_out (eqb u.target q) _ h in
          record { rule = u; behind = us; number = e; target = eqb-true u.target q s.0; unmatched = not-true _ s.1 }

-- An answer is the number of one of these rules.
unfoldable pub NamesOne : Read Comparison → List ℕ → Type 0
NamesOne x [] = ⊥
NamesOne x (i ∷ []) = x ≡ found (rule i)
NamesOne x (i ∷ (j ∷ is)) = (x ≡ found (rule i)) ⊎ NamesOne x (j ∷ is)

module _ (x : Read Comparison) where
  names_in : (is : List ℕ) {i : ℕ} → Memᴰ i is → x ≡ found (rule i) → NamesOne x is
  unfolding NamesOne
  names_in [] m e = absurd (Memᴰ.not-nil m)
  names_in (j ∷ []) m e = rw (Memᴰ.eq_of_singleton m) at e
  names_in (j ∷ (k ∷ is)) (Memᴰ.head same) e = inl (rw same at e)
  names_in (j ∷ (k ∷ is)) (Memᴰ.tail m) e = inr (names_in (k ∷ is) m e)

  names_out : (is : List ℕ) → NamesOne x is → (i : ℕ) × Memᴰ i is × (x ≡ found (rule i))
  unfolding NamesOne
  names_out [] n = absurd n
  names_out (j ∷ []) n = (j, Memᴰ.head refl, n)
  names_out (j ∷ (k ∷ is)) (inl e) = (j, Memᴰ.head refl, e)
  names_out (j ∷ (k ∷ is)) (inr n) = let s = names_out (k ∷ is) n in (s.0, Memᴰ.tail s.1, s.2)

is_yes_lem : (x : Read Comparison) → map_read is_yes x ≡ found true → x ≡ found yes
unfolding map_read is_yes
is_yes_lem (found yes) h = refl
is_yes_lem (found (rule i)) h = cc
is_yes_lem (refused cause) h = cc

is_rule : (x : Read Comparison) → map_read is_yes x ≡ found false → (i : ℕ) × (x ≡ found (rule i))
unfolding map_read is_yes
is_rule (found yes) h = let z : ◌≡◌ {A = ℕ} 0 1 = cc in absurd (omega arith)
is_rule (found (rule i)) h = (i, refl)
is_rule (refused cause) h = absurd (refused≢found h)

module _ (table : List ℕ) (q r : ℕ) (a : Result (Option ℕ) Refusal) where
  pub compares_iff_yes : pair_query table q r ≡ found true → Compares table q r a ↔ (comparison_of a ≡ found yes)
  unfolding map_read is_yes
  compares_iff_yes e = (
    λ c. is_yes_lem (comparison_of a) (c.verdict ∙ e),
    λ h. record {
      verdict = rw (h, e);
      unmatched = λ A f i g. let z : ◌≡◌ {A = ℕ} 0 1 = cc in absurd (omega arith);
    },
  )

  pub compares_iff_unmatched : (A : Automaton) → judge table ≡ found A → pair_query table q r ≡ found false
      → Compares table q r a ↔ NamesOne (comparison_of a) (unmatched_numbers A q r)
  unfolding map_read is_yes
  compares_iff_unmatched A e f = (
    λ c.
        let s = is_rule (comparison_of a) (c.verdict ∙ f) in
        names_in _ _ (unmatched_number A q r s.0 (c.unmatched A e s.0 s.1)) s.1,
    λ n.
        let s = names_out _ _ n in
        record {
          verdict = rw (s.2, f);
          unmatched = λ B g i h.
              let same : A ≡ B = cc in
              let number : s.0 ≡ i = cc in
              rw (← same, ← number) (number_unmatched A q r s.0 s.1);
        },
  )

-- The rules of one target, by their numbers: each number is that of a rule, and one of them is that of a match where the rules have a match of that
-- target. For the calls that search an index by target.
use Prim.Native.Nat.{ℕ, suc, ◌<◌}
use native.Mathlib.Omega.{arith}
use mathlib.Core.Path.{◌≡◌, refl, sym}
use mathlib.Core.List.{List, [], ◌∷◌}
use mathlib.Core.Bool.{Bool, true, false}
use lib.ListN.{length, get_or}
use Rattle.std.specs.List.{AllWithin, HoldsAt}
use Rattle.std.specs.Prelude.{MatchBool}
use Rattle.lists.specs.Lists.{All, any}
use Rattle.lists.proofs.Booleans.{or_false_in}
use Rattle.lists.proofs.Elements.{all_at, member_all}
use Rattle.lists.proofs.Search.{any_in}
use Rattle.automaton.specs.Automaton.{Rule}
use Rattle.automaton.specs.Row.{rules_of, rule_at}
use Rattle.automaton.specs.declared.row.Row.{Row}
use Rattle.indexing.specs.Index.{keyed}
use Rattle.indexing.proofs.Indexing.{at_member, rules_long, keyed_members, any_keyed}
use Rattle.refinement.specs.Simulation.{Relation, matched_by, matched}

pub keyed_within : (rows : List Row) (r : ℕ) {numbers : List ℕ} → numbers ≡ keyed (λ (u : Rule). u.target) (rules_of rows) r
    → All (λ (j : ℕ). j < length rows) numbers
keyed_within rows r e =
    member_all _ (λ j m. rw (← rules_long rows) (keyed_members (λ (u : Rule). u.target) (rules_of rows) r j (rw e at m)).0)

pub keyed_matched : (rules : List Rule) (r : ℕ) {numbers : List ℕ} → numbers ≡ keyed (λ (u : Rule). u.target) rules r
    → (R : Relation) (u : Rule) → any (λ (j : ℕ). matched_by R u (rule_at rules j)) numbers ≡ matched rules R r u
unfolding matched
keyed_matched rules r e R u = rw e (any_keyed (λ (v : Rule). v.target) rules r (matched_by R u))

-- What is found among numbers of which something holds, where the test is known only for numbers of which it holds.
any_nowhere : (test : ℕ → Bool) (xs : List ℕ) → ((k : ℕ) → k < length xs → test (get_or xs k 0) ≡ false) → any test xs ≡ false
unfolding any
any_nowhere test [] h = refl
any_nowhere test (x ∷ xs) h = or_false_in (h 0 (omega arith)) (any_nowhere test xs (λ k l. h (suc k) (omega arith)))

pub any_within : {P : ℕ → Type 0} (test : ℕ → Bool) {xs : List ℕ} → All P xs → (r : Bool)
    → MatchBool r ((k : ℕ) × (k < length xs) × HoldsAt (λ (x : ℕ). P x → true ≡ test x) xs k)
    (AllWithin (λ (x : ℕ). P x → false ≡ test x) xs 0 (length xs))
    → r ≡ any test xs
any_within test all true h = sym (any_in test (at_member _ h.0 h.1) (sym (h.2 0 (all_at all h.0 h.1))))
any_within test {xs} all false h = sym (any_nowhere test xs (λ k l. sym (h k 0 (omega arith) l (all_at all k l))))

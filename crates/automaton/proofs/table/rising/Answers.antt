-- The chain asks of each number whether it is above the one before it, until one is not.
use Rattle.std.proofs.Common.{◌≡◌, ◌∙◌, ℕ, Bool, true, false, ltb, List, [], ◌∷◌, Option, Some, None, MatchOption, rules, ap, sym, refl}
use mathlib.Core.Logic.{inl, inr}
use mathlib.Core.Path.{ap₂, subst}
use borrow.Author.Tests.{tests}
use denote.Ref.{Bor}
use denote.Param.Members.{Mut}
use Rattle.std.specs.Fn.{CalledAtTwo}
use Rattle.std.specs.Iterator.{AlwaysYields, YieldsThen}
use Rattle.std.specs.Iterator.Order.{OrderTurn, ChecksNeighbours}
use Rattle.std.specs.List.{FoldsTo}
use Rattle.std.proofs.lemmas.Iterator.{YieldsList-from_map}
use Rattle.std.proofs.lemmas.Iterator.Consumers.{YieldsList-at}
use Rattle.lists.specs.Lists.{rising}
use Rattle.lists.proofs.Mapping.{map_fixed}
use Rattle.records.specs.Bytes.{numbers}
use Rattle.automaton.proofs.Chunks.{numbers_yielded}
use Rattle.automaton.proofs.table.rising.Goals as goal

module _ {S F : Type 0} (steps : S → Option ℕ → S → Type 0) (g : Mut F (Bor ℕ × (Bor ℕ × Unit {0})) Bool) (f : F)
    (acts : (x y : ℕ) (b : Bool) (q : F) → CalledAtTwo g f x y b q → (q ≡ f) × (b ≡ ltb x y)) (r : Bool) where
  -- From the number x on; `xs` came and passed, and then o.
  after : (xs ys : List ℕ) (x : ℕ) (p q : F × ℕ) (o : Option ℕ) (s u : S) → p ≡ (f, x) → AlwaysYields steps (λ y. y) s ys → YieldsThen steps s xs o u
      → FoldsTo {P = F × ℕ} (OrderTurn g) p xs q → MatchOption o (r ≡ true) (λ y. (r ≡ false) × ((h : F) × CalledAtTwo g q.0 q.1 y false h))
      → r ≡ rising (x ∷ ys)
  unfolding rising
  after [] [] x p q None s u from all then folds end = end
  after [] [] x p q (Some z) s u from all (t, same, step) folds end = absurd (all z u (subst (λ v. steps v (Some z) u) (sym same) step))
  after [] (y ∷ ys) x p q None s u from all (t, same, step) folds end = absurd (all.0 u (subst (λ v. steps v None u) (sym same) step))
  after [] (y ∷ ys) x p q (Some z) s u from all (t, same, step) folds (stops, (h, call)) =
      let came = all.1 z u (subst (λ v. steps v (Some z) u) (sym same) step) in
      let less = (acts x z false h (subst (λ w. CalledAtTwo g w.0 w.1 z false h) (sym folds ∙ from) call)).1 in
      stops ∙ rw (← came.0, ← less) refl
  after (z ∷ xs) [] x p q o s u from all (t, (j, step, more), last) folds end = absurd (all z j step)
  after (z ∷ xs) (y ∷ ys) x p q o s u from all (t, (j, step, more), last) (m, (call, here), folds) end =
      let came = all.1 z j step in
      let (kept, less) = acts x z true m.0 (subst (λ w. CalledAtTwo g w.0 w.1 z true m.0) from call) in
      subst (λ w. r ≡ rising (x ∷ w ∷ ys)) came.0
      (rw (← less) (after xs ys z m q o j u (ap₂ (λ a b. (a, b)) kept here) came.1 (t, more, last) folds end))

  checked : (ys : List ℕ) (s : S) → AlwaysYields steps (λ y. y) s ys → ChecksNeighbours g steps s f r → r ≡ rising ys
  unfolding rising
  checked [] s all (inl (none, end)) = end
  checked (y ∷ ys) s all (inl ((u, (t, same, step)), end)) = absurd (all.0 u (subst (λ v. steps v None u) (sym same) step))
  checked [] s all (inr (x, xs, o, u, q, (t, (j, step, more), last), folds, end)) = absurd (all x j step)
  checked (y ∷ ys) s all (inr (x, xs, o, u, q, (t, (j, step, more), last), folds, end)) =
      let came = all.1 x j step in
      subst (λ w. r ≡ rising (w ∷ ys)) came.0 (after xs ys x (f, x) q o j u refl came.1 (t, more, last) folds end)

pub returns : goal.returns
returns c =
    let chunks = numbers_yielded c.args.b.now c.chunks_exact.ensures.rest c.chunks_exact.ensures.size in
    checked _ _ _ (λ x y b q k. search (rules, tests)) c.is_sorted_by.result _ _
    (YieldsList-from_map _ (λ n. n) (YieldsList-at c.map.ensures.source chunks) c.map.ensures.closure (λ x n q k. search rules)).runs c.is_sorted_by.ensures.ran
    ∙ ap rising (map_fixed (λ n. n) (numbers c.args.b.now) (λ n m. refl))

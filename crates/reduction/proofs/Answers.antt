-- The bytes that reducing a table writes: they are the encoding of the reduced automaton, which is read back from them. For `reduce` and for
-- demand 3.
use Prim.Native.Nat.{ℕ, ◌≤◌}
use mathlib.Core.Path.{◌≡◌, refl, sym, ap, ◌∙◌}
use mathlib.Core.Logic.{inr}
use mathlib.Core.List.{List, ◌++◌}
use mathlib.Core.Bool.{Bool, true, false, cond}
use lib.ListN.{length, take, drop}
use lib.Seq.{take-append_seam}
use lib.Dec.{leb}
use borrow.Author.Tests.{leb-true, le-leb}
use Rattle.lists.proofs.Booleans.{same_bool}
use Rattle.records.specs.Refusal.{number_of}
use Rattle.records.specs.declared.refusal.Refusal.{Refusal}
use Rattle.records.specs.Read.{Read, found, refused, ◌>>=◌}
use Rattle.records.specs.Output.{written, written_over}
use Rattle.records.proofs.Reading.{refused≢found, bind_found}
use Rattle.records.proofs.Causes.{Causes, causes}
use Rattle.records.proofs.Buffers.{Keeps, bind_keeps, written_keeps}
use Rattle.automaton.specs.Automaton.{Automaton}
use Rattle.automaton.specs.Table.{judge, encode}
use Rattle.automaton.specs.Decoded.{size_of}
use Rattle.automaton.proofs.TableCauses.{TableCauseOr, table_causes_or}
use Rattle.trees.specs.Tree.{Tree, accepts}
use Rattle.trees.specs.Run.{Accepts}
use Rattle.trees.specs.Postfix.{judge_tree}
use Rattle.trees.proofs.Runs.{accepts_run, run_accepts}
use Rattle.simulation.specs.Check.{acceptance}
use Rattle.stages.specs.Steps.{reduce, reduction_rounds}
use Rattle.reduction.specs.Reduce.{reduction, reduction_after}
use Rattle.reduction.specs.declared.reducing.Reduction.{Reduction}

-- What the call returns for an automaton that fits.
unfoldable pub answer_for : Automaton → Reduction
answer_for A = record { length = length (encode (reduce A)); old = size_of A; new = size_of (reduce A); rounds = reduction_rounds A }

module _ (table out : List ℕ) (A : Automaton) (e : judge table ≡ found A) where
  pub reduction_fits : length (encode (reduce A)) ≤ length out → reduction table out ≡ found (answer_for A)
  unfolding reduction written answer_for ◌>>=◌
  reduction_fits h = rw (e, le-leb (length (encode (reduce A))) (length out) h)

  pub after_fits : length (encode (reduce A)) ≤ length out
      → reduction_after (judge table) out ≡ encode (reduce A) ++ drop (length (encode (reduce A))) out
  unfolding reduction_after written_over
  after_fits h = rw (e, le-leb (length (encode (reduce A))) (length out) h)

  pub written_bytes : length (encode (reduce A)) ≤ length out
      → take (answer_for A).length (reduction_after (judge table) out) ≡ encode (reduce A)
  unfolding answer_for
  written_bytes h = rw (after_fits h) (take-append_seam (encode (reduce A)) (drop (length (encode (reduce A))) out))

written_fits : (bytes out : List ℕ) {size : ℕ} → written bytes out ≡ found size → length bytes ≤ length out
unfolding written
written_fits bytes out {size} h = go (leb (length bytes) (length out)) refl h
  where
    go : (t : Bool) → leb (length bytes) (length out) ≡ t → cond t (found (length bytes)) (refused 13) ≡ found size
        → length bytes ≤ length out
    go true e h = leb-true (length bytes) (length out) e
    go false e h = absurd (refused≢found h)

pub found_fits : (table out : List ℕ) (r : Reduction) → reduction table out ≡ found r
    → (A : Automaton) × (judge table ≡ found A) × (length (encode (reduce A)) ≤ length out)
unfolding reduction
found_fits table out r h =
    let (A, e, put) = bind_found (judge table) _ h in
    let (size, fits, is) = bind_found (written (encode (reduce A)) out) _ put in
    (A, e, written_fits (encode (reduce A)) out fits)

pub reduction_causes : (table out : List ℕ) → Causes (TableCauseOr 13) (reduction table out)
unfolding reduction written
reduction_causes table out = search (causes, table_causes_or 13, inr) depth 9

pub reduction_keeps : (table out : List ℕ) → Keeps (reduction table out) (reduction_after (judge table) out) out
unfolding reduction reduction_after ◌>>=◌
reduction_keeps table out cause e = go (judge table) refl
  where
    go : (j : Read Automaton) → judge table ≡ j → reduction_after j out ≡ out
    go (found A) f = bind_keeps (written _ out) _ (written_keeps _ out) cause (rw f at e)
    go (refused other) f = refl

-- Automata that accept the same trees over the same ranks answer every check alike.
pub acceptance_same : (table other : List ℕ) (A B : Automaton) → judge table ≡ found A → judge other ≡ found B → B.ranks ≡ A.ranks
    → ((t : Tree) → Accepts A t → Accepts B t) → ((t : Tree) → Accepts B t → Accepts A t)
    → (tree : List ℕ) → acceptance table tree ≡ acceptance other tree
unfolding acceptance ◌>>=◌
acceptance_same table other A B e f r there back tree =
    rw (e, f) (go (judge_tree A.ranks tree)
    ∙ ap (λ (ranks : List ℕ). judge_tree ranks tree >>= (λ (t : Tree). found (accepts B t))) (sym r))
  where
    go : (x : Read Tree) → (x >>= (λ (t : Tree). found (accepts A t))) ≡ (x >>= (λ (t : Tree). found (accepts B t)))
    go (found t) =
        ap found (same_bool (λ h. run_accepts B t (there t (accepts_run A t h))) (λ h. run_accepts A t (back t (accepts_run B t h))))
    go (refused cause) = refl

-- The call's answers: a table that is refused, and one whose reduced automaton is written or finds no room.

pub reduce_refused : (table out : List ℕ) (cause : Refusal) → judge table ≡ refused (number_of cause)
    → (refused (number_of cause) ≡ reduction table out) × (out ≡ reduction_after (judge table) out)
unfolding reduction reduction_after ◌>>=◌
reduce_refused table out cause e = rw e (refl, refl)

module _ (table out after : List ℕ) (A B : Automaton) (e : judge table ≡ found A) (same : B ≡ reduce A)
    (over : after ≡ written_over (encode B) out) where
  after_is : after ≡ reduction_after (judge table) out
  unfolding reduction_after
  after_is = rw e (rw same at over)

  pub reduce_short : (cause : Refusal) → refused (number_of cause) ≡ written (encode B) out
      → (refused (number_of cause) ≡ reduction table out) × (after ≡ reduction_after (judge table) out)
  unfolding reduction ◌>>=◌
  reduce_short cause h = (rw (e, ← rw same at h), after_is)

  pub reduce_written : (r : Reduction) → found r.length ≡ written (encode B) out → r.old ≡ size_of A → r.new ≡ size_of B
      → r.rounds ≡ reduction_rounds A
      → (found r ≡ reduction table out) × (after ≡ reduction_after (judge table) out)
  unfolding reduction ◌>>=◌
  reduce_written r h old new rounds = (rw (e, ← rw same at h, old, rw same at new, rounds), after_is)

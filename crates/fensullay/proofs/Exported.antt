-- Laws of `exported` for every exported function: the ways in which its proof ends (too few numbers, a refusal, something found, `answer`), and
-- that a call which does not do its work leaves what it was lent. The functions' proofs, ReturnCodes and Theorems use them.
use Prim.Native.Nat.{ℕ, ◌≤◌, ◌<◌}
use mathlib.Core.Path.{◌≡◌, refl, ap, ◌∙◌}
use mathlib.Core.Bool.{Bool, true, false, cond}
use mathlib.Core.List.{List, ◌++◌}
use lib.ListN.{length, drop}
use lib.Dec.{leb}
use Rattle.std.specs.Prelude.{Result, Ok, Err, IsOkAnd, MatchResult}
use borrow.Author.Tests.{le-leb, lt-leb}
use Rattle.records.specs.Answers.{reading_of}
use Rattle.records.specs.Read.{Read, found, refused}
use Rattle.records.specs.declared.refusal.Refusal.{Refusal}
use Rattle.records.proofs.Buffers.{Keeps}
use Rattle.fensullay.specs.Exports.{Exported, ended, exported, done, answered}

-- What a function returned and left is what is said of the call.
abbrev pub Gives : Exported → ℕ → List ℕ → List ℕ → Type 0
Gives e code numbers out = (code ≡ e.code) × ((numbers ≡ e.numbers) × (out ≡ e.out))

module _ {A : Type 0} {need : ℕ} (code_of : A → ℕ) (numbers_of : A → List ℕ) (x : Read A) (numbers out after : List ℕ) where
  pub enough_room : need ≤ length numbers → exported need code_of numbers_of x numbers out after ≡ ended code_of numbers_of x numbers after
  unfolding exported
  enough_room h = rw (le-leb need (length numbers) h)

  pub too_few : length numbers < need → Gives (exported need code_of numbers_of x numbers out after) 100 numbers out
  unfolding exported
  too_few h = rw (lt-leb need (length numbers) h) (refl, (refl, refl))

  pub refused_with : {cause code : ℕ} {out' : List ℕ} → need ≤ length numbers → refused cause ≡ x → code ≡ cause → out' ≡ after
      → Gives (exported need code_of numbers_of x numbers out after) code numbers out'
  unfolding ended
  refused_with h e number over = rw (enough_room h, ← e, number, over) (refl, (refl, refl))

  pub found_with : {a : A} {numbers' out' : List ℕ} → need ≤ length numbers → found a ≡ x
      → numbers' ≡ numbers_of a ++ drop (length (numbers_of a)) numbers → out' ≡ after
      → Gives (exported need code_of numbers_of x numbers out after) (code_of a) numbers' out'
  unfolding ended
  found_with h e put over = rw (enough_room h, ← e, put, over) (refl, (refl, refl))

-- The end by `answer`, where what was found is made into values.
module _ {A : Type 0} {need : ℕ} (numbers_of : A → List ℕ) (numbers out : List ℕ) (room : need ≤ length numbers) where
  pub answered_with : (r : Result A Refusal) (values : Result (List ℕ) Refusal)
      → MatchResult r (λ (a : A). IsOkAnd values (λ (vs : List ℕ). vs ≡ numbers_of a)) (λ (cause : Refusal). values ≡ Err cause)
      → {x : Read A} {after numbers' out' : List ℕ} {code : ℕ} → reading_of r ≡ x → code ≡ (answered values numbers).code
      → numbers' ≡ (answered values numbers).numbers → out' ≡ after → Gives (exported need done numbers_of x numbers out after) code numbers' out'
  unfolding answered ended done reading_of
  answered_with (Ok a) (Ok vs) made is e put over =
      let put = put ∙ ap (λ (ws : List ℕ). ws ++ drop (length ws) numbers) made in
      rw e (found_with done numbers_of _ numbers out _ room is put over)
  answered_with (Ok a) (Err cause) made is e put over = absurd made
  answered_with (Err cause) values made is e put over =
      rw (rw made at put) (refused_with done numbers_of _ numbers out _ room is (rw made at e) over)

-- The code and the numbers do not depend on the output.
module _ {A : Type 0} (need : ℕ) (code_of : A → ℕ) (numbers_of : A → List ℕ) (x : Read A) (numbers : List ℕ) where
  abbrev call : Bool → Read A → List ℕ → List ℕ → Exported
  call t y out after = cond t (ended code_of numbers_of y numbers after) (record { code = 100; numbers = numbers; out = out })

  pub output_aside : (out after out' after' : List ℕ)
      → ((exported need code_of numbers_of x numbers out after).code ≡ (exported need code_of numbers_of x numbers out' after').code)
      × ((exported need code_of numbers_of x numbers out after).numbers ≡ (exported need code_of numbers_of x numbers out' after').numbers)
  unfolding exported ended
  output_aside out after out' after' = go (leb need (length numbers)) x
    where
      go : (t : Bool) (y : Read A) → ((call t y out after).code ≡ (call t y out' after').code) × ((call t y out after).numbers ≡ (call t y out' after').numbers)
      go true (found a) = (refl, refl)
      go true (refused cause) = (refl, refl)
      go false y = (refl, refl)

-- A call that does some work and does not return 0 has too short an array for its numbers, or refuses.
module _ {A : Type 0} (need : ℕ) (numbers_of : A → List ℕ) (x : Read A) (numbers out after : List ℕ) where
  abbrev end : Bool → Read A → Exported
  end t y = cond t (ended done numbers_of y numbers after) (record { code = 100; numbers = numbers; out = out })

  pub leaves : Keeps x after out → ((exported need done numbers_of x numbers out after).code ≡ 0 → ⊥)
      → ((exported need done numbers_of x numbers out after).numbers ≡ numbers) × ((exported need done numbers_of x numbers out after).out ≡ out)
  unfolding exported ended done
  leaves keeps h = go (leb need (length numbers)) x refl h
    where
      go : (t : Bool) (y : Read A) → x ≡ y → ((end t y).code ≡ 0 → ⊥) → ((end t y).numbers ≡ numbers) × ((end t y).out ≡ out)
      go true (found a) e h = absurd (h refl)
      go true (refused cause) e h = (refl, keeps cause e)
      go false y e h = (refl, refl)

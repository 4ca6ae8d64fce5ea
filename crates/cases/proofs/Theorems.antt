-- What is written of numbers, and where no case is left.
use Rattle.std.proofs.Common.{◌≡◌, ℕ, arith, length-append, List, [], ◌∷◌, length, None, Some, Option, Result, Bool, true, false, refl, ap, inl, inr}
use Rattle.std.specs.Fmt.{decimal, ◌++?◌}
use Rattle.std.specs.List.{flat_map, FoldsTo}
use Rattle.std.specs.Borrow.{MutBor}
use Rattle.std.specs.Fn.{Mut}
use Rattle.std.specs.Io.KnownBytes.{Keeps}
use Rattle.cases.specs.Field.{IsField}
use Rattle.cases.specs.Line.{spaced}
use Rattle.cases.specs.Run.{Moment, IsCase, Stops, Runs}

-- Of numbers `write_spaced` writes each in decimal, after a space.
pub spaced_numbers : (numbers : List ℕ) → spaced (λ n. Some (decimal n)) numbers ≡ Some (flat_map (λ n. 32 ∷ decimal n) numbers)
spaced_numbers [] = refl
spaced_numbers (n ∷ numbers) = ap (λ text. Some (32 ∷ decimal n) ++? text) (spaced_numbers numbers)

no_field : (new : Option (List ℕ)) (name : List ℕ) → IsField 1 (Some []) new name → ⊥
no_field None name f = f.taken
no_field (Some rest) name f = omega (arith, f.many, simp length-append at (ap length f.taken))

module _ {R W F E : Type 0} (remaining : R → Option (List ℕ)) (contents : W → Option (List ℕ))
    (g : Mut F (MutBor R × (MutBor W × Unit {0})) (Result Bool E × (MutBor R × (MutBor W × Unit {0})))) where
  no_case : (more : Bool) (s : Moment R W F) (name : List ℕ) (t : Moment R W F) → remaining s.input ≡ Some [] → IsCase remaining contents g more s name t → ⊥
  no_case more s name t none case = no_field (remaining case.input.now) name (rw none at case.named.0)

  no_case_taken : (s last : Moment R W F) (names : List (List ℕ)) (t : Moment R W F) → remaining s.input ≡ Some [] → FoldsTo (IsCase remaining contents g true) s names last
      → Stops remaining contents g (length names) last t → Keeps (contents s.out) (contents t.out)
  no_case_taken s last [] t none same (inl (few, inl end)) = rw same end.1
  no_case_taken s last [] t none same (inl (few, inr (name, case))) = absurd (no_case false s name t none (rw same case))
  no_case_taken s last [] t none same (inr end) = absurd (omega (arith, end.0))
  no_case_taken s last (name ∷ names) t none turns stops = absurd (no_case true s name turns.0 none turns.1)

  -- Where the reader is at its end, the loop writes nothing.
  pub nothing_written : (s : Moment R W F) (input : R) (out : W) → remaining s.input ≡ Some [] → Runs remaining contents g s input out → Keeps (contents s.out) (contents out)
  nothing_written s input out none runs =
      no_case_taken s runs.last runs.names (record { input = input; out = out; case = runs.case }) none runs.turns runs.stops

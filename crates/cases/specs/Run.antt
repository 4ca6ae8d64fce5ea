-- What a loop over cases does.
use Rattle.std.specs.Prelude.{◌≡◌, ℕ, ◌<◌, List, length, Option, Result, Ok, Bool, true, false, ◌⊎◌}
use Rattle.std.specs.Borrow.{MutBor}
use Rattle.std.specs.Fn.{Mut, Called}
use Rattle.std.specs.List.{FoldsTo}
use Rattle.cases.specs.Case.{IsNamed, IsLast}
use Rattle.cases.specs.declared.TheConstants.{CASES}

-- the reader, the writer and the closure of a loop at one moment
pub record Moment (R W F : Type 0) : Type 0 where
  pub input : R
  pub out : W
  pub case : F

module _ {R W F E : Type 0} (remaining : R → Option (List ℕ)) (contents : W → Option (List ℕ))
    (g : Mut F (MutBor R × (MutBor W × Unit {0})) (Result Bool E × (MutBor R × (MutBor W × Unit {0})))) where
  -- a case: the line that names it, and then a call of the closure, which returns `more`
  pub record IsCase (more : Bool) (s : Moment R W F) (name : List ℕ) (t : Moment R W F) : Type 0 where
    pub input : MutBor R
    pub out : MutBor W
    pub named : IsNamed name (remaining s.input) (remaining input.now) (contents s.out) (contents out.now)
    pub left : MutBor R × (MutBor W × Unit {0})
    pub called : Called g s.case (input, (out, tt)) (Ok more, left) t.case
    pub leaves : (left.0.now ≡ t.input) × (left.1.0.now ≡ t.out)

  -- what ends n cases: no name is left, or a last case's call returns false, or they are as many as the loop does at most
  abbrev pub Stops : ℕ → Moment R W F → Moment R W F → Type 0
  Stops n s t =
      ((n < CASES) × (IsLast (remaining s.input) (remaining t.input) (contents s.out) (contents t.out) ⊎ ((name : List ℕ) × IsCase false s name t)))
      ⊎ ((n ≡ CASES) × (t.input ≡ s.input) × (t.out ≡ s.out))

  -- cases one after the other, whose calls return true, and what ends them
  pub record Runs (s : Moment R W F) (input : R) (out : W) : Type 0 where
    pub names : List (List ℕ)
    pub last : Moment R W F
    pub turns : FoldsTo (IsCase true) s names last
    pub case : F
    pub stops : Stops (length names) last (record { input = input; out = out; case = case })

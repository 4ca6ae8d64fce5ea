-- With which causes a reading can refuse. A step's causes are those of its parts, so that `search` finds them line by line of a definition; used
-- for the causes of every call.
use Prim.Native.Nat.{ℕ}
use native.Mathlib.Omega.{arith}
use mathlib.Core.Path.{◌≡◌, subst}
use mathlib.Core.Bool.{Bool, true, false, cond}
use borrow.Author.Tests.{leb-true}
use Rattle.records.specs.Read.{Read, found, refused, ◌>>=◌, ◌>>◌, check, map_read}

-- A reading that refuses, if it does, with a cause of which P holds.
pub data Causes {A : Type 0} (P : ℕ → Type 0) : Read A → Type 0 where
  finds : {a : A} → Causes P (found a)
  refuses : {cause : ℕ} → P cause → Causes P (refused cause)

pub wider_causes : {P Q : ℕ → Type 0} {A : Type 0} {x : Read A} → ((cause : ℕ) → P cause → Q cause) → Causes P x → Causes Q x
wider_causes wider finds = finds
wider_causes wider (refuses p) = refuses (wider _ p)

module _ {P : ℕ → Type 0} where
  pub cause_of : {A : Type 0} {x : Read A} {cause : ℕ} → Causes P x → x ≡ refused cause → P cause
  cause_of finds e = let z : ◌≡◌ {A = ℕ} 0 1 = cc in absurd (omega arith)
  cause_of (refuses p) e = subst P (cc) p

  pub bind_causes : {A B : Type 0} {x : Read A} {f : A → Read B} → Causes P x → ((a : A) → Causes P (f a)) → Causes P (x >>= f)
  unfolding ◌>>=◌
  bind_causes finds next = next _
  bind_causes (refuses p) next = refuses p

  pub then_causes : {A B : Type 0} {x : Read A} {y : Read B} → Causes P x → Causes P y → Causes P (x >> y)
  unfolding ◌>>◌
  then_causes finds next = next
  then_causes (refuses p) next = refuses p

  pub map_causes : {A B : Type 0} {x : Read A} (f : A → B) → Causes P x → Causes P (map_read f x)
  unfolding map_read
  map_causes f finds = finds
  map_causes f (refuses p) = refuses p

  pub check_causes : (t : Bool) (cause : ℕ) → P cause → Causes P (check t cause)
  unfolding check
  check_causes true cause p = finds
  check_causes false cause p = refuses p

  pub cond_causes : {A : Type 0} (t : Bool) {x y : Read A} → Causes P x → Causes P y → Causes P (cond t x y)
  cond_causes true p q = p
  cond_causes false p q = q

-- For `search`, line by line of a definition; a bound of a numeral is a test that computes.
pub ruleset causes = (finds, refuses, bind_causes, then_causes, map_causes, check_causes, cond_causes, leb-true)

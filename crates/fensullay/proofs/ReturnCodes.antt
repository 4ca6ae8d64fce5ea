-- The number that an exported call returns means what specs/Means.antt says: proved once of `exported`, for calls that do some work and for
-- questions. Theorems uses it.
use Prim.Native.Nat.{ℕ, ◌≤◌}
use native.Mathlib.Omega.{arith}
use mathlib.Core.Path.{◌≡◌, refl, sym, ap, ◌∙◌}
use mathlib.Core.Logic.{◌⊎◌, inl, inr, ⊎_elim, ◌↔◌}
use mathlib.Core.List.{List}
use mathlib.Core.Bool.{Bool, true, false, cond}
use lib.ListN.{length}
use lib.Dec.{leb}
use borrow.Author.Tests.{leb-true, leb-false}
use Rattle.records.specs.Read.{Read, found, refused}
use Rattle.records.specs.Refusal.{last_cause}
use Rattle.records.proofs.Causes.{Causes, finds, refuses}
use Rattle.fensullay.specs.Exports.{ended, exported, done, yes_no}
use Rattle.fensullay.specs.Means.{UpTo, UpToOr, Means, WorkMeans, YesNoMeans}

-- The code of a call that has room for its numbers: each of three things gives its code, and one of them holds.
record Codes {A : Type 0} (Cause : ℕ → Type 0) (x : Read A) (Done No : Type 0) (code : ℕ) : Type 0 where
  pub done : Done → code ≡ 0
  pub refusal : (cause : ℕ) → x ≡ refused cause → code ≡ cause
  pub no : No → code ≡ 101
  pub one_of : Done ⊎ (((cause : ℕ) × Cause cause × (x ≡ refused cause)) ⊎ No)

neither : {P Q : Type 0} → (P → ⊥) → (Q → ⊥) → P ↔ Q
neither p q = (λ h. absurd (p h), λ h. absurd (q h))

pub up_to_or : (last other : ℕ) → last ≤ last_cause → UpTo last_cause other → (cause : ℕ) → UpToOr last other cause → UpTo last_cause cause
up_to_or last other l o cause (inl p) = omega arith
up_to_or last other l o cause (inr p) = omega arith

-- 100 and 101 are none of the causes.
module _ {Cause : ℕ → Type 0} (among : (cause : ℕ) → Cause cause → UpTo last_cause cause) where
  means : {A B : Type 0} (need : ℕ) (code_of : B → ℕ) (numbers_of : B → List ℕ) (y : Read B) (numbers out after : List ℕ) {x : Read A} {Done No : Type 0}
      → Codes Cause x Done No (ended code_of numbers_of y numbers after).code
      → Means Cause need numbers x Done No (exported need code_of numbers_of y numbers out after).code
  unfolding exported
  means need code_of numbers_of y numbers out after {x} {Done} {No} c = go (leb need (length numbers)) refl
    where
      pick : {P : Type 0} → (Done → P) → ((other : ℕ) → Cause other → x ≡ refused other → P) → (No → P) → P
      pick f g h = ⊎_elim f (⊎_elim (λ (other, q, r). g other q r) h) c.one_of

      go : (t : Bool) → leb need (length numbers) ≡ t → Means Cause need numbers x Done No
          (cond t (ended code_of numbers_of y numbers after) (record { code = 100; numbers = numbers; out = out })).code
      go true e =
          let enough = leb-true need (length numbers) e in
          record {
            done = (
              λ h. (enough, pick (λ d. d) (λ o q r. absurd (omega (arith, c.refusal o r, among o q))) (λ n. absurd (omega (arith, c.no n)))),
              λ h. c.done h.1,
            );
            refusal = λ cause p. (
              λ h. (
                enough,
                pick (λ d. absurd (omega (arith, c.done d, among cause p))) (λ o q r. r ∙ ap refused (sym (c.refusal o r) ∙ h))
                    (λ n. absurd (omega (arith, c.no n, among cause p))),
              ),
              λ h. c.refusal cause h.1,
            );
            short = neither
                (λ h. pick (λ d. omega (arith, c.done d)) (λ o q r. omega (arith, c.refusal o r, among o q)) (λ n. omega (arith, c.no n)))
                (omega arith);
            no = (
              λ h. (enough, pick (λ d. absurd (omega (arith, c.done d))) (λ o q r. absurd (omega (arith, c.refusal o r, among o q))) (λ n. n)),
              λ h. c.no h.1,
            );
            only = pick (λ d. inl (c.done d)) (λ o q r. inr (inl (rw (c.refusal o r) q))) (λ n. inr (inr (inr (c.no n))));
          }
      go false e =
          let few = leb-false need (length numbers) e in
          record {
            done = neither (omega arith) (omega arith);
            refusal = λ cause p. neither (λ h. omega (arith, among cause p)) (omega arith);
            short = (λ h. few, λ h. refl);
            no = neither (omega arith) (omega arith);
            only = inr (inr (inl refl));
          }

  pub work_means : {A : Type 0} (need : ℕ) (numbers_of : A → List ℕ) (x : Read A) (numbers out after : List ℕ) → Causes Cause x
      → WorkMeans Cause need numbers x (exported need done numbers_of x numbers out after).code
  unfolding ended done
  work_means {A} need numbers_of x numbers out after p = means need done numbers_of x numbers out after (record {
    done = λ (a, e). rw e;
    refusal = λ cause e. rw e;
    no = λ n. absurd n;
    one_of = one p;
  })
    where
      one : {y : Read A} → Causes Cause y → ((a : A) × (y ≡ found a)) ⊎ (((cause : ℕ) × Cause cause × (y ≡ refused cause)) ⊎ ⊥)
      one (finds {a}) = inl (a, refl)
      one (refuses {cause} p) = inr (inl (cause, p, refl))

  pub yes_no_means : (need : ℕ) (numbers_of : Read Bool → List ℕ) (x : Read Bool) (numbers out after : List ℕ) → Causes Cause x
      → YesNoMeans Cause need numbers x (exported need yes_no numbers_of (found x) numbers out after).code
  unfolding ended yes_no
  yes_no_means need numbers_of x numbers out after p = means need yes_no numbers_of (found x) numbers out after (record {
    done = λ e. rw e;
    refusal = λ cause e. rw e;
    no = λ e. rw e;
    one_of = one x p;
  })
    where
      one : (y : Read Bool) → Causes Cause y → (y ≡ found true) ⊎ (((cause : ℕ) × Cause cause × (y ≡ refused cause)) ⊎ (y ≡ found false))
      one (found true) p = inl refl
      one (found false) p = inr (inr refl)
      one (refused cause) (refuses p) = inr (inl (cause, p, refl))

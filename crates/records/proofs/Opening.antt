-- When a record opens, from the length of the bytes and the length that they state; and where it and its body lie. By cases on the tests of
-- `opened`; used by `open` and `body`, and wherever a record of a table or a tree is taken apart.
use Prim.Native.Nat.{ℕ, ◌+◌, ◌-◌, ◌≤◌, ◌<◌}
use native.Mathlib.Omega.{arith}
use native.Mathlib.Decide.{dec_le}
use mathlib.Core.Path.{◌≡◌, refl, sym}
use mathlib.Core.List.{List, [], ◌∷◌}
use mathlib.Core.Bool.{Bool, true, false, cond, and-false}
use lib.ListN.{length, take, drop}
use lib.Dec.{leb}
use borrow.Author.Tests.{le-leb, lt-leb, leb-true}
use Rattle.lists.proofs.Booleans.{and_true_out}
use Rattle.records.specs.Bytes.{number2, number4}
use Rattle.records.specs.Record.{whole, nothing, refused, end_of, is_whole, opened, body_of}

pub opened_empty : (b : List ℕ) → length b ≡ 0 → opened b ≡ nothing
unfolding opened
opened_empty [] h = refl
opened_empty (x ∷ b) h = absurd (omega arith)

pub opened_whole : (b : List ℕ) → 2 ≤ number4 b → 4 + number4 b ≤ length b → opened b ≡ whole (number2 (drop 4 b)) (4 + number4 b)
unfolding opened is_whole end_of
opened_whole [] h e = absurd (omega arith)
opened_whole (x ∷ b) h e = rw (le-leb 2 (number4 (x ∷ b)) h, le-leb (4 + number4 (x ∷ b)) (length (x ∷ b)) e)

pub opened_short : (b : List ℕ) → 0 < length b → number4 b < 2 → opened b ≡ refused 1
unfolding opened is_whole
opened_short [] p h = absurd (omega arith)
opened_short (x ∷ b) p h = rw (lt-leb 2 (number4 (x ∷ b)) h)

pub opened_past : (b : List ℕ) → 0 < length b → length b < 4 + number4 b → opened b ≡ refused 1
unfolding opened is_whole end_of
opened_past [] p h = absurd (omega arith)
opened_past (x ∷ b) p h = simp (lt-leb (4 + number4 (x ∷ b)) (length (x ∷ b)) h, and-false)

-- Fewer than six bytes hold no record.
pub opened_few : (b : List ℕ) → (length b ≡ 0 → ⊥) → length b < 6 → opened b ≡ refused 1
opened_few b p h =
    elim (dec_le 2 (number4 b))
    [ yes e ↦ opened_past b (omega arith) (omega arith) | no e ↦ opened_short b (omega arith) (omega arith) ]

pub nothing≢whole : {kind end : ℕ} → nothing ≡ whole kind end → ⊥
nothing≢whole h = let z : ◌≡◌ {A = ℕ} 0 1 = cc in omega arith

pub refused≢whole : {cause kind end : ℕ} → refused cause ≡ whole kind end → ⊥
refused≢whole h = let z : ◌≡◌ {A = ℕ} 0 1 = cc in omega arith

-- A record that opens has room for its length and kind, and ends within the bytes.
pub record Within (b : List ℕ) (kind end : ℕ) : Type 0 where
  pub is_whole_lem : is_whole b ≡ true
  pub start : 6 ≤ end
  pub stop : end ≤ length b
  pub kind_at : kind ≡ number2 (drop 4 b)
  pub end_at : end ≡ 4 + number4 b

pub opened_within : (b : List ℕ) (kind end : ℕ) → opened b ≡ whole kind end → Within b kind end
unfolding opened is_whole end_of
opened_within [] kind end h = absurd (nothing≢whole h)
opened_within (x ∷ b) kind end h = go (is_whole (x ∷ b)) refl h
  where
    go : (t : Bool) → is_whole (x ∷ b) ≡ t
        → cond t (whole (number2 (drop 4 (x ∷ b))) (4 + number4 (x ∷ b))) (refused 1) ≡ whole kind end → Within (x ∷ b) kind end
    go true e g =
        let c = and_true_out (leb 2 (number4 (x ∷ b))) (leb (4 + number4 (x ∷ b)) (length (x ∷ b))) e in
        let p : number2 (drop 4 (x ∷ b)) ≡ kind = cc in
        let q : 4 + number4 (x ∷ b) ≡ end = cc in
        record {
          is_whole_lem = e;
          start = omega (arith, leb-true 2 (number4 (x ∷ b)) c.0);
          stop = omega (arith, leb-true (4 + number4 (x ∷ b)) (length (x ∷ b)) c.1);
          kind_at = sym p;
          end_at = sym q;
        }
    go false e g = absurd (refused≢whole g)

-- The body of a record that opens, and of none.
pub body_within : (b : List ℕ) {kind end : ℕ} → opened b ≡ whole kind end → body_of b ≡ take (end - 6) (drop 6 b)
unfolding body_of end_of
body_within b e = let w = opened_within b _ _ e in rw (w.is_whole_lem, w.end_at)

pub body_none : (b : List ℕ) → ((kind end : ℕ) → opened b ≡ whole kind end → ⊥) → [] ≡ body_of b
unfolding body_of opened is_whole number4 number2
body_none [] none = refl
body_none (x ∷ b) none = go (is_whole (x ∷ b)) refl
  where
    go : (t : Bool) → is_whole (x ∷ b) ≡ t → [] ≡ cond t (take (end_of (x ∷ b) - 6) (drop 6 (x ∷ b))) []
    go true e = absurd (none (number2 (drop 4 (x ∷ b))) (end_of (x ∷ b)) (rw e))
    go false e = refl

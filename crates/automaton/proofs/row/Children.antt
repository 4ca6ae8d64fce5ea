-- The children of a rule: taken field by field from a rule's body, and renamed one after the other. By the elements so far; for the proofs of the
-- functions that read and rename rows.
use Prim.Native.Nat.{ℕ, ◌+◌, ◌-◌, ◌/◌, ◌≤◌, ◌<◌}
use native.Mathlib.Decide.{ℕ_discrete, dec_lt}
use native.Mathlib.Omega.{arith}
use mathlib.Core.Path.{◌≡◌, sym, ap, ◌∙◌}
use mathlib.Core.List.{List, [], ◌∷◌, ◌++◌, map, append_assoc, append-nil}
use lib.ListN.{length, take, drop, get_or, set, replicate, get_or-eq_default, length-append, length-drop, length-map, length-set}
use lib.Seq.{ext_get_or, length-take-le, get_or-drop, get_or-set_same, get_or-set_other}
use Rattle.std.proofs.lemmas.List.{get_or-map, get_or_at, get_or-replicate, take_more_set}
use Rattle.lists.proofs.Elements.{all_at, all_first, all_rest}
use Rattle.records.specs.Bytes.{number2, numbers}
use Rattle.records.proofs.Fields.{two_numbers, length_numbers}
use Rattle.automaton.specs.Inner.{RuleBody}

abbrev pub Bytes : List ℕ → Type 0
Bytes xs = (k : ℕ) → get_or xs k 0 < 256

pub bytes_set : (xs : List ℕ) (i v : ℕ) → i < length xs → Bytes xs → v < 256 → Bytes (set xs i v)
bytes_set xs i v within bytes low k =
    elim (ℕ_discrete k i) [
      | yes e ↦ rw (e, get_or-set_same xs i v 0 within) low
      | no d ↦ rw (get_or-set_other xs i k v 0 d) (bytes k)
    ]

pub no_children : Bytes (replicate 8 0)
no_children k = elim (dec_lt k 8) [
  | yes l ↦ rw (get_or-replicate {A = ℕ} 8 k 0 0 l) (omega arith)
  | no l ↦ rw (get_or-eq_default {A = ℕ} (replicate 8 0) 0 {n = k} (omega arith)) (omega arith)
]

-- The number in two bytes is the first of them if it is below 256.
pub low_number : (q : List ℕ) → number2 q < 256 → get_or q 0 0 ≡ number2 q
unfolding number2
low_number q h = omega arith

-- The first i children are taken, and the fields of `rest` are left.
pub record Taken (b children : List ℕ) (i : ℕ) (rest : List ℕ) : Type 0 where
  pub few : i ≤ 8
  pub room : length children ≡ 8
  pub bytes : Bytes children
  pub all : take i children ++ numbers rest ≡ numbers (drop 4 b)

module _ {b children : List ℕ} {i : ℕ} {rest : List ℕ} (r : RuleBody b) (t : Taken b children i rest) where
  length_taken : i + length (numbers rest) ≡ (length b - 4) / 2
  length_taken =
      let front : length (take i children) ≡ i = length-take-le i children (omega (arith, t.few, t.room)) in
      omega (
        arith,
        front,
        length-append (take i children) (numbers rest),
        ap length t.all,
        length_numbers (drop 4 b),
        length-drop 4 b,
      )

  module _ (v : ℕ) (later : List ℕ) (next : numbers rest ≡ v ∷ numbers later) where
    pub next_room : i < 8
    next_room = omega (arith, length_taken, r.few, ap length next)

    pub next_low : v < 256
    next_low =
        let front : length (take i children) ≡ i = length-take-le i children (omega (arith, t.few, t.room)) in
        let low = all_rest (all_rest (rw (two_numbers b r.some) at r.low)) in
        let here : get_or (numbers (drop 4 b)) i 0 ≡ v =
        ap (λ (l : List ℕ). get_or l i 0) (sym t.all ∙ ap (λ (l : List ℕ). take i children ++ l) next)
        ∙ get_or_at (take i children) v (numbers later) 0 i front in
        rw (← here) (all_at low i (omega (arith, length_taken, ap length next, length_numbers (drop 4 b), length-drop 4 b)))

    pub next_taken : Taken b (set children i v) (i + 1) later
    next_taken =
        let room = next_room in
        let within : i < length children = omega (arith, t.room) in
        record {
          few = omega arith;
          room = rw length-set t.room;
          bytes = bytes_set children i v within t.bytes next_low;
          all = rw (take_more_set children i v within, append_assoc) (ap (λ (l : List ℕ). take i children ++ l) (sym next) ∙ t.all);
        }

  pub all_taken : numbers rest ≡ [] → take ((length b - 4) / 2) children ≡ numbers (drop 4 b)
  all_taken none =
      let count : (length b - 4) / 2 ≡ i = omega (arith, length_taken, ap length none) in
      rw (count, ← t.all, none, append-nil)

-- The symbol and the target.
pub body_symbol : (b : List ℕ) → RuleBody b → get_or b 0 0 ≡ number2 b
body_symbol b r = low_number b (all_first (rw (two_numbers b r.some) at r.low))

pub body_target : (b : List ℕ) → RuleBody b → get_or b 2 0 ≡ number2 (drop 2 b)
body_target b r = sym (get_or-drop 2 b 0 0) ∙ low_number (drop 2 b) (all_first (all_rest (rw (two_numbers b r.some) at r.low)))

-- A list whose elements are those of another, each mapped.
pub mapped : (f : ℕ → ℕ) (xs ys : List ℕ) → length ys ≡ length xs → ((i : ℕ) → i < length xs → get_or ys i 0 ≡ f (get_or xs i 0)) → ys ≡ map f xs
mapped f xs ys long each =
    ext_get_or 0 ys (map f xs) (long ∙ sym (length-map xs f))
    (λ i h. let within : i < length xs = omega (arith, long) in each i within ∙ sym (get_or-map f xs i 0 0 within))

-- A bit of 1 is the store of `with_state`; a bit of 0 stores what stood there.
use Rattle.std.proofs.Common.{ℕ, ◌*◌, ◌/◌, ◌%◌, ◌^◌, ◌<◌, ◌≡◌, refl, ap, List, Bool, true, false, cond, length, get_or, set, eqb, bit_or, arith}
use native.Mathlib.Nat.{zero-mul}
use native.Mathlib.Decide.{ℕ_discrete}
use lib.Seq.{set-get_or, get_or-set_same, get_or-set_other}
use lib.Bits.{or_zero_r}
use borrow.Author.Tests.{eq-eqb, ne_eqb}
use mir.Val.{bool_byte}
use Rattle.sets.specs.Set.{words, replaced, with_state}
use Rattle.sets.proofs.StateSets.{get_d_words, one_bit}
use Rattle.trees.specs.Inner.{gathered}
use Rattle.trees.proofs.evaluation.add_if.Goals as goal

-- A store at every other place.
gathered_set : (ws : List ℕ) (i w : ℕ) → length ws ≡ 8 → i < 4 → gathered (set ws (2 * i) w) ≡ replaced (gathered ws) i w
unfolding gathered replaced words
gathered_set ws i w eight h = rw (word 0, word 1, word 2, word 3)
  where
    word : (j : ℕ) → get_or (set ws (2 * i) w) (2 * j) 0 ≡ cond (eqb j i) w (get_or ws (2 * j) 0)
    word j = elim (ℕ_discrete j i) [
      | yes e ↦ rw (eq-eqb j i e, e) (get_or-set_same ws (2 * i) w 0 (omega arith))
      | no d ↦ rw (ne_eqb j i d) (get_or-set_other ws (2 * i) (2 * j) w 0 (λ f. d (omega arith)))
    ]

gathered_at : (ws : List ℕ) (i : ℕ) → i < 4 → get_or (gathered ws) i 0 ≡ get_or ws (2 * i) 0
unfolding gathered
gathered_at ws i h = get_d_words (λ (j : ℕ). get_or ws (2 * j) 0) i h

module _ (ws : List ℕ) (q : ℕ) (eight : length ws ≡ 8) (low : q < 256) where
  added : (t : Bool) → gathered (set ws (2 * (q / 64)) (bit_or (get_or ws (2 * (q / 64)) 0) (cond t 1 0 * 2 ^ (q % 64) % 18446744073709551616)))
      ≡ cond t (with_state (gathered ws) q) (gathered ws)
  unfolding with_state
  added true =
      rw (one_bit (q % 64) (omega arith), ← gathered_at ws (q / 64) (omega arith))
      (gathered_set ws (q / 64) _ eight (omega arith))
  added false = rw (zero-mul, or_zero_r) (ap gathered (set-get_or ws (2 * (q / 64)) 0))

byte : (t : Bool) → bool_byte t ≡ cond t 1 0
byte true = refl
byte false = refl

pub returns : goal.returns
returns c = rw (c.from-w.ensures, c.from.ensures, byte c.args.bit) (added c.args.spread.now c.args.q c.told-spread (omega arith) c.args.bit)

-- The words, one by one.
use Rattle.std.proofs.Common.{refl, bit_or, get_or}
use lib.Bits.{or_lt}
use Rattle.sets.specs.Set.{union_of, words}
use Rattle.sets.proofs.StateSets.{bounded_words}
use Rattle.sets.proofs.set.StateSet.union.Goals as goal

pub invariant_of-result : goal.invariant_of-result
unfolding words
invariant_of-result c = record {
  four = refl;
  bits = bounded_words (λ i. bit_or (get_or c.args.self.words i 0) (get_or c.args.other.words i 0))
      (λ i. or_lt 64 _ _ (c.args.self.bits i) (c.args.other.bits i));
}

pub returns : goal.returns
unfolding union_of words
returns c = refl

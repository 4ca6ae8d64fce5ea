-- A set met with the states below a number: it keeps its states below that number and has no others.
use Rattle.std.proofs.Common.{ℕ, ◌≤◌, ◌≡◌, List, ltb, arith}
use mathlib.Core.Bool.{and-true, and-false}
use borrow.Author.Tests.{lt-ltb, le-ltb}
use Rattle.lists.specs.Lists.{from}
use Rattle.lists.proofs.Keeping.{keep_agree}
use Rattle.lists.proofs.Ranges.{member_from}
use Rattle.sets.specs.Set.{member, meet_of}
use Rattle.sets.specs.Inner.{states_in, Has, Below}
use Rattle.sets.proofs.StateSets.{member_meet}

module _ (n : ℕ) (set low met : List ℕ) (has : Has low (λ (r : ℕ). ltb r n)) (is : met ≡ meet_of set low) where
  pub cut_states : n ≤ 256 → states_in n met ≡ states_in n set
  unfolding states_in
  cut_states few =
      keep_agree (member met) (member set) (from 0 n) (λ q m.
      let b = member_from n 0 q m in
      rw (is, member_meet set low q (omega arith), has q (omega arith), lt-ltb q n (omega arith)) (and-true (member set q)))

  pub cut_under : Below n met
  unfolding Below
  cut_under r high b = rw (is, member_meet set low r b, has r b, le-ltb r n high) (and-false (member set r))

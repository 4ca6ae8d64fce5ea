-- A record is refused, or the three make the head. What a closure's call returns is what its judge reads, by search.
use Rattle.std.proofs.Common.{ℕ, zero, suc, ◌≤◌, List, get_or, arith, rules, sym}
use Rattle.std.proofs.lemmas.Result.{err_from_is_err_and}
use Rattle.lists.specs.Lists.{All, none, also}
use Rattle.lists.proofs.Arrays.{part_to_end}
use Rattle.records.specs.Answers.{reading_of}
use Rattle.records.specs.Read.{◌>>=◌, map_read}
use Rattle.automaton.specs.Table.{judge_size, judge_ranks, judge_finals}
use Rattle.automaton.specs.Inner.{judge_head, parts_of}
use Rattle.automaton.proofs.Checked.{record_found, record_within, size_checked, ranks_checked}
use Rattle.automaton.proofs.head.Head.judge.Goals as goal

-- Elements that an array does not have count as 0.
small_at : {xs : List ℕ} → All (λ (r : ℕ). r ≤ 8) xs → (i : ℕ) → get_or xs i 0 ≤ 8
small_at none i = omega arith
small_at (also low lows) zero = low
small_at (also low lows) (suc i) = small_at lows i

pub returns-in_err-end : goal.returns-in_err-end
unfolding reading_of judge_head map_read ◌>>=◌
returns-in_err-end c =
    let p = err_from_is_err_and c.from_residual.result c.from_residual.ensures.1 in
    rw (p.1, p.2, ← c.in_err-end.ensures judge_size (λ r q. search rules))

pub size_in-size-requires : goal.size_in-size-requires
unfolding reading_of
size_in-size-requires c =
    let first = c.in_ok-end.ensures judge_size (λ r q. search rules) in
    rw c.body.ensures (omega (arith, (size_checked _ (record_found 1 2 _ _ (sym first)).passes).size))

pub slice_bounds-rest-count : goal.slice_bounds-rest-count
unfolding reading_of
slice_bounds-rest-count c = record_within 1 2 _ _ (sym (c.in_ok-end.ensures judge_size (λ r q. search rules)))

pub slice_bounds-rest-start : goal.slice_bounds-rest-start
unfolding reading_of
slice_bounds-rest-start c = record_within 1 2 _ _ (sym (c.in_ok-end.ensures judge_size (λ r q. search rules)))

pub returns-in_err-end-2 : goal.returns-in_err-end-2
unfolding reading_of judge_head map_read ◌>>=◌
returns-in_err-end-2 c =
    let p = err_from_is_err_and c.from_residual-in_err-end-2.result c.from_residual-in_err-end-2.ensures.1 in
    let first = c.in_ok-end.ensures judge_size (λ r q. search rules) in
    let second = c.in_err-end-2.ensures (judge_ranks c.size_in-size.result.symbols) (λ r q. search rules) in
    rw (p.1, p.2, ← first, ← (simp (part_to_end, c.size_in-size.ensures, c.body.ensures) at second))

pub slice_bounds-rest-count-2 : goal.slice_bounds-rest-count-2
unfolding reading_of
slice_bounds-rest-count-2 c =
    record_within 2 2 _ _ (sym (c.in_ok-end-2.ensures (judge_ranks c.size_in-size.result.symbols) (λ r q. search rules)))

pub slice_bounds-rest-start-2 : goal.slice_bounds-rest-start-2
unfolding reading_of
slice_bounds-rest-start-2 c =
    record_within 2 2 _ _ (sym (c.in_ok-end-2.ensures (judge_ranks c.size_in-size.result.symbols) (λ r q. search rules)))

pub returns-in_err-end-3 : goal.returns-in_err-end-3
unfolding reading_of judge_head map_read ◌>>=◌
returns-in_err-end-3 c =
    let p = err_from_is_err_and c.from_residual-in_err-end-3.result c.from_residual-in_err-end-3.ensures.1 in
    let first = c.in_ok-end.ensures judge_size (λ r q. search rules) in
    let second = c.in_ok-end-2.ensures (judge_ranks c.size_in-size.result.symbols) (λ r q. search rules) in
    let third = c.in_err-end-3.ensures (judge_finals c.size_in-size.result.states) (λ r q. search rules) in
    rw (
      p.1,
      p.2,
      ← first,
      ← (simp (part_to_end, c.size_in-size.ensures, c.body.ensures) at second),
      ← (simp (part_to_end, c.size_in-size.ensures, c.body.ensures) at third),
    )

pub slice_bounds-result-count : goal.slice_bounds-result-count
unfolding reading_of
slice_bounds-result-count c =
    record_within 3 2 _ _ (sym (c.in_ok-end-3.ensures (judge_finals c.size_in-size.result.states) (λ r q. search rules)))

pub slice_bounds-result-start : goal.slice_bounds-result-start
unfolding reading_of
slice_bounds-result-start c =
    record_within 3 2 _ _ (sym (c.in_ok-end-3.ensures (judge_finals c.size_in-size.result.states) (λ r q. search rules)))

pub invariant_of-result : goal.invariant_of-result
unfolding reading_of
invariant_of-result c =
    let first = c.in_ok-end.ensures judge_size (λ r q. search rules) in
    let second = c.in_ok-end-2.ensures (judge_ranks c.size_in-size.result.symbols) (λ r q. search rules) in
    let size = size_checked _ (record_found 1 2 _ _ (sym first)).passes in
    let ranks = ranks_checked _ _ (record_found 2 2 _ _ (sym second)).passes in
    let symbols : c.size_in-size.result.symbols ≤ 256 = rw (c.size_in-size.ensures, c.body.ensures) size.symbols in
    record {
      few = rw (c.size_in-size.ensures, c.body.ensures) (size.states, size.count);
      ranked = rw c.body-ranks.ensures (omega (arith, ranks.count), small_at ranks.small);
    }

pub returns : goal.returns
unfolding reading_of judge_head parts_of map_read ◌>>=◌
returns c =
    let first = c.in_ok-end.ensures judge_size (λ r q. search rules) in
    let second = c.in_ok-end-2.ensures (judge_ranks c.size_in-size.result.symbols) (λ r q. search rules) in
    let third = c.in_ok-end-3.ensures (judge_finals c.size_in-size.result.states) (λ r q. search rules) in
    rw (
      ← first,
      ← (simp (part_to_end, c.size_in-size.ensures, c.body.ensures) at second),
      ← (simp (part_to_end, c.size_in-size.ensures, c.body.ensures) at third),
    ) (simp (part_to_end, c.size_in-size.ensures, c.body.ensures, c.body-ranks.ensures, c.body-2.ensures))

-- What a report says of a table: its numbers have at most five digits and are those of the table, and it has at most 64 bytes. From what
-- judging gives, for `put_report`.
use Prim.Native.Nat.{ℕ, ◌*◌, ◌-◌, ◌≤◌, ◌<◌}
use native.Mathlib.Nat.{mul-le-mul}
use native.Mathlib.Omega.{arith}
use mathlib.Core.Path.{◌≡◌, refl}
use mathlib.Core.List.{List, [], ◌∷◌}
use lib.ListN.{length, take, length-append}
use Rattle.lists.specs.Lists.{All, none, also, from}
use Rattle.lists.proofs.Ranges.{length_from}
use Rattle.records.specs.Refusal.{number_of, last_cause}
use Rattle.records.specs.Read.{Read, found, refused}
use Rattle.records.specs.declared.refusal.Refusal.{Refusal}
use Rattle.records.specs.declared.refusal.Refusal.TheVariants.{BrokenRecord, WrongKind, WrongLength, AboveLimit, OutOfRange}
use Rattle.records.specs.declared.refusal.Refusal.TheVariants.{FinalsOutOfOrder, WrongRuleCount, NotATree, UnknownSymbol, Unbalanced}
use Rattle.records.specs.declared.refusal.Refusal.TheVariants.{TreeAboveLimit, UnknownState, ShortOutput}
use Rattle.automaton.specs.Automaton.{Automaton, WellFormed}
use Rattle.automaton.specs.Table.{judge}
use Rattle.automaton.specs.Decoded.{size_of}
use Rattle.automaton.specs.declared.table.Size.{Size}
use Rattle.automaton.proofs.Theorems.{judge_causes, judged_well_formed}
use Rattle.refinement.proofs.Maximality.{Closed, rounds_below}
use Rattle.stages.specs.Steps.{buildable, productive, trimmed, rounds_in, reduce, reduction_rounds}
use Rattle.stages.proofs.Trimming.{trimmed_sound}
use Rattle.stages.proofs.Sizes.{closure_shorter, reduce_well_formed}
use Rattle.reporting.specs.Report.{line, numbers_in, refused_word, reduced_word, states_word, rules_word, rounds_word, report_of, report}
use Rattle.reporting.specs.Inner.{reduced_lines}
use Rattle.reporting.proofs.Text.{Short, line_short}

-- A table that is refused.

pub refusal_few : (cause : Refusal) → number_of cause ≤ last_cause
refusal_few BrokenRecord = omega arith
refusal_few WrongKind = omega arith
refusal_few WrongLength = omega arith
refusal_few AboveLimit = omega arith
refusal_few OutOfRange = omega arith
refusal_few FinalsOutOfOrder = omega arith
refusal_few WrongRuleCount = omega arith
refusal_few NotATree = omega arith
refusal_few UnknownSymbol = omega arith
refusal_few Unbalanced = omega arith
refusal_few TreeAboveLimit = omega arith
refusal_few UnknownState = omega arith
refusal_few ShortOutput = omega arith

pub report_refused : (b : List ℕ) (cause : ℕ) → judge b ≡ refused cause → line refused_word (cause ∷ []) ≡ report_of (judge b)
unfolding report_of
report_refused b cause judged = rw judged

-- A table that is not refused, and what reducing it leaves.

reduction_rounds_few : (A : Automaton) → WellFormed A → reduction_rounds A < 100000
unfolding reduction_rounds rounds_in trimmed productive Closed
reduction_rounds_few A w =
    let n = length (productive A) in
    let few : n ≤ 256 =
    omega (arith, w.states, closure_shorter (buildable A.rules) (from 0 A.states), length_from 0 A.states) in
    let fewer : n - 1 ≤ 255 = omega arith in
    let product : n * (n - 1) ≤ 256 * 255 = mul-le-mul few fewer in
    omega (arith, rounds_below (trimmed A).rules (trimmed A).states (λ u m t. (trimmed_sound A w).children u m))

-- The numbers of the four lines on a reduced table have at most five digits.
record FewDigits (old new : Size) (rounds : ℕ) : Type 0 where
  states : All Short (old.states ∷ new.states ∷ [])
  rules : All Short (old.rules ∷ new.rules ∷ [])
  last : All Short (rounds ∷ [])

numbers_few : (A : Automaton) → WellFormed A → FewDigits (size_of A) (size_of (reduce A)) (reduction_rounds A)
unfolding size_of
numbers_few A w =
    let v = reduce_well_formed A w in
    record {
      states = also {x = A.states} (omega (arith, w.states)) (also {x = (reduce A).states} (omega (arith, v.states)) none);
      rules = also {x = length A.rules} (omega (arith, w.count)) (also {x = length (reduce A).rules} (omega (arith, v.count)) none);
      last = also (reduction_rounds_few A w) none;
    }

pub report_found : (b : List ℕ) (A : Automaton) → judge b ≡ found A
    → reduced_lines (size_of A) (size_of (reduce A)) (reduction_rounds A) ≡ report_of (judge b)
unfolding reduced_lines report_of size_of
report_found b A judged = rw judged

-- A report has at most 64 bytes.

head_length : length (line reduced_word []) ≡ 8
unfolding line numbers_in reduced_word
head_length = refl

lines_short : (old new : Size) (rounds : ℕ) → FewDigits old new rounds → length (reduced_lines old new rounds) ≤ 64
unfolding reduced_lines states_word rules_word rounds_word
lines_short old new rounds few =
    simp length-append (omega (
      arith,
      head_length,
      line_short states_word few.states,
      line_short rules_word few.rules,
      line_short rounds_word few.last,
    ))

pub report_of_short : (b : List ℕ) → length (report_of (judge b)) ≤ 64
unfolding report_of refused_word reduced_lines size_of
report_of_short b = go (judge b) refl
  where
    go : (j : Read Automaton) → judge b ≡ j → length (report_of j) ≤ 64
    go (refused cause) e = omega (arith, line_short refused_word {vs = cause ∷ []} (also {x = cause} (omega (arith, judge_causes _ cause e)) none))
    go (found A) e =
        lines_short (size_of A) (size_of (reduce A)) (reduction_rounds A) (numbers_few A (judged_well_formed _ A e))

pub report_short : (input : List ℕ) → length (report input) ≤ 64
unfolding report
report_short input = report_of_short (take 27417 input)

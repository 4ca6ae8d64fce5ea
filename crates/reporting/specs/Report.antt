-- The report on some bytes: `refused` and the number on one line, or four lines.
use Rattle.std.specs.Prelude.{ℕ, zero, suc, ◌+◌, ◌-◌, ◌*◌, ◌/◌, ◌%◌, ◌≤◌, ◌≡◌, List, [], ◌∷◌, ◌++◌, cond, length, take, ltb}
use Rattle.lists.specs.Lists.{All}
use Rattle.records.specs.Read.{Read, found, refused}
use Rattle.automaton.specs.Automaton.{Automaton}
use Rattle.automaton.specs.Table.{judge}
use Rattle.stages.specs.Steps.{reduce, reduction_rounds}

-- A number in decimal without leading zeros: v has at most v + 1 digits.
unfoldable pub decimal_in : ℕ → ℕ → List ℕ
decimal_in zero v = []
decimal_in (suc digits) v = cond (ltb v 10) ((48 + v) ∷ []) (decimal_in digits (v / 10) ++ ((48 + v % 10) ∷ []))

unfoldable pub decimal : ℕ → List ℕ
decimal v = decimal_in (suc v) v

-- What "in decimal without leading zeros" means: digits, bytes 48 to 57, at least one, that stand for v; the first is zero only if it is the
-- only one. The theorem `decimal_numeral` says it of `decimal`.
unfoldable pub value_from : ℕ → List ℕ → ℕ
value_from high [] = high
value_from high (d ∷ ds) = value_from (10 * high + (d - 48)) ds

unfoldable pub value : List ℕ → ℕ
value ds = value_from 0 ds

pub record Numeral (v : ℕ) (ds : List ℕ) : Type 0 where
  pub reads : value ds ≡ v
  pub digits : All (λ (d : ℕ). (48 ≤ d) × (d ≤ 57)) ds
  pub some : 1 ≤ length ds
  pub leading : (rest : List ℕ) → ds ≡ 48 ∷ rest → (v ≡ 0) × (rest ≡ [])

-- Each number after one space; and a line, which byte 10 ends.
unfoldable pub numbers_in : List ℕ → List ℕ
numbers_in [] = []
numbers_in (v ∷ vs) = (32 ∷ decimal v) ++ numbers_in vs

unfoldable pub line : List ℕ → List ℕ → List ℕ
line word vs = word ++ (numbers_in vs ++ (10 ∷ []))

-- The words `refused`, `reduced`, `states`, `rules` and `rounds`.
unfoldable pub refused_word : List ℕ
refused_word = 114 ∷ 101 ∷ 102 ∷ 117 ∷ 115 ∷ 101 ∷ 100 ∷ []

unfoldable pub reduced_word : List ℕ
reduced_word = 114 ∷ 101 ∷ 100 ∷ 117 ∷ 99 ∷ 101 ∷ 100 ∷ []

unfoldable pub states_word : List ℕ
states_word = 115 ∷ 116 ∷ 97 ∷ 116 ∷ 101 ∷ 115 ∷ []

unfoldable pub rules_word : List ℕ
rules_word = 114 ∷ 117 ∷ 108 ∷ 101 ∷ 115 ∷ []

unfoldable pub rounds_word : List ℕ
rounds_word = 114 ∷ 111 ∷ 117 ∷ 110 ∷ 100 ∷ 115 ∷ []

unfoldable pub report_of : Read Automaton → List ℕ
report_of (refused cause) = line refused_word (cause ∷ [])
report_of (found A) =
    line reduced_word []
    ++ (line states_word (A.states ∷ (reduce A).states ∷ [])
    ++ (line rules_word (length A.rules ∷ length (reduce A).rules ∷ [])
    ++ line rounds_word (reduction_rounds A ∷ [])))

-- The first 27,417 bytes are judged.
unfoldable pub report : List ℕ → List ℕ
report input = report_of (judge (take 27417 input))

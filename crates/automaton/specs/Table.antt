-- A table in bytes: judged record by record, each cause by document 01's number and in 01's order, and written.
use Rattle.std.specs.Prelude.{ℕ, zero, suc, ◌+◌, ◌*◌, ◌%◌, List, [], ◌∷◌, ◌++◌, length, drop, get_or, leb, ltb, eqb}
use Rattle.lists.specs.Lists.{all, rising}
use Rattle.records.specs.Record as records
use Rattle.records.specs.Bytes.{number2, numbers, fields}
use Rattle.records.specs.Record.{Opening, opened, body_of, encode_record}
use Rattle.records.specs.Read.{Read, found, refused, ◌>>=◌, ◌>>◌, check}
use Rattle.automaton.specs.Automaton.{Rule, Automaton}
use Rattle.automaton.specs.declared.table.Size.{Size}

-- Where the next record ends: 1 where none opens, `missing` where nothing is left, 2 where it is not of the kind due.
unfoldable pub due : ℕ → ℕ → Opening → Read ℕ
due kind missing (records.whole k end) = do
  check (eqb k kind) 2
  found end
due kind missing records.nothing = refused missing
due kind missing (records.refused cause) = refused cause

-- Where the next record ends, if it is of the kind due and its body passes.
unfoldable pub judge_record : ℕ → ℕ → (List ℕ → Read (Unit {0})) → List ℕ → Read ℕ
judge_record kind missing judgeBody b = do
  end ← due kind missing (opened b)
  judgeBody (body_of b)
  found end

-- The body of the first record: the counts n, m and k.
unfoldable pub size_in : List ℕ → Size
size_in body = record { states = number2 body; symbols = number2 (drop 2 body); rules = number2 (drop 4 body) }

unfoldable pub judge_size : List ℕ → Read (Unit {0})
judge_size body = do
  check (eqb (length body) 6) 3
  check (leb (size_in body).states 256) 4
  check (leb (size_in body).symbols 256) 4
  check (leb (size_in body).rules 1024) 4

-- Of the second: the ranks of m symbols. Of the third: the final states, of n.
unfoldable pub judge_ranks : ℕ → List ℕ → Read (Unit {0})
judge_ranks m body = do
  check (eqb (length body) m) 3
  check (all (λ (r : ℕ). leb r 8) body) 4

unfoldable pub judge_finals : ℕ → List ℕ → Read (Unit {0})
judge_finals n body = do
  check (eqb (length body % 2) 0) 3
  check (all (λ (q : ℕ). ltb q n) (numbers body)) 5
  check (rising (numbers body)) 6

-- Of a rule. Its symbol (5) precedes the comparison with its rank (3), and its states (5) follow. The symbol is below the number of
-- ranks where its rank is read.
unfoldable pub rule_in : List ℕ → Rule
rule_in body = record { symbol = number2 body; target = number2 (drop 2 body); children = numbers (drop 4 body) }

unfoldable pub judge_rule : ℕ → List ℕ → List ℕ → Read (Unit {0})
judge_rule n ranks body = do
  check (leb 4 (length body)) 3
  check (ltb (number2 body) (length ranks)) 5
  check (eqb (length body) (4 + 2 * get_or ranks (number2 body) 0)) 3
  check (all (λ (q : ℕ). ltb q n) (numbers (drop 2 body))) 5

-- k rules and nothing after them: what stands there is 1, 2 or a rule too many (7). Too few (7) is found at the end.
unfoldable pub judge_rules : ℕ → List ℕ → ℕ → List ℕ → Read (List Rule)
judge_rules n ranks zero [] = found []
judge_rules n ranks zero (x ∷ b) = do
  due 4 7 (opened (x ∷ b))
  refused 7
judge_rules n ranks (suc k) b = do
  end ← judge_record 4 7 (judge_rule n ranks) b
  rules ← judge_rules n ranks k (drop end b)
  found (rule_in (body_of b) ∷ rules)

-- A table of this size from its ranks on, from its final states on, and the whole table.
unfoldable pub judge_from_finals : Size → List ℕ → List ℕ → Read Automaton
judge_from_finals size ranks b = do
  end ← judge_record 3 2 (judge_finals size.states) b
  rules ← judge_rules size.states ranks size.rules (drop end b)
  found (record { states = size.states; ranks = ranks; finals = numbers (body_of b); rules = rules })

unfoldable pub judge_from_ranks : Size → List ℕ → Read Automaton
judge_from_ranks size b = do
  end ← judge_record 2 2 (judge_ranks size.symbols) b
  judge_from_finals size (body_of b) (drop end b)

unfoldable pub judge : List ℕ → Read Automaton
judge b = do
  end ← judge_record 1 2 judge_size b
  judge_from_ranks (size_in (body_of b)) (drop end b)

-- A well-formed automaton in bytes.
unfoldable pub encode_rule : Rule → List ℕ
encode_rule u = encode_record 4 (fields (u.symbol ∷ u.target ∷ u.children))

unfoldable pub encode_rules : List Rule → List ℕ
encode_rules [] = []
encode_rules (u ∷ us) = encode_rule u ++ encode_rules us

unfoldable pub encode : Automaton → List ℕ
encode A =
    encode_record 1 (fields (A.states ∷ length A.ranks ∷ length A.rules ∷ []))
    ++ (encode_record 2 A.ranks
    ++ (encode_record 3 (fields A.finals)
    ++ encode_rules A.rules))

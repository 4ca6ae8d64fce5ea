-- What the contracts of inner functions and of those that are exported for the crates above cite; no call for everybody cites any of it.
-- Places that an array does not have, where `get_or` would give its default, are ruled out by the bounds in the contracts that cite these.
use Rattle.std.specs.Prelude.{ℕ, zero, suc, ◌*◌, ◌%◌, ◌≤◌, ◌<◌, ◌≡◌, List, [], ◌∷◌, length, drop, Result, Ok, Err}
use denote.Ref.{Bor}
use Rattle.lists.specs.Lists.{All}
use Rattle.records.specs.Answers.{reading_of}
use Rattle.records.specs.Bytes.{numbers}
use Rattle.records.specs.Read.{Read, found, refused, ◌>>=◌, ◌>>◌, map_read}
use Rattle.records.specs.Record.{opened, body_of}
use Rattle.records.specs.Refusal.{number_of}
use Rattle.records.specs.declared.refusal.Refusal.{Refusal}
use Rattle.automaton.specs.Automaton.{Automaton}
use Rattle.automaton.specs.Table.{due, judge_record, size_in, judge_size, judge_ranks, judge_finals, judge_rule, judge_rules}
use Rattle.automaton.specs.declared.row.Row.{Row}
use Rattle.automaton.specs.declared.table.Size.{Size}
use Rattle.automaton.specs.declared.head.Head.{Head}
use Rattle.automaton.specs.declared.head.Rules.{Rules}

-- Whether reading passes, without what was read.
unfoldable pub passing : {A : Type 0} → Read A → Read (Unit {0})
passing {A} = map_read (λ (a : A). tt)

-- Whatever a call may return reads as x.
abbrev pub Reads : (Result (Unit {0}) Refusal → Type 0) → Read (Unit {0}) → Type 0
Reads returns x = (r : Result (Unit {0}) Refusal) → returns r → reading_of r ≡ x

-- A table up to its rules: its counts, the bodies of its second and third records, and what stands behind the third.
pub record Parts : Type 0 where
  pub size : Size
  pub ranks : List ℕ
  pub finals : List ℕ
  pub rules : List ℕ

unfoldable pub parts_of : Head → Parts
parts_of h = record { size = h.size; ranks = h.ranks.now; finals = h.finals.now; rules = h.rules.now }

-- The first three records, judged, and the rules behind them. `judge` is the one and then the other (`judge_in_parts` of proofs/Theorems.antt).
unfoldable pub judge_head : List ℕ → Read Parts
judge_head b = do
  end ← judge_record 1 2 judge_size b
  let size = size_in (body_of b)
  let ranks = drop end b
  ranks_end ← judge_record 2 2 (judge_ranks size.symbols) ranks
  let finals = drop ranks_end ranks
  finals_end ← judge_record 3 2 (judge_finals size.states) finals
  found (record { size = size; ranks = body_of ranks; finals = body_of finals; rules = drop finals_end finals })

unfoldable pub judge_behind : Parts → Read Automaton
judge_behind p = do
  rules ← judge_rules p.size.states p.ranks p.size.rules p.rules
  found (record { states = p.size.states; ranks = p.ranks; finals = numbers p.finals; rules = rules })

-- A rule's body that was judged: an even number of bytes, 4 and two for each of at most eight children, and only numbers below 256.
pub record RuleBody (b : List ℕ) : Type 0 where
  pub some : 4 ≤ length b
  pub few : length b ≤ 20
  pub even : length b % 2 ≡ 0
  pub low : All (λ (v : ℕ). v < 256) (numbers b)

-- Where the next of k rules ends, and behind the last one the cause of what stands there.
unfoldable pub next_end : ℕ → List ℕ → ℕ → List ℕ → Read ℕ
next_end n ranks zero b = due 4 7 (opened b) >> refused 7
next_end n ranks (suc k) b = judge_record 4 7 (judge_rule n ranks) b

-- The bodies of k rules, each judged; the last is a cause of refusal where there is one, in a rule or behind them. The rules that they hold are those
-- of `judge_rules` (`rules_read` of proofs/head/Bodies.antt).
unfoldable pub then_bodies : Read ℕ → List ℕ → (ℕ → List (Read (List ℕ))) → List (Read (List ℕ))
then_bodies (found end) b others = found (body_of b) ∷ others end
then_bodies (refused cause) b others = refused cause ∷ []

unfoldable pub bodies : ℕ → List ℕ → ℕ → List ℕ → List (Read (List ℕ))
bodies n ranks zero [] = []
bodies n ranks zero (x ∷ b) = then_bodies (next_end n ranks zero (x ∷ b)) (x ∷ b) (λ end. [])
bodies n ranks (suc k) b = then_bodies (next_end n ranks (suc k) b) b (λ end. bodies n ranks k (drop end b))

-- What is left to an iterator over the rules, and what one of its items reads as.
unfoldable pub bodies_left : Rules → List (Read (List ℕ))
bodies_left s = bodies s.head.size.states s.head.ranks.now s.left s.rest.now

unfoldable pub body_read : Result (Bor (List ℕ)) Refusal → Read (List ℕ)
body_read (Ok body) = found body.now
body_read (Err cause) = refused (number_of cause)

abbrev pub Judged : Read (List ℕ) → Type 0
Judged (found body) = RuleBody body
Judged (refused cause) = Unit {0}

-- Room for each rule that t may hold: a rule takes ten bytes at least.
abbrev pub RowsRoom : List ℕ → List Row → Type 0
RowsRoom t rows = (k : ℕ) → k ≤ 1024 → 10 * k ≤ length t → k ≤ length rows

-- A nondeterministic bottom-up tree automaton (document 01: "table"), and when one is well-formed.
use Rattle.std.specs.Prelude.{ℕ, ◌≤◌, ◌<◌, ◌≡◌, List, map, length, get_or}
use Rattle.lists.specs.Lists.{All, Rising}

-- symbol(children) → target
pub record Rule : Type 0 where
  pub symbol : ℕ
  pub target : ℕ
  pub children : List ℕ

-- A rule with new names for its states.
unfoldable pub renamed : (ℕ → ℕ) → Rule → Rule
renamed name u = record { symbol = u.symbol; target = name u.target; children = map name u.children }

-- States and symbols are numbered from 0; symbol i has the rank that stands at i. Rules are numbered as they stand.
pub record Automaton : Type 0 where
  pub states : ℕ
  pub ranks : List ℕ
  pub finals : List ℕ
  pub rules : List Rule

-- `get_or xs i d` is element i of xs, and d where xs has no element i. The rank's 0 is never read: `symbol` is below the number of ranks.
pub record WellFormedRule (A : Automaton) (u : Rule) : Type 0 where
  pub symbol : u.symbol < length A.ranks
  pub arity : length u.children ≡ get_or A.ranks u.symbol 0
  pub target : u.target < A.states
  pub children : All (λ (q : ℕ). q < A.states) u.children

pub record WellFormed (A : Automaton) : Type 0 where
  pub states : A.states ≤ 256
  pub symbols : length A.ranks ≤ 256
  pub ranks : All (λ (r : ℕ). r ≤ 8) A.ranks
  pub finals : All (λ (q : ℕ). q < A.states) A.finals
  pub rising : Rising A.finals
  pub count : length A.rules ≤ 1024
  pub rules : All (WellFormedRule A) A.rules

-- What contracts say of sets of states that no call for everybody cites: sets made of lists, their states in order, their members, bounds on them.
use Rattle.std.specs.Prelude.{ℕ, ◌-◌, ◌*◌, ◌/◌, ◌%◌, ◌^◌, ◌≤◌, ◌<◌, ◌≡◌, List, [], ◌∷◌, map, get_or, Bool, false}
use Rattle.lists.specs.Lists.{from, keep}
use Rattle.sets.specs.Set.{member, empty_set, with_state, replaced}
use Rattle.sets.specs.declared.states.States.{States}

-- The set of the states of a list: each is added in turn.
unfoldable pub with_all : List ℕ → List ℕ → List ℕ
with_all ws [] = ws
with_all ws (q ∷ qs) = with_all (with_state ws q) qs

unfoldable pub set_of : List ℕ → List ℕ
set_of qs = with_all empty_set qs

-- The states below n that are in a set.
unfoldable pub states_in : ℕ → List ℕ → List ℕ
states_in n set = keep (member set) (from 0 n)

-- The states of a set from word w on, where `rest` stands for word w.
unfoldable pub states_from : List ℕ → ℕ → ℕ → List ℕ
states_from set w rest = keep (member (replaced set w rest)) (from (64 * w) (256 - 64 * w))

-- What is left to an iterator over a set.
unfoldable pub states_left : States → List ℕ
states_left s = states_from s.words s.at s.rest

-- The bytes of a set: eight to a word, the lowest first.
unfoldable pub set_byte : List ℕ → ℕ → ℕ
set_byte set i = get_or set (i / 8) 0 / 2 ^ (8 * (i % 8)) % 256

unfoldable pub set_bytes : List ℕ → List ℕ
set_bytes set = map (set_byte set) (from 0 32)

-- A set has just the states below 256 that pass a test.
abbrev pub Has : List ℕ → (ℕ → Bool) → Type 0
Has set test = (r : ℕ) → r < 256 → member set r ≡ test r

-- The states of a set are below n.
unfoldable pub Below : ℕ → List ℕ → Type 0
Below n set = (r : ℕ) → n ≤ r → r < 256 → member set r ≡ false

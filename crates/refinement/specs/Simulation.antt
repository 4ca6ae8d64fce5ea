-- Downward simulation, after Abdulla et al., section 2, and the largest one by refinement, in document 01's words.
use Rattle.std.specs.Prelude.{ℕ, zero, suc, ◌≡◌, Bool, true, false, not, ◌&&◌, ◌||◌, length, eqb}
use mathlib.Core.List.{List, [], ◌∷◌, ◌++◌, map, Memᴰ}
use Rattle.lists.specs.Lists.{keep, all, any}
use Rattle.automaton.specs.Automaton.{Rule}

-- Lists of equal length whose elements are related position by position.
pub data Each (D : ℕ → ℕ → Type 0) : List ℕ → List ℕ → Type 0 where
  none : Each D [] []
  also : {q r : ℕ} {qs rs : List ℕ} → D q r → Each D qs rs → Each D (q ∷ qs) (r ∷ rs)

-- A rule of target r matches rule u: the same symbol, and u's children related to its children position by position.
pub record Matched (D : ℕ → ℕ → Type 0) (others : List Rule) (r : ℕ) (u : Rule) : Type 0 where
  pub rule : Rule
  pub is_rule : Memᴰ rule others
  pub target : rule.target ≡ r
  pub symbol : u.symbol ≡ rule.symbol
  pub children : Each D u.children rule.children

-- A downward simulation D: where D q r, each rule of target q is matched by one of target r. The paper's is the case of one list
-- of rules; between two it relates the states of one automaton to those of another.
unfoldable pub Simulates : List Rule → List Rule → (ℕ → ℕ → Type 0) → Type 0
Simulates rules others D = (q r : ℕ) → D q r → (u : Rule) → Memᴰ u rules → u.target ≡ q → Matched D others r u

-- A relation in work: the pairs that are left.
abbrev pub Relation : Type 0
Relation = List (ℕ × ℕ)

unfoldable pub related : Relation → ℕ → ℕ → Bool
related R q r = any (λ (p : ℕ × ℕ). eqb p.0 q && eqb p.1 r) R

unfoldable pub paired : Relation → List ℕ → List ℕ → Bool
paired R [] [] = true
paired R [] (r ∷ rs) = false
paired R (q ∷ qs) [] = false
paired R (q ∷ qs) (r ∷ rs) = related R q r && paired R qs rs

-- Rule u is matched by rule v: the same symbol, and the children of u paired with those of v.
unfoldable pub matched_by : Relation → Rule → Rule → Bool
matched_by R u v = eqb u.symbol v.symbol && paired R u.children v.children

-- Some rule of target r matches u.
unfoldable pub matched : List Rule → Relation → ℕ → Rule → Bool
matched rules R r u = any (λ (v : Rule). eqb v.target r && matched_by R u v) rules

-- A pair (q, r) survives a round: each rule of target q has one rule of target r with the same symbol, all its children paired position
-- by position.
unfoldable pub survives : List Rule → Relation → ℕ × ℕ → Bool
survives rules R p = all (λ (u : Rule). not (eqb u.target p.0) || matched rules R p.1 u) rules

-- R(j+1) from Rj.
unfoldable pub refine : List Rule → Relation → Relation
refine rules R = keep (survives rules R) R

-- R0: all pairs of some states.
unfoldable pub all_pairs : List ℕ → List ℕ → Relation
all_pairs [] rs = []
all_pairs (q ∷ qs) rs = map (λ (r : ℕ). (q, r)) rs ++ all_pairs qs rs

unfoldable pub relation_at : List Rule → List ℕ → ℕ → Relation
relation_at rules states zero = all_pairs states states
relation_at rules states (suc j) = refine rules (relation_at rules states j)

-- The least j with R(j+1) = Rj. `refine` only drops pairs, so equal lengths mean equal relations; each round before that one
-- loses a pair, so R0's length is fuel enough.
unfoldable pub settle : List Rule → ℕ → ℕ → Relation → ℕ
settle rules zero j R = j
settle rules (suc fuel) j R =
    elim (eqb (length (refine rules R)) (length R)) [ true ↦ j | false ↦ settle rules fuel (suc j) (refine rules R) ]

unfoldable pub rounds : List Rule → List ℕ → ℕ
rounds rules states = settle rules (length (all_pairs states states)) 0 (all_pairs states states)

-- The relation is Rj at that j. It is meant for rules that name no other states than these.
unfoldable pub relation : List Rule → List ℕ → Relation
relation rules states = relation_at rules states (rounds rules states)

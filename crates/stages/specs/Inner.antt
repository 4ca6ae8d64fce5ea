-- What the steps ask of a stage.
use Rattle.std.specs.Prelude.{ℕ, ◌<◌}
use mathlib.Core.List.{Memᴰ}
use Rattle.lists.specs.Lists.{All, Rising}
use Rattle.automaton.specs.Automaton.{Rule}
use Rattle.stages.specs.Steps.{Stage}

-- The states and the final states rise, and the rules and the final states name no other states than these, all below 256.
pub record Sound (S : Stage) : Type 0 where
  pub rising : Rising S.states
  pub low : All (λ (q : ℕ). q < 256) S.states
  pub finals_rising : Rising S.finals
  pub finals : (q : ℕ) → Memᴰ q S.finals → Memᴰ q S.states
  pub targets : (u : Rule) → Memᴰ u S.rules → Memᴰ u.target S.states
  pub children : (u : Rule) → Memᴰ u S.rules → (q : ℕ) → Memᴰ q u.children → Memᴰ q S.states

-- The values of a line.
use Rattle.std.specs.Prelude.{List, [], ◌∷◌, ℕ, Some, Option}
use Rattle.std.specs.Fmt.{◌++?◌}

-- the text of each value after a space; none where the text of one is not known
abbrev pub spaced : {T : Type 0} → (T → Option (List ℕ)) → List T → Option (List ℕ)
spaced output [] = Some []
spaced output (x ∷ xs) = (Some (32 ∷ []) ++? output x) ++? spaced output xs

-- What the next case takes from a reader, and writes.
use Rattle.std.specs.Prelude.{ℕ, List, [], ◌∷◌, ◌++◌, Option, codes}
use Rattle.std.specs.Io.KnownBytes.{Appends, Keeps}
use Rattle.cases.specs.Field.{IsField, IsNoField}

-- the line that names a case
abbrev pub case_line : List ℕ → List ℕ
case_line name = codes "case " ++ name ++ 10 ∷ []

-- a name, after a byte of length, is taken from a reader, and the line is appended to a writer
abbrev pub IsNamed : List ℕ → Option (List ℕ) → Option (List ℕ) → Option (List ℕ) → Option (List ℕ) → Type 0
IsNamed name old new before after = IsField 1 old new name × Appends before after (case_line name)

-- no name is left to take, and nothing is written
abbrev pub IsLast : Option (List ℕ) → Option (List ℕ) → Option (List ℕ) → Option (List ℕ) → Type 0
IsLast old new before after = IsNoField 1 old new 255 × Keeps before after

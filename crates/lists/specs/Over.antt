-- An array with some elements written over what stood from `at` on.
use Rattle.std.specs.Prelude.{ℕ, List, length}
use Rattle.std.proofs.Math.Seq.{paste}

unfoldable pub over : List ℕ → ℕ → List ℕ → List ℕ
over out at bytes = paste out at bytes (length bytes)

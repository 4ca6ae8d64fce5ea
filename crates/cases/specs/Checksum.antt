-- The checksum of what a program wrote.
use Rattle.std.specs.Prelude.{ℕ, ◌+◌, ◌*◌, ◌%◌}
use Rattle.cases.specs.declared.TheConstants.{MODULUS}

-- the checksum with a byte more
abbrev pub more : ℕ → ℕ → ℕ
more sum b = (sum * 257 + b + 1) % MODULUS

-- What holds of the report, stated over the definitions of specs/ alone.
use Prim.Native.Nat.{ℕ}
use Rattle.reporting.specs.Report.{decimal, Numeral}
use Rattle.reporting.proofs.Decimal as digits

-- The report's numbers: the digits of v read back give v, and the first is 0 only if it is the only one.
pub decimal_numeral : (v : ℕ) → Numeral v (decimal v)
decimal_numeral = digits.decimal_numeral

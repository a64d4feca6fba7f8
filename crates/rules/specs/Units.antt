-- Document 01, "Units": the range of readings and limits. Numbers are worked out over ℤ, and what an entry answers takes its kind at the end.
use Rattle.std.specs.Prelude.{Bool, ◌&&◌, ℤ, pos, neg_ℤ, Option}
use Rattle.std.specs.Int.Signed.{le_z}
use Rattle.rules.specs.declared.Thousandths.{Thousandths}
use Rattle.rules.specs.declared.Hundredths.{Hundredths}
use Rattle.rules.specs.declared.Composite.{Composite}
use Rattle.rules.specs.declared.Cents.{Cents}

-- from −500,000 to 500,000
abbrev pub in_range : ℤ → Bool
in_range z = le_z (neg_ℤ (pos 500000)) z && le_z z (pos 500000)

-- 100 percent, in hundredths
abbrev pub hundred_percent : ℤ
hundred_percent = pos 10000

abbrev pub thousandths : ℤ → Thousandths
thousandths z = record { 0 = z }

abbrev pub hundredths : ℤ → Hundredths
hundredths z = record { 0 = z }

abbrev pub composite_of : ℤ → Composite
composite_of z = record { 0 = z }

abbrev pub cents : ℤ → Cents
cents z = record { 0 = z }

-- an upper or a lower limit, which may be absent
abbrev pub Limit : Type 0
Limit = Option Thousandths

-- Document 000's Table 1, as it prints it: in percent, with its decimals.
use Rattle.std.specs.Prelude.{pos, neg_ℤ}
use Rattle.rules.specs.declared.Thousandths.{Thousandths}
use Rattle.rules.specs.declared.Pair.{Pair}
use Rattle.laws.specs.Ratio.{Ratio, ratio, plus, Same}

-- LL and UL
pub record Printed : Type 0 where
  pub lower : Ratio
  pub upper : Ratio

-- VMA: MDR − 0.7 and MDR + 3.0
abbrev pub printed_vma : Ratio → Printed
printed_vma mdr = record { lower = plus mdr (ratio (neg_ℤ (pos 7)) 10); upper = plus mdr (ratio (pos 30) 10) }

-- plant voids: AJMF − 1.35 and AJMF + 1.35
abbrev pub printed_voids : Ratio → Printed
printed_voids ajmf = record { lower = plus ajmf (ratio (neg_ℤ (pos 135)) 100); upper = plus ajmf (ratio (pos 135) 100) }

-- in-place density
abbrev pub printed_4_75 : Printed
printed_4_75 = record { lower = ratio (pos 925) 10; upper = ratio (pos 970) 10 }

abbrev pub printed_19_0 : Printed
printed_19_0 = record { lower = ratio (pos 922) 10; upper = ratio (pos 970) 10 }

abbrev pub printed_sma : Printed
printed_sma = record { lower = ratio (pos 930) 10; upper = ratio (pos 980) 10 }

abbrev pub printed_others : Printed
printed_others = record { lower = ratio (pos 915) 10; upper = ratio (pos 970) 10 }

-- limits in thousandths that are those printed
pub record As (limits : Pair Thousandths) (printed : Printed) : Type 0 where
  pub below : Same (ratio limits.lower.0 1000) printed.lower
  pub above : Same (ratio limits.upper.0 1000) printed.upper

-- A lot turned about zero, and an answer with its sides swapped.
use Rattle.std.specs.Prelude.{map, neg_ℤ, Some, None, Ok, Err}
use Rattle.rules.specs.declared.Thousandths.{Thousandths}
use Rattle.rules.specs.Units.{Limit, thousandths}
use Rattle.rules.specs.declared.HeldLot.{HeldLot}
use Rattle.rules.specs.declared.Percentages.{Percentages}
use Rattle.rules.specs.Said.{Said}
use Rattle.rules.specs.Lot.{Lot}

abbrev pub turned_limit : Limit → Limit
turned_limit None = None
turned_limit (Some z) = Some (thousandths (neg_ℤ z.0))

-- Readings and limits are negated, and the limits change sides.
abbrev pub turned : Lot → Lot
turned lot =
    record {
      n = lot.n;
      upper = turned_limit lot.lower;
      lower = turned_limit lot.upper;
      readings = map neg_ℤ lot.readings;
    }

-- a lot in memory turned so, at all its places
abbrev pub turned_held : HeldLot → HeldLot
turned_held held =
    record {
      upper = turned_limit held.lower;
      lower = turned_limit held.upper;
      count = held.count;
      readings = map (λ (x : Thousandths). thousandths (neg_ℤ x.0)) held.readings;
    }

-- the sides swapped, with the rows tried for them, and the PWL the same
abbrev pub swapped : Percentages → Percentages
swapped p =
    record {
      upper = p.lower;
      lower = p.upper;
      pwl = p.pwl;
      tried = record { upper = p.tried.lower; lower = p.tried.upper };
    }

-- A refusal stays the same refusal.
abbrev pub said_swapped : Said Percentages → Said Percentages
said_swapped (Err r) = Err r
said_swapped (Ok p) = Ok (swapped p)

abbrev pub answer_swapped : Said Percentages → Said Percentages
answer_swapped (Err r) = Err r
answer_swapped (Ok p) = Ok (swapped p)

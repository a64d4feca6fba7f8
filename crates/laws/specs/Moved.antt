-- A lot moved by one amount: all its readings and those of its limits that are present.
use Rattle.std.specs.Prelude.{◌≡◌, false, List, map, ◌≤◌, ℤ, ◌+ℤ◌, length, Some, None}
use Rattle.rules.specs.declared.Thousandths.{Thousandths}
use Rattle.rules.specs.Units.{Limit, thousandths}
use Rattle.rules.specs.declared.HeldLot.{HeldLot}
use Rattle.rules.specs.Lot.{Lot, most}
use Rattle.rules.specs.Refusals.{range_case}

abbrev pub moved_readings : ℤ → List ℤ → List ℤ
moved_readings amount xs = map (λ (x : ℤ). x +ℤ amount) xs

abbrev pub moved_limit : ℤ → Limit → Limit
moved_limit amount None = None
moved_limit amount (Some z) = Some (thousandths (z.0 +ℤ amount))

abbrev pub moved : ℤ → Lot → Lot
moved amount lot =
    record {
      n = lot.n;
      upper = moved_limit amount lot.upper;
      lower = moved_limit amount lot.lower;
      readings = moved_readings amount lot.readings;
    }

-- a lot in memory moved so, at all its places
abbrev pub moved_held : ℤ → HeldLot → HeldLot
moved_held amount held =
    record {
      upper = moved_limit amount held.upper;
      lower = moved_limit amount held.lower;
      count = held.count;
      readings = map (λ (x : Thousandths). thousandths (x.0 +ℤ amount)) held.readings;
    }

-- A lot's readings and present limits are in range: refusal 5 does not apply.
abbrev pub InRange : Lot → Type 0
InRange lot = (range_case lot.upper lot.lower lot.readings).applies ≡ false

-- A lot has as many readings as its count n says, if n is no more than a lot can hold.
abbrev pub Counted : Lot → Type 0
Counted lot = lot.n ≤ most → length lot.readings ≡ lot.n

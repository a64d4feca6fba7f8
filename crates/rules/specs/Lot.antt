-- A lot: its count n, its limits and its readings, which are n in number. Only a lot in memory can have fewer, where its count is above what
-- it can hold; that is refusal 4.
use Rattle.std.specs.Prelude.{List, ◌++◌, map, ℕ, ◌-◌, ℤ, pos, length, take, replicate}
use Rattle.rules.specs.declared.Thousandths.{Thousandths}
use Rattle.rules.specs.Units.{Limit, thousandths}
use Rattle.rules.specs.declared.HeldLot.{HeldLot}

-- the most readings that a lot can hold
abbrev pub most : ℕ
most = 17

pub record Lot : Type 0 where
  pub n : ℕ
  pub upper : Limit
  pub lower : Limit
  pub readings : List ℤ

-- the lot of a list of readings: n is their number
abbrev pub lot_of : Limit → Limit → List ℤ → Lot
lot_of upper lower xs = record { n = length xs; upper = upper; lower = lower; readings = xs }

-- readings as plain numbers: thousandths are understood
abbrev pub plain : List Thousandths → List ℤ
plain xs = map (λ (x : Thousandths). x.0) xs

abbrev pub places : HeldLot → List ℤ
places held = plain held.readings

-- readings in the places of a lot in memory, and zeros after them
abbrev pub in_places : ℕ → List ℤ → List Thousandths
in_places n xs = map thousandths xs ++ replicate (most - n) (thousandths (pos 0))

-- the lot that a lot in memory stands for: its readings are the first `count` places
abbrev pub lot_in : HeldLot → Lot
lot_in held =
    record { n = held.count; upper = held.upper; lower = held.lower; readings = take held.count (places held) }

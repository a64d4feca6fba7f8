-- What each entry gives a host, in plain numbers, in the manner of document 01's notebook. The refusal stands first; where an entry refuses,
-- every other number is 0.
use Rattle.std.specs.Prelude.{List, [], ◌∷◌, map, ℕ, ℤ, pos, get_or, Some, None, Ok, Err}
use Rattle.rules.specs.declared.Thousandths.{Thousandths}
use Rattle.rules.specs.Units.{Limit, thousandths}
use Rattle.rules.specs.declared.HeldLot.{HeldLot}
use Rattle.rules.specs.declared.Mean.{Mean}
use Rattle.rules.specs.declared.Percentages.{Percentages}
use Rattle.rules.specs.declared.Payment.{Payment}
use Rattle.rules.specs.declared.Pair.{Pair}
use Rattle.rules.specs.declared.Row.{Row}
use Rattle.rules.specs.declared.Characteristics.{Characteristics}
use Rattle.rules.specs.declared.Refusal.{Refusal}
use Rattle.rules.specs.declared.host.HostRefusal.{HostRefusal}
use Rattle.rules.specs.declared.host.HostLimit.{HostLimit}
use Rattle.rules.specs.declared.host.HostLot.{HostLot}
use Rattle.rules.specs.declared.host.HostMean.{HostMean}
use Rattle.rules.specs.declared.host.HostDeviation.{HostDeviation}
use Rattle.rules.specs.declared.host.HostPercentages.{HostPercentages}
use Rattle.rules.specs.declared.host.HostPayment.{HostPayment}
use Rattle.rules.specs.declared.host.HostPair.{HostPair}
use Rattle.rules.specs.declared.host.HostMixtureLimits.{HostMixtureLimits}
use Rattle.rules.specs.declared.host.HostRead.{HostRead}
use Rattle.rules.specs.declared.host.HostWritten.{HostWritten}
use Rattle.rules.specs.declared.host.HostListed.{HostListed}
use Rattle.rules.specs.declared.host.HostPlace.{HostPlace}
use Rattle.rules.specs.declared.host.HostRow.{HostRow}
use Rattle.rules.specs.Said.{Said}
use Rattle.rules.specs.Lot.{Lot, lot_of, places}
use Rattle.rules.specs.Table.{Table}
use Rattle.rules.specs.Sheet.{verdict_number}
use Rattle.rules.specs.Refusals.{number_of}
use Rattle.rules.specs.Notebook.{lent_limit, mean_asked, deviation_asked, pwl_asked}
use Rattle.rules.specs.Entries.{ReadSaid, row_says}

-- The part with which every answer begins: the refusal's number, 0 for none.
abbrev pub refusal_part : Refusal → HostRefusal
refusal_part r = record { number = number_of r }

abbrev pub no_refusal : HostRefusal
no_refusal = record { number = 0 }

abbrev pub host_refusal : {A : Type 0} → Said A → HostRefusal
host_refusal (Err r) = refusal_part r
host_refusal (Ok a) = no_refusal

abbrev pub host_mean : Said Mean → HostMean
host_mean (Err r) = record { refusal = refusal_part r; total = pos 0; count = 0 }
host_mean (Ok m) = record { refusal = no_refusal; total = m.total.0; count = m.count }

abbrev pub host_deviation : Said Thousandths → HostDeviation
host_deviation (Err r) = record { refusal = refusal_part r; deviation = pos 0 }
host_deviation (Ok s) = record { refusal = no_refusal; deviation = s.0 }

abbrev pub host_percentages : Said Percentages → HostPercentages
host_percentages (Err r) =
    record { refusal = refusal_part r; upper = pos 0; lower = pos 0; pwl = pos 0; tried = record { upper = 0; lower = 0 } }
host_percentages (Ok p) =
    record {
      refusal = no_refusal;
      upper = p.upper.0;
      lower = p.lower.0;
      pwl = p.pwl.0;
      tried = record { upper = p.tried.upper; lower = p.tried.lower };
    }

abbrev pub host_payment : Said Payment → HostPayment
host_payment (Err r) =
    record { refusal = refusal_part r; composite = pos 0; vma = 0; voids = 0; density = 0; lot = 0; pay = pos 0 }
host_payment (Ok p) =
    record {
      refusal = no_refusal;
      composite = p.composite.0;
      vma = verdict_number p.vma;
      voids = verdict_number p.voids;
      density = verdict_number p.density;
      lot = verdict_number p.lot;
      pay = p.pay.0;
    }

abbrev pub host_pair : Pair Thousandths → HostPair
host_pair l = record { lower = l.lower.0; upper = l.upper.0 }

abbrev pub host_mixture_limits : Said (Characteristics (Pair Thousandths)) → HostMixtureLimits
host_mixture_limits (Err r) =
    let none : HostPair = record { lower = pos 0; upper = pos 0 } in
    record { refusal = refusal_part r; vma = none; voids = none; density = none }
host_mixture_limits (Ok l) =
    record { refusal = no_refusal; vma = host_pair l.vma; voids = host_pair l.voids; density = host_pair l.density }

-- ---- readings with limits, as numbers and presences

abbrev pub given_lot : ℤ → ℕ → ℤ → ℕ → List ℤ → Lot
given_lot upper upper_presence lower lower_presence xs =
    lot_of (lent_limit upper upper_presence) (lent_limit lower lower_presence) xs

abbrev pub given_row : Table → ℤ → ℕ → ℤ → ℕ → List ℕ → Said Row
given_row table upper upper_presence lower lower_presence bs =
    row_says table (lent_limit upper upper_presence) (lent_limit lower lower_presence) bs

-- ---- a lot, both ways

abbrev pub held_limit : HostLimit → Limit
held_limit l = lent_limit l.number l.presence

-- the lot in memory that a host's numbers stand for
abbrev pub held_lot : HostLot → HeldLot
held_lot h =
    record {
      upper = held_limit h.upper;
      lower = held_limit h.lower;
      count = h.count;
      readings =
          map thousandths
          (h.first ∷ h.second ∷ h.third ∷ h.fourth ∷ h.fifth ∷
          h.sixth ∷ h.seventh ∷ h.eighth ∷ h.ninth ∷ h.tenth ∷
          h.eleventh ∷ h.twelfth ∷ h.thirteenth ∷ h.fourteenth ∷ h.fifteenth ∷
          h.sixteenth ∷ h.seventeenth ∷ []);
    }

-- a limit as a host's numbers
abbrev pub limit_numbers : Limit → HostLimit
limit_numbers None = record { number = pos 0; presence = 0 }
limit_numbers (Some z) = record { number = z.0; presence = 1 }

unfoldable pub host_lot : HeldLot → HostLot
host_lot held =
    record {
      upper = limit_numbers held.upper;
      lower = limit_numbers held.lower;
      count = held.count;
      first = get_or (places held) 0 (pos 0);
      second = get_or (places held) 1 (pos 0);
      third = get_or (places held) 2 (pos 0);
      fourth = get_or (places held) 3 (pos 0);
      fifth = get_or (places held) 4 (pos 0);
      sixth = get_or (places held) 5 (pos 0);
      seventh = get_or (places held) 6 (pos 0);
      eighth = get_or (places held) 7 (pos 0);
      ninth = get_or (places held) 8 (pos 0);
      tenth = get_or (places held) 9 (pos 0);
      eleventh = get_or (places held) 10 (pos 0);
      twelfth = get_or (places held) 11 (pos 0);
      thirteenth = get_or (places held) 12 (pos 0);
      fourteenth = get_or (places held) 13 (pos 0);
      fifteenth = get_or (places held) 14 (pos 0);
      sixteenth = get_or (places held) 15 (pos 0);
      seventeenth = get_or (places held) 16 (pos 0);
    }

-- The blank lot that a refused read leaves has nothing but zeros.
abbrev pub host_read : ReadSaid → HostRead
host_read r = record { refusal = host_refusal r.said; lot = host_lot r.lot }

abbrev pub host_written : Said ℕ → HostWritten
host_written (Err r) = record { refusal = refusal_part r; size = 0 }
host_written (Ok size) = record { refusal = no_refusal; size = size }

abbrev pub host_listed : Said ℕ → HostListed
host_listed (Err r) = record { refusal = refusal_part r; items = 0 }
host_listed (Ok items) = record { refusal = no_refusal; items = items }

abbrev pub host_place : Said ℕ → HostPlace
host_place (Err r) = record { refusal = refusal_part r; start = 0 }
host_place (Ok start) = record { refusal = no_refusal; start = start }

-- The notebook's row in one answer: each double is the one that its own call gives.
abbrev pub host_row : Said Row → HostRow
host_row said =
    record { refusal = host_refusal said; mean = mean_asked said; deviation = deviation_asked said; pwl = pwl_asked said }

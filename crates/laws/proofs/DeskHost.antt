-- What a host gives and is given, by computation: a limit and its presence, a lot's places in their order, each answer in plain
-- numbers, and the numbers of refusal.
use mathlib.Core.Path.{◌≡◌, refl, ap}
use mathlib.Core.List.{List, [], ◌∷◌}
use Prim.Native.Nat.{ℕ, suc}
use lib.Dec.{eqb-suc-zero}
use lib.IntN.{ℤ, pos}
use Rattle.std.specs.Prelude.{Some, None, Ok, Err}
use Rattle.rules.specs.declared.Verdict.TheVariants.{Accepted, Rejected}
use Rattle.rules.specs.declared.Refusal.{Refusal}
use Rattle.rules.specs.declared.Refusal.TheVariants.{Size, Version, Flags, Count, Range, Unlimited, Crossed, Room, Number, NoColumn, Unsound, NotRising, NoEdition}
use Rattle.rules.specs.declared.host.HostRefusal.{HostRefusal}
use Rattle.rules.specs.declared.host.HostLot.{HostLot}
use Rattle.rules.specs.declared.host.HostPair.{HostPair}
use Rattle.rules.specs.Units.{thousandths, hundredths, composite_of, cents}
use Rattle.rules.specs.Said.{Said}
use Rattle.rules.specs.Lot.{Lot, lot_of, lot_in}
use Rattle.rules.specs.Mixture.{density_pairs, mixture_limits}
use Rattle.rules.specs.Refusals.{number_of}
use Rattle.rules.specs.Notebook.{lent_limit}
use Rattle.rules.specs.Entries.{read_says, read_leaves, beside, held}
use Rattle.rules.specs.Host.{host_mean, host_deviation, host_percentages, host_payment, host_mixture_limits, held_lot, host_lot, host_read, host_written, host_listed, host_place}
use Rattle.rules.specs.Sheet.{sheet_numbers}
use Rattle.rules.specs.HostSheet.{held_sheet, host_checked}
use Rattle.laws.specs.Desk.{at, asked}

-- Presence 0 is absent and its number unread; any other is present.
pub absent_is_unread : (y z : ℤ) → lent_limit y 0 ≡ lent_limit z 0
absent_is_unread y z = refl

pub other_is_present : (z : ℤ) (presence : ℕ) → lent_limit z (suc presence) ≡ Some (thousandths z)
other_is_present z presence = rw (eqb-suc-zero presence)

-- A lot as a host holds it: all its places, an upper limit, and a lower one's number and presence.
abbrev numbers : ℕ → ℤ → ℕ → HostLot
numbers count lower presence =
    record {
      upper = record { number = pos 21; presence = 1 };
      lower = record { number = lower; presence = presence };
      count = count;
      first = pos 1;
      second = pos 2;
      third = pos 3;
      fourth = pos 4;
      fifth = pos 5;
      sixth = pos 6;
      seventh = pos 7;
      eighth = pos 8;
      ninth = pos 9;
      tenth = pos 10;
      eleventh = pos 11;
      twelfth = pos 12;
      thirteenth = pos 13;
      fourteenth = pos 14;
      fifteenth = pos 15;
      sixteenth = pos 16;
      seventeenth = pos 17;
    }

pub lot_is_given : lot_in (held_lot (numbers 4 (pos 7) 0)) ≡ lot_of (at 21) None (pos 1 ∷ pos 2 ∷ pos 3 ∷ pos 4 ∷ [])
lot_is_given = refl

pub lot_is_handed_back : host_lot (held_lot (numbers 17 (pos 7) 2)) ≡ numbers 17 (pos 7) 1
unfolding host_lot
lot_is_handed_back = refl

pub absent_is_handed_back : host_lot (held_lot (numbers 17 (pos 7) 0)) ≡ numbers 17 (pos 0) 0
unfolding host_lot
absent_is_handed_back = refl

abbrev numbered : ℕ → HostRefusal
numbered k = record { number = k }

-- Of what is refused every number but the refusal's is 0.
abbrev nothing : HostLot
nothing =
    record {
      upper = record { number = pos 0; presence = 0 };
      lower = record { number = pos 0; presence = 0 };
      count = 0;
      first = pos 0;
      second = pos 0;
      third = pos 0;
      fourth = pos 0;
      fifth = pos 0;
      sixth = pos 0;
      seventh = pos 0;
      eighth = pos 0;
      ninth = pos 0;
      tenth = pos 0;
      eleventh = pos 0;
      twelfth = pos 0;
      thirteenth = pos 0;
      fourteenth = pos 0;
      fifteenth = pos 0;
      sixteenth = pos 0;
      seventeenth = pos 0;
    }

pub refused_read_is_nothing : (bs : List ℕ) (r : Refusal) → read_says bs ≡ Err r → host_read (read_leaves bs) ≡ record { refusal = numbered (number_of r); lot = nothing }
unfolding host_lot held
refused_read_is_nothing bs r e = ap (λ (said : Said Lot). host_read (beside said)) e

-- Each of the other answers, once refused and once with values.
pub mean_is_given :
    (host_mean (Err Count) ≡ record { refusal = numbered 4; total = pos 0; count = 0 }) ×
    (host_mean (Ok (record { total = thousandths (pos 41600); count = 10 })) ≡ record { refusal = numbered 0; total = pos 41600; count = 10 })
mean_is_given = (refl, refl)

pub deviation_is_given :
    (host_deviation (Err Range) ≡ record { refusal = numbered 5; deviation = pos 0 }) ×
    (host_deviation (Ok (thousandths (pos 825))) ≡ record { refusal = numbered 0; deviation = pos 825 })
deviation_is_given = (refl, refl)

-- The counts are made to differ, so that an exchange is seen.
pub percentages_are_given :
    (host_percentages (Err Unlimited) ≡ record { refusal = numbered 6; upper = pos 0; lower = pos 0; pwl = pos 0; tried = record { upper = 0; lower = 0 } }) ×
    (host_percentages (Ok (record { upper = hundredths (pos 9337); lower = hundredths (pos 9791); pwl = hundredths (pos 9128); tried = record { upper = 6; lower = 5 } })) ≡
    record { refusal = numbered 0; upper = pos 9337; lower = pos 9791; pwl = pos 9128; tried = record { upper = 6; lower = 5 } })
percentages_are_given = (refl, refl)

-- Accepted is told from entry 0 differing, and neither is given beside a refusal.
pub checked_is_given :
    (host_checked (Err NoColumn) ≡ record { refusal = numbered 10; accepted = 0; entry = 0; sheet = pos 0; ours = pos 0 }) ×
    (host_checked (Ok None) ≡ record { refusal = numbered 0; accepted = 1; entry = 0; sheet = pos 0; ours = pos 0 }) ×
    (host_checked (Ok (Some (record { entry = 0; first = pos 9752; second = pos 9751 }))) ≡
    record { refusal = numbered 0; accepted = 0; entry = 0; sheet = pos 9752; ours = pos 9751 })
checked_is_given = (refl, refl, refl)

-- Each entry of a host's sheet stands where it is meant.
pub sheet_is_held :
    sheet_numbers (held_sheet (record { vma = pos 1; voids = pos 2; density = pos 3; composite = pos 4; verdict = pos 5; pay = pos 6 })) ≡
    pos 1 ∷ pos 2 ∷ pos 3 ∷ pos 4 ∷ pos 5 ∷ pos 6 ∷ []
unfolding sheet_numbers
sheet_is_held = refl

-- A verdict's number is 0 accepted, 1 rejected.
pub payment_is_given :
    (host_payment (Err Number) ≡ record { refusal = numbered 9; composite = pos 0; vma = 0; voids = 0; density = 0; lot = 0; pay = pos 0 }) ×
    (host_payment (Ok (record { composite = composite_of (pos 998); vma = Accepted; voids = Rejected; density = Accepted; lot = Rejected; pay = cents (pos 63872000) })) ≡
    record { refusal = numbered 0; composite = pos 998; vma = 0; voids = 1; density = 0; lot = 1; pay = pos 63872000 })
payment_is_given = (refl, refl)

abbrev pair : ℕ → ℕ → HostPair
pair lower upper = record { lower = pos lower; upper = pos upper }

pub mixture_limits_are_given :
    (host_mixture_limits (Err Range) ≡ record { refusal = numbered 5; vma = pair 0 0; voids = pair 0 0; density = pair 0 0 }) ×
    (host_mixture_limits (Ok (mixture_limits (pos 3) (pos 13000) (pos 4000))) ≡
    record { refusal = numbered 0; vma = pair 12300 16000; voids = pair 2650 5350; density = pair 91500 97000 })
unfolding mixture_limits density_pairs
mixture_limits_are_given = (refl, refl)

pub written_is_given : (host_written (Err Room) ≡ record { refusal = numbered 8; size = 0 }) × (host_written (Ok 29) ≡ record { refusal = numbered 0; size = 29 })
written_is_given = (refl, refl)

pub listed_is_given : (host_listed (Err Number) ≡ record { refusal = numbered 9; items = 0 }) × (host_listed (Ok 409) ≡ record { refusal = numbered 0; items = 409 })
listed_is_given = (refl, refl)

pub place_is_given : (host_place (Err NoEdition) ≡ record { refusal = numbered 13; start = 0 }) × (host_place (Ok 979) ≡ record { refusal = numbered 0; start = 979 })
place_is_given = (refl, refl)

-- The numbers of refusal, 0 for none.
pub refusal_is_asked :
    (asked {A = ℕ} (Err Size) ≡ 1) ×
    (asked {A = ℕ} (Err Version) ≡ 2) ×
    (asked {A = ℕ} (Err Flags) ≡ 3) ×
    (asked {A = ℕ} (Err Count) ≡ 4) ×
    (asked {A = ℕ} (Err Range) ≡ 5) ×
    (asked {A = ℕ} (Err Unlimited) ≡ 6) ×
    (asked {A = ℕ} (Err Crossed) ≡ 7) ×
    (asked {A = ℕ} (Err Room) ≡ 8) ×
    (asked {A = ℕ} (Err Number) ≡ 9) ×
    (asked {A = ℕ} (Err NoColumn) ≡ 10) ×
    (asked {A = ℕ} (Err Unsound) ≡ 11) ×
    (asked {A = ℕ} (Err NotRising) ≡ 12) ×
    (asked {A = ℕ} (Err NoEdition) ≡ 13) ×
    (asked {A = ℕ} (Ok 7) ≡ 0)
refusal_is_asked = (refl, refl, refl, refl, refl, refl, refl, refl, refl, refl, refl, refl, refl, refl)

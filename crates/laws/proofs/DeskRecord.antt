-- Records by computation: that of D5 as document 01 prints it, one with negative numbers, and an example of each of refusals 1 to 8.
use mathlib.Core.Path.{◌≡◌, refl}
use mathlib.Core.List.{List, [], ◌∷◌, ◌++◌}
use Prim.Native.Nat.{ℕ}
use lib.IntN.{pos, neg_ℤ}
use lib.ListN.{take, set, replicate}
use Rattle.std.specs.Prelude.{Some, None, Ok}
use Rattle.rules.specs.Units.{thousandths}
use Rattle.rules.specs.Said.{ruled}
use Rattle.rules.specs.Lot.{Lot, lot_of}
use Rattle.rules.specs.Record.{spelled, spell, fours, in_fours, lot_of_record, head_of, record_of}
use Rattle.rules.specs.Refusals.{any_out}
use Rattle.rules.specs.Meets.{read_meets, write_meets}
use Rattle.rules.specs.Entries.{read_says, write_says}
use Rattle.laws.specs.Desk.{at, asked}

abbrev d5 : Lot
d5 = lot_of (at 21) None (pos 0 ∷ pos 0 ∷ pos 0 ∷ pos 80 ∷ [])

abbrev printed : List ℕ
printed =
    0 ∷ 27 ∷ 1 ∷ 1 ∷
    0 ∷ 0 ∷ 0 ∷ 21 ∷
    0 ∷ 0 ∷ 0 ∷ 0 ∷
    4 ∷
    0 ∷ 0 ∷ 0 ∷ 0 ∷
    0 ∷ 0 ∷ 0 ∷ 0 ∷
    0 ∷ 0 ∷ 0 ∷ 0 ∷
    0 ∷ 0 ∷ 0 ∷ 80 ∷
    []

-- Document 01, "Desk examples": byte for byte, both ways. In hex 00 1B 01 01 00 00 00 15 and so on.
pub d5_is_written : record_of d5 ≡ printed
unfolding record_of head_of spell in_fours
d5_is_written = refl

pub d5_is_read : read_says printed ≡ Ok d5
unfolding read_says read_meets ruled lot_of_record spelled fours any_out
d5_is_read = refl

-- Two's complement: −1 is FF FF FF FF, and −500,000 is FF F8 5E E0.
abbrev negative : Lot
negative = lot_of None (Some (thousandths (neg_ℤ (pos 500000)))) (neg_ℤ (pos 1) ∷ pos 1 ∷ [])

pub negative_is_written :
    record_of negative ≡ 0 ∷ 19 ∷ 1 ∷ 2 ∷ 0 ∷ 0 ∷ 0 ∷ 0 ∷ 255 ∷ 248 ∷ 94 ∷ 224 ∷ 2 ∷ 255 ∷ 255 ∷ 255 ∷ 255 ∷ 0 ∷ 0 ∷ 0 ∷ 1 ∷ []
unfolding record_of head_of spell in_fours
negative_is_written = refl

-- "Numbers of refusal": D5's record cut, lengthened or with other bytes at the places that are named; and D5 with too little room or too few
-- readings.
pub each_refusal :
    (asked (read_says (take 12 printed)) ≡ 1) ×
    (asked (read_says (printed ++ (0 ∷ []))) ≡ 1) ×
    (asked (read_says (set printed 2 0)) ≡ 2) ×
    (asked (read_says (set printed 3 5)) ≡ 3) ×
    (asked (read_says (set printed 3 2)) ≡ 3) ×
    (asked (read_says (set printed 8 1)) ≡ 3) ×
    (asked (read_says (set printed 12 5)) ≡ 4) ×
    (asked (read_says (set printed 25 127)) ≡ 5) ×
    (asked (read_says (set (set printed 3 0) 7 0)) ≡ 6) ×
    (asked (read_says (set (set printed 3 3) 11 22)) ≡ 7) ×
    (asked (write_says d5 (replicate 28 0)) ≡ 8) ×
    (asked (write_says (lot_of (at 21) None (pos 0 ∷ [])) (replicate 28 0)) ≡ 4)
unfolding read_says read_meets write_says write_meets ruled lot_of_record record_of head_of spelled spell fours in_fours any_out
each_refusal = (refl, refl, refl, refl, refl, refl, refl, refl, refl, refl, refl, refl)

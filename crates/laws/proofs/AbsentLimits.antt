-- The bytes of an absent limit are no part of the lot: whatever stands there, the lot is the same. (The record is refused unless they are zero.)
use mathlib.Core.Path.{◌≡◌, sym, ap₂, ◌∙◌}
use mathlib.Core.Bool.{false}
use mathlib.Core.List.{List, [], ◌∷◌, ◌++◌}
use Prim.Native.Nat.{ℕ}
use native.Mathlib.Omega.{arith}
use lib.ListN.{length, get_or}
use lib.Seq.{take_all, take-add}
use Rattle.rules.specs.Record.{has_upper, has_lower, lot_of_record}
use Rattle.laws.proofs.Spelled.{part_four, four_bytes}

-- Eight bytes, one by one.
eight_bytes :
    (bs : List ℕ) → length bs ≡ 8 →
    bs ≡ get_or bs 0 0 ∷ get_or bs 1 0 ∷ get_or bs 2 0 ∷ get_or bs 3 0 ∷ get_or bs 4 0 ∷ get_or bs 5 0 ∷ get_or bs 6 0 ∷ get_or bs 7 0 ∷ []
eight_bytes bs size =
    sym (take_all 8 bs (omega arith)) ∙ take-add 4 4 bs ∙ ap₂ ◌++◌ (part_four bs 0 (omega arith)) (part_four bs 4 (omega arith))

-- bytes 4 to 7, where bit 0 of byte 3 is clear
pub absent_upper_is_no_part :
    (head held other rest : List ℕ) → length head ≡ 4 → length held ≡ 4 → length other ≡ 4 →
    has_upper head ≡ false → lot_of_record (head ++ held ++ rest) ≡ lot_of_record (head ++ other ++ rest)
unfolding lot_of_record
absent_upper_is_no_part head held other rest a b c e =
    rw (four_bytes head a, four_bytes held b, four_bytes other c, e)

-- bytes 8 to 11, where bit 1 is clear
pub absent_lower_is_no_part :
    (head held other rest : List ℕ) → length head ≡ 8 → length held ≡ 4 → length other ≡ 4 →
    has_lower head ≡ false → lot_of_record (head ++ held ++ rest) ≡ lot_of_record (head ++ other ++ rest)
unfolding lot_of_record
absent_lower_is_no_part head held other rest a b c e =
    rw (eight_bytes head a, four_bytes held b, four_bytes other c, e)

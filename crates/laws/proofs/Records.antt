-- For lots and records that are not refused, `record_of` and `lot_of_record` undo each other.
use mathlib.Core.Path.{◌≡◌, refl, ap, ◌∙◌}
use mathlib.Core.Bool.{Bool, true, false}
use mathlib.Core.List.{List, [], ◌∷◌, ◌++◌}
use Prim.Native.Nat.{ℕ, zero, suc, ◌+◌, ◌-◌, ◌*◌, ◌/◌, ◌%◌, ◌≤◌, ◌<◌}
use native.Mathlib.Omega.{arith}
use borrow.Author.Tests.{le-ltb, le-leb, eq-eqb, not-false}
use lib.Dec.{eqb}
use lib.IntN.{ℤ}
use lib.ListN.{length, drop, length-append, length-drop, take-append-drop}
use lib.Seq.{take-add, take-suc, length-take-le}
use Rattle.std.specs.Prelude.{Some, None, Ok}
use mir.Syntax.{w32}
use Rattle.integers.proofs.Magnitude.{fits_of}
use Rattle.rules.specs.declared.Thousandths.{Thousandths}
use Rattle.rules.specs.Units.{Limit, in_range}
use Rattle.rules.specs.Said.{checked}
use Rattle.rules.specs.Lot.{Lot, most}
use Rattle.rules.specs.Record.{spelled, spell, four, in_four, fours, in_fours, part, length_field, version_field, flags_field, has_upper, has_lower, upper_field, lower_field, n_field, limit_of, head_size, lot_of_record, length_of, bit, limit_bytes, head_of, record_of}
use Rattle.rules.specs.Refusals.{size_case, version_case, flags_case, record_count_case, out_of_range}
use Rattle.rules.specs.Meets.{head_meets}
use Rattle.laws.specs.Wider.{with_limits}
use Rattle.laws.specs.Bytes.{Bytes}
use Rattle.laws.specs.Head.{HeadAccepted}
use Rattle.laws.proofs.Bounds.{in_range_bound}
use Rattle.laws.proofs.Ruled.{ruled_none, ruled_passed}
use Rattle.laws.proofs.Accepted.{LotAccepted}
use Rattle.laws.proofs.Spelled.{spelled_spell, spell_spelled, four_in_four, in_four_four, length_in_fours, fours_in_fours, every_take, every_drop, in_fours_fours, part_two}

-- ---- the lot of a lot's record

pub length_head : (n : ℕ) (upper lower : Limit) → length (head_of n upper lower) ≡ head_size
unfolding head_of spell
length_head n None None = refl
length_head n None (Some l) = refl
length_head n (Some u) None = refl
length_head n (Some u) (Some l) = refl

pub length_record : (lot : Lot) → length (record_of lot) ≡ head_size + 4 * length lot.readings
unfolding record_of
length_record lot =
    let head : List ℕ = head_of lot.n lot.upper lot.lower in
    omega (arith, length-append head (in_fours lot.readings), length_head lot.n lot.upper lot.lower, length_in_fours lot.readings)

-- A limit in range is what its four bytes spell.
limit_of_its_bytes : (z : Thousandths) → out_of_range (Some z) ≡ false → four (in_four z.0) ≡ z.0
limit_of_its_bytes z all_in_range =
    let bound = in_range_bound z.0 (not-false (in_range z.0) all_in_range) in
    four_in_four z.0 (fits_of w32 (omega arith))

module _ (lot : Lot) (size : length lot.readings ≡ lot.n) (ok : LotAccepted lot) where
  pub lot_of_its_record : lot_of_record (record_of lot) ≡ lot
  unfolding record_of head_of spell lot_of_record
  lot_of_its_record = by lot.upper lot.lower ok.upper_in_range ok.lower_in_range
    where
      readings : fours lot.n (in_fours lot.readings) ≡ lot.readings
      readings = rw (← size) (fours_in_fours lot.readings ok.all_in_range)

      by : (upper lower : Limit) → out_of_range upper ≡ false → out_of_range lower ≡ false → lot_of_record (record_of (with_limits upper lower lot)) ≡ with_limits upper lower lot
      by None None a b = rw readings
      by None (Some l) a b = rw (readings, limit_of_its_bytes l b)
      by (Some u) None a b = rw (readings, limit_of_its_bytes u a)
      by (Some u) (Some l) a b = rw (readings, limit_of_its_bytes u a, limit_of_its_bytes l b)

  -- None of refusals 1 to 4 applies to the lot's record.
  pub head_passes : checked (head_meets (record_of lot)) ≡ Ok tt
  unfolding record_of head_of spell spelled lot_of_record
  head_passes =
      let bs : List ℕ = record_of lot in
      let long : length bs ≡ head_size + 4 * length lot.readings = length_record lot in
      let n : n_field bs ≡ lot.n = ap (λ (l : Lot). l.n) lot_of_its_record in
      let follow : length_field bs ≡ length_of lot.n = spelled_spell 2 (length_of lot.n) (omega (arith, ok.few)) in
      ruled_passed (size_case bs) _ tt (cc (le-ltb (length bs) head_size (omega arith), eq-eqb (length_field bs) (length bs - 2) (omega arith)))
      ∙ ruled_passed (version_case bs) _ tt refl
      ∙ ruled_passed (flags_case bs) _ tt (flags lot.upper lot.lower)
      ∙ ruled_passed (record_count_case bs) _ tt (cc (le-leb 2 lot.n ok.least, le-leb lot.n most ok.few, eq-eqb (length_field bs) (length_of (n_field bs)) (omega arith)))
      ∙ ruled_none tt
    where
      flags : (upper lower : Limit) → (flags_case (record_of (with_limits upper lower lot))).applies ≡ false
      flags None None = refl
      flags None (Some l) = refl
      flags (Some u) None = refl
      flags (Some u) (Some l) = refl

-- ---- the record of a record's lot

-- A record is its fields one after the other.
fields : (bs : List ℕ) → head_size ≤ length bs → part 0 2 bs ++ (version_field bs ∷ flags_field bs ∷ []) ++ upper_field bs ++ lower_field bs ++ (n_field bs ∷ []) ++ drop head_size bs ≡ bs
fields bs long =
    cc (take-add 2 2 bs, part_two bs 2 (omega arith), take-add 4 4 bs, take-add 8 4 bs, take-suc bs 12 0 (omega arith), take-append-drop head_size bs)

-- Four bytes, read as a limit and written again, are the same, if they are zero where the limit is absent.
bytes_of_its_limit : (present : Bool) (bs : List ℕ) → Bytes bs → length bs ≡ 4 → (present ≡ false → spelled 0 bs ≡ 0) → limit_bytes (limit_of present (four bs)) ≡ bs
unfolding spell
bytes_of_its_limit true bs h size none = in_four_four bs h size
bytes_of_its_limit false bs h size none = rw (size, none refl) at (spell_spelled bs h)

-- Flags below 4 are the flags that are written for the limits they say are present.
flags_of_its_limits : (flags : ℕ) (y z : ℤ) → flags < 4 → bit (limit_of (eqb (flags % 2) 1) y) + 2 * bit (limit_of (eqb (flags / 2 % 2) 1) z) ≡ flags
flags_of_its_limits zero y z h = refl
flags_of_its_limits (suc zero) y z h = refl
flags_of_its_limits (suc (suc zero)) y z h = refl
flags_of_its_limits (suc (suc (suc zero))) y z h = refl
flags_of_its_limits (suc (suc (suc (suc k)))) y z h = absurd (omega arith)

pub record_of_its_lot : (bs : List ℕ) → Bytes bs → HeadAccepted bs → record_of (lot_of_record bs) ≡ bs
unfolding record_of head_of lot_of_record
record_of_its_lot bs h head =
    let size = head.size in
    let bytes : (i k : ℕ) → Bytes (part i k bs) = λ i k. every_take k (every_drop i h) in
    let sized : (i k : ℕ) → i + k ≤ length bs → length (part i k bs) ≡ k = λ i k fits. length-take-le k (drop i bs) (omega (arith, length-drop i bs)) in
    cc (
      fields bs (omega arith),
      spell_spelled (part 0 2 bs) (bytes 0 2),
      sized 0 2 (omega arith),
      head.follow,
      head.version,
      flags_of_its_limits (flags_field bs) (four (upper_field bs)) (four (lower_field bs)) head.flags,
      bytes_of_its_limit (has_upper bs) (upper_field bs) (bytes 4 4) (sized 4 4 (omega arith)) head.no_upper,
      bytes_of_its_limit (has_lower bs) (lower_field bs) (bytes 8 4) (sized 8 4 (omega arith)) head.no_lower,
      in_fours_fours (n_field bs) (drop head_size bs) (every_drop head_size h) (omega (arith, length-drop head_size bs)),
    )

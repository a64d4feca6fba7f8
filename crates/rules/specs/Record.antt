-- Document 01, "The lot record": the bytes of a lot, and the lot of some bytes.
use Rattle.std.specs.Prelude.{Bool, cond, List, [], ◌∷◌, ◌++◌, ℕ, zero, suc, ◌+◌, ◌*◌, ◌/◌, ◌%◌, ◌^◌, eqb, ℤ, take, drop, get_or, replicate, Some, None}
use Rattle.std.specs.Int.{w32}
use Rattle.std.proofs.Common.{to_z, of_z}
use Rattle.rules.specs.Units.{Limit, thousandths}
use Rattle.rules.specs.Lot.{Lot}

-- ---- big-endian numbers

-- the number that bytes spell, where those before them spell `before`
unfoldable pub spelled : ℕ → List ℕ → ℕ
spelled before [] = before
spelled before (b ∷ bs) = spelled (256 * before + b) bs

-- a number in so many bytes
unfoldable pub spell : ℕ → ℕ → List ℕ
spell zero x = []
spell (suc k) x = (x / 256 ^ k % 256) ∷ spell k x

-- so many numbers of two bytes each
unfoldable pub twos : ℕ → List ℕ → List ℕ
twos zero bs = []
twos (suc n) bs = spelled 0 (take 2 bs) ∷ twos n (drop 2 bs)

-- four bytes, two's complement
abbrev pub four : List ℕ → ℤ
four bs = to_z w32 (spelled 0 bs)

abbrev pub in_four : ℤ → List ℕ
in_four z = spell 4 (of_z w32 z)

-- so many numbers of four bytes each
unfoldable pub fours : ℕ → List ℕ → List ℤ
fours zero bs = []
fours (suc n) bs = four (take 4 bs) ∷ fours n (drop 4 bs)

unfoldable pub in_fours : List ℤ → List ℕ
in_fours [] = []
in_fours (x ∷ xs) = in_four x ++ in_fours xs

-- ---- the fields of a record

abbrev pub part : ℕ → ℕ → List ℕ → List ℕ
part from size bs = take size (drop from bs)

-- bytes 0–1: number of bytes that follow
abbrev pub length_field : List ℕ → ℕ
length_field bs = spelled 0 (part 0 2 bs)

-- byte 2
abbrev pub version_field : List ℕ → ℕ
version_field bs = get_or bs 2 0

-- byte 3
abbrev pub flags_field : List ℕ → ℕ
flags_field bs = get_or bs 3 0

-- bit 0 is set if an upper limit is present
abbrev pub has_upper : List ℕ → Bool
has_upper bs = eqb (flags_field bs % 2) 1

-- bit 1 is set if a lower limit is present
abbrev pub has_lower : List ℕ → Bool
has_lower bs = eqb (flags_field bs / 2 % 2) 1

-- bytes 4–7
abbrev pub upper_field : List ℕ → List ℕ
upper_field bs = part 4 4 bs

-- bytes 8–11
abbrev pub lower_field : List ℕ → List ℕ
lower_field bs = part 8 4 bs

-- byte 12
abbrev pub n_field : List ℕ → ℕ
n_field bs = get_or bs 12 0

abbrev pub limit_of : Bool → ℤ → Limit
limit_of present z = cond present (Some (thousandths z)) None

-- 13 bytes stand before the readings
abbrev pub head_size : ℕ
head_size = 13

-- ---- the lot of a record

unfoldable pub lot_of_record : List ℕ → Lot
lot_of_record bs =
    record {
      n = n_field bs;
      upper = limit_of (has_upper bs) (four (upper_field bs));
      lower = limit_of (has_lower bs) (four (lower_field bs));
      readings = fours (n_field bs) (drop head_size bs);
    }

-- ---- the record of a lot

-- 11 + 4n bytes follow the two of the length itself
abbrev pub length_of : ℕ → ℕ
length_of n = 11 + 4 * n

abbrev pub bit : Limit → ℕ
bit None = 0
bit (Some z) = 1

-- the four bytes of a limit: all zero when it is absent
abbrev pub limit_bytes : Limit → List ℕ
limit_bytes None = replicate 4 0
limit_bytes (Some z) = in_four z.0

-- the 13 bytes before the readings
unfoldable pub head_of : ℕ → Limit → Limit → List ℕ
head_of n upper lower =
    spell 2 (length_of n) ++
    (1 ∷ (bit upper + 2 * bit lower) ∷ []) ++
    limit_bytes upper ++
    limit_bytes lower ++
    (n ∷ [])

unfoldable pub record_of : Lot → List ℕ
record_of lot = head_of lot.n lot.upper lot.lower ++ in_fours lot.readings

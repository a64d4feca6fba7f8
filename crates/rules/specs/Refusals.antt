-- Document 01, "Numbers of refusal", as document 02, R-1, R-4 and R-5, amends it: the table, a definition for each line of it.
use Rattle.std.specs.Prelude.{Bool, true, false, not, ◌&&◌, ◌||◌, List, [], ◌∷◌, ℕ, ◌/◌, ◌%◌, ◌-◌, leb, ltb, eqb, ℤ, pos, length, Some, None}
use Rattle.std.specs.Int.Signed.{lt_z}
use Rattle.rules.specs.Units.{Limit, in_range, hundred_percent}
use Rattle.rules.specs.declared.Pair.{Pair}
use Rattle.rules.specs.declared.Sheet.{Sheet}
use Rattle.rules.specs.declared.Refusal.{Refusal}
use Rattle.rules.specs.declared.Refusal.TheVariants.{Size, Version, Flags, Count, Range, Unlimited, Crossed, Room, Number, NoColumn, Unsound, NotRising, NoEdition}
use Rattle.rules.specs.Said.{Case}
use Rattle.rules.specs.Lot.{most}
use Rattle.rules.specs.Table.{Found, has_store, has_edition, has_column}
use Rattle.rules.specs.Edition.{number_field, accepted}
use Rattle.rules.specs.Store.{is_store, editions, most_editions, stored, least_after}
use Rattle.rules.specs.Job.{longest_job}
use Rattle.rules.specs.Record.{length_field, version_field, flags_field, n_field, upper_field, lower_field, has_upper, has_lower, head_size, length_of, spelled}
use Rattle.rules.specs.Mixture.{vma_pair, voids_pair}

-- the number of a refusal
abbrev pub number_of : Refusal → ℕ
number_of Size = 1
number_of Version = 2
number_of Flags = 3
number_of Count = 4
number_of Range = 5
number_of Unlimited = 6
number_of Crossed = 7
number_of Room = 8
number_of Number = 9
number_of NoColumn = 10
number_of Unsound = 11
number_of NotRising = 12
number_of NoEdition = 13

abbrev pub given_when : Refusal → Bool → Case
given_when refusal applies = record { refusal = refusal; applies = applies }

-- 1: fewer than 13 bytes, or the length isn't the slice's size less 2
abbrev pub size_case : List ℕ → Case
size_case bs = given_when Size (ltb (length bs) head_size || not (eqb (length_field bs) (length bs - 2)))

-- 2: version isn't 1
abbrev pub version_case : List ℕ → Case
version_case bs = given_when Version (not (eqb (version_field bs) 1))

-- 3: bits 2 to 7 of byte 3 not all 0, or an absent limit's bytes not zero
abbrev pub flags_case : List ℕ → Case
flags_case bs =
    given_when Flags
    (not (eqb (flags_field bs / 4) 0)
    || not (has_upper bs || eqb (spelled 0 (upper_field bs)) 0)
    || not (has_lower bs || eqb (spelled 0 (lower_field bs)) 0))

-- n is 2 to 17
abbrev pub allowed : ℕ → Bool
allowed n = leb 2 n && leb n most

-- 4: n not 2 to 17
abbrev pub count_case : ℕ → Case
count_case n = given_when Count (not (allowed n))

-- 4, in a record: n not 2 to 17, or the length isn't 11 + 4n
abbrev pub record_count_case : List ℕ → Case
record_count_case bs =
    given_when Count (not (allowed (n_field bs)) || not (eqb (length_field bs) (length_of (n_field bs))))

-- a size fits when it is 4n bytes for an allowed n
abbrev pub size_fits : ℕ → Bool
size_fits size = eqb (size % 4) 0 && allowed (size / 4)

-- 4, of readings as bytes: the size isn't 4n for an allowed n
abbrev pub bytes_count_case : List ℕ → Case
bytes_count_case bs = given_when Count (not (size_fits (length bs)))

abbrev pub out_of_range : Limit → Bool
out_of_range None = false
out_of_range (Some z) = not (in_range z.0)

unfoldable pub any_out : List ℤ → Bool
any_out [] = false
any_out (x ∷ xs) = not (in_range x) || any_out xs

-- 5: a present limit or a reading out of range
abbrev pub range_case : Limit → Limit → List ℤ → Case
range_case upper lower xs = given_when Range (out_of_range upper || out_of_range lower || any_out xs)

abbrev pub none : Limit → Limit → Bool
none None None = true
none None (Some l) = false
none (Some u) lower = false

-- 6: both limits absent
abbrev pub unlimited_case : Limit → Limit → Case
unlimited_case upper lower = given_when Unlimited (none upper lower)

abbrev pub crossed : Limit → Limit → Bool
crossed None lower = false
crossed (Some u) None = false
crossed (Some u) (Some l) = lt_z u.0 l.0

-- 7: lower above upper
abbrev pub crossed_case : Limit → Limit → Case
crossed_case upper lower = given_when Crossed (crossed upper lower)

-- 8: lent output shorter than what is to be written
abbrev pub room_case : ℕ → ℕ → Case
room_case room size = given_when Room (ltb room size)

-- below 0 or above the greatest number that is taken
abbrev pub outside : ℤ → ℤ → Bool
outside greatest z = lt_z z (pos 0) || lt_z greatest z

-- 9, in pay: a number below 0, a PWL above 10,000, price above 10,000,000 or quantity above 100,000,000
abbrev pub pay_case : ℤ → ℤ → ℤ → ℤ → ℤ → Case
pay_case vma voids density price quantity =
    given_when Number
    (outside hundred_percent vma
    || outside hundred_percent voids
    || outside hundred_percent density
    || outside (pos 10000000) price
    || outside (pos 100000000) quantity)

-- 9, in the mixture lookup: a mixture number not 0 to 3
abbrev pub mixture_case : ℤ → Case
mixture_case mixture = given_when Number (outside (pos 3) mixture)

abbrev pub pair_out : Pair ℤ → Bool
pair_out p = not (in_range p.upper) || not (in_range p.lower)

-- 5, in the mixture lookup: a minimum or target that puts a limit out of range
abbrev pub offset_case : ℤ → ℤ → Case
offset_case minimum target = given_when Range (pair_out (vma_pair minimum) || pair_out (voids_pair target))

-- 9, in the cut of a job: more than 4,096 sublots
abbrev pub job_case : ℕ → Case
job_case sublots = given_when Number (ltb longest_job sublots)

-- the greatest number of a pay sheet's entry
abbrev pub greatest_entry : ℤ
greatest_entry = pos 1000000000000000

-- 9, of a pay sheet: an entry below 0 or above 1,000,000,000,000,000, or a verdict that is neither 0 nor 1
abbrev pub sheet_case : Sheet → Case
sheet_case sheet =
    given_when Number
    (outside greatest_entry sheet.vma.0
    || outside greatest_entry sheet.voids.0
    || outside greatest_entry sheet.density.0
    || outside greatest_entry sheet.composite.0
    || outside (pos 1) sheet.verdict.0
    || outside greatest_entry sheet.pay.0)

-- 10: the edition that is named has no column for n
abbrev pub column_case : Found → Case
column_case found = given_when NoColumn (not (has_column found))

-- 11: the lent buffer is no store
abbrev pub sound_case : List ℕ → Case
sound_case s = given_when Unsound (not (is_store s))

-- 11, where a percentage is asked for
abbrev pub store_case : Found → Case
store_case found = given_when Unsound (not (has_store found))

-- 11: the edition is not accepted
abbrev pub accepted_case : List ℕ → Case
accepted_case e = given_when Unsound (not (accepted e))

-- 12: the edition's number is not above the last one stored
abbrev pub rising_case : List ℕ → List ℕ → Case
rising_case s e = given_when NotRising (ltb (number_field e) (least_after 0 (editions s)))

-- 8: there are eight editions, so that another is a ninth
abbrev pub ninth_case : List ℕ → Case
ninth_case s = given_when Room (leb most_editions (length (editions s)))

-- 13: the store has no edition of the number that is named
abbrev pub named_case : ℕ → List ℕ → Case
named_case named s = given_when NoEdition (not (stored named (editions s)))

-- 13, where a percentage is asked for
abbrev pub edition_case : Found → Case
edition_case found = given_when NoEdition (not (has_edition found))

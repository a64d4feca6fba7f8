-- Editions of one column and of two, byte by byte, and stores of them: what is accepted, stored, found and listed, by computation from the definitions.
use mathlib.Core.Path.{◌≡◌, refl}
use mathlib.Core.Bool.{true, false}
use mathlib.Core.List.{List, [], ◌∷◌, ◌++◌}
use Prim.Native.Nat.{ℕ, zero, suc}
use lib.ListN.{take, drop, replicate}
use Rattle.std.specs.Prelude.{Ok, Err}
use Rattle.rules.specs.declared.Refusal.TheVariants.{Room, Unsound, NotRising, NoEdition}
use Rattle.rules.specs.Said.{ruled}
use Rattle.rules.specs.Record.{spelled, spell, twos}
use Rattle.rules.specs.Table.{no_store, no_edition, no_column, a_column, rows, table_106_1, column_in}
use Rattle.rules.specs.Edition.{column_of, accepted, table_of, in_twos, columns_from, edition_head_of, edition_of, edition_106_1}
use Rattle.rules.specs.Store.{ends, first_entry, after_first, entries_in, rising, editions, is_store, numbers, stored, edition_in, start_in, least_after, size_of, table_in, closed, stored_at}
use Rattle.rules.specs.Entries.{written}
use Rattle.rules.specs.Editions.{storing_meets, storing_says, left_by, after_storing, finding_says, listing_says, after_listing}

-- ---- an edition

-- so many times two bytes
abbrev times : ℕ → ℕ → ℕ → List ℕ
times zero high low = []
times (suc k) high low = high ∷ low ∷ times k high low

-- 5,000, then 52 times 7,500, then 10,000
abbrev column : List ℕ
column = 19 ∷ 136 ∷ (times 52 29 76 ++ (39 ∷ 16 ∷ []))

-- 5,000, then 52 times 10,000, then 10,000
abbrev steep : List ℕ
steep = 19 ∷ 136 ∷ (times 52 39 16 ++ (39 ∷ 16 ∷ []))

-- 113 bytes follow: an edition of that number with a column for n alone
abbrev one : ℕ → ℕ → List ℕ
one number n = 0 ∷ 113 ∷ 1 ∷ 0 ∷ number ∷ n ∷ n ∷ column

-- 221 bytes follow: with two columns, for n = 3 and 4
abbrev two : ℕ → List ℕ
two number = 0 ∷ 221 ∷ 1 ∷ 0 ∷ number ∷ 3 ∷ 4 ∷ (column ++ steep)

pub editions_are_accepted :
    (accepted (one 7 3) ≡ true) × (accepted (one 7 2) ≡ true) × (accepted (one 7 17) ≡ true) × (accepted (one 0 3) ≡ true) × (accepted (two 255) ≡ true)
unfolding accepted column_of column_in twos spelled
editions_are_accepted = (refl, refl, refl, refl, refl)

-- n of 1 and of 18; first above last; another version; a length that is one off; a byte too many, which the length counts or not, and one too few; a first entry of 4,999; a last entry
-- of 9,999; an entry that falls by one, in the only column and in the second of two; and no bytes at all.
pub other_bytes_are_not :
    (accepted (one 7 1) ≡ false) × (accepted (one 7 18) ≡ false) ×
    (accepted (0 ∷ 113 ∷ 1 ∷ 0 ∷ 7 ∷ 4 ∷ 3 ∷ column) ≡ false) × (accepted (0 ∷ 113 ∷ 2 ∷ 0 ∷ 7 ∷ 3 ∷ 3 ∷ column) ≡ false) ×
    (accepted (0 ∷ 112 ∷ 1 ∷ 0 ∷ 7 ∷ 3 ∷ 3 ∷ column) ≡ false) × (accepted (one 7 3 ++ (0 ∷ [])) ≡ false) ×
    (accepted (0 ∷ 114 ∷ drop 2 (one 7 3 ++ (0 ∷ []))) ≡ false) × (accepted (take 114 (one 7 3)) ≡ false) ×
    (accepted (0 ∷ 113 ∷ 1 ∷ 0 ∷ 7 ∷ 3 ∷ 3 ∷ 19 ∷ 135 ∷ drop 2 column) ≡ false) ×
    (accepted (0 ∷ 113 ∷ 1 ∷ 0 ∷ 7 ∷ 3 ∷ 3 ∷ (take 106 column ++ (39 ∷ 15 ∷ []))) ≡ false) ×
    (accepted (0 ∷ 113 ∷ 1 ∷ 0 ∷ 7 ∷ 3 ∷ 3 ∷ 19 ∷ 136 ∷ 29 ∷ 77 ∷ drop 4 column) ≡ false) ×
    (accepted (0 ∷ 221 ∷ 1 ∷ 0 ∷ 7 ∷ 3 ∷ 4 ∷ (column ++ (19 ∷ 136 ∷ 29 ∷ 77 ∷ drop 4 column))) ≡ false) ×
    (accepted [] ≡ false)
unfolding accepted column_of column_in twos spelled
other_bytes_are_not = (refl, refl, refl, refl, refl, refl, refl, refl, refl, refl, refl, refl, refl)

-- Table 106-1's begins with its length of 977, version 1, its number, here 258, and n = 2 to 10.
pub default_begins : take 9 (edition_106_1 258) ≡ 3 ∷ 209 ∷ 1 ∷ 1 ∷ 2 ∷ 2 ∷ 10 ∷ 19 ∷ 136 ∷ []
unfolding edition_106_1 edition_of edition_head_of columns_from in_twos spell rows table_106_1
default_begins = refl

-- ---- a store

-- the editions of a buffer that is a store
abbrev Holds : List ℕ → List ℕ → Type 0
Holds s expected = (is_store s ≡ true) × (numbers (editions s) ≡ expected)

-- as many editions as are asked for, numbered from 1 on
abbrev many : ℕ → ℕ → List ℕ
many zero number = []
many (suc k) number = one number 3 ++ many k (suc number)

-- No byte, one, and a zero length with anything behind it are empty stores. After the last edition one byte may be left over, or a zero length with
-- anything behind it. Eight is the most.
pub stores_are_read :
    Holds [] [] × Holds (9 ∷ []) [] × Holds (0 ∷ 0 ∷ []) [] × Holds (0 ∷ 0 ∷ 0 ∷ 113 ∷ 9 ∷ []) [] ×
    Holds (one 7 3) (7 ∷ []) × Holds (one 7 3 ++ (9 ∷ [])) (7 ∷ []) × Holds (one 7 3 ++ (0 ∷ 0 ∷ 9 ∷ [])) (7 ∷ []) ×
    Holds (one 7 3 ++ one 8 4) (7 ∷ 8 ∷ []) ×
    Holds (many 8 1) (1 ∷ 2 ∷ 3 ∷ 4 ∷ 5 ∷ 6 ∷ 7 ∷ 8 ∷ [])
unfolding entries_in ends first_entry after_first rising accepted column_of column_in twos spelled
stores_are_read =
    ((refl, refl), (refl, refl), (refl, refl), (refl, refl), (refl, refl), (refl, refl), (refl, refl), (refl, refl), (refl, refl))

-- Equal numbers, falling numbers, an entry that runs past the buffer, a later entry that is damaged, and a ninth.
pub other_buffers_are_not :
    (is_store (one 7 3 ++ one 7 4) ≡ false) × (is_store (one 7 3 ++ one 6 4) ≡ false) ×
    (is_store (take 114 (one 7 3)) ≡ false) × (is_store (one 7 3 ++ (0 ∷ 1 ∷ [])) ≡ false) × (is_store (one 7 3 ++ one 8 18) ≡ false) ×
    (is_store (many 9 1) ≡ false)
unfolding entries_in ends first_entry after_first rising accepted column_of column_in twos spelled
other_buffers_are_not = (refl, refl, refl, refl, refl, refl)

-- ---- looking up

-- The column is that for n, where the edition has one; and each way not to have one is told apart. A number that two bytes cannot hold is unknown.
pub columns_are_found :
    (table_in (one 7 3 ++ two 8) 7 3 ≡ a_column (column_in column)) × (table_in (one 7 3 ++ two 8) 8 3 ≡ a_column (column_in column)) ×
    (table_in (one 7 3 ++ two 8) 8 4 ≡ a_column (column_in steep)) ×
    (table_in (one 7 3 ++ two 8) 7 4 ≡ no_column) × (table_in (one 7 3 ++ two 8) 8 2 ≡ no_column) × (table_in (one 7 3 ++ two 8) 8 5 ≡ no_column) ×
    (table_in (one 7 3 ++ two 8) 9 3 ≡ no_edition) × (table_in (one 7 3 ++ two 8) 65543 3 ≡ no_edition) × (table_in [] 7 3 ≡ no_edition) ×
    (table_in (one 7 3 ++ one 8 18) 7 3 ≡ no_store) × (table_in (one 7 3 ++ one 8 18) 9 3 ≡ no_store)
unfolding table_in stored edition_in table_of entries_in ends first_entry after_first rising accepted column_of column_in twos spelled
columns_are_found = (refl, refl, refl, refl, refl, refl, refl, refl, refl, refl, refl)

-- ---- finding and listing

pub editions_are_found :
    (finding_says (one 7 3 ++ two 8) 7 ≡ Ok 0) × (finding_says (one 7 3 ++ two 8) 8 ≡ Ok 115) ×
    (finding_says (one 7 3 ++ two 8) 9 ≡ Err NoEdition) × (finding_says (one 7 3 ++ one 8 18) 7 ≡ Err Unsound)
unfolding finding_says ruled start_in stored entries_in ends first_entry after_first rising accepted column_of column_in twos spelled
editions_are_found = (refl, refl, refl, refl)

pub editions_are_listed :
    (listing_says (one 7 3 ++ two 8) (replicate 3 1) ≡ Ok 2) × (after_listing (one 7 3 ++ two 8) (replicate 3 1) ≡ 7 ∷ 8 ∷ 1 ∷ []) ×
    (listing_says (one 7 3 ++ two 8) (replicate 1 1) ≡ Err Room) × (after_listing (one 7 3 ++ two 8) (replicate 1 1) ≡ replicate 1 1) ×
    (listing_says [] [] ≡ Ok 0) ×
    (listing_says (one 7 3 ++ one 8 18) [] ≡ Err Unsound) × (after_listing (one 7 3 ++ one 8 18) (replicate 3 1) ≡ replicate 3 1)
unfolding listing_says written ruled entries_in ends first_entry after_first rising accepted column_of column_in twos spelled
editions_are_listed = (refl, refl, refl, refl, refl, refl, refl)

-- ---- storing

-- an empty store, with so many bytes behind its end
abbrev empty : ℕ → List ℕ
empty behind = 0 ∷ 0 ∷ replicate behind 9

-- A zero length is written over, and written after the entry where two bytes or more follow. Other bytes stay: those behind it, and one left over.
-- An exact fit is room enough, and one byte less is not.
pub editions_are_stored :
    (storing_says (empty 116) (one 7 3) ≡ Ok 0) × (after_storing (empty 116) (one 7 3) ≡ one 7 3 ++ (0 ∷ 0 ∷ 9 ∷ [])) ×
    (after_storing (empty 115) (one 7 3) ≡ one 7 3 ++ (0 ∷ 0 ∷ [])) × (after_storing (empty 114) (one 7 3) ≡ one 7 3 ++ (9 ∷ [])) ×
    (after_storing (empty 113) (one 7 3) ≡ one 7 3) ×
    (storing_says (empty 112) (one 7 3) ≡ Err Room) × (after_storing (empty 112) (one 7 3) ≡ empty 112) ×
    (storing_says (one 7 3 ++ empty 113) (one 8 4) ≡ Ok 115) × (after_storing (one 7 3 ++ empty 113) (one 8 4) ≡ one 7 3 ++ one 8 4)
unfolding storing_says storing_meets ruled left_by stored_at closed size_of least_after entries_in ends first_entry after_first rising accepted column_of column_in twos spelled
editions_are_stored = (refl, refl, refl, refl, refl, refl, refl, refl, refl)

-- 11 for the store or the edition; then 12; then 8, for a ninth too.
pub storing_is_refused :
    (storing_says (one 7 3 ++ one 8 18) (one 9 3) ≡ Err Unsound) × (storing_says (one 7 3) (one 6 18) ≡ Err Unsound) ×
    (storing_says (one 7 3) (one 7 3) ≡ Err NotRising) × (storing_says (one 7 3 ++ empty 200) (one 6 3) ≡ Err NotRising) ×
    (storing_says (many 8 1) (one 8 3) ≡ Err NotRising) × (storing_says (many 8 1 ++ empty 200) (one 9 3) ≡ Err Room) ×
    (storing_says (many 7 1 ++ empty 200) (one 9 3) ≡ Ok 805) ×
    (after_storing (one 7 3 ++ empty 1) (one 7 3) ≡ one 7 3 ++ empty 1)
unfolding storing_says storing_meets ruled left_by stored_at closed size_of least_after entries_in ends first_entry after_first rising accepted column_of column_in twos spelled
storing_is_refused = (refl, refl, refl, refl, refl, refl, refl, refl)

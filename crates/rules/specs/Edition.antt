-- Document 02, R-5: an edition of the table. It is its own bytes: an entry that fills them.
use Rattle.std.specs.Prelude.{Bool, true, cond, ◌&&◌, List, [], ◌∷◌, ◌++◌, ℕ, zero, suc, ◌+◌, ◌-◌, ◌*◌, leb, eqb, length, drop, get_or}
use Rattle.rules.specs.Lot.{most}
use Rattle.rules.specs.Record.{spelled, spell, part, length_field, version_field}
use Rattle.rules.specs.Table.{Table, no_column, a_column, table_106_1, entries, column_in, well_formed}

-- ---- the fields of an entry: bytes 0–1 are the number of bytes that follow, byte 2 the version, as in a lot record

-- bytes 3–4: the edition's number
abbrev pub number_field : List ℕ → ℕ
number_field e = spelled 0 (part 3 2 e)

-- byte 5: first n
abbrev pub first_field : List ℕ → ℕ
first_field e = get_or e 5 0

-- byte 6: last n
abbrev pub last_field : List ℕ → ℕ
last_field e = get_or e 6 0

-- 7 bytes stand before the columns
abbrev pub edition_head : ℕ
edition_head = 7

-- 54 rows of two bytes
abbrev pub column_size : ℕ
column_size = 108

-- column after column: where the one for n stands, where that for `first` comes first
abbrev pub column_place : ℕ → ℕ → ℕ
column_place first n = edition_head + column_size * (n - first)

-- the column for n
unfoldable pub column_of : List ℕ → ℕ → List ℕ
column_of e n = column_in (drop (column_place (first_field e) n) e)

-- how many columns first n and last n ask for
abbrev pub columns : List ℕ → ℕ
columns e = last_field e + 1 - first_field e

-- ---- when an edition is accepted

-- the first `size` numbers from i on all pass
abbrev pub each : (ℕ → Bool) → ℕ → ℕ → Bool
each passes zero i = true
each passes (suc size) i = passes i && each passes size (suc i)

-- Its version is 1, its n run within 2 to 17, first not above last, its size fits that, and each column starts at 5,000, never falls and ends at 10,000.
unfoldable pub accepted : List ℕ → Bool
accepted e =
    eqb (version_field e) 1
    && leb 2 (first_field e)
    && leb (last_field e) most
    && leb (first_field e) (last_field e)
    && eqb (length e) (edition_head + column_size * columns e)
    && eqb (length_field e) (length e - 2)
    && each (λ n. well_formed (column_of e n)) (columns e) (first_field e)

-- ---- an edition as a table

-- it has the columns for first n to last n, and no other
unfoldable pub table_of : List ℕ → Table
table_of e n = cond (leb (first_field e) n && leb n (last_field e)) (a_column (column_of e n)) no_column

-- ---- a table as an edition

-- numbers in two bytes each
unfoldable pub in_twos : List ℕ → List ℕ
in_twos [] = []
in_twos (x ∷ xs) = spell 2 x ++ in_twos xs

-- the columns for so many n, from n on
unfoldable pub columns_from : Table → ℕ → ℕ → List ℕ
columns_from table zero n = []
columns_from table (suc count) n = in_twos (entries (table n)) ++ columns_from table count (suc n)

-- the 7 bytes before the columns
unfoldable pub edition_head_of : ℕ → ℕ → ℕ → List ℕ
edition_head_of number first last =
    spell 2 (5 + column_size * (last + 1 - first)) ++ (1 ∷ []) ++ spell 2 number ++ (first ∷ last ∷ [])

-- the columns of a table for first n to last n, under a number
unfoldable pub edition_of : ℕ → ℕ → ℕ → Table → List ℕ
edition_of number first last table = edition_head_of number first last ++ columns_from table (last + 1 - first) first

-- Table 106-1 as document 02 corrects it, n = 2 to 10
unfoldable pub edition_106_1 : ℕ → List ℕ
edition_106_1 number = edition_of number 2 10 table_106_1

-- Document 01, "The table", and document 02, R-2: Table 106-1 of document 004 in hundredths, as printed but for the two entries that R-2 corrects,
-- n = 2 at 0.70 and n = 3 at 0.20.
-- A line for each row k, which stands for an index of k/20, and in it the columns n = 2 to 10.
use Rattle.std.specs.Prelude.{Bool, true, false, cond, ◌&&◌, List, [], ◌∷◌, map, ℕ, suc, ◌+◌, ◌-◌, ◌*◌, ◌/◌, leb, ltb, eqb, get_or, length}
use Rattle.rules.specs.Record.{twos}

unfoldable pub rows : List (List ℕ)
rows =
    (5000 ∷ 5000 ∷ 5000 ∷ 5000 ∷ 5000 ∷ 5000 ∷ 5000 ∷ 5000 ∷ 5000 ∷ []) ∷  -- 0.00
    (5168 ∷ 5138 ∷ 5167 ∷ 5178 ∷ 5184 ∷ 5187 ∷ 5189 ∷ 5191 ∷ 5192 ∷ []) ∷  -- 0.05
    (5336 ∷ 5276 ∷ 5333 ∷ 5356 ∷ 5367 ∷ 5374 ∷ 5378 ∷ 5382 ∷ 5384 ∷ []) ∷  -- 0.10
    (5503 ∷ 5415 ∷ 5500 ∷ 5533 ∷ 5550 ∷ 5560 ∷ 5567 ∷ 5571 ∷ 5575 ∷ []) ∷  -- 0.15
    (5671 ∷ 5554 ∷ 5667 ∷ 5710 ∷ 5732 ∷ 5746 ∷ 5754 ∷ 5760 ∷ 5765 ∷ []) ∷  -- 0.20
    (5839 ∷ 5695 ∷ 5833 ∷ 5887 ∷ 5914 ∷ 5930 ∷ 5941 ∷ 5948 ∷ 5953 ∷ []) ∷  -- 0.25
    (6007 ∷ 5837 ∷ 6000 ∷ 6063 ∷ 6094 ∷ 6113 ∷ 6125 ∷ 6134 ∷ 6140 ∷ []) ∷  -- 0.30
    (6174 ∷ 5980 ∷ 6167 ∷ 6238 ∷ 6273 ∷ 6294 ∷ 6308 ∷ 6318 ∷ 6325 ∷ []) ∷  -- 0.35
    (6342 ∷ 6126 ∷ 6333 ∷ 6412 ∷ 6451 ∷ 6474 ∷ 6489 ∷ 6500 ∷ 6507 ∷ []) ∷  -- 0.40
    (6510 ∷ 6274 ∷ 6500 ∷ 6584 ∷ 6627 ∷ 6651 ∷ 6667 ∷ 6679 ∷ 6687 ∷ []) ∷  -- 0.45
    (6678 ∷ 6425 ∷ 6667 ∷ 6756 ∷ 6800 ∷ 6826 ∷ 6843 ∷ 6855 ∷ 6863 ∷ []) ∷  -- 0.50
    (6846 ∷ 6580 ∷ 6833 ∷ 6926 ∷ 6972 ∷ 6999 ∷ 7016 ∷ 7028 ∷ 7036 ∷ []) ∷  -- 0.55
    (7013 ∷ 6739 ∷ 7000 ∷ 7095 ∷ 7141 ∷ 7168 ∷ 7185 ∷ 7197 ∷ 7206 ∷ []) ∷  -- 0.60
    (7181 ∷ 6903 ∷ 7167 ∷ 7261 ∷ 7308 ∷ 7334 ∷ 7351 ∷ 7363 ∷ 7372 ∷ []) ∷  -- 0.65
    (7349 ∷ 7073 ∷ 7333 ∷ 7426 ∷ 7471 ∷ 7497 ∷ 7514 ∷ 7525 ∷ 7533 ∷ []) ∷  -- 0.70
    (7517 ∷ 7250 ∷ 7500 ∷ 7589 ∷ 7632 ∷ 7656 ∷ 7672 ∷ 7683 ∷ 7690 ∷ []) ∷  -- 0.75
    (7685 ∷ 7436 ∷ 7667 ∷ 7749 ∷ 7789 ∷ 7812 ∷ 7826 ∷ 7836 ∷ 7843 ∷ []) ∷  -- 0.80
    (7852 ∷ 7633 ∷ 7833 ∷ 7907 ∷ 7943 ∷ 7963 ∷ 7976 ∷ 7984 ∷ 7990 ∷ []) ∷  -- 0.85
    (8020 ∷ 7845 ∷ 8000 ∷ 8062 ∷ 8093 ∷ 8110 ∷ 8121 ∷ 8128 ∷ 8133 ∷ []) ∷  -- 0.90
    (8188 ∷ 8075 ∷ 8167 ∷ 8214 ∷ 8239 ∷ 8252 ∷ 8261 ∷ 8267 ∷ 8271 ∷ []) ∷  -- 0.95
    (8356 ∷ 8333 ∷ 8333 ∷ 8364 ∷ 8380 ∷ 8390 ∷ 8396 ∷ 8400 ∷ 8403 ∷ []) ∷  -- 1.00
    (8523 ∷ 8637 ∷ 8500 ∷ 8509 ∷ 8518 ∷ 8523 ∷ 8526 ∷ 8528 ∷ 8529 ∷ []) ∷  -- 1.05
    (8691 ∷ 9016 ∷ 8667 ∷ 8652 ∷ 8650 ∷ 8651 ∷ 8651 ∷ 8651 ∷ 8650 ∷ []) ∷  -- 1.10
    (8859 ∷ 9713 ∷ 8833 ∷ 8790 ∷ 8778 ∷ 8773 ∷ 8770 ∷ 8768 ∷ 8766 ∷ []) ∷  -- 1.15
    (9027 ∷ 10000 ∷ 9000 ∷ 8924 ∷ 8901 ∷ 8890 ∷ 8883 ∷ 8879 ∷ 8876 ∷ []) ∷  -- 1.20
    (9195 ∷ 10000 ∷ 9167 ∷ 9054 ∷ 9019 ∷ 9002 ∷ 8991 ∷ 8985 ∷ 8979 ∷ []) ∷  -- 1.25
    (9362 ∷ 10000 ∷ 9333 ∷ 9179 ∷ 9131 ∷ 9107 ∷ 9094 ∷ 9084 ∷ 9078 ∷ []) ∷  -- 1.30
    (9530 ∷ 10000 ∷ 9500 ∷ 9298 ∷ 9237 ∷ 9208 ∷ 9190 ∷ 9178 ∷ 9170 ∷ []) ∷  -- 1.35
    (9698 ∷ 10000 ∷ 9667 ∷ 9412 ∷ 9337 ∷ 9302 ∷ 9281 ∷ 9267 ∷ 9256 ∷ []) ∷  -- 1.40
    (9866 ∷ 10000 ∷ 9833 ∷ 9519 ∷ 9432 ∷ 9390 ∷ 9365 ∷ 9349 ∷ 9337 ∷ []) ∷  -- 1.45
    (10000 ∷ 10000 ∷ 10000 ∷ 9620 ∷ 9519 ∷ 9472 ∷ 9444 ∷ 9426 ∷ 9413 ∷ []) ∷  -- 1.50
    (10000 ∷ 10000 ∷ 10000 ∷ 9713 ∷ 9600 ∷ 9548 ∷ 9517 ∷ 9497 ∷ 9482 ∷ []) ∷  -- 1.55
    (10000 ∷ 10000 ∷ 10000 ∷ 9797 ∷ 9675 ∷ 9617 ∷ 9584 ∷ 9562 ∷ 9546 ∷ []) ∷  -- 1.60
    (10000 ∷ 10000 ∷ 10000 ∷ 9872 ∷ 9742 ∷ 9681 ∷ 9645 ∷ 9622 ∷ 9605 ∷ []) ∷  -- 1.65
    (10000 ∷ 10000 ∷ 10000 ∷ 9934 ∷ 9802 ∷ 9738 ∷ 9701 ∷ 9676 ∷ 9659 ∷ []) ∷  -- 1.70
    (10000 ∷ 10000 ∷ 10000 ∷ 9981 ∷ 9855 ∷ 9789 ∷ 9751 ∷ 9725 ∷ 9707 ∷ []) ∷  -- 1.75
    (10000 ∷ 10000 ∷ 10000 ∷ 10000 ∷ 9899 ∷ 9835 ∷ 9796 ∷ 9770 ∷ 9751 ∷ []) ∷  -- 1.80
    (10000 ∷ 10000 ∷ 10000 ∷ 10000 ∷ 9936 ∷ 9874 ∷ 9835 ∷ 9809 ∷ 9791 ∷ []) ∷  -- 1.85
    (10000 ∷ 10000 ∷ 10000 ∷ 10000 ∷ 9965 ∷ 9907 ∷ 9869 ∷ 9844 ∷ 9825 ∷ []) ∷  -- 1.90
    (10000 ∷ 10000 ∷ 10000 ∷ 10000 ∷ 9985 ∷ 9935 ∷ 9899 ∷ 9874 ∷ 9856 ∷ []) ∷  -- 1.95
    (10000 ∷ 10000 ∷ 10000 ∷ 10000 ∷ 9997 ∷ 9957 ∷ 9924 ∷ 9900 ∷ 9883 ∷ []) ∷  -- 2.00
    (10000 ∷ 10000 ∷ 10000 ∷ 10000 ∷ 10000 ∷ 9974 ∷ 9945 ∷ 9923 ∷ 9906 ∷ []) ∷  -- 2.05
    (10000 ∷ 10000 ∷ 10000 ∷ 10000 ∷ 10000 ∷ 9986 ∷ 9961 ∷ 9941 ∷ 9926 ∷ []) ∷  -- 2.10
    (10000 ∷ 10000 ∷ 10000 ∷ 10000 ∷ 10000 ∷ 9994 ∷ 9974 ∷ 9957 ∷ 9942 ∷ []) ∷  -- 2.15
    (10000 ∷ 10000 ∷ 10000 ∷ 10000 ∷ 10000 ∷ 9999 ∷ 9984 ∷ 9969 ∷ 9956 ∷ []) ∷  -- 2.20
    (10000 ∷ 10000 ∷ 10000 ∷ 10000 ∷ 10000 ∷ 10000 ∷ 9991 ∷ 9979 ∷ 9968 ∷ []) ∷  -- 2.25
    (10000 ∷ 10000 ∷ 10000 ∷ 10000 ∷ 10000 ∷ 10000 ∷ 9996 ∷ 9986 ∷ 9977 ∷ []) ∷  -- 2.30
    (10000 ∷ 10000 ∷ 10000 ∷ 10000 ∷ 10000 ∷ 10000 ∷ 9998 ∷ 9992 ∷ 9984 ∷ []) ∷  -- 2.35
    (10000 ∷ 10000 ∷ 10000 ∷ 10000 ∷ 10000 ∷ 10000 ∷ 10000 ∷ 9995 ∷ 9989 ∷ []) ∷  -- 2.40
    (10000 ∷ 10000 ∷ 10000 ∷ 10000 ∷ 10000 ∷ 10000 ∷ 10000 ∷ 9998 ∷ 9993 ∷ []) ∷  -- 2.45
    (10000 ∷ 10000 ∷ 10000 ∷ 10000 ∷ 10000 ∷ 10000 ∷ 10000 ∷ 9999 ∷ 9996 ∷ []) ∷  -- 2.50
    (10000 ∷ 10000 ∷ 10000 ∷ 10000 ∷ 10000 ∷ 10000 ∷ 10000 ∷ 10000 ∷ 9998 ∷ []) ∷  -- 2.55
    (10000 ∷ 10000 ∷ 10000 ∷ 10000 ∷ 10000 ∷ 10000 ∷ 10000 ∷ 10000 ∷ 9999 ∷ []) ∷  -- 2.60
    (10000 ∷ 10000 ∷ 10000 ∷ 10000 ∷ 10000 ∷ 10000 ∷ 10000 ∷ 10000 ∷ 10000 ∷ []) ∷  -- 2.65
    []

-- What is found for a count n: lent bytes that are no store of editions, no edition of the number that is named, a table without a column for n, or a
-- column of entries.
pub data Found : Type 0 where
  no_store : Found
  no_edition : Found
  no_column : Found
  a_column : List ℕ → Found

-- a table, by what is found in it for each count
abbrev pub Table : Type 0
Table = ℕ → Found

-- the printed table has a column for each n from 2 to 10, and no other
unfoldable pub table_106_1 : Table
table_106_1 n = cond (leb 2 n && leb n 10) (a_column (map (λ (row : List ℕ). get_or row (n - 2) 0) rows)) no_column

abbrev pub has_store : Found → Bool
has_store no_store = false
has_store no_edition = true
has_store no_column = true
has_store (a_column column) = true

abbrev pub has_edition : Found → Bool
has_edition no_store = false
has_edition no_edition = false
has_edition no_column = true
has_edition (a_column column) = true

abbrev pub has_column : Found → Bool
has_column no_store = false
has_column no_edition = false
has_column no_column = false
has_column (a_column column) = true

-- the entries of what is found
abbrev pub entries : Found → List ℕ
entries no_store = []
entries no_edition = []
entries no_column = []
entries (a_column column) = column

-- entry k of a column is its row k
abbrev pub entry : List ℕ → ℕ → ℕ
entry column k = get_or column k 0

-- 54 rows, from index 0.00 to 2.65
abbrev pub last_row : ℕ
last_row = 53

-- the column that bytes hold, two to an entry
unfoldable pub column_in : List ℕ → List ℕ
column_in bs = twos (suc last_row) bs

-- the first entry is not below `least`, and no other is below the one before it
abbrev pub rises_from : ℕ → List ℕ → Bool
rises_from least [] = true
rises_from least (x ∷ xs) = leb least x && rises_from x xs

-- A column is well formed: it has 54 entries, starts at 50.00, never falls from one row to the next and ends at 100.00.
abbrev pub well_formed : List ℕ → Bool
well_formed column =
    eqb (length column) (suc last_row)
    && eqb (get_or column 0 0) 5000
    && rises_from 0 column
    && eqb (get_or column last_row 0) 10000

-- Column n = 4: for row k below 30, 5,000 + 500k/3 rounded to the nearest whole, and 10,000 from row 30.
abbrev pub column_four : ℕ → ℕ
column_four k = cond (ltb k 30) (5000 + (2 * (500 * k) + 3) / (2 * 3)) 10000

-- Document 01, "Numbers of refusal", and document 02, R-1 and R-5: the refusals that each entry can meet, in the order in which they are looked for.
use Rattle.std.specs.Prelude.{List, [], ◌∷◌, ◌++◌, ℕ, ℤ, length, None}
use Rattle.rules.specs.Units.{Limit}
use Rattle.rules.specs.Said.{Case}
use Rattle.rules.specs.Lot.{Lot}
use Rattle.rules.specs.Table.{Found}
use Rattle.rules.specs.Job.{cut, item_numbers}
use Rattle.rules.specs.Record.{lot_of_record, record_of}
use Rattle.rules.specs.Refusals.{size_case, version_case, flags_case, count_case, record_count_case, bytes_count_case, range_case, unlimited_case, crossed_case, room_case, pay_case, mixture_case, offset_case, job_case, column_case, store_case, edition_case}

-- mean and deviation alone: 4 and 5
unfoldable pub readings_meet : List ℤ → List Case
readings_meet xs = count_case (length xs) ∷ range_case None None xs ∷ []

-- limits in range: 6 and 7
abbrev pub limits_meet : Limit → Limit → List Case
limits_meet upper lower = unlimited_case upper lower ∷ crossed_case upper lower ∷ []

-- what a lot can meet after its count: 5 to 7
abbrev pub lot_meets : Lot → List Case
lot_meets lot = range_case lot.upper lot.lower lot.readings ∷ limits_meet lot.upper lot.lower

-- with its count: 4 to 7
abbrev pub counted_meets : Lot → List Case
counted_meets lot = count_case lot.n ∷ lot_meets lot

-- where a percentage is asked for, last of all, by what is found for the lot: 13 and then 10
abbrev pub column_meets : Found → List Case
column_meets found = edition_case found ∷ column_case found ∷ []

-- direct evaluation: 11, 4 to 7, 13 and 10
unfoldable pub evaluation_meets : Found → Lot → List Case
evaluation_meets found lot = store_case found ∷ (counted_meets lot ++ column_meets found)

-- a lot whose readings come as bytes: 4 to 7
abbrev pub bytes_meet : List ℕ → Lot → List Case
bytes_meet bs lot = bytes_count_case bs ∷ lot_meets lot

-- the notebook's row: 11, 4 to 7, 13 and 10
unfoldable pub row_meets : List ℕ → Found → Lot → List Case
row_meets bs found lot = store_case found ∷ (bytes_meet bs lot ++ column_meets found)

-- what a record can meet before its lot: 1 to 4
abbrev pub head_meets : List ℕ → List Case
head_meets bs = size_case bs ∷ version_case bs ∷ flags_case bs ∷ record_count_case bs ∷ []

-- reading: 1 to 7
unfoldable pub read_meets : List ℕ → List Case
read_meets bs = head_meets bs ++ lot_meets (lot_of_record bs)

-- writing: 4 to 8
unfoldable pub write_meets : Lot → ℕ → List Case
write_meets lot room = counted_meets lot ++ (room_case room (length (record_of lot)) ∷ [])

-- pay: 9
unfoldable pub pay_meets : ℤ → ℤ → ℤ → ℤ → ℤ → List Case
pay_meets vma voids density price quantity = pay_case vma voids density price quantity ∷ []

-- the mixture lookup: 5 and 9
unfoldable pub mixture_meets : ℤ → ℤ → ℤ → List Case
mixture_meets mixture minimum target = offset_case minimum target ∷ mixture_case mixture ∷ []

-- the cut of a job, into a lent list of so many numbers: 9 and then 8
unfoldable pub cut_meets : ℕ → ℕ → List Case
cut_meets sublots room = job_case sublots ∷ room_case room (length (item_numbers (cut sublots))) ∷ []

-- What each entry says, for whatever comes in: of the refusals that it can meet, the first that applies; else its values.
use Rattle.std.specs.Prelude.{List, ◌++◌, ℕ, ℤ, pos, length, drop, replicate, None, Ok, Err}
use Rattle.rules.specs.declared.Thousandths.{Thousandths}
use Rattle.rules.specs.Units.{Limit, thousandths, hundredths}
use Rattle.rules.specs.declared.HeldLot.{HeldLot}
use Rattle.rules.specs.declared.ReadAnswer.{ReadAnswer}
use Rattle.rules.specs.declared.Totals.{Totals}
use Rattle.rules.specs.declared.Mean.{Mean}
use Rattle.rules.specs.declared.Percentages.{Percentages}
use Rattle.rules.specs.declared.Payment.{Payment}
use Rattle.rules.specs.declared.Characteristics.{Characteristics}
use Rattle.rules.specs.declared.Pair.{Pair}
use Rattle.rules.specs.declared.Row.{Row}
use Rattle.rules.specs.Said.{Said, ruled}
use Rattle.rules.specs.Lot.{Lot, most, in_places}
use Rattle.rules.specs.Table.{Table, Found, entries}
use Rattle.rules.specs.Percent.{Rule, nearest, totals, sum, spread, upper_side, lower_side, within}
use Rattle.rules.specs.Halving.{upper_tried, lower_tried}
use Rattle.rules.specs.Deviation.{deviation}
use Rattle.rules.specs.Pay.{payment}
use Rattle.rules.specs.Mixture.{mixture_limits}
use Rattle.rules.specs.Record.{lot_of_record, record_of}
use Rattle.rules.specs.Job.{cut, item_numbers}
use Rattle.rules.specs.Meets.{readings_meet, evaluation_meets, row_meets, read_meets, write_meets, pay_meets, mixture_meets, cut_meets}
use Rattle.rules.specs.Notebook.{lent_lot, row_of}

-- ---- mean and deviation

unfoldable pub mean_says : List ℤ → Said Mean
mean_says xs = ruled (readings_meet xs) (record { total = thousandths (sum xs); count = length xs })

-- s of n readings
abbrev pub deviation_of : ℕ → List ℤ → ℤ
deviation_of n xs = pos (deviation n (spread (totals n xs)))

unfoldable pub deviation_says : List ℤ → Said Thousandths
deviation_says xs = ruled (readings_meet xs) (thousandths (deviation_of (length xs) xs))

-- ---- direct evaluation

module _ (rule : Rule) (column : List ℕ) where
  -- both sides and PWL, of n, T and Z and two limits, and how many rows the handheld tries for each side
  unfoldable pub percentages_of : Totals → Limit → Limit → Percentages
  percentages_of a upper lower =
      let u : ℤ = upper_side rule column a upper in
      let l : ℤ = lower_side rule column a lower in
      record {
        upper = hundredths u;
        lower = hundredths l;
        pwl = hundredths (within u l);
        tried = record { upper = upper_tried a upper; lower = lower_tried a lower };
      }

  abbrev pub percentages : Lot → Percentages
  percentages lot = percentages_of (totals lot.n lot.readings) lot.upper lot.lower

-- what direct evaluation says, by any rule for rows and by whatever column is found for the lot
unfoldable pub evaluated : Rule → Found → Lot → Said Percentages
evaluated rule found lot = ruled (evaluation_meets found lot) (percentages rule (entries found) lot)

-- by a table, which is the edition that the caller names
unfoldable pub evaluation_says : Table → Lot → Said Percentages
evaluation_says table lot = evaluated nearest (table lot.n) lot

-- ---- the lot record

unfoldable pub read_says : List ℕ → Said Lot
read_says bs = ruled (read_meets bs) (lot_of_record bs)

-- The lot in memory that a read leaves: zeros in the places past its readings, and a blank lot where the record is refused.
unfoldable pub held : Said Lot → HeldLot
held (Err r) = record { upper = None; lower = None; count = 0; readings = replicate most (thousandths (pos 0)) }
held (Ok lot) =
    record {
      upper = lot.upper;
      lower = lot.lower;
      count = lot.n;
      readings = in_places lot.n lot.readings;
    }

abbrev pub bare : {A : Type 0} → Said A → Said (Unit {0})
bare (Err r) = Err r
bare (Ok a) = Ok tt

-- a lot that was read, beside what is said of it
pub record ReadSaid : Type 0 where
  pub said : Said (Unit {0})
  pub lot : HeldLot

abbrev pub read_said : ReadAnswer → ReadSaid
read_said r = record { said = r.said; lot = r.lot }

-- the refusal, or that there is none, beside that lot in memory
abbrev pub beside : Said Lot → ReadSaid
beside said = record { said = bare said; lot = held said }

abbrev pub read_leaves : List ℕ → ReadSaid
read_leaves bs = beside (read_says bs)

-- the number of bytes written
unfoldable pub write_says : Lot → List ℕ → Said ℕ
write_says lot out = ruled (write_meets lot (length out)) (length (record_of lot))

-- A lent list after a write: as it was where the write is refused; else what was to be written, and after it the rest as it was.
unfoldable pub written : {A B : Type 0} → List A → List A → Said B → List A
written new out (Err r) = out
written new out (Ok b) = new ++ drop (length new) out

abbrev pub after_write : Lot → List ℕ → List ℕ
after_write lot out = written (record_of lot) out (write_says lot out)

-- ---- pay, and limits by mixture

unfoldable pub pay_says : ℤ → ℤ → ℤ → ℤ → ℤ → Said Payment
pay_says vma voids density price quantity =
    ruled (pay_meets vma voids density price quantity) (payment vma voids density price quantity)

unfoldable pub mixture_says : ℤ → ℤ → ℤ → Said (Characteristics (Pair Thousandths))
mixture_says mixture minimum target =
    ruled (mixture_meets mixture minimum target) (mixture_limits mixture minimum target)

-- ---- a job, cut into lots

-- the number of items
unfoldable pub cut_says : ℕ → List ℕ → Said ℕ
cut_says sublots out = ruled (cut_meets sublots (length out)) (length (cut sublots))

abbrev pub after_cut : ℕ → List ℕ → List ℕ
after_cut sublots out = written (item_numbers (cut sublots)) out (cut_says sublots out)

-- ---- the notebook's row

unfoldable pub row_says : Table → Limit → Limit → List ℕ → Said Row
row_says table upper lower bs =
    let lot : Lot = lent_lot upper lower bs in
    let found : Found = table lot.n in
    ruled (row_meets bs found lot)
    (row_of (sum lot.readings) lot.n (deviation_of lot.n lot.readings)
    (percentages nearest (entries found) lot).pwl.0)

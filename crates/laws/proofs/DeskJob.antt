-- Jobs and joined lots by computation: the cut at each of its bounds, and a lot of 17 equal readings, which has no percentage but all else.
use mathlib.Core.Path.{◌≡◌, refl}
use mathlib.Core.Bool.{true, false}
use mathlib.Core.List.{List, [], ◌∷◌}
use Prim.Native.Nat.{ℕ}
use lib.IntN.{pos}
use lib.ListN.{length, get_or, replicate}
use Rattle.std.specs.Prelude.{None, Ok, Err}
use Rattle.rules.specs.declared.Refusal.TheVariants.{NoColumn, Count, Number, Room}
use Rattle.rules.specs.Units.{thousandths}
use Rattle.rules.specs.Said.{ruled}
use Rattle.rules.specs.Lot.{Lot, lot_of}
use Rattle.rules.specs.Table.{table_106_1}
use Rattle.rules.specs.Job.{with_leftover, lot_sizes, in_order, cut, item_numbers}
use Rattle.rules.specs.Percent.{sum}
use Rattle.rules.specs.Record.{head_of, record_of, spell, in_fours}
use Rattle.rules.specs.Refusals.{any_out, job_case}
use Rattle.rules.specs.Meets.{readings_meet, evaluation_meets, write_meets, cut_meets}
use Rattle.rules.specs.Entries.{mean_says, evaluated, evaluation_says, write_says, written, cut_says, after_cut}
use Rattle.laws.specs.Every.{Every, done, ◌then◌}
use Rattle.laws.specs.Desk.{at}

-- a job, and the numbers of its lots: start and count of each
pub record Job : Type 0 where
  pub sublots : ℕ
  pub lots : List ℕ

abbrev CutSo : Job → Type 0
CutSo job = item_numbers (cut job.sublots) ≡ job.lots

abbrev jobs : List Job
jobs =
    record { sublots = 0; lots = [] } ∷
    record { sublots = 1; lots = 0 ∷ 1 ∷ [] } ∷
    record { sublots = 7; lots = 0 ∷ 7 ∷ [] } ∷
    record { sublots = 8; lots = 0 ∷ 8 ∷ [] } ∷
    record { sublots = 9; lots = 0 ∷ 9 ∷ [] } ∷
    record { sublots = 10; lots = 0 ∷ 10 ∷ [] } ∷
    record { sublots = 11; lots = 0 ∷ 11 ∷ [] } ∷
    record { sublots = 17; lots = 0 ∷ 17 ∷ [] } ∷
    record { sublots = 18; lots = 0 ∷ 10 ∷ 10 ∷ 8 ∷ [] } ∷
    record { sublots = 19; lots = 0 ∷ 10 ∷ 10 ∷ 9 ∷ [] } ∷
    record { sublots = 20; lots = 0 ∷ 10 ∷ 10 ∷ 10 ∷ [] } ∷
    record { sublots = 21; lots = 0 ∷ 10 ∷ 10 ∷ 11 ∷ [] } ∷
    record { sublots = 27; lots = 0 ∷ 10 ∷ 10 ∷ 17 ∷ [] } ∷
    record { sublots = 28; lots = 0 ∷ 10 ∷ 10 ∷ 10 ∷ 20 ∷ 8 ∷ [] } ∷
    []

pub jobs_are_cut : Every CutSo jobs
unfolding cut lot_sizes with_leftover in_order item_numbers
jobs_are_cut =
    refl then refl then refl then refl then refl then refl then refl then refl then refl then refl then refl then refl then refl then refl then done

-- The longest job has 409 lots, the last of 16 sublots, and is not refused; one sublot more is.
pub longest_job_is_cut :
    (length (cut 4096) ≡ 409) × (get_or (item_numbers (cut 4096)) 816 0 ≡ 4080) × (get_or (item_numbers (cut 4096)) 817 0 ≡ 16) ×
    ((job_case 4096).applies ≡ false) × ((job_case 4097).applies ≡ true)
unfolding cut lot_sizes with_leftover in_order item_numbers
longest_job_is_cut = (refl, refl, refl, refl, refl)

-- The list is filled from its start and keeps its rest; refused, it keeps every number. 9 comes before 8: the last list is too short as well.
pub lists_are_filled :
    (cut_says 18 (replicate 5 7) ≡ Ok 2) × (after_cut 18 (replicate 5 7) ≡ 0 ∷ 10 ∷ 10 ∷ 8 ∷ 7 ∷ []) ×
    (cut_says 18 (replicate 3 7) ≡ Err Room) × (after_cut 18 (replicate 3 7) ≡ replicate 3 7) ×
    (cut_says 0 [] ≡ Ok 0) × (cut_says 1 [] ≡ Err Room) ×
    (cut_says 4097 [] ≡ Err Number) × (after_cut 4097 (replicate 2 7) ≡ replicate 2 7)
unfolding cut_says cut_meets written ruled cut lot_sizes with_leftover in_order item_numbers
lists_are_filled = (refl, refl, refl, refl, refl, refl, refl, refl)

-- Seventeen equal readings, so that V is 0, with one limit.
abbrev seventeen : Lot
seventeen = lot_of (at 4000) None (replicate 17 (pos 4000))

pub seventeen_are_averaged_and_written :
    (mean_says seventeen.readings ≡ Ok (record { total = thousandths (pos 68000); count = 17 })) ×
    (evaluation_says table_106_1 seventeen ≡ Err NoColumn) ×
    (write_says seventeen (replicate 81 0) ≡ Ok 81) ×
    (mean_says (replicate 18 (pos 4000)) ≡ Err Count)
unfolding mean_says readings_meet evaluation_says evaluated evaluation_meets table_106_1 write_says write_meets ruled record_of head_of spell in_fours any_out sum
seventeen_are_averaged_and_written = (refl, refl, refl, refl)

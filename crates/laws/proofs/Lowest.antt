-- Of the refusals that apply, each of these entries gives the one of the lowest number: its cases stand in the order of their numbers.
use mathlib.Core.List.{List}
use Prim.Native.Nat.{ℕ}
use lib.IntN.{ℤ}
use Rattle.rules.specs.Lot.{Lot}
use Rattle.rules.specs.Meets.{readings_meet, read_meets, write_meets, pay_meets, mixture_meets}
use Rattle.rules.specs.Entries.{mean_says, deviation_says, read_says, write_says, pay_says, mixture_says}
use Rattle.laws.proofs.Refusals.{LowestGiven, lowest}
use lib.ListN.{length}

pub mean_lowest : (xs : List ℤ) → LowestGiven (readings_meet xs) (mean_says xs)
unfolding mean_says readings_meet
mean_lowest xs = lowest 4 (readings_meet xs) _ tt

pub deviation_lowest : (xs : List ℤ) → LowestGiven (readings_meet xs) (deviation_says xs)
unfolding deviation_says readings_meet
deviation_lowest xs = lowest 4 (readings_meet xs) _ tt

pub read_lowest : (bs : List ℕ) → LowestGiven (read_meets bs) (read_says bs)
unfolding read_says read_meets
read_lowest bs = lowest 1 (read_meets bs) _ tt

pub write_lowest : (lot : Lot) (out : List ℕ) → LowestGiven (write_meets lot (length out)) (write_says lot out)
unfolding write_says write_meets
write_lowest lot out = lowest 4 (write_meets lot (length out)) _ tt

pub pay_lowest : (vma voids density price quantity : ℤ) → LowestGiven (pay_meets vma voids density price quantity) (pay_says vma voids density price quantity)
unfolding pay_says pay_meets
pay_lowest vma voids density price quantity = lowest 9 (pay_meets vma voids density price quantity) _ tt

pub mixture_lowest : (mixture minimum target : ℤ) → LowestGiven (mixture_meets mixture minimum target) (mixture_says mixture minimum target)
unfolding mixture_says mixture_meets
mixture_lowest mixture minimum target = lowest 5 (mixture_meets mixture minimum target) _ tt

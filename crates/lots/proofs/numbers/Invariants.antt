-- The loop has copied the first i places.
use Rattle.std.proofs.Common.{◌≡◌, length, take}
use Rattle.rules.specs.Lot.{most, plain}
use Rattle.lots.proofs.numbers.Given as goal

abbrev pub invariant-loop-i : goal.invariant-loop-i
invariant-loop-i l = (length l.numbers ≡ most) × (take l.i l.numbers ≡ take l.i (plain l.fn.readings))

-- At n the bytes begin as the edition does up to its column for n, and go on as they were.
use Rattle.std.proofs.Common.{◌≡◌, ◌++◌, take, drop}
use Rattle.rules.specs.Edition.{column_place, edition_106_1}
use Rattle.table.proofs.fill.Given as goal

abbrev pub invariant-loop-n : goal.invariant-loop-n
invariant-loop-n l = l.out ≡ take (column_place 2 l.n) (edition_106_1 l.number) ++ drop (column_place 2 l.n) l.fn.out

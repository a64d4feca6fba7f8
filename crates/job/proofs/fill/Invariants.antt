-- The first i lots are filled in, which have ten sublots each.
use Rattle.std.proofs.Common.{◌≡◌, ◌*◌, ◌++◌, take, drop}
use Rattle.rules.specs.Job.{cut, item_numbers}
use Rattle.job.proofs.fill.Given as goal

abbrev pub invariant-loop-i : goal.invariant-loop-i
invariant-loop-i l =
    record {
      filled : l.out ≡ take (2 * l.i) (item_numbers (cut l.sublots)) ++ drop (2 * l.i) l.fn.out;
      begins : l.start ≡ 10 * l.i;
    }

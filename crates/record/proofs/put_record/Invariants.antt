-- The head and the first i readings, four bytes each, and then the bytes as they were.
use Rattle.std.proofs.Common.{◌≡◌, ◌++◌, ◌+◌, ◌*◌, take, drop}
use Rattle.rules.specs.Lot.{plain}
use Rattle.rules.specs.Record.{head_of, in_fours, head_size}
use Rattle.record.proofs.put_record.Given as goal

abbrev pub invariant-loop-i : goal.invariant-loop-i
invariant-loop-i l =
    let lot = l.fn.lot in
    l.out ≡ head_of lot.count lot.upper lot.lower ++ in_fours (take l.i (plain lot.readings)) ++ drop (head_size + 4 * l.i) l.fn.out

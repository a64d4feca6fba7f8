-- The list begins with the numbers of the editions passed and goes on as it was, and the place is where they end.
use Rattle.std.proofs.Common.{◌≡◌, ◌++◌, length, take, drop}
use Rattle.rules.specs.Store.{editions, numbers, size_of}
use Rattle.editions.proofs.fill.Given as goal

abbrev pub invariant-loop-i : goal.invariant-loop-i
invariant-loop-i l = record {
  place : l.at ≡ size_of (take l.i (editions l.store));
  size : length l.out ≡ length l.fn.out;
  listed : l.out ≡ take l.i (numbers (editions l.store)) ++ drop l.i l.fn.out;
}

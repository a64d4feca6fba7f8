-- Those that are counted, and those of the entries that are left, are all.
use Rattle.std.proofs.Common.{◌≡◌, ◌+◌, ◌≤◌, length, drop}
use Rattle.rules.specs.Sheet.{differing}
use Rattle.sheets.proofs.entries.count.Given as goal

abbrev pub invariant-loop-entry : goal.invariant-loop-entry
invariant-loop-entry l = (l.items ≤ l.entry) × (l.items + length (differing l.entry (drop l.entry l.a) (drop l.entry l.b)) ≡ length (differing 0 l.a l.b))

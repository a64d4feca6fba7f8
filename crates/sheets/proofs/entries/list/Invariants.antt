-- The entries that are passed are listed.
use Rattle.std.proofs.Common.{◌≤◌}
use Rattle.laws.proofs.Differences.{Listed}
use Rattle.sheets.proofs.entries.list.Given as goal

abbrev pub invariant-loop-entry : goal.invariant-loop-entry
invariant-loop-entry l = (l.items ≤ l.entry) × Listed l.a l.b l.initial.out l.entry l.items l.out

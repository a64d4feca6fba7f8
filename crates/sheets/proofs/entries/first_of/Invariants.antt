-- The first difference is that of the entries that are left.
use Rattle.std.proofs.Common.{◌≡◌, drop}
use Rattle.rules.specs.Sheet.{differing, first_of}
use Rattle.sheets.proofs.entries.first_of.Given as goal

abbrev pub invariant-loop-entry : goal.invariant-loop-entry
invariant-loop-entry l = first_of (differing 0 l.a l.b) ≡ first_of (differing l.entry (drop l.entry l.a) (drop l.entry l.b))

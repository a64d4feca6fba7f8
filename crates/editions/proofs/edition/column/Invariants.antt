-- No entry passed is below the one before it, so the entries that are left say what the whole column says.
use Rattle.std.proofs.Common.{◌≡◌, drop}
use Rattle.rules.specs.Table.{column_in, rises_from}
use Rattle.editions.proofs.edition.column.Given as goal

abbrev pub invariant-loop-k : goal.invariant-loop-k
invariant-loop-k l = record {
  rest : rises_from 0 (column_in (drop l.at l.bytes)) ≡ rises_from l.before (drop l.k (column_in (drop l.at l.bytes)));
}

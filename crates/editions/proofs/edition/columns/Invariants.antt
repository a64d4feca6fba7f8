-- The columns passed are well formed, so those that are left say what all say.
use Rattle.std.proofs.Common.{◌≡◌, ◌+◌, ◌-◌}
use Rattle.rules.specs.Table.{well_formed}
use Rattle.rules.specs.Edition.{first_field, column_of, each}
use Rattle.editions.proofs.edition.columns.Given as goal

abbrev pub invariant-loop-i : goal.invariant-loop-i
invariant-loop-i l = record {
  rest :
      each (λ n. well_formed (column_of l.edition n)) l.count (first_field l.edition) ≡
      each (λ n. well_formed (column_of l.edition n)) (l.count - l.i) (first_field l.edition + l.i);
}

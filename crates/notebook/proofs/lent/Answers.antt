-- The store is looked at before the lot, and the column after it.
use Prim.Native.Nat.{ℕ}
use mathlib.Core.Path.{subst}
use Rattle.std.specs.Prelude.{Option}
use Rattle.rules.specs.Said.{Said}
use Rattle.rules.specs.Meets.{bytes_meet, row_meets}
use Rattle.laws.specs.StoreWalk.{ColumnPlaced}
use Rattle.laws.proofs.Columned.{found_in_store, columned_is_totalled}
use Rattle.notebook.proofs.lent.Goals as goal

pub with_column-requires : goal.with_column-requires
with_column-requires c = found_in_store _ _ c.named.ensures

pub returns : goal.returns
unfolding row_meets
returns c = (
  columned_is_totalled _ _ c.named.ensures (bytes_meet c.args.bytes.now) _ c.totals.ensures c.with_column.ensures.0,
  subst (λ (edition : Said (Option ℕ)). ColumnPlaced c.args.store.now edition c.with_column.result) c.named.ensures c.with_column.ensures.1,
)

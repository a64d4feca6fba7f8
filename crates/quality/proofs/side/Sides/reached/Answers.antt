-- Where V is 0 the side reaches 10,000, else the entry at the row.
use Rattle.std.proofs.Common.{ℕ, sym, ap, ◌∙◌, arith, pos}
use mathlib.Core.Path.{subst⁻¹}
use native.Mathlib.Nat.{le_refl}
use borrow.Author.Tests.{lt-ltb, le-ltb}
use mir.Facts.{to_z-of_z}
use Rattle.rules.specs.Table.{entry, column_in}
use Rattle.laws.specs.InPercent.{InPercent}
use Rattle.laws.proofs.Bounds.{spread_in_bounds}
use Rattle.laws.proofs.Table.{entry_at_most}
use Rattle.laws.proofs.Side.{number_in_percent, reached_entry, reached_whole}
use Rattle.laws.proofs.RowsTried.{tried_where_spread, none_without_spread}
use Rattle.quality.proofs.side.Sides.reached.Goals as goal

pub returns-then-self-eq0 : goal.returns-then-self-eq0
returns-then-self-eq0 c =
    let s = c.args.self.now in
    let none = le-ltb 0 s.v (omega arith) in (
      sym (ap pos (reached_whole _ (column_in s.column.now) s.totals.n (pos s.v) c.args.d none)),
      number_in_percent 10000 (le_refl 10000),
      sym (none_without_spread s.totals.n (pos s.v) c.args.d none),
    )

pub row-row-requires : goal.row-row-requires
row-row-requires c =
    let f = c.ranges.d in
    let s = c.args.self.now in
    simp to_z-of_z (spread_in_bounds s.bounded s.spread_is, c.requires)

pub returns : goal.returns
returns c =
    let f = c.ranges.d in
    let s = c.args.self.now in
    let found = simp to_z-of_z at c.row-row.ensures in
    let some = lt-ltb 0 s.v (omega arith) in (
      c.entry.ensures
          ∙ ap (λ (k : ℕ). pos (entry (column_in s.column.now) k)) found.0
          ∙ sym (ap pos (reached_entry _ (column_in s.column.now) s.totals.n (pos s.v) c.args.d some)),
      subst⁻¹ InPercent c.entry.ensures (number_in_percent _ (entry_at_most s.shape.shape c.row-row.ensures.1)),
      found.2 ∙ sym (tried_where_spread s.totals.n (pos s.v) c.args.d some),
    )

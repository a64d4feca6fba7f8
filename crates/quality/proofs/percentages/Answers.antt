-- The column is the part of the store that starts at its place, and the percentages are by it.
use Rattle.std.proofs.Common.{◌≡◌, ℕ, ◌+◌, ◌-◌, List, take, drop, ap, ◌∙◌, arith}
use mathlib.Core.Path.{subst⁻¹}
use Rattle.rules.specs.Table.{column_in}
use Rattle.rules.specs.Percent.{nearest}
use Rattle.rules.specs.Edition.{column_size}
use Rattle.rules.specs.Entries.{percentages_of}
use Rattle.laws.specs.ColumnIn.{ColumnIn}
use Rattle.laws.proofs.ColumnIn.{column_in_part, column_part}
use Rattle.quality.proofs.percentages.Goals as goal

-- Between its place and 108 bytes on there are 108 bytes.
the_part : (s : List ℕ) (at : ℕ) → take ((at + 108) - at) (drop at s) ≡ take column_size (drop at s)
the_part s at =
    let size : (at + 108) - at ≡ column_size = omega arith in
    ap (λ (k : ℕ). take k (drop at s)) size

pub by_column-requires : goal.by_column-requires
by_column-requires c =
    (subst⁻¹ ColumnIn (the_part c.args.store.now c.args.lot.column) (column_part _ _ c.requires.3 c.requires.4), c.requires.0, c.requires.1, c.requires.2)

pub returns : goal.returns
returns c =
    let same = ap column_in (the_part c.args.store.now c.args.lot.column) ∙ column_in_part c.args.store.now c.args.lot.column in
    c.by_column.ensures ∙ ap (λ (column : List ℕ). percentages_of nearest column c.args.lot.totals c.args.limits.upper c.args.limits.lower) same

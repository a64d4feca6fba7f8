-- The rows tried for a side are those of document 02's rule, for any readings and any limit: the row of the halving is the nearest to the index.
use mathlib.Core.Path.{refl, ap, ◌∙◌}
use mathlib.Core.List.{List}
use Prim.Native.Nat.{ℕ, ◌≤◌}
use lib.IntN.{ℤ, pos}
use lib.ListN.{get_or, length}
use lib.Signed.{lt_z}
use Rattle.std.specs.Prelude.{Some, None}
use Rattle.integers.proofs.Order.{<ℤ→≤ℤ, lt_lt_z}
use Rattle.rules.specs.Units.{Limit}
use Rattle.rules.specs.Percent.{totals, spread}
use Rattle.rules.specs.Halving.{rows_tried, upper_tried, lower_tried}
use Rattle.laws.specs.Ratio.{Ratio, Is}
use Rattle.laws.specs.Tried.{tries_by_row, TriedByRule, UpperTriedByRule, LowerTriedByRule}
use Rattle.laws.proofs.Spread.{spread_zero_exactly_when_equal, spread_above_exactly_when_unequal}
use Rattle.laws.proofs.PublishedIndex.{upper_beyond_is, lower_beyond_is}
use Rattle.laws.proofs.PublishedRow.{row_is_nearest}
use Rattle.laws.proofs.RowsTried.{handheld_tries_five_or_six, tries_go_by_the_row, tried_where_spread, none_without_spread, tried_at_most_six}

-- of a limit that lies D/n beyond the mean
module _ (xs : List ℤ) (beyond : Ratio) (d : ℤ) (is : Is beyond d (length xs)) where
  abbrev n : ℕ
  n = length xs

  abbrev v : ℤ
  v = spread (totals (length xs) xs)

  tried_by_rule : TriedByRule beyond xs (rows_tried n v d)
  tried_by_rule =
      record {
        none_if_equal = λ equal. none_without_spread n v d (ap (lt_z (pos 0)) ((spread_zero_exactly_when_equal xs).1 equal));
        at_least_five =
            λ unequal.
            let above = (spread_above_exactly_when_unequal xs).1 unequal in
            rw (tried_where_spread n v d (lt_lt_z above)) (handheld_tries_five_or_six n v d).0;
        at_most_six = tried_at_most_six n v d;
        by_the_row =
            λ unequal k near.
            let above = (spread_above_exactly_when_unequal xs).1 unequal in
            tried_where_spread n v d (lt_lt_z above)
            ∙ tries_go_by_the_row n v d (<ℤ→≤ℤ above)
            ∙ ap (λ (row : ℕ). get_or tries_by_row row 0) ((row_is_nearest xs above beyond d is k).1 near);
      }

module _ (xs : List ℤ) (some : 1 ≤ length xs) where
  pub upper_tried_by_rule : (upper : Limit) → UpperTriedByRule upper xs (upper_tried (totals (length xs) xs) upper)
  unfolding upper_tried
  upper_tried_by_rule None = refl
  upper_tried_by_rule (Some u) = tried_by_rule xs _ _ (upper_beyond_is xs some u.0)

  pub lower_tried_by_rule : (lower : Limit) → LowerTriedByRule lower xs (lower_tried (totals (length xs) xs) lower)
  unfolding lower_tried
  lower_tried_by_rule None = refl
  lower_tried_by_rule (Some l) = tried_by_rule xs _ _ (lower_beyond_is xs some l.0)

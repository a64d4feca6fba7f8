-- The handheld's lookup ends at the row of the definition, after 5 or 6 tries, and which of the two goes by the row alone.
use mathlib.Core.Path.{◌≡◌, refl, ap, ◌∙◌}
use mathlib.Core.Bool.{Bool, true, false}
use Prim.Native.Nat.{ℕ, ◌≤◌, zero-le}
use native.Mathlib.Omega.{arith}
use borrow.Author.Tests.{leb-true, leb-false}
use lib.Dec.{T, leb, eqb, eqb→eq}
use lib.IntN.{ℤ, pos}
use lib.ListN.{get_or}
use lib.Signed.{◌≤ℤ◌, lt_z}
use Rattle.std.specs.Prelude.{Some, None}
use Rattle.rules.specs.declared.Totals.{Totals}
use Rattle.rules.specs.Units.{Limit}
use Rattle.rules.specs.Table.{last_row}
use Rattle.rules.specs.Edition.{each}
use Rattle.rules.specs.Percent.{admits, nearest}
use Rattle.rules.specs.Halving.{Halving, halved, all_rows, handheld, rows_tried, upper_tried, lower_tried}
use Rattle.laws.specs.Tried.{tries_by_row}
use Rattle.laws.proofs.Each.{each_at}
use Rattle.laws.proofs.Largest.{largest_passes, none_above}
use Rattle.laws.proofs.Row.{first_admitted, admits_below, row_at_most}
use Rattle.laws.proofs.Halving.{Enough, ends_meet, ends_at_largest, tries_at_most, tries_at_least, same_tests_halve_alike}

enough : Enough last_row all_rows
enough = (omega arith, omega arith)

module _ (n : ℕ) (v d : ℤ) where
  pub handheld_ends_meet : (handheld n v d).low ≡ (handheld n v d).high
  unfolding handheld
  handheld_ends_meet = ends_meet (admits n v d) last_row all_rows enough

  -- For V of 0 or more its end is the row, the largest that is admitted.
  pub handheld_finds_the_row : pos 0 ≤ℤ v → (handheld n v d).low ≡ nearest n v d
  unfolding handheld nearest
  handheld_finds_the_row h =
      ends_at_largest (admits n v d) (admits_below n v d h) last_row last_row all_rows enough (omega arith) (first_admitted n v d) (λ less. absurd (omega arith))

  -- There are 54 rows, not fewer than 2⁵ and not more than 2⁶.
  pub handheld_tries_five_or_six : (5 ≤ (handheld n v d).tried) × ((handheld n v d).tried ≤ 6)
  unfolding handheld
  handheld_tries_five_or_six = (
    tries_at_least (admits n v d) last_row all_rows enough 5 (omega arith),
    tries_at_most (admits n v d) last_row all_rows enough 6 (omega arith),
  )

-- ---- by the row

-- For V of 0 or more the rows up to the row are admitted, and no others of the table.
admits_up_to_the_row : (n : ℕ) (v d : ℤ) → pos 0 ≤ℤ v → (k : ℕ) → k ≤ last_row → admits n v d k ≡ leb k (nearest n v d)
unfolding nearest
admits_up_to_the_row n v d h k top = by (leb k (nearest n v d)) refl
  where
    by : (b : Bool) → leb k (nearest n v d) ≡ b → admits n v d k ≡ b
    by true e = admits_below n v d h k (nearest n v d) (leb-true _ _ e) (largest_passes (admits n v d) (first_admitted n v d) last_row)
    by false e = none_above (admits n v d) last_row k (leb-false _ _ e) top

-- the tries for a row, which is the largest that is admitted
abbrev tries_for : ℕ → ℕ
tries_for row = (halved (λ (k : ℕ). leb k row) last_row all_rows).tried

-- The list has them, row by row.
listed : T (each (λ (row : ℕ). eqb (tries_for row) (get_or tries_by_row row 0)) 54 0)
unfolding halved
listed = tt

-- How many rows are tried goes by the row that is found.
pub tries_go_by_the_row : (n : ℕ) (v d : ℤ) → pos 0 ≤ℤ v → (handheld n v d).tried ≡ get_or tries_by_row (nearest n v d) 0
unfolding handheld
tries_go_by_the_row n v d h =
    ap (λ (e : Halving). e.tried) (same_tests_halve_alike (admits n v d) (λ (k : ℕ). leb k (nearest n v d)) last_row (admits_up_to_the_row n v d h) last_row all_rows enough (omega arith))
    ∙ eqb→eq (tries_for (nearest n v d)) (get_or tries_by_row (nearest n v d) 0) (each_at (λ (row : ℕ). eqb (tries_for row) (get_or tries_by_row row 0)) 54 0 listed (nearest n v d) zero-le (omega (arith, row_at_most n v d)))

-- ---- for a side

module _ (n : ℕ) (v d : ℤ) where
  pub tried_where_spread : lt_z (pos 0) v ≡ true → rows_tried n v d ≡ (handheld n v d).tried
  unfolding rows_tried
  tried_where_spread e = rw e

  pub none_without_spread : lt_z (pos 0) v ≡ false → rows_tried n v d ≡ 0
  unfolding rows_tried
  none_without_spread e = rw e

  pub tried_at_most_six : rows_tried n v d ≤ 6
  tried_at_most_six = by (lt_z (pos 0) v) refl
    where
      by : (b : Bool) → lt_z (pos 0) v ≡ b → rows_tried n v d ≤ 6
      by true e = rw (tried_where_spread e) (handheld_tries_five_or_six n v d).1
      by false e = rw (none_without_spread e) zero-le

module _ (a : Totals) where
  pub upper_tried_at_most_six : (upper : Limit) → upper_tried a upper ≤ 6
  unfolding upper_tried
  upper_tried_at_most_six None = zero-le
  upper_tried_at_most_six (Some u) = tried_at_most_six a.n _ _

  pub lower_tried_at_most_six : (lower : Limit) → lower_tried a lower ≤ 6
  unfolding lower_tried
  lower_tried_at_most_six None = zero-le
  lower_tried_at_most_six (Some l) = tried_at_most_six a.n _ _

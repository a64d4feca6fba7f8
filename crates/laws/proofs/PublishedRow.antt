-- The row of document 01's squared rule is the row of the table that is nearest the magnitude of the published index, for any readings not all equal.
use mathlib.Core.Path.{◌≡◌, refl}
use mathlib.Core.Logic.{⊎_elim, ◌↔◌}
use mathlib.Core.List.{List}
use Prim.Native.Nat.{ℕ, ◌-◌, ◌*◌, ◌≤◌}
use native.Mathlib.Omega.{arith}
use lib.IntN.{ℤ, pos, nat_abs, ◌*ℤ◌}
use lib.ListN.{length}
use lib.Signed.{◌<ℤ◌}
use Rattle.integers.proofs.Difference.{le_read, lt_read}
use Rattle.integers.proofs.Order.{<ℤ→≤ℤ}
use Rattle.integers.proofs.Magnitude.{nat_abs_pos}
use Rattle.integers.proofs.Square.{square, square_nat}
use Rattle.rules.specs.declared.Totals.{Totals}
use Rattle.rules.specs.Percent.{totals, spread, upper_distance, lower_distance, nearest}
use Rattle.laws.specs.Ratio.{Ratio, Is}
use Rattle.laws.specs.Root.{Root, magnitude}
use Rattle.laws.specs.PublishedIndex.{upper_beyond, lower_beyond, published_index}
use Rattle.laws.specs.AllEqual.{AllEqual}
use Rattle.laws.specs.NearestRow.{BetweenMidpoints, NearestRow}
use Rattle.laws.proofs.Root.{midpoint_up_to, midpoint_above}
use Rattle.laws.proofs.PublishedIndex.{upper_beyond_is, lower_beyond_is, index_squared_is}
use Rattle.laws.proofs.Spread.{spread_above_exactly_when_unequal, spread_needs_two}
use Rattle.laws.proofs.Row.{Encloses, row_exactly_when_enclosing}
use Rattle.laws.proofs.NearestRow.{enclosing_is_nearest, nearest_determined}

-- ---- the row

-- Of a limit that lies D/n beyond the mean, for V above 0; there are two readings at the least then.
module _ (xs : List ℤ) (above : pos 0 <ℤ spread (totals (length xs) xs)) (beyond : Ratio) (d : ℤ) (is : Is beyond d (length xs)) where
  abbrev n : ℕ
  n = length xs

  abbrev v : ℤ
  v = spread (totals (length xs) xs)

  abbrev q : Root
  q = magnitude (published_index beyond xs)

  -- with D² and V as natural numbers
  squared : Is q.square (pos (nat_abs d * nat_abs d) *ℤ pos (n - 1)) (n * nat_abs v)
  unfolding square
  squared = rw (square_nat d) at (index_squared_is xs above beyond d is)

  encloses : (k : ℕ) → nearest n v d ≡ k → Encloses n (pos (nat_abs v)) d k
  encloses k e = rw (nat_abs_pos (<ℤ→≤ℤ above)) ((row_exactly_when_enclosing n v d (<ℤ→≤ℤ above) k).0 e)

  pub row_is_between_midpoints : (k : ℕ) → nearest n v d ≡ k → BetweenMidpoints q k
  unfolding square
  row_is_between_midpoints k e =
      let here = encloses k e in
      record {
        in_table = here.row;
        from_below = midpoint_up_to squared 40 k (λ some. ⊎_elim (λ z. absurd (omega arith)) (λ low. omega (arith, le_read (rw (square_nat d) at low))) here.from_below);
        before_above = λ low. midpoint_above squared 40 k (omega (arith, lt_read (rw (square_nat d) at (here.before_above low))));
      }

  -- Row k is the row of the rule exactly when it is the nearest.
  pub row_is_nearest : (k : ℕ) → (nearest n v d ≡ k) ↔ NearestRow q k
  row_is_nearest k = (
    found k,
    λ h. nearest_determined (found (nearest n v d) refl) h,
  )
    where
      found : (k : ℕ) → nearest n v d ≡ k → NearestRow q k
      found k e = enclosing_is_nearest q squared.proper k (row_is_between_midpoints k e)

-- ---- of an upper and of a lower limit, for any readings not all equal

module _ (xs : List ℤ) (unequal : AllEqual xs → ⊥) where
  abbrev a : Totals
  a = totals (length xs) xs

  spread_above : pos 0 <ℤ spread a
  spread_above = (spread_above_exactly_when_unequal xs).1 unequal

  some : 1 ≤ length xs
  some = omega (arith, spread_needs_two xs spread_above)

  pub upper_row_is_between_midpoints : (u : ℤ) → BetweenMidpoints (magnitude (published_index (upper_beyond u xs) xs)) (nearest a.n (spread a) (upper_distance a u))
  upper_row_is_between_midpoints u = row_is_between_midpoints xs spread_above (upper_beyond u xs) (upper_distance a u) (upper_beyond_is xs some u) _ refl

  pub lower_row_is_between_midpoints : (l : ℤ) → BetweenMidpoints (magnitude (published_index (lower_beyond l xs) xs)) (nearest a.n (spread a) (lower_distance a l))
  lower_row_is_between_midpoints l = row_is_between_midpoints xs spread_above (lower_beyond l xs) (lower_distance a l) (lower_beyond_is xs some l) _ refl

  pub upper_row_is_nearest : (u : ℤ) (k : ℕ) → (nearest a.n (spread a) (upper_distance a u) ≡ k) ↔ NearestRow (magnitude (published_index (upper_beyond u xs) xs)) k
  upper_row_is_nearest u = row_is_nearest xs spread_above (upper_beyond u xs) (upper_distance a u) (upper_beyond_is xs some u)

  pub lower_row_is_nearest : (l : ℤ) (k : ℕ) → (nearest a.n (spread a) (lower_distance a l) ≡ k) ↔ NearestRow (magnitude (published_index (lower_beyond l xs) xs)) k
  lower_row_is_nearest l = row_is_nearest xs spread_above (lower_beyond l xs) (lower_distance a l) (lower_beyond_is xs some l)

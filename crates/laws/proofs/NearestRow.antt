-- A row whose midpoints enclose an index is the nearest by distance, a tie going to the greater row; and no second row is nearest.
use mathlib.Core.Path.{◌≡◌, subst}
use Prim.Native.Nat.{ℕ, ◌+◌, ◌*◌, ◌≤◌, ◌<◌}
use native.Mathlib.Nat.{mul-le-mul_right}
use native.Mathlib.Decide.{dec_lt, dec_le}
use native.Mathlib.Omega.{arith}
use lib.IntN.{pos, ◌-ℤ◌}
use Rattle.integers.proofs.Difference.{var, nat, diff_le, le_diff, lt_diff, ◌⊕◌, ◌⊖◌, ◌⊗◌}
use Rattle.rules.specs.Table.{last_row}
use Rattle.laws.specs.Ratio.{Ratio, ratio, plus, minus, AtMost, Less}
use Rattle.laws.specs.Root.{Root}
use Rattle.laws.specs.NearestRow.{row_index, BetweenMidpoints, Within, AsNear, NearestRow}
use Rattle.laws.proofs.Root.{up_to_trans, root_up_to_trans, across_root, across_below, below_up_to}

abbrev below : ℕ → Ratio
below k = ratio (pos (2 * k) -ℤ pos 1) 40

abbrev above : ℕ → Ratio
above k = ratio (pos (2 * k + 1)) 40

-- ---- between rows, at a distance d

module _ (d : Ratio) {j k : ℕ} where
  -- If j ≤ k, then j/20 − d ≤ k/20 − d and j/20 + d ≤ k/20 + d.
  less_keeps : j ≤ k → AtMost (minus (row_index j) d) (minus (row_index k) d)
  less_keeps low =
      record {
        order =
            diff_le ((nat (j * d.under) ⊖ var d.top ⊗ nat _) ⊗ nat _) ((nat (k * d.under) ⊖ var d.top ⊗ nat _) ⊗ nat _)
            (omega (arith, mul-le-mul_right (20 * d.under) (mul-le-mul_right d.under low)));
      }

  more_keeps : j ≤ k → AtMost (plus (row_index j) d) (plus (row_index k) d)
  more_keeps low =
      record {
        order =
            diff_le ((nat (j * d.under) ⊕ var d.top ⊗ nat _) ⊗ nat _) ((nat (k * d.under) ⊕ var d.top ⊗ nat _) ⊗ nat _)
            (omega (arith, mul-le-mul_right (20 * d.under) (mul-le-mul_right d.under low)));
      }

  -- For j < k: if going up by d from row j's index reaches the midpoint below k, then going down by d from row k's does.
  from_lower : j < k → AtMost (below k) (plus (row_index j) d) → AtMost (minus (row_index k) d) (below k)
  from_lower low h =
      record {
        order =
            diff_le ((nat (k * d.under) ⊖ var d.top ⊗ nat _) ⊗ nat 40) ((nat (2 * k) ⊖ nat 1) ⊗ nat _)
            (omega (
              arith,
              mul-le-mul_right d.under low,
              le_diff ((nat (2 * k) ⊖ nat 1) ⊗ nat _) ((nat (j * d.under) ⊕ var d.top ⊗ nat _) ⊗ nat 40) h.order,
            ));
      }

  -- For j < k: if going down by d from row k's index passes the midpoint above j, then going up by d from row j's reaches it.
  from_higher : j < k → Less (minus (row_index k) d) (above j) → AtMost (above j) (plus (row_index j) d)
  from_higher low h =
      record {
        order =
            diff_le (nat (2 * j + 1) ⊗ nat _) ((nat (j * d.under) ⊕ var d.top ⊗ nat _) ⊗ nat 40)
            (omega (
              arith,
              mul-le-mul_right d.under low,
              lt_diff ((nat (k * d.under) ⊖ var d.top ⊗ nat _) ⊗ nat 40) (nat (2 * j + 1) ⊗ nat _) h.order,
            ));
      }

-- ---- the row

module _ (q : Root) (some : 1 ≤ q.square.under) (k : ℕ) (e : BetweenMidpoints q k) where
  as_near : (j : ℕ) → j ≤ last_row → AsNear q k j
  as_near j table d proper w =
      elim (dec_lt j k) [
        | yes low ↦ (
          up_to_trans (omega arith) (from_lower d low (across_root some e.from_below w.1)) e.from_below,
          root_up_to_trans (omega arith) w.1 (more_keeps d (omega arith)),
        )
        | no not_lower ↦
            elim (dec_lt k j) [
              | yes high ↦
                  let past = e.before_above (omega arith) in (
                    up_to_trans (omega arith) (less_keeps d (omega arith)) w.0,
                    root_up_to_trans (omega arith) (below_up_to past) (from_higher d high (across_below (omega arith) w.0 past)),
                  )
              | no not_higher ↦ subst (Within d q) (omega arith) w
            ]
      ]

  -- A row above k is not as near: the index lies within 1/40 of row k's, and not within 1/40 of that row's.
  not_greater : (j : ℕ) → j ≤ last_row → AsNear q j k → j ≤ k
  not_greater j table near =
      elim (dec_le j k) [
        | yes h ↦ h
        | no h ↦
            let past = e.before_above (omega arith) in
            let half : Ratio = ratio (pos 1) 40 in
            let low : AtMost (minus (row_index k) half) (below k) = record { order = diff_le ((nat (k * 40) ⊖ nat 20) ⊗ nat 40) ((nat (2 * k) ⊖ nat 1) ⊗ nat 800) (omega arith) } in
            let high : AtMost (above k) (plus (row_index k) half) = record { order = diff_le (nat _) (nat _) (omega arith) } in
            let w = near half (omega arith) (up_to_trans (omega arith) low e.from_below, root_up_to_trans (omega arith) (below_up_to past) high) in
            let clash = lt_diff ((nat (j * 40) ⊖ nat 20) ⊗ nat 40) (nat ((2 * k + 1) * 800)) (across_below (omega arith) w.0 past).order in
            absurd (omega arith)
      ]

  pub enclosing_is_nearest : NearestRow q k
  enclosing_is_nearest = record { in_table = e.in_table; none_nearer = as_near; none_greater = not_greater }

-- No two rows are nearest: each is as near as the other, so that neither is greater.
pub nearest_determined : {q : Root} {j k : ℕ} → NearestRow q j → NearestRow q k → j ≡ k
nearest_determined {j} {k} h i =
    let low = i.none_greater j h.in_table (h.none_nearer k i.in_table) in
    let high = h.none_greater k i.in_table (i.none_nearer j h.in_table) in
    omega arith

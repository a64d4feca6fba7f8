-- A side's percentage never falls as its distance grows; and where two distances add up to 0 or more, their sides add up to 100 percent or more.
-- Both hold by any rule for rows that is a `RowRule` and any column that is a `Column`.
use mathlib.Core.Path.{◌≡◌, refl}
use mathlib.Core.Bool.{Bool, true, false}
use mathlib.Core.List.{List}
use mathlib.Core.Logic.{⊎_elim}
use Prim.Native.Nat.{ℕ, ◌≤◌, zero-le}
use native.Mathlib.Nat.{le_refl}
use native.Mathlib.Omega.{arith}
use lib.IntN.{ℤ, pos, neg_ℤ, ◌+ℤ◌, ◌-ℤ◌, +ℤ_comm}
use lib.Signed.{◌≤ℤ◌, ◌<ℤ◌, lt_z}
use Rattle.integers.proofs.Difference.{var, nat, diff_le, le_diff, ⊝◌, ◌⊕◌, ◌⊖◌}
use Rattle.integers.proofs.Order.{≤ℤ_trans, ≤ℤ_total, <ℤ→≤ℤ, neg_flips, pos_mono, le_le_z, lt_le_z, lt_z_true}
use Rattle.rules.specs.Units.{hundred_percent}
use Rattle.rules.specs.Percent.{Rule, side}
use Rattle.laws.specs.Column.{Column}
use Rattle.laws.specs.RowRule.{RowRule}
use Rattle.laws.specs.Reached.{reached}
use Rattle.laws.proofs.Side.{reached_entry, reached_whole, side_inside, side_outside}

module _ (rule : Rule) (column : List ℕ) (n : ℕ) (rows : RowRule rule n) (shape : Column column) (v : ℤ) where
  -- the percentage reached at a distance, whichever way it points
  abbrev at : ℤ → ℕ
  at d = reached rule column n v d

  abbrev percentage : ℤ → ℤ
  percentage d = side rule column n v d

  -- It is half or more,
  half : (d : ℤ) → 5000 ≤ at d
  half d = by (lt_z (pos 0) v) refl
    where
      by : (b : Bool) → lt_z (pos 0) v ≡ b → 5000 ≤ at d
      by true e =
          rw (reached_entry rule column n v d e)
          (omega (arith, shape.starts, shape.never_falls 0 (rule n v d) zero-le (rows.in_table v d (lt_z_true _ _ e))))
      by false e = omega (arith, reached_whole rule column n v d e)

  -- and grows with the row.
  grows : (d e : ℤ) → (pos 0 <ℤ v → rule n v d ≤ rule n v e) → at d ≤ at e
  grows d e h = by (lt_z (pos 0) v) refl
    where
      by : (b : Bool) → lt_z (pos 0) v ≡ b → at d ≤ at e
      by true t =
          let above : pos 0 <ℤ v = lt_z_true _ _ t in
          rw (reached_entry rule column n v d t, reached_entry rule column n v e t)
          (shape.never_falls (rule n v d) (rule n v e) (h above) (rows.in_table v e above))
      by false t = rw (reached_whole rule column n v d t, reached_whole rule column n v e t) (le_refl 10000)

  inside : (d : ℤ) → pos 0 ≤ℤ d → percentage d ≡ pos (at d)
  inside d h = side_inside rule column n v d (le_le_z h)

  outside : (d : ℤ) → d <ℤ pos 0 → percentage d ≡ hundred_percent -ℤ pos (at d)
  outside d h = side_outside rule column n v d (lt_le_z h)

  pub side_never_falls : (d e : ℤ) → d ≤ℤ e → side rule column n v d ≤ℤ side rule column n v e
  side_never_falls d e h = ⊎_elim from_inside from_outside (≤ℤ_total (pos 0) d)
    where
      from_inside : pos 0 ≤ℤ d → percentage d ≤ℤ percentage e
      from_inside i = rw (inside d i, inside e (≤ℤ_trans i h)) (pos_mono (grows d e (λ above. rows.grows_inside v d e above i h)))

      from_outside : d <ℤ pos 0 → percentage d ≤ℤ percentage e
      from_outside o =
          ⊎_elim
          (λ i. rw (outside d o, inside e i) (diff_le (nat 10000 ⊖ nat (at d)) (nat (at e)) (omega (arith, half d, half e))))
          (λ p. rw (outside d o, outside e p) (diff_le (nat 10000 ⊖ nat (at d)) (nat 10000 ⊖ nat (at e)) (omega (arith, grows e d (λ above. rows.grows_outside v d e above p h)))))
          (≤ℤ_total (pos 0) e)

  -- If d is outside the limit and d + e is 0 or more, then e is at least as far inside, and the two sides come to 100 percent or more.
  one_outside : (d e : ℤ) → d <ℤ pos 0 → pos 0 ≤ℤ (d +ℤ e) → hundred_percent ≤ℤ (percentage d +ℤ percentage e)
  one_outside d e o h =
      let opposite : pos 0 ≤ℤ neg_ℤ d = neg_flips (<ℤ→≤ℤ o) in
      let farther : neg_ℤ d ≤ℤ e = diff_le (⊝ var d) (var e) (omega (arith, le_diff (nat 0) (var d ⊕ var e) h)) in
      let as_far : at d ≤ at (neg_ℤ d) = grows d (neg_ℤ d) (λ above. rows.outside_not_above v d above o) in
      let more : at (neg_ℤ d) ≤ at e = grows (neg_ℤ d) e (λ above. rows.grows_inside v (neg_ℤ d) e above opposite farther) in
      rw (outside d o, inside e (≤ℤ_trans opposite farther))
      (diff_le (nat 10000) (nat 10000 ⊖ nat (at d) ⊕ nat (at e)) (omega arith))

  pub sides_cover : (d e : ℤ) → pos 0 ≤ℤ (d +ℤ e) → hundred_percent ≤ℤ (side rule column n v d +ℤ side rule column n v e)
  sides_cover d e h = ⊎_elim first_inside (λ o. one_outside d e o h) (≤ℤ_total (pos 0) d)
    where
      first_inside : pos 0 ≤ℤ d → hundred_percent ≤ℤ (percentage d +ℤ percentage e)
      first_inside i =
          ⊎_elim
          (λ j. rw (inside d i, inside e j) (diff_le (nat 10000) (nat (at d) ⊕ nat (at e)) (omega (arith, half d, half e))))
          (λ o. rw (+ℤ_comm (percentage d) (percentage e)) (one_outside e d o (rw (+ℤ_comm d e) at h)))
          (≤ℤ_total (pos 0) e)

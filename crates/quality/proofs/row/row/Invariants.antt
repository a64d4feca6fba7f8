-- The halving goes on from here, with 53 tries less those that were made, and ends as the whole does.
use Rattle.std.proofs.Common.{◌≡◌, ℕ, ◌+◌, ◌-◌, ◌≤◌, ℤ, pos}
use Rattle.rules.specs.Table.{last_row}
use Rattle.rules.specs.Percent.{admits}
use Rattle.rules.specs.Halving.{Halving, halved, handheld}
use Rattle.quality.proofs.row.row.Given as goal

abbrev pub GoesOn : ℕ → ℕ → ℤ → Halving → Type 0
GoesOn n v d h =
    (h.low ≤ h.high) ×
    (h.high ≤ last_row) ×
    (h.high + h.tried ≤ last_row + h.low) ×
    (halved (admits n (pos v) d) (last_row - h.tried) h ≡ handheld n (pos v) d)

abbrev pub invariant-loop-low : goal.invariant-loop-low
invariant-loop-low l = GoesOn l.n l.v l.d (record { low = l.low; high = l.high; tried = l.tried })

abbrev pub decreases-loop-low : goal.decreases-loop-low
decreases-loop-low l = l.high - l.low

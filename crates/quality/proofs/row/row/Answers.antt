-- The loop is the handheld's halving: what is still to be tried ends as the whole does. Where that ends is a law.
use Rattle.std.proofs.Common.{◌≡◌, ℕ, suc, ◌+◌, ◌-◌, ◌<◌, ◌≤◌, true, false, refl, sym, ap, ◌∙◌, arith, rules, ℤ, pos}
use Prim.Native.Nat.{zero-le}
use mir.Facts.{to_z-of_z}
use Rattle.integers.proofs.Order.{pos_mono}
use Rattle.rules.specs.Table.{last_row}
use Rattle.rules.specs.Percent.{admits}
use Rattle.rules.specs.Halving.{Halving, middle, raised, lowered, halved, handheld}
use Rattle.laws.proofs.Halving.{goes_up, goes_down, met_ends_stay}
use Rattle.laws.proofs.RowsTried.{handheld_finds_the_row}
use Rattle.quality.proofs.row.row.Invariants.{GoesOn}
use Rattle.quality.proofs.row.row.Goals as goal

module _ (n v : ℕ) (d : ℤ) (h : Halving) (apart : h.low < h.high) (on : GoesOn n v d h) where
  left : last_row - h.tried ≡ suc (last_row - (h.tried + 1))
  left = omega arith

  admitted : admits n (pos v) d (middle h) ≡ true → GoesOn n v d (raised h)
  admitted e = (
    omega arith,
    omega arith,
    omega arith,
    sym (goes_up (admits n (pos v) d) (last_row - (h.tried + 1)) h apart e) ∙ ap (λ (tries : ℕ). halved (admits n (pos v) d) tries h) (sym left) ∙ on.3,
  )

  not_admitted : admits n (pos v) d (middle h) ≡ false → GoesOn n v d (lowered h)
  not_admitted e = (
    omega arith,
    omega arith,
    omega arith,
    sym (goes_down (admits n (pos v) d) (last_row - (h.tried + 1)) h apart e) ∙ ap (λ (tries : ℕ). halved (admits n (pos v) d) tries h) (sym left) ∙ on.3,
  )

-- Where the ends have met, it is over.
over : (n v : ℕ) (d : ℤ) (h : Halving) → h.high ≤ h.low → GoesOn n v d h → h ≡ handheld n (pos v) d
over n v d h met on =
    let same : h.low ≡ h.high = omega arith in
    sym (met_ends_stay (admits n (pos v) d) (last_row - h.tried) h same) ∙ on.3

pub loop-low-init : goal.loop-low-init
unfolding handheld
loop-low-init c = (omega arith, omega arith, omega arith, refl)

pub loop-low-preserved-then-admits : goal.loop-low-preserved-then-admits
loop-low-preserved-then-admits c =
    let f = c.ranges.d in
    let h : Halving = record { low = c.loop-low.low; high = c.loop-low.high; tried = c.loop-low.tried } in
    let on : GoesOn c.args.n c.args.v c.args.d h = simp to_z-of_z at c.loop-low.invariant in
    simp to_z-of_z (admitted c.args.n c.args.v c.args.d h c.loop-low-test.true on (search rules))

pub loop-low-preserved : goal.loop-low-preserved
loop-low-preserved c =
    let f = c.ranges.d in
    let h : Halving = record { low = c.loop-low.low; high = c.loop-low.high; tried = c.loop-low.tried } in
    let on : GoesOn c.args.n c.args.v c.args.d h = simp to_z-of_z at c.loop-low.invariant in
    simp to_z-of_z (not_admitted c.args.n c.args.v c.args.d h c.loop-low-test.true on (search rules))

pub returns : goal.returns
returns c =
    let f = c.ranges.d in
    let h : Halving = record { low = c.loop-low.low; high = c.loop-low.high; tried = c.loop-low.tried } in
    let on : GoesOn c.args.n c.args.v c.args.d h = simp to_z-of_z at c.loop-low.invariant in
    let end = over c.args.n c.args.v c.args.d h c.loop-low-test.false on in
    (ap (λ (h : Halving). h.low) end ∙ handheld_finds_the_row c.args.n (pos c.args.v) c.args.d (pos_mono zero-le), omega arith, ap (λ (h : Halving). h.tried) end)

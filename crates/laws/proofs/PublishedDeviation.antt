-- The deviation that is answered is the whole thousandth nearest the published one, a half going up.
use mathlib.Core.Path.{◌≡◌, sym}
use mathlib.Core.List.{List}
use Prim.Native.Nat.{ℕ, ◌-◌, ◌*◌, ◌≤◌}
use native.Mathlib.Omega.{arith}
use lib.Dec.{T}
use lib.IntN.{ℤ, pos, nat_abs}
use lib.ListN.{length}
use Rattle.integers.proofs.Magnitude.{nat_abs_pos}
use Rattle.rules.specs.Percent.{totals, spread}
use Rattle.rules.specs.Deviation.{is_deviation, deviation}
use Rattle.rules.specs.Entries.{deviation_of}
use Rattle.laws.specs.Ratio.{Is}
use Rattle.laws.specs.Root.{HalfUpRoot}
use Rattle.laws.specs.PublishedIndex.{published_deviation}
use Rattle.laws.proofs.Spread.{spread_never_negative}
use Rattle.laws.proofs.Deviation.{is_before_midpoint_above, is_from_midpoint_below, deviation_meets_both}
use Rattle.laws.proofs.Root.{midpoint_up_to, midpoint_above}
use Rattle.laws.proofs.PublishedIndex.{variance_is}

pub deviation_is_nearest : (xs : List ℤ) → 2 ≤ length xs → HalfUpRoot (published_deviation xs) (deviation_of (length xs) xs)
deviation_is_nearest xs some = rw (sym whole) (record { low = midpoint_up_to is 2 s (λ h. omega (arith, is_from_midpoint_below n w s h here)); high = midpoint_above is 2 s (omega (arith, is_before_midpoint_above n w s here)) })
  where
    n : ℕ
    n = length xs

    w : ℕ
    w = nat_abs (spread (totals (length xs) xs))

    whole : pos w ≡ spread (totals (length xs) xs)
    whole = nat_abs_pos (spread_never_negative xs)

    s : ℕ
    s = deviation n (pos w)

    here : T (is_deviation n (pos w) s)
    here = deviation_meets_both n w some

    is : Is (published_deviation xs).square (pos w) (n * (n - 1))
    is = rw whole (variance_is xs some)

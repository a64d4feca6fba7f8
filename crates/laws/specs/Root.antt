-- Numbers that need not be fractions, such as a deviation or an index: roots, each known by its signed square.
use Rattle.std.specs.Prelude.{◌*◌, ℤ, pos, nat_abs, ◌+ℤ◌, ◌-ℤ◌, ◌*ℤ◌, ◌<ℤ◌}
use Rattle.laws.specs.Ratio.{Ratio, ratio, quotient, AtMost, Less}

-- f·|f|, which has the sign of f
abbrev pub signed_square : Ratio → Ratio
signed_square f = ratio (f.top *ℤ pos (nat_abs f.top)) (f.under * f.under)

-- The number x for which x·|x| is this fraction; where that is 0 or more, its square root.
pub record Root : Type 0 where
  pub square : Ratio

abbrev pub root : Ratio → Root
root x = record { square = x }

-- A fraction and a root are compared by their signed squares. These keep the order of fractions: `squares_keep_≤` and `squares_keep_<`,
-- laws/proofs/Root.antt.

-- f ≤ x
pub record UpTo (f : Ratio) (x : Root) : Type 0 where
  pub squares : AtMost (signed_square f) x.square

-- x ≤ f
pub record RootUpTo (x : Root) (f : Ratio) : Type 0 where
  pub squares : AtMost x.square (signed_square f)

-- x < f
pub record RootBelow (x : Root) (f : Ratio) : Type 0 where
  pub squares : Less x.square (signed_square f)

abbrev pub BelowZero : Root → Type 0
BelowZero x = x.square.top <ℤ pos 0

-- |x|, whose square is x·|x| without its sign
abbrev pub magnitude : Root → Root
magnitude x = root (ratio (pos (nat_abs x.square.top)) x.square.under)

-- a fraction over a root that is above 0
abbrev pub over_root : Ratio → Root → Root
over_root f x = root (quotient (signed_square f) x.square)

-- The whole number nearest a root, a half going up: z − ½ ≤ x < z + ½.
pub record HalfUpRoot (x : Root) (z : ℤ) : Type 0 where
  pub low : UpTo (ratio (pos 2 *ℤ z -ℤ pos 1) 2) x
  pub high : RootBelow x (ratio (pos 2 *ℤ z +ℤ pos 1) 2)

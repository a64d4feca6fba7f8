-- Fractions, in which the papers' formulas are written a second time, nothing rounded: a whole number over a natural one, which is above 0
-- in every fraction that means anything.
use Rattle.std.specs.Prelude.{◌≡◌, ℕ, ◌*◌, ◌≤◌, ℤ, pos, nat_abs, ◌+ℤ◌, ◌-ℤ◌, ◌*ℤ◌, ◌≤ℤ◌, ◌<ℤ◌}

pub record Ratio : Type 0 where
  pub top : ℤ
  pub under : ℕ

abbrev pub ratio : ℤ → ℕ → Ratio
ratio z n = record { top = z; under = n }

abbrev pub whole : ℤ → Ratio
whole z = ratio z 1

-- ---- arithmetic

abbrev pub plus : Ratio → Ratio → Ratio
plus x y = ratio (x.top *ℤ pos y.under +ℤ y.top *ℤ pos x.under) (x.under * y.under)

abbrev pub minus : Ratio → Ratio → Ratio
minus x y = ratio (x.top *ℤ pos y.under -ℤ y.top *ℤ pos x.under) (x.under * y.under)

abbrev pub times : Ratio → Ratio → Ratio
times x y = ratio (x.top *ℤ y.top) (x.under * y.under)

-- x/n for a natural number n above 0, and x/y for a fraction y above 0
abbrev pub shared : Ratio → ℕ → Ratio
shared x n = ratio x.top (x.under * n)

abbrev pub quotient : Ratio → Ratio → Ratio
quotient x y = ratio (x.top *ℤ pos y.under) (x.under * nat_abs y.top)

-- ---- order

-- two fractions of one value
abbrev pub Same : Ratio → Ratio → Type 0
Same x y = x.top *ℤ pos y.under ≡ y.top *ℤ pos x.under

-- x has the value a/u, and neither x nor a/u has 0 under it.
pub record Is (x : Ratio) (a : ℤ) (u : ℕ) : Type 0 where
  pub proper : 1 ≤ x.under
  pub over : 1 ≤ u
  pub same : Same x (ratio a u)

pub record AtMost (x y : Ratio) : Type 0 where
  pub order : (x.top *ℤ pos y.under) ≤ℤ (y.top *ℤ pos x.under)

pub record Less (x y : Ratio) : Type 0 where
  pub order : (x.top *ℤ pos y.under) <ℤ (y.top *ℤ pos x.under)

-- z is the whole number nearest x, a half going up: z ≤ x + ½ and x < z + ½, each multiplied by twice the number under x.
pub record HalfUp (x : Ratio) (z : ℤ) : Type 0 where
  pub low : (pos 2 *ℤ z *ℤ pos x.under) ≤ℤ (pos 2 *ℤ x.top +ℤ pos x.under)
  pub high : (pos 2 *ℤ x.top) <ℤ (pos 2 *ℤ z *ℤ pos x.under +ℤ pos x.under)

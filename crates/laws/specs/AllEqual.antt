-- Readings that are all equal.
use Rattle.std.specs.Prelude.{◌≡◌, ℤ}
use mathlib.Core.List.{List, Memᴰ}

-- Any two readings are equal.
abbrev pub AllEqual : List ℤ → Type 0
AllEqual xs = (x y : ℤ) → Memᴰ x xs → Memᴰ y xs → x ≡ y

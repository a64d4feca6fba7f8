-- Mean, standard deviation and quality index as documents 003 and 004 print them, unrounded: of readings and limits in whole thousandths,
-- by the numbers of document 004's equations.
use Rattle.std.specs.Prelude.{List, [], ◌∷◌, map, ◌-◌, ℤ, pos, length}
use Rattle.laws.specs.Ratio.{Ratio, whole, plus, minus, times, shared}
use Rattle.laws.specs.Root.{Root, root, over_root}

-- Σ
unfoldable pub total : List Ratio → Ratio
total [] = whole (pos 0)
total (x ∷ xs) = plus x (total xs)

-- (1) x̄ = Σ x / n
unfoldable pub published_mean : List ℤ → Ratio
published_mean xs = shared (total (map whole xs)) (length xs)

-- (x − x̄)²
abbrev pub squared_off : Ratio → ℤ → Ratio
squared_off mean x = times (minus (whole x) mean) (minus (whole x) mean)

-- (2) S, the root of Σ (x − x̄)² / (n − 1)
unfoldable pub published_deviation : List ℤ → Root
published_deviation xs = root (shared (total (map (squared_off (published_mean xs)) xs)) (length xs - 1))

-- How far a limit lies beyond the mean: USL − x̄ and x̄ − LSL.
unfoldable pub upper_beyond : ℤ → List ℤ → Ratio
upper_beyond usl xs = minus (whole usl) (published_mean xs)

unfoldable pub lower_beyond : ℤ → List ℤ → Ratio
lower_beyond lsl xs = minus (published_mean xs) (whole lsl)

-- (3) and (4): Q is how far the limit lies beyond the mean, over S.
abbrev pub published_index : Ratio → List ℤ → Root
published_index beyond xs = over_root beyond (published_deviation xs)

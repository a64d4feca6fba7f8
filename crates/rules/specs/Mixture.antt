-- Document 01, "Limits by mixture": Table 1 of document 000, as pairs of a lower and an upper number.
use Rattle.std.specs.Prelude.{List, [], ◌∷◌, ℤ, pos, nat_abs, ◌+ℤ◌, ◌-ℤ◌, get_or}
use Rattle.rules.specs.declared.Thousandths.{Thousandths}
use Rattle.rules.specs.declared.Pair.{Pair}
use Rattle.rules.specs.declared.Characteristics.{Characteristics}
use Rattle.rules.specs.Units.{thousandths}

-- minimum − 700 and minimum + 3,000
abbrev pub vma_pair : ℤ → Pair ℤ
vma_pair minimum = record { lower = minimum -ℤ pos 700; upper = minimum +ℤ pos 3000 }

-- target − 1,350 and target + 1,350
abbrev pub voids_pair : ℤ → Pair ℤ
voids_pair target = record { lower = target -ℤ pos 1350; upper = target +ℤ pos 1350 }

-- by mixture number: 0 IL-4.75, 1 IL-19.0 and 25.0, 2 SMA, 3 all others
unfoldable pub density_pairs : List (Pair ℤ)
density_pairs =
    record { lower = pos 92500; upper = pos 97000 } ∷
    record { lower = pos 92200; upper = pos 97000 } ∷
    record { lower = pos 93000; upper = pos 98000 } ∷
    record { lower = pos 91500; upper = pos 97000 } ∷
    []

abbrev pub density_pair : ℤ → Pair ℤ
density_pair mixture = get_or density_pairs (nat_abs mixture) (record { lower = pos 0; upper = pos 0 })

abbrev pub limits : Pair ℤ → Pair Thousandths
limits p = record { lower = thousandths p.lower; upper = thousandths p.upper }

unfoldable pub mixture_limits : ℤ → ℤ → ℤ → Characteristics (Pair Thousandths)
mixture_limits mixture minimum target =
    record { vma = limits (vma_pair minimum); voids = limits (voids_pair target); density = limits (density_pair mixture) }

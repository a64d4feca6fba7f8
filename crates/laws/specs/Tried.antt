-- Document 02, R-3: what is said of the number of rows tried for a side, with the index as documents 003 and 004 have it.
use Rattle.std.specs.Prelude.{◌≡◌, List, [], ◌∷◌, ℕ, ◌≤◌, ℤ, pos, get_or, Some, None}
use Rattle.rules.specs.Units.{Limit}
use Rattle.rules.specs.declared.Percentages.{Percentages}
use Rattle.rules.specs.Lot.{lot_of}
use Rattle.rules.specs.Table.{Table}
use Rattle.rules.specs.Entries.{evaluation_says}
use Rattle.laws.specs.Ratio.{Ratio}
use Rattle.laws.specs.Root.{magnitude}
use Rattle.laws.specs.AllEqual.{AllEqual}
use Rattle.laws.specs.PublishedIndex.{upper_beyond, lower_beyond, published_index}
use Rattle.laws.specs.NearestRow.{NearestRow}
use Rattle.laws.specs.Desk.{at, Answered}

-- how many rows are tried to find each row, from row 0 to row 53
abbrev pub tries_by_row : List ℕ
tries_by_row =
    5 ∷ 6 ∷ 6 ∷ 5 ∷ 6 ∷ 6 ∷ 5 ∷ 6 ∷ 6 ∷ 6 ∷ 6 ∷ 6 ∷ 6 ∷ 5 ∷ 6 ∷ 6 ∷ 6 ∷ 6 ∷ 6 ∷ 6 ∷ 5 ∷ 6 ∷ 6 ∷ 6 ∷ 6 ∷ 6 ∷ 6 ∷
    5 ∷ 6 ∷ 6 ∷ 5 ∷ 6 ∷ 6 ∷ 5 ∷ 6 ∷ 6 ∷ 6 ∷ 6 ∷ 6 ∷ 6 ∷ 5 ∷ 6 ∷ 6 ∷ 6 ∷ 6 ∷ 6 ∷ 6 ∷ 5 ∷ 6 ∷ 6 ∷ 6 ∷ 6 ∷ 6 ∷ 6 ∷
    []

-- For a limit that lies so far beyond the mean: none where all readings are equal, which is where V = 0; else 5 or 6, as the row nearest the index has it.
pub record TriedByRule (beyond : Ratio) (xs : List ℤ) (tried : ℕ) : Type 0 where
  pub none_if_equal : AllEqual xs → tried ≡ 0
  pub at_least_five : (AllEqual xs → ⊥) → 5 ≤ tried
  pub at_most_six : tried ≤ 6
  pub by_the_row : (AllEqual xs → ⊥) → (k : ℕ) → NearestRow (magnitude (published_index beyond xs)) k → tried ≡ get_or tries_by_row k 0

-- For an absent limit: none.
abbrev pub UpperTriedByRule : Limit → List ℤ → ℕ → Type 0
UpperTriedByRule None xs tried = tried ≡ 0
UpperTriedByRule (Some u) xs tried = TriedByRule (upper_beyond u.0 xs) xs tried

abbrev pub LowerTriedByRule : Limit → List ℤ → ℕ → Type 0
LowerTriedByRule None xs tried = tried ≡ 0
LowerTriedByRule (Some l) xs tried = TriedByRule (lower_beyond l.0 xs) xs tried

pub data Example : Type 0 where
  -- readings, upper and lower limit, and the rows tried for each
  tried : List ℤ → Limit → Limit → ℕ → ℕ → Example

abbrev pub Holds : Table → Example → Type 0
Holds table (tried xs upper lower for_upper for_lower) =
    Answered (λ (p : Percentages). p.tried ≡ record { upper = for_upper; lower = for_lower }) (evaluation_says table (lot_of upper lower xs))

-- Document 01's lots D1 to D9, worked out by hand, and three more: a lower limit alone, sides that differ, and the last row.
abbrev pub examples : List Example
examples =
    tried (pos 4000 ∷ pos 4000 ∷ []) (at 4000) None 0 0 ∷  -- D1: V = 0
    tried (pos 4000 ∷ pos 4000 ∷ []) (at 3999) None 0 0 ∷  -- D2
    tried (pos 1000 ∷ pos 3000 ∷ []) (at 2000) None 5 0 ∷  -- D3: 27, 13, 6, 3, 1 for row 0
    tried (pos 1000 ∷ pos 3000 ∷ []) (at 2000) (at 2000) 5 5 ∷  -- D4
    tried (pos 0 ∷ pos 0 ∷ pos 0 ∷ pos 80 ∷ []) (at 21) None 6 0 ∷  -- D5: 27, 13, 6, 3, 1, 2 for row 1
    tried (pos 0 ∷ pos 0 ∷ pos 0 ∷ pos 80 ∷ []) (at 19) None 6 0 ∷  -- D6
    tried (pos 0 ∷ pos 0 ∷ pos 0 ∷ pos 80 ∷ []) (at 20) None 5 0 ∷  -- D7
    tried (pos 0 ∷ pos 0 ∷ pos 0 ∷ pos 80 ∷ []) (at 21) (at 19) 6 6 ∷  -- D8
    tried (pos 0 ∷ pos 1 ∷ []) (at 1) None 6 0 ∷  -- D9: 27, 13, 20, 16, 14, 15 for row 14
    tried (pos 0 ∷ pos 0 ∷ pos 0 ∷ pos 80 ∷ []) None (at 20) 0 5 ∷
    tried (pos 0 ∷ pos 0 ∷ pos 0 ∷ pos 80 ∷ []) (at 20) (at 19) 5 6 ∷
    tried (pos 0 ∷ pos 1 ∷ []) (at 3) None 6 0 ∷  -- 27, 40, 47, 50, 52, 53 for row 53
    []

-- What documents 000 and 02 say of the lots that a job is cut into.
use Rattle.std.specs.Prelude.{◌≡◌, List, [], ◌∷◌, ◌⊎◌, ℕ, suc, ◌+◌, ◌≤◌, ◌<◌}
use Rattle.rules.specs.Lot.{most}
use Rattle.rules.specs.Job.{Item}

-- The lots run from one sublot to the end of the job, in order: each starts where the one before it ends, with no gap and no overlap.
abbrev pub Runs : ℕ → List Item → ℕ → Type 0
Runs from [] end = from ≡ end
Runs from (item ∷ items) end = (item.start ≡ from) × Runs (from + item.count) items end

-- How many sublots each lot has, where so many lots went before: ten make a lot; the last has 1 to 17, and fewer than eight only where no lot
-- went before.
abbrev pub Sized : ℕ → List Item → Type 0
Sized before [] = Unit {0}
Sized before (last ∷ []) = (1 ≤ last.count) × (last.count ≤ 17) × (last.count < 8 → before ≡ 0)
Sized before (item ∷ next ∷ items) = (item.count ≡ 10) × Sized (suc before) (next ∷ items)

pub record CutByRule (sublots : ℕ) (items : List Item) : Type 0 where
  pub runs : Runs 0 items sublots
  pub sized : Sized 0 items

-- A lot of a job has 1 to 17 sublots, no more than a lot can hold; and ten or more, but for a last one of eight or nine and for a job shorter than ten.
pub record LotOf (sublots : ℕ) (item : Item) : Type 0 where
  pub some : 1 ≤ item.count
  pub few : item.count ≤ most
  pub ten : (10 ≤ item.count) ⊎ (((8 ≤ item.count) × (item.start + item.count ≡ sublots)) ⊎ (sublots < 10))

-- A sublot is in a lot.
pub record Holds (item : Item) (sublot : ℕ) : Type 0 where
  pub from : item.start ≤ sublot
  pub before : sublot < item.start + item.count

-- Document 02, R-1: the sublots of a job, cut into lots as document 000 cuts them.
use Rattle.std.specs.Prelude.{cond, List, [], ◌∷◌, ◌++◌, ℕ, zero, suc, ◌+◌, ◌/◌, ◌%◌, leb, replicate}

-- the most sublots that are cut
abbrev pub longest_job : ℕ
longest_job = 4096

-- what is left over as a lot by itself, and no lot where nothing is
abbrev pub alone : ℕ → List ℕ
alone zero = []
alone (suc left) = suc left ∷ []

-- How many sublots each lot has, by how many times ten there are and how many sublots are left over. With no lot before them these stand alone; after
-- a lot, seven or fewer join it, and eight or nine stand alone.
unfoldable pub with_leftover : ℕ → ℕ → List ℕ
with_leftover zero left = alone left
with_leftover (suc before) left =
    cond (leb left 7) (replicate before 10 ++ ((10 + left) ∷ [])) (replicate (suc before) 10 ++ alone left)

-- ten to a lot
unfoldable pub lot_sizes : ℕ → List ℕ
lot_sizes sublots = with_leftover (sublots / 10) (sublots % 10)

-- a lot of the job: the sublot with which it starts, counted from 0, and how many it has
pub record Item : Type 0 where
  pub start : ℕ
  pub count : ℕ

-- lots of such sizes, one after the other, the first of them from `start` on
unfoldable pub in_order : ℕ → List ℕ → List Item
in_order start [] = []
in_order start (count ∷ counts) = record { start = start; count = count } ∷ in_order (start + count) counts

unfoldable pub cut : ℕ → List Item
cut sublots = in_order 0 (lot_sizes sublots)

-- the numbers of some items: start and count of each
unfoldable pub item_numbers : List Item → List ℕ
item_numbers [] = []
item_numbers (item ∷ items) = item.start ∷ item.count ∷ item_numbers items

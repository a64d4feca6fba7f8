-- Turning about zero swaps the sides, and a refusal stays the same refusal, for what a caller gets: for any answers that the promises of
-- `quality::evaluate` and `quality::evaluate_held` allow.
use mathlib.Core.Path.{◌≡◌, refl, sym, ap, ◌∙◌}
use mathlib.Core.List.{List, map}
use lib.IntN.{ℤ, neg_ℤ}
use Rattle.std.specs.Prelude.{Ok, Err}
use Rattle.rules.specs.Units.{Limit}
use Rattle.rules.specs.declared.HeldLot.{HeldLot}
use Rattle.rules.specs.declared.Percentages.{Percentages}
use Rattle.rules.specs.Lot.{Lot, lot_of, lot_in}
use Rattle.rules.specs.Table.{Table}
use Rattle.rules.specs.Percent.{nearest}
use Rattle.rules.specs.Entries.{evaluation_says}
use Rattle.rules.specs.Said.{Said}
use Rattle.laws.specs.Turned.{turned_limit, turned, turned_held, said_swapped, answer_swapped}
use Rattle.laws.proofs.Turned.{turning_swaps_sides}
use Rattle.laws.proofs.Lots.{turned_lot_of, turned_lot_in}

module _ (table : Table) where
  of_lots : (lot other : Lot) (r q : Said Percentages) → other ≡ turned lot → r ≡ evaluation_says table lot → q ≡ evaluation_says table other → q ≡ answer_swapped r
  unfolding evaluation_says
  of_lots lot other r q same e f =
      f ∙ ap (evaluation_says table) same ∙ turning_swaps_sides nearest (table lot.n) lot ∙ ap said_swapped (sym e) ∙ by r
    where
      by : (a : Said Percentages) → said_swapped (a) ≡ (answer_swapped a)
      by (Ok p) = refl
      by (Err k) = refl

  -- Turning about zero swaps the sides of the answer to readings in a lent list, with two limits.
  pub turned_answer_is_swapped :
      (upper lower : Limit) (xs : List ℤ) (r q : Said Percentages) →
      r ≡ evaluation_says table (lot_of upper lower xs) →
      q ≡ evaluation_says table (lot_of (turned_limit lower) (turned_limit upper) (map neg_ℤ xs)) →
      q ≡ answer_swapped r
  turned_answer_is_swapped upper lower xs r q = of_lots (lot_of upper lower xs) _ r q (turned_lot_of upper lower xs)

  -- Turning about zero swaps the sides of the answer to a lot in memory.
  pub turned_held_answer_is_swapped :
      (held : HeldLot) (r q : Said Percentages) →
      r ≡ evaluation_says table (lot_in held) →
      q ≡ evaluation_says table (lot_in (turned_held held)) →
      q ≡ answer_swapped r
  turned_held_answer_is_swapped held r q = of_lots (lot_in held) _ r q (turned_lot_in held)

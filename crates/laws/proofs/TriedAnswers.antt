-- The rows tried are by document 02's rule for what a caller gets: for any answers that the promises of `quality::evaluate` and
-- `quality::evaluate_held` allow. And the bound on what C gets, whatever comes in.
use mathlib.Core.Path.{◌≡◌, refl, sym}
use mathlib.Core.List.{List}
use Prim.Native.Nat.{ℕ, ◌≤◌, zero-le}
use native.Mathlib.Omega.{arith}
use lib.IntN.{ℤ}
use lib.ListN.{length, take}
use Rattle.std.specs.Prelude.{Ok, Err}
use Rattle.rules.specs.declared.Totals.{Totals}
use Rattle.rules.specs.Units.{Limit}
use Rattle.rules.specs.declared.HeldLot.{HeldLot}
use Rattle.rules.specs.declared.Percentages.{Percentages}
use Rattle.rules.specs.declared.host.HostLot.{HostLot}
use Rattle.rules.specs.declared.host.HostPercentages.{HostPercentages}
use Rattle.rules.specs.Said.{Said}
use Rattle.rules.specs.Lot.{Lot, lot_of, lot_in, places, most}
use Rattle.rules.specs.Table.{Table}
use Rattle.rules.specs.Percent.{nearest, totals}
use Rattle.rules.specs.Notebook.{lent_limit}
use Rattle.rules.specs.Entries.{percentages_of, evaluation_says}
use Rattle.rules.specs.Host.{host_percentages, given_lot, held_limit, held_lot}
use Rattle.laws.specs.Moved.{Counted}
use Rattle.laws.specs.Tried.{UpperTriedByRule, LowerTriedByRule}
use Rattle.laws.specs.Given.{given_percentages}
use Rattle.laws.proofs.Accepted.{answered}
use Rattle.laws.proofs.Lots.{lot_of_counted, lot_in_counted}
use Rattle.laws.proofs.Given.{percentages_given}
use Rattle.laws.proofs.RowsTried.{upper_tried_at_most_six, lower_tried_at_most_six}
use Rattle.laws.proofs.TriedByRule.{upper_tried_by_rule, lower_tried_by_rule}

module _ (table : Table) where
  of_lot : (lot : Lot) (p : Percentages) → Counted lot → evaluation_says table lot ≡ Ok p → UpperTriedByRule lot.upper lot.readings p.tried.upper × LowerTriedByRule lot.lower lot.readings p.tried.lower
  unfolding evaluation_says percentages_of
  of_lot lot p counted e =
      let h = answered nearest (table lot.n) lot p e in
      let size : length lot.readings ≡ lot.n = counted h.0.few in
      let some : 1 ≤ length lot.readings = omega (arith, h.0.least) in
      rw (sym h.1, sym size) (upper_tried_by_rule lot.readings some lot.upper, lower_tried_by_rule lot.readings some lot.lower)

  -- of a lent list of readings with two limits
  pub answer_tried_by_rule :
      (upper lower : Limit) (xs : List ℤ) (p : Percentages) →
      (Ok p) ≡ evaluation_says table (lot_of upper lower xs) →
      UpperTriedByRule upper xs p.tried.upper × LowerTriedByRule lower xs p.tried.lower
  answer_tried_by_rule upper lower xs p e = of_lot (lot_of upper lower xs) p (lot_of_counted upper lower xs) (sym e)

  -- of a lot in memory, which has as many places as a lot can hold
  pub held_answer_tried_by_rule :
      (held : HeldLot) (p : Percentages) → length held.readings ≡ most →
      (Ok p) ≡ evaluation_says table (lot_in held) →
      UpperTriedByRule held.upper (take held.count (places held)) p.tried.upper × LowerTriedByRule held.lower (take held.count (places held)) p.tried.lower
  held_answer_tried_by_rule held p size e = of_lot (lot_in held) p (lot_in_counted held size) (sym e)

  -- of what C is given for either
  pub given_answer_tried_by_rule :
      (upper : ℤ) (upper_presence : ℕ) (lower : ℤ) (lower_presence : ℕ) (xs : List ℤ) (r : HostPercentages) →
      r ≡ host_percentages (evaluation_says table (given_lot upper upper_presence lower lower_presence xs)) → r.refusal.number ≡ 0 →
      UpperTriedByRule (lent_limit upper upper_presence) xs r.tried.upper × LowerTriedByRule (lent_limit lower lower_presence) xs r.tried.lower
  given_answer_tried_by_rule upper up lower lp xs r e z =
      answer_tried_by_rule (lent_limit upper up) (lent_limit lower lp) xs (given_percentages r) (sym (percentages_given _ r e z))

  pub given_lot_answer_tried_by_rule :
      (lot : HostLot) (r : HostPercentages) → r ≡ host_percentages (evaluation_says table (lot_in (held_lot lot))) → r.refusal.number ≡ 0 →
      UpperTriedByRule (held_limit lot.upper) (take lot.count (places (held_lot lot))) r.tried.upper ×
      LowerTriedByRule (held_limit lot.lower) (take lot.count (places (held_lot lot))) r.tried.lower
  given_lot_answer_tried_by_rule lot r e z = held_answer_tried_by_rule (held_lot lot) (given_percentages r) refl (sym (percentages_given _ r e z))

  -- C is never given more than 6, whatever comes in, and where it is refused too.
  pub never_more_than_six : (lot : Lot) (r : HostPercentages) → r ≡ host_percentages (evaluation_says table lot) → (r.tried.upper ≤ 6) × (r.tried.lower ≤ 6)
  unfolding evaluation_says percentages_of
  never_more_than_six lot r e = rw e (by (evaluation_says table lot) refl)
    where
      by : (said : Said Percentages) → evaluation_says table lot ≡ said → ((host_percentages said).tried.upper ≤ 6) × ((host_percentages said).tried.lower ≤ 6)
      by (Err k) s = (zero-le, zero-le)
      by (Ok p) s =
          let h = answered nearest (table lot.n) lot p s in
          let a : Totals = totals lot.n lot.readings in
          rw (sym h.1) (upper_tried_at_most_six a lot.upper, lower_tried_at_most_six a lot.lower)

-- What a caller gets is what documents 01 and 004 say (demand 2): any answers that the promises of `quality::evaluate`, `quality::evaluate_held`,
-- `readings::deviation` and `readings::mean` allow, and those that C gets.
use mathlib.Core.Path.{◌≡◌, refl, sym}
use mathlib.Core.Bool.{true}
use mathlib.Core.List.{List}
use Prim.Native.Nat.{ℕ}
use native.Mathlib.Omega.{arith}
use lib.IntN.{ℤ}
use lib.ListN.{length, take}
use Rattle.std.specs.Prelude.{Ok}
use Rattle.rules.specs.declared.Thousandths.{Thousandths}
use Rattle.rules.specs.Units.{Limit, thousandths}
use Rattle.rules.specs.declared.Mean.{Mean}
use Rattle.rules.specs.declared.Percentages.{Percentages}
use Rattle.rules.specs.declared.HeldLot.{HeldLot}
use Rattle.rules.specs.declared.host.HostLot.{HostLot}
use Rattle.rules.specs.declared.host.HostMean.{HostMean}
use Rattle.rules.specs.declared.host.HostDeviation.{HostDeviation}
use Rattle.rules.specs.declared.host.HostPercentages.{HostPercentages}
use Rattle.rules.specs.Lot.{Lot, lot_of, lot_in, places, most}
use Rattle.rules.specs.Table.{Table, Found, no_store, no_edition, no_column, a_column, has_column, entries}
use Rattle.rules.specs.Percent.{nearest, sum}
use Rattle.rules.specs.Meets.{readings_meet}
use Rattle.rules.specs.Notebook.{lent_limit}
use Rattle.rules.specs.Entries.{mean_says, deviation_of, deviation_says, evaluation_says}
use Rattle.rules.specs.Host.{host_mean, host_deviation, host_percentages, given_lot, held_limit, held_lot}
use Rattle.laws.specs.Ratio.{Is}
use Rattle.laws.specs.Root.{HalfUpRoot}
use Rattle.laws.specs.Moved.{Counted}
use Rattle.laws.specs.PublishedIndex.{published_mean, published_deviation}
use Rattle.laws.specs.AsPublished.{ByTable}
use Rattle.laws.specs.Given.{given_percentages}
use Rattle.laws.proofs.Accepted.{readings_accepted, answered}
use Rattle.laws.proofs.Ruled.{ruled_answers}
use Rattle.laws.proofs.Lots.{lot_of_counted, lot_in_counted}
use Rattle.laws.proofs.PublishedIndex.{mean_is}
use Rattle.laws.proofs.PublishedDeviation.{deviation_is_nearest}
use Rattle.laws.proofs.AsPublished.{evaluated_as_published}
use Rattle.laws.proofs.Given.{mean_given, deviation_given, percentages_given}

-- ---- percentages

-- What has a column is one.
found_column : (found : Found) → has_column found ≡ true → found ≡ a_column (entries found)
found_column (a_column column) e = refl
found_column no_store e = absurd (let z : ◌≡◌ {A = ℕ} 0 1 = cc in omega arith)
found_column no_edition e = absurd (let z : ◌≡◌ {A = ℕ} 0 1 = cc in omega arith)
found_column no_column e = absurd (let z : ◌≡◌ {A = ℕ} 0 1 = cc in omega arith)

module _ (table : Table) where
  of_lot : (lot : Lot) (p : Percentages) → Counted lot → evaluation_says table lot ≡ Ok p → ByTable table lot.upper lot.lower lot.readings p
  unfolding evaluation_says
  of_lot lot p counted e =
      let h = answered nearest (table lot.n) lot p e in
      record {
        column = entries (table lot.n);
        found = rw (counted h.0.few) (found_column (table lot.n) h.2);
        published = evaluated_as_published (table lot.n) lot p counted e;
      }

  -- of a lent list of readings with two limits
  pub answer_is_published :
      (upper lower : Limit) (xs : List ℤ) (p : Percentages) →
      (Ok p) ≡ evaluation_says table (lot_of upper lower xs) → ByTable table upper lower xs p
  answer_is_published upper lower xs p e = of_lot (lot_of upper lower xs) p (lot_of_counted upper lower xs) (sym e)

  -- of a lot in memory, which has as many places as a lot can hold
  pub held_answer_is_published :
      (held : HeldLot) (p : Percentages) → length held.readings ≡ most →
      (Ok p) ≡ evaluation_says table (lot_in held) → ByTable table held.upper held.lower (take held.count (places held)) p
  held_answer_is_published held p size e = of_lot (lot_in held) p (lot_in_counted held size) (sym e)

  -- of what C is given for either
  pub given_answer_is_published :
      (upper : ℤ) (upper_presence : ℕ) (lower : ℤ) (lower_presence : ℕ) (xs : List ℤ) (r : HostPercentages) →
      r ≡ host_percentages (evaluation_says table (given_lot upper upper_presence lower lower_presence xs)) → r.refusal.number ≡ 0 →
      ByTable table (lent_limit upper upper_presence) (lent_limit lower lower_presence) xs (given_percentages r)
  given_answer_is_published upper up lower lp xs r e z =
      answer_is_published (lent_limit upper up) (lent_limit lower lp) xs (given_percentages r) (sym (percentages_given _ r e z))

  pub given_lot_answer_is_published :
      (lot : HostLot) (r : HostPercentages) → r ≡ host_percentages (evaluation_says table (lot_in (held_lot lot))) → r.refusal.number ≡ 0 →
      ByTable table (held_limit lot.upper) (held_limit lot.lower) (take lot.count (places (held_lot lot))) (given_percentages r)
  given_lot_answer_is_published lot r e z = held_answer_is_published (held_lot lot) (given_percentages r) refl (sym (percentages_given _ r e z))

-- ---- deviation and mean

-- s is the whole thousandth nearest S, a half going up;
pub deviation_answer_is_nearest :
    (xs : List ℤ) (s : Thousandths) → (Ok s) ≡ deviation_says xs → HalfUpRoot (published_deviation xs) s.0
unfolding deviation_says
deviation_answer_is_nearest xs s e =
    let r = ruled_answers (readings_meet xs) (thousandths (deviation_of (length xs) xs)) s (sym e) in
    rw (sym r.1) (deviation_is_nearest xs (readings_accepted xs r.0).least)

pub given_deviation_is_nearest :
    (xs : List ℤ) (r : HostDeviation) → r ≡ host_deviation (deviation_says xs) → r.refusal.number ≡ 0 → HalfUpRoot (published_deviation xs) r.deviation
given_deviation_is_nearest xs r e z = deviation_answer_is_nearest xs _ (sym (deviation_given _ r e z))

-- and the mean, as T and n, is not rounded at all.
pub mean_answer_is_published :
    (xs : List ℤ) (m : Mean) → (Ok m) ≡ mean_says xs → Is (published_mean xs) m.total.0 m.count
unfolding mean_says
mean_answer_is_published xs m e =
    let r = ruled_answers (readings_meet xs) (record { total = thousandths (sum xs); count = length xs }) m (sym e) in
    rw (sym r.1) (mean_is xs (omega (arith, (readings_accepted xs r.0).least)))

pub given_mean_is_published :
    (xs : List ℤ) (r : HostMean) → r ≡ host_mean (mean_says xs) → r.refusal.number ≡ 0 → Is (published_mean xs) r.total r.count
given_mean_is_published xs r e z = mean_answer_is_published xs _ (sym (mean_given _ r e z))

-- What holds of readings and of a lot that are not refused.
use mathlib.Core.Path.{◌≡◌, refl, sym, ap, ◌∙◌}
use mathlib.Core.Bool.{true, false, not, and-eq-true_iff, ◌||◌}
use mathlib.Core.List.{List, [], ◌∷◌, ◌++◌}
use Prim.Native.Nat.{ℕ, ◌≤◌}
use borrow.Author.Tests.{leb-true, not-false}
use lib.Dec.{leb}
use lib.IntN.{ℤ}
use lib.ListN.{length}
use Rattle.std.specs.Prelude.{None, Ok, Err, Option, Some}
use Rattle.rules.specs.Units.{Limit}
use Rattle.rules.specs.declared.Totals.{Totals}
use Rattle.rules.specs.declared.Columned.{Columned}
use Rattle.rules.specs.declared.Refusal.{Refusal}
use Rattle.rules.specs.declared.Percentages.{Percentages}
use Rattle.rules.specs.Said.{Case, checked, Said}
use Rattle.rules.specs.Lot.{Lot, lot_of, most}
use Rattle.rules.specs.Table.{Table, Found, has_column, entries}
use Rattle.rules.specs.Percent.{Rule, totals}
use Rattle.rules.specs.Refusals.{allowed, count_case, out_of_range, any_out, range_case, unlimited_case, crossed, crossed_case, store_case, edition_case, column_case}
use Rattle.rules.specs.Meets.{readings_meet, limits_meet, lot_meets, counted_meets, column_meets, evaluation_meets}
use Rattle.rules.specs.Entries.{percentages_of, percentages, evaluated}
use Rattle.laws.specs.StoreWalk.{table_at}
use Rattle.laws.specs.Totalled.{totals_says, found_say, with_column_say, columned_said, lot_totals, totalled, by_table}
use Rattle.laws.specs.Bounds.{Accepted, Bounded}
use Rattle.laws.specs.Moved.{Counted}
use Rattle.laws.proofs.Ruled.{ruled_met, ruled_passed, none_met, none_of_either, ruled_answers, refused_alike, ruled_then, ruled_unrefused, totals_answered}
use Rattle.laws.proofs.Editions.{edition_is_found}
use Rattle.laws.proofs.Tests.{neither}
use Rattle.laws.proofs.Bounds.{totals_bounded}

-- A count that is not refused is from 2 to the most that a lot can hold.
pub count_allowed : (n : ℕ) → (count_case n).applies ≡ false → (2 ≤ n) × (n ≤ most)
count_allowed n e =
    let h : (leb 2 n ≡ true) × (leb n most ≡ true) = (and-eq-true_iff (leb 2 n) (leb n most)).0 (not-false (allowed n) e) in
    (leb-true 2 n h.0, leb-true n most h.1)

pub readings_accepted : (xs : List ℤ) → checked (readings_meet xs) ≡ Ok tt → Accepted xs
unfolding readings_meet
readings_accepted xs e =
    let m = none_met (count_case (length xs)) (range_case None None xs ∷ []) e in
    let n = count_allowed (length xs) m.0 in
    record { least = n.0; few = n.1; all_in_range = (none_met (range_case None None xs) [] m.1).0 }

-- Readings whose totals are answered are not refused, and the totals are theirs and in bounds.
pub record ReadingsTotalled (xs : List ℤ) (a : Totals) : Type 0 where
  pub unrefused : checked (readings_meet xs) ≡ Ok tt
  pub same : totals (length xs) xs ≡ a
  pub bounded : Bounded a

pub readings_totalled : (xs : List ℤ) {t : Said Totals} {a : Totals} → t ≡ totals_says xs → t ≡ Ok a → ReadingsTotalled xs a
unfolding totals_says
readings_totalled xs e h =
    let r = totals_answered (readings_meet xs) (totals (length xs) xs) e h in
    record { unrefused = r.0; same = r.1; bounded = totals_bounded (readings_accepted xs r.0) (sym r.1) }

-- ---- a lot

pub record LotAccepted (lot : Lot) : Type 0 where
  pub least : 2 ≤ lot.n
  pub few : lot.n ≤ most
  pub upper_in_range : out_of_range lot.upper ≡ false
  pub lower_in_range : out_of_range lot.lower ≡ false
  pub all_in_range : any_out lot.readings ≡ false
  pub uncrossed : crossed lot.upper lot.lower ≡ false

-- Where none of refusals 5 to 7 applies to a lot, none of its readings is out of range.
pub readings_in_range : (lot : Lot) → checked (lot_meets lot) ≡ Ok tt → any_out lot.readings ≡ false
readings_in_range lot e =
    let range = none_met (range_case lot.upper lot.lower lot.readings) (limits_meet lot.upper lot.lower) e in
    (neither (out_of_range lot.upper || out_of_range lot.lower) (any_out lot.readings) range.0).1

pub lot_accepted : (lot : Lot) → checked (counted_meets lot) ≡ Ok tt → LotAccepted lot
lot_accepted lot e =
    let upper : Limit = lot.upper in
    let lower : Limit = lot.lower in
    let count = none_met (count_case lot.n) (lot_meets lot) e in
    let range = none_met (range_case upper lower lot.readings) (limits_meet upper lower) count.1 in
    let limited = none_met (unlimited_case upper lower) (crossed_case upper lower ∷ []) range.1 in
    let n = count_allowed lot.n count.0 in
    let all_in_range = neither (out_of_range upper || out_of_range lower) (any_out lot.readings) range.0 in
    let limits = neither (out_of_range upper) (out_of_range lower) all_in_range.0 in
    record {
      least = n.0;
      few = n.1;
      upper_in_range = limits.0;
      lower_in_range = limits.1;
      all_in_range = readings_in_range lot count.1;
      uncrossed = (none_met (crossed_case upper lower) [] limited.1).0;
    }

-- Where no refusal is given for a column, there is one.
pub column_found : (found : Found) → checked (column_meets found) ≡ Ok tt → has_column found ≡ true
column_found found e =
    let edition = none_met (edition_case found) (column_case found ∷ []) e in
    not-false (has_column found) (none_met (column_case found) [] edition.1).0

-- To look for the store before all else and for a column after it is to have these cases first and last.
pub totalled_with_column :
    (named : Said (Option ℕ)) (s : List ℕ) (meets : Lot → List Case) (lot : Lot) →
    with_column_say named s (totalled meets lot) ≡
    totalled (λ l. store_case (table_at named s l.n) ∷ (meets l ++ column_meets (table_at named s l.n))) lot
unfolding totalled
totalled_with_column (Err r) s meets lot = sym (ruled_met _ _ _ refl)
totalled_with_column (Ok None) s meets lot =
    ruled_then (meets lot) _ (lot_totals lot) (found_say (table_at (Ok None) s)) (λ r. refl) refl
    ∙ sym (ruled_passed _ _ _ refl)
totalled_with_column (Ok (Some start)) s meets lot =
    ruled_then (meets lot) _ (lot_totals lot) (found_say (table_at (Ok (Some start)) s)) (λ r. refl) refl
    ∙ sym (ruled_passed _ _ _ (ap not (edition_is_found _ lot.n).0))

-- A lot whose totals are answered where a percentage is asked for is not refused, and the totals are its own and in bounds, if its readings are as many
-- as it says.
pub record LotTotalled (table : Table) (lot : Lot) (a : Totals) : Type 0 where
  pub unrefused : checked (by_table table lot) ≡ Ok tt
  pub same : lot_totals lot ≡ a
  pub accepted : LotAccepted lot
  pub bounded : Bounded a

pub lot_totalled :
    (table : Table) (lot : Lot) {t : Said Columned} {c : Columned} → Counted lot →
    columned_said t ≡ totalled (by_table table) lot → t ≡ Ok c → LotTotalled table lot c.totals
unfolding totalled evaluation_meets
lot_totalled table lot counted e h =
    let r = ruled_answers (by_table table lot) (lot_totals lot) _ (sym e ∙ ap columned_said h) in
    let none = none_of_either (counted_meets lot) (column_meets (table lot.n)) (none_met (store_case (table lot.n)) _ r.0).1 in
    let ok = lot_accepted lot none.0 in
    let size : length lot.readings ≡ lot.n = counted ok.few in
    record {
      unrefused = r.0;
      same = r.1;
      accepted = ok;
      bounded =
          totals_bounded {xs = lot.readings} (record { least = rw size ok.least; few = rw size ok.few; all_in_range = ok.all_in_range })
          (sym r.1 ∙ ap (λ (m : ℕ). totals m lot.readings) (sym size));
    }

-- The readings of an accepted lot that is a lent list with two limits are accepted.
pub lent_readings : {upper lower : Limit} {xs : List ℤ} → LotAccepted (lot_of upper lower xs) → Accepted xs
lent_readings h = record { least = h.least; few = h.few; all_in_range = h.all_in_range }

-- ---- its evaluation

-- Where a lot's totals are answered, its evaluation is worked out from them,
pub totalled_is_evaluated :
    (rule : Rule) {table : Table} {lot : Lot} {a : Totals} → LotTotalled table lot a →
    Ok (percentages_of rule (entries (table a.n)) a lot.upper lot.lower) ≡ evaluated rule (table lot.n) lot
unfolding evaluated
totalled_is_evaluated rule {table} {lot} h =
    ap (λ (b : Totals). Ok (percentages_of rule (entries (table b.n)) b lot.upper lot.lower)) (sym h.same)
    ∙ sym (ruled_unrefused _ _ h.unrefused)

-- and where they are refused, its evaluation is the same refusal.
pub untotalled_is_refused :
    (rule : Rule) (table : Table) (lot : Lot) {t : Said Columned} {r : Refusal} →
    columned_said t ≡ totalled (by_table table) lot → t ≡ Err r → evaluated rule (table lot.n) lot ≡ Err r
unfolding evaluated totalled
untotalled_is_refused rule table lot e h = refused_alike (by_table table lot) (lot_totals lot) _ (sym e ∙ ap columned_said h)

-- An evaluation that is answered has the lot's percentages, its lot is not refused, and there is a column.
pub answered : (rule : Rule) (found : Found) (lot : Lot) (p : Percentages) → evaluated rule found lot ≡ Ok p → LotAccepted lot × (percentages rule (entries found) lot ≡ p) × (has_column found ≡ true)
unfolding evaluated evaluation_meets
answered rule found lot p e =
    let r = ruled_answers (evaluation_meets found lot) (percentages rule (entries found) lot) p e in
    let none = none_of_either (counted_meets lot) (column_meets found) (none_met (store_case found) _ r.0).1 in
    (lot_accepted lot none.0, r.1, column_found found none.1)

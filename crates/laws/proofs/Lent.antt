-- Readings that come as bytes: what their lot meets, and the row of one that is not refused.
use mathlib.Core.Path.{◌≡◌, sym, ap, ◌∙◌}
use mathlib.Core.Bool.{true, false, not, and-eq-true_iff}
use mathlib.Core.List.{List, ◌∷◌, ◌++◌}
use Prim.Native.Nat.{ℕ, ◌/◌, ◌%◌, ◌≤◌}
use native.Mathlib.Omega.{arith}
use borrow.Author.Tests.{leb-true, not-false}
use lib.Dec.{leb, eqb}
use lib.IntN.{ℤ, pos, nat_abs, ◌+ℤ◌}
use lib.ListN.{length}
use Rattle.std.specs.Prelude.{Ok, Err}
use Rattle.integers.proofs.Magnitude.{nat_abs_add, nat_abs_sub}
use Rattle.rules.specs.declared.Totals.{Totals}
use Rattle.rules.specs.Units.{Limit}
use Rattle.rules.specs.declared.Columned.{Columned}
use Rattle.rules.specs.declared.Row.{Row}
use Rattle.rules.specs.declared.Refusal.{Refusal}
use Rattle.rules.specs.Said.{Case, ruled, Said}
use Rattle.rules.specs.Lot.{Lot, most, lot_of}
use Rattle.rules.specs.Table.{Table, entries}
use Rattle.rules.specs.Percent.{nearest, totals, spread, upper_side, lower_side}
use Rattle.rules.specs.Deviation.{deviation}
use Rattle.rules.specs.Record.{fours}
use Rattle.rules.specs.Refusals.{allowed, size_fits, bytes_count_case, count_case, store_case, out_of_range}
use Rattle.rules.specs.Meets.{lot_meets, counted_meets, column_meets, evaluation_meets, bytes_meet, row_meets}
use Rattle.rules.specs.Notebook.{lent_lot, row_of}
use Rattle.rules.specs.Entries.{percentages_of, row_says}
use Rattle.laws.specs.Totalled.{columned_said, lot_totals, totalled, by_table, row_by_table}
use Rattle.laws.specs.Column.{Column}
use Rattle.laws.specs.Bounds.{Bounded}
use Rattle.laws.proofs.Ruled.{ruled_passed, ruled_under, ruled_answers, refused_alike, ruled_unrefused, none_met, none_of_either}
use Rattle.laws.proofs.Accepted.{LotAccepted, lot_accepted, lent_readings}
use Rattle.laws.proofs.Bounds.{totals_bounded}
use Rattle.laws.proofs.Between.{between_magnitude}
use Rattle.laws.proofs.Nearest.{nearest_row_rule}
use Rattle.laws.proofs.Side.{upper_side_in_percent, lower_side_in_percent}
use Rattle.laws.proofs.Spelled.{length_fours}

-- A size that fits has no more readings than a lot can hold.
pub fitting_count : (size : ℕ) → size_fits size ≡ true → size / 4 ≤ most
fitting_count size e =
    let few : allowed (size / 4) ≡ true = ((and-eq-true_iff (eqb (size % 4) 0) (allowed (size / 4))).0 e).1 in
    leb-true (size / 4) most ((and-eq-true_iff (leb 2 (size / 4)) (leb (size / 4) most)).0 few).1

-- For any totals and limits, by a `Column`, |PWL| is at most 30,000: a first bound, before it is known to be a percentage.
pub pwl_small : (a : Totals) {column : List ℕ} → Column column → (upper lower : Limit) → nat_abs (percentages_of nearest column a upper lower).pwl.0 ≤ 30000
unfolding percentages_of
pwl_small a {column} shape upper lower =
    let rows = (nearest_row_rule a.n).in_table in
    let u : ℤ = upper_side nearest column a upper in
    let l : ℤ = lower_side nearest column a lower in
    let mu : nat_abs u ≤ 10000 = between_magnitude (upper_side_in_percent nearest column a rows shape upper) in
    let ml : nat_abs l ≤ 10000 = between_magnitude (lower_side_in_percent nearest column a rows shape lower) in
    omega (arith, nat_abs_add u l, nat_abs_sub (u +ℤ l) (pos 10000))

-- the row of a lot whose totals are these
abbrev row_of_totals : Table → Totals → Limit → Limit → Row
row_of_totals table a upper lower =
    row_of a.t a.n (pos (deviation a.n (spread a))) (percentages_of nearest (entries (table a.n)) a upper lower).pwl.0

-- What is known of a lent lot that is not refused, whose totals are these.
pub record LentAccepted (table : Table) (upper lower : Limit) (bs : List ℕ) (a : Totals) : Type 0 where
  pub bounded : Bounded a
  pub upper_in_range : out_of_range upper ≡ false
  pub lower_in_range : out_of_range lower ≡ false
  pub row : row_says table upper lower bs ≡ Ok (row_of_totals table a upper lower)

module _ (upper lower : Limit) (bs : List ℕ) where
  abbrev n : ℕ
  n = length bs / 4

  -- The lot of some bytes is the lent list of the numbers that they spell.
  pub lent_lot_is_listed : lent_lot upper lower bs ≡ lot_of upper lower (fours n bs)
  unfolding lent_lot
  lent_lot_is_listed = λ i. record { n = sym (length_fours n bs) i; upper = upper; lower = lower; readings = fours n bs }

  -- Where the size of the bytes fits, they get the refusal or the values that the evaluation of the lot of those numbers gets,
  pub fitting_meets : (table : Table) {A : Type 0} (a : A) → size_fits (length bs) ≡ true → ruled (row_by_table table bs (lent_lot upper lower bs)) a ≡ ruled (by_table table (lot_of upper lower (fours n bs))) a
  unfolding row_meets evaluation_meets lent_lot
  fitting_meets table a e =
      let few : allowed n ≡ true = ((and-eq-true_iff (eqb (length bs % 4) 0) (allowed n)).0 e).1 in
      let lot : Lot = lent_lot upper lower bs in
      let later : List Case = lot_meets lot ++ column_meets (table lot.n) in
      ruled_under (store_case (table lot.n)) (bytes_count_case bs ∷ later) (count_case n ∷ later) a
      (ruled_passed (bytes_count_case bs) later a (ap not e)
      ∙ sym (ruled_passed (count_case n) later a (ap not few)))
      ∙ ap (λ (l : Lot). ruled (by_table table l) a) lent_lot_is_listed

  -- and what is said of their totals is what is said of that lot's after its count.
  pub fitting_totals : size_fits (length bs) ≡ true → totalled (bytes_meet bs) (lent_lot upper lower bs) ≡ totalled lot_meets (lot_of upper lower (fours n bs))
  unfolding totalled
  fitting_totals e = ruled_passed (bytes_count_case bs) _ _ (ap not e) ∙ ap (totalled lot_meets) lent_lot_is_listed

  module _ (table : Table) {t : Said Columned} (e : columned_said t ≡ totalled (row_by_table table bs) (lent_lot upper lower bs)) where
    pub lent_accepted : {c : Columned} → t ≡ Ok c → LentAccepted table upper lower bs c.totals
    unfolding totalled row_meets evaluation_meets lent_lot row_says
    lent_accepted h =
        let lot : Lot = lent_lot upper lower bs in
        let listed : Lot = lot_of upper lower (fours n bs) in
        let answered = ruled_answers (row_by_table table bs lot) (lot_totals lot) _ (sym e ∙ ap columned_said h) in
        let either = none_of_either (bytes_meet bs lot) (column_meets (table lot.n)) (none_met (store_case (table lot.n)) _ answered.0).1 in
        let fits = not-false (size_fits (length bs)) (none_met (bytes_count_case bs) (lot_meets lot) either.0).0 in
        let accepted : LotAccepted listed = lot_accepted listed (none_of_either (counted_meets listed) (column_meets (table listed.n)) (none_met (store_case (table listed.n)) _ (sym (fitting_meets table tt fits) ∙ answered.0)).1).0 in
        record {
          bounded = totals_bounded (lent_readings accepted) (sym answered.1 ∙ ap (λ (m : ℕ). totals m (fours n bs)) (sym (length_fours n bs)));
          upper_in_range = accepted.upper_in_range;
          lower_in_range = accepted.lower_in_range;
          row = ruled_unrefused (row_by_table table bs lot) _ answered.0 ∙ ap (λ (b : Totals). Ok (row_of_totals table b upper lower)) answered.1;
        }

    pub lent_refused : {refusal : Refusal} → t ≡ Err refusal → row_says table upper lower bs ≡ Err refusal
    unfolding totalled row_says
    lent_refused h = refused_alike (row_by_table table bs (lent_lot upper lower bs)) (lot_totals (lent_lot upper lower bs)) _ (sym e ∙ ap columned_said h)

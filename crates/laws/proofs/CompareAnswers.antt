-- What the comparison of two sheets says, and what it leaves in the lent list, in orders.
use mathlib.Core.Path.{◌≡◌, refl, sym, ap, ◌∙◌}
use mathlib.Core.Bool.{Bool, true, false, cond}
use mathlib.Core.List.{List, [], ◌∷◌, ◌++◌}
use mathlib.Core.Logic.{◌↔◌}
use Prim.Native.Nat.{ℕ, ◌*◌, ◌≤◌, ◌<◌}
use native.Mathlib.Omega.{arith}
use borrow.Author.Tests.{lt-ltb, le-ltb}
use lib.IntN.{ℤ}
use lib.ListN.{length, drop, length-map}
use lib.Seq.{take_at, drop_at}
use Rattle.std.specs.Prelude.{Ok, Err}
use Rattle.rules.specs.declared.Sheet.{Sheet}
use Rattle.rules.specs.declared.Difference.{Difference}
use Rattle.rules.specs.declared.host.HostListed.{HostListed}
use Rattle.rules.specs.declared.Refusal.{Refusal}
use Rattle.rules.specs.declared.Refusal.TheVariants.{Room, Number}
use Rattle.rules.specs.Said.{ruled}
use Rattle.rules.specs.Sheet.{differences, difference_numbers}
use Rattle.rules.specs.Refusals.{sheet_case, room_case}
use Rattle.rules.specs.Entries.{written}
use Rattle.rules.specs.Check.{compare_meets, compare_says, after_compare}
use Rattle.rules.specs.Host.{host_listed}
use Rattle.laws.specs.Sheet.{turned, DifferencesGiven}
use Rattle.laws.proofs.Ruled.{ruled_none, ruled_met, ruled_passed, ruled_answers}
use Rattle.laws.proofs.Given.{listed_given}
use Rattle.laws.proofs.Differences.{length_differences}
use Rattle.laws.proofs.Sheets.{equal_exactly_when_none_is_listed, differences_exchanged}

module _ (a b : Sheet) (out : List ℤ) where
  -- A refused comparison leaves every number as it was.
  pub refused_comparison_keeps : (r : Refusal) → compare_says a b out ≡ Err r → after_compare a b out ≡ out
  unfolding written
  refused_comparison_keeps r e = ap (written (difference_numbers (differences a b)) out) e

  -- A bad sheet is refusal 9, whatever the list, the first
  pub first_sheet_is_refused : (sheet_case a).applies ≡ true → compare_says a b out ≡ Err Number
  unfolding compare_says compare_meets
  first_sheet_is_refused bad = ruled_met _ _ _ bad

  module _ (good : (sheet_case a).applies ≡ false) where
    -- or the second;
    pub second_sheet_is_refused : (sheet_case b).applies ≡ true → compare_says a b out ≡ Err Number
    unfolding compare_says compare_meets
    second_sheet_is_refused bad = ruled_passed _ _ _ good ∙ ruled_met _ _ _ bad

    module _ (fine : (sheet_case b).applies ≡ false) where
      -- of good sheets, a list with fewer numbers than two to a difference is refusal 8,
      pub short_comparison_is_refused : length out < 2 * length (differences a b) → compare_says a b out ≡ Err Room
      unfolding compare_says compare_meets
      short_comparison_is_refused short =
          ruled_passed _ _ _ good ∙ ruled_passed _ _ _ fine ∙ ruled_met _ _ _ (lt-ltb (length out) (length (difference_numbers (differences a b))) (omega (arith, length_differences (differences a b))))

      -- and any other is filled from its start and keeps its rest.
      pub comparison_is_answered :
          2 * length (differences a b) ≤ length out →
          (compare_says a b out ≡ Ok (length (differences a b))) ×
          (after_compare a b out ≡ difference_numbers (differences a b) ++ drop (2 * length (differences a b)) out)
      unfolding compare_says compare_meets written
      comparison_is_answered room =
          let size = length_differences (differences a b) in
          let fits = le-ltb (length out) (length (difference_numbers (differences a b))) (omega arith) in
          let said : compare_says a b out ≡ Ok (length (differences a b)) = ruled_passed _ _ _ good ∙ ruled_passed _ _ _ fine ∙ ruled_passed _ _ _ fits ∙ ruled_none _ in
          (said, ap (written (difference_numbers (differences a b)) out) said ∙ ap (λ (k : ℕ). difference_numbers (differences a b) ++ drop k out) size)

  -- ---- what a caller gets

  -- As many entries differ as are answered, their numbers stand at the start of the list, and what stood after them stays.
  pub comparison_lists_the_differences :
      (items : ℕ) (after : List ℤ) → (Ok items) ≡ compare_says a b out → after ≡ after_compare a b out → DifferencesGiven a b items out after
  unfolding compare_says written
  comparison_lists_the_differences items after e f =
      let count : length (differences a b) ≡ items = (ruled_answers _ _ _ (sym e)).1 in
      let numbers : List ℤ = difference_numbers (differences a b) in
      let size : length numbers ≡ 2 * items = length_differences (differences a b) ∙ ap (λ (k : ℕ). 2 * k) count in
      let is : after ≡ numbers ++ drop (2 * items) out = f ∙ ap (written numbers out) (sym e) ∙ ap (λ (k : ℕ). numbers ++ drop k out) size in
      record {
        count = count;
        numbers = rw is (take_at numbers (drop (2 * items) out) (2 * items) size);
        rest = rw is (drop_at numbers (drop (2 * items) out) (2 * items) size);
      }

  -- Nothing is listed exactly when the two sheets are the same.
  pub none_is_answered_exactly_when_equal : (items : ℕ) → (Ok items) ≡ compare_says a b out → (items ≡ 0) ↔ (a ≡ b)
  unfolding compare_says
  none_is_answered_exactly_when_equal items e =
      let count : length (differences a b) ≡ items = (ruled_answers _ _ _ (sym e)).1 in
      let exactly = equal_exactly_when_none_is_listed a b in
      (λ none. exactly.1 (empty (differences a b) (count ∙ none)), λ same. sym count ∙ ap length (exactly.0 same))
    where
      empty : (ds : List Difference) → length ds ≡ 0 → ds ≡ []
      empty [] none = refl
      empty (d ∷ ds) none = absurd (omega arith)

  -- of what C is given
  pub given_comparison_lists_the_differences :
      (after : List ℤ) (r : HostListed) → r ≡ host_listed (compare_says a b out) → after ≡ after_compare a b out → r.refusal.number ≡ 0 → DifferencesGiven a b r.items out after
  given_comparison_lists_the_differences after r e f z = comparison_lists_the_differences r.items after (sym (listed_given _ r e z)) f

-- Two sheets exchanged are answered alike, refusals included.
pub exchanged_sheets_are_answered_alike : (a b : Sheet) (out : List ℤ) → compare_says b a out ≡ compare_says a b out
unfolding compare_says compare_meets ruled
exchanged_sheets_are_answered_alike a b out =
    let same = differences_exchanged a b in
    let sizes : length (differences b a) ≡ length (differences a b) = ap length same ∙ length-map (differences a b) turned in
    let numbers : length (difference_numbers (differences b a)) ≡ length (difference_numbers (differences a b)) = omega (arith, length_differences (differences b a), length_differences (differences a b)) in
    (λ i. ruled (sheet_case b ∷ sheet_case a ∷ room_case (length out) (numbers i) ∷ []) (sizes i)) ∙ by (sheet_case a).applies (sheet_case b).applies
  where
    by :
        (s t : Bool) →
        cond t (Err Number) (cond s (Err Number) (ruled (room_case (length out) (length (difference_numbers (differences a b))) ∷ []) (length (differences a b)))) ≡
        cond s (Err Number) (cond t (Err Number) (ruled (room_case (length out) (length (difference_numbers (differences a b))) ∷ []) (length (differences a b))))
    by true true = refl
    by true false = refl
    by false true = refl
    by false false = refl

-- The edition that stands at the place has its number, and its length leads to the next one's place.
use Rattle.std.proofs.Common.{◌≡◌, ℕ, ◌+◌, ◌<◌, List, [], ◌++◌, length, get_or, take, drop, refl, sym, ap, ◌∙◌, arith, length-set}
use mathlib.Core.Path.{ap₂}
use native.Mathlib.Numerals.{add-one}
use lib.ListN.{set, length-map, get_or-map}
use Rattle.rules.specs.Edition.{number_field}
use Rattle.rules.specs.Store.{editions, numbers, size_of}
use Rattle.laws.proofs.Lists.{filled_suc}
use Rattle.laws.proofs.StoreEntry.{edition_next}
use Rattle.editions.proofs.fill.Goals as goal

pub loop-i-init : goal.loop-i-init
unfolding size_of
loop-i-init c = record { place = refl; size = refl; listed = refl }

pub overflow_add-at : goal.overflow_add-at
overflow_add-at c = let e = edition_next _ c.requires.0 c.loop-i.i _ (omega arith) c.loop-i.invariant.place in omega arith

pub two-requires : goal.two-requires
two-requires c = let e = edition_next _ c.requires.0 c.loop-i.i _ (omega arith) c.loop-i.invariant.place in omega arith

pub two-requires-in-loop-i : goal.two-requires-in-loop-i
two-requires-in-loop-i c = let e = edition_next _ c.requires.0 c.loop-i.i _ (omega arith) c.loop-i.invariant.place in omega arith

pub overflow_add-at-in-loop-i-2 : goal.overflow_add-at-in-loop-i-2
overflow_add-at-in-loop-i-2 c =
    let e = edition_next _ c.requires.0 c.loop-i.i _ (omega arith) c.loop-i.invariant.place in
    omega (arith, c.two-in-loop-i.ensures)

pub loop-i-preserved : goal.loop-i-preserved
loop-i-preserved c =
    let args = c.args in
    let es : List (List ℕ) = editions args.store.now in
    let i : ℕ = c.loop-i.i in
    let e = edition_next _ c.requires.0 i _ (omega arith) c.loop-i.invariant.place in
    let few : i < length (numbers es) = omega (arith, length-map es number_field) in
    let number : c.two.result ≡ get_or (numbers es) i (number_field []) = c.two.ensures ∙ e.number ∙ sym (get_or-map number_field es i []) in
    record {
      place =
          ap (λ (n : ℕ). c.loop-i.at + (2 + n)) c.two-in-loop-i.ensures ∙ e.next ∙ ap (λ (n : ℕ). size_of (take n es)) (sym (add-one i));
      size = simp length-set c.loop-i.invariant.size;
      listed =
          ap₂ (λ (l : List ℕ) (n : ℕ). set l i n) c.loop-i.invariant.listed number
          ∙ filled_suc (numbers es) args.out.now (number_field []) i few (omega arith)
          ∙ ap (λ (n : ℕ). take n (numbers es) ++ drop n args.out.now) (sym (add-one i));
    }

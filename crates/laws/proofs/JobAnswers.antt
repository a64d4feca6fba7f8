-- What the cut of a job says, and what it leaves in the lent list, in orders.
use mathlib.Core.Path.{◌≡◌, sym, ap, ◌∙◌}
use mathlib.Core.Bool.{false}
use mathlib.Core.List.{List, ◌++◌}
use Prim.Native.Nat.{ℕ, ◌*◌, ◌≤◌, ◌<◌}
use native.Mathlib.Omega.{arith}
use borrow.Author.Tests.{lt-ltb, le-ltb}
use lib.ListN.{length, take, drop}
use lib.Seq.{take_at, drop_at}
use Rattle.std.specs.Prelude.{Ok, Err}
use Rattle.rules.specs.declared.Refusal.{Refusal}
use Rattle.rules.specs.declared.Refusal.TheVariants.{Room, Number}
use Rattle.rules.specs.declared.host.HostListed.{HostListed}
use Rattle.rules.specs.Job.{longest_job, Item, cut, item_numbers}
use Rattle.rules.specs.Refusals.{job_case}
use Rattle.rules.specs.Meets.{cut_meets}
use Rattle.rules.specs.Entries.{cut_says, written, after_cut}
use Rattle.rules.specs.Host.{host_listed}
use Rattle.laws.specs.Job.{CutByRule}
use Rattle.laws.proofs.Ruled.{ruled_none, ruled_met, ruled_passed, ruled_answers}
use Rattle.laws.proofs.Given.{listed_given}
use Rattle.laws.proofs.Job.{cut_by_rule}
use Rattle.laws.proofs.JobNumbers.{length_numbers}

module _ (sublots : ℕ) (out : List ℕ) where
  -- A refused cut leaves every number as it was.
  pub refused_cut_keeps : (r : Refusal) → cut_says sublots out ≡ Err r → after_cut sublots out ≡ out
  unfolding written
  refused_cut_keeps r e = ap (written (item_numbers (cut sublots)) out) e

  -- More than 4,096 sublots are refusal 9, whatever the list;
  pub long_job_is_refused : longest_job < sublots → cut_says sublots out ≡ Err Number
  unfolding cut_says cut_meets
  long_job_is_refused long = ruled_met _ _ _ (lt-ltb longest_job sublots long)

  passes : sublots ≤ longest_job → (job_case sublots).applies ≡ false
  passes few = le-ltb longest_job sublots few

  -- of no more, a list with fewer numbers than two to an item is refusal 8,
  pub short_list_is_refused : sublots ≤ longest_job → length out < 2 * length (cut sublots) → cut_says sublots out ≡ Err Room
  unfolding cut_says cut_meets
  short_list_is_refused few short =
      ruled_passed _ _ _ (passes few) ∙ ruled_met _ _ _ (lt-ltb (length out) (length (item_numbers (cut sublots))) (omega (arith, length_numbers (cut sublots))))

  -- and any other is filled from its start and keeps its rest.
  pub cut_is_answered :
      sublots ≤ longest_job → 2 * length (cut sublots) ≤ length out →
      (cut_says sublots out ≡ Ok (length (cut sublots))) × (after_cut sublots out ≡ item_numbers (cut sublots) ++ drop (2 * length (cut sublots)) out)
  unfolding cut_says cut_meets written
  cut_is_answered few room =
      let size = length_numbers (cut sublots) in
      let said : cut_says sublots out ≡ Ok (length (cut sublots)) = ruled_passed _ _ _ (passes few) ∙ ruled_passed _ _ _ (le-ltb (length out) (length (item_numbers (cut sublots))) (omega arith)) ∙ ruled_none _ in
      (said, ap (written (item_numbers (cut sublots)) out) said ∙ ap (λ (k : ℕ). item_numbers (cut sublots) ++ drop k out) size)

-- What a caller gets: as many items as are answered stand at the start of the list, they are the job's lots by the rule, and what stood after them stays.
pub record CutGiven (sublots items : ℕ) (out after : List ℕ) : Type 0 where
  pub lots : List Item
  pub by_rule : CutByRule sublots lots
  pub count : length lots ≡ items
  pub numbers : take (2 * items) after ≡ item_numbers lots
  pub rest : drop (2 * items) after ≡ drop (2 * items) out

pub cut_answer_is_by_rule :
    (sublots items : ℕ) (out after : List ℕ) →
    (Ok items) ≡ cut_says sublots out → after ≡ after_cut sublots out → CutGiven sublots items out after
unfolding cut_says written
cut_answer_is_by_rule sublots items out after e f =
    let count : length (cut sublots) ≡ items = (ruled_answers _ _ _ (sym e)).1 in
    let numbers : List ℕ = item_numbers (cut sublots) in
    let size : length numbers ≡ 2 * items = length_numbers (cut sublots) ∙ ap (λ (k : ℕ). 2 * k) count in
    let is : after ≡ numbers ++ drop (2 * items) out = f ∙ ap (written numbers out) (sym e) ∙ ap (λ (k : ℕ). numbers ++ drop k out) size in
    record {
      lots = cut sublots;
      by_rule = cut_by_rule sublots;
      count = count;
      numbers = rw is (take_at numbers (drop (2 * items) out) (2 * items) size);
      rest = rw is (drop_at numbers (drop (2 * items) out) (2 * items) size);
    }

-- of what C is given
pub given_cut_is_by_rule :
    (sublots : ℕ) (out after : List ℕ) (r : HostListed) →
    r ≡ host_listed (cut_says sublots out) → after ≡ after_cut sublots out → r.refusal.number ≡ 0 → CutGiven sublots r.items out after
given_cut_is_by_rule sublots out after r e f z = cut_answer_is_by_rule sublots r.items out after (sym (listed_given _ r e z)) f

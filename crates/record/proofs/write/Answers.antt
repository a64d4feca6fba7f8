-- A refused write leaves the lent bytes as they were; else they are the record, and after it the rest as it was.
use Rattle.std.proofs.Common.{◌≡◌, ℕ, ◌+◌, ◌*◌, ◌≤◌, ◌<◌, List, ◌++◌, length, drop, rules, arith, sym, ap, ◌∙◌}
use Rattle.std.specs.Prelude.{Ok, Err}
use borrow.Author.Tests.{le-ltb}
use Rattle.rules.specs.declared.HeldLot.{HeldLot}
use Rattle.rules.specs.declared.Refusal.{Refusal}
use Rattle.rules.specs.declared.Refusal.TheVariants.{Room}
use Rattle.rules.specs.declared.Totals.{Totals}
use Rattle.rules.specs.Said.{checked, Said}
use Rattle.rules.specs.Lot.{most, lot_in}
use Rattle.rules.specs.Record.{head_size, record_of}
use Rattle.rules.specs.Meets.{counted_meets, write_meets}
use Rattle.rules.specs.Entries.{write_says, written, after_write}
use Rattle.laws.specs.Totalled.{totalled}
use Rattle.laws.proofs.Ruled.{ruled_none, ruled_passed, ruled_first, ruled_later, totals_answered, totals_refused}
use Rattle.laws.proofs.Accepted.{lot_accepted}
use Rattle.laws.proofs.Lots.{lot_in_counted}
use Rattle.laws.proofs.Records.{length_record}
use Rattle.laws.proofs.Returns.{refused_write_keeps, short_room_is_refused}
use Rattle.record.proofs.write.Goals as goal

module _ (lot : HeldLot) (out : List ℕ) {t : Said Totals} (said : t ≡ totalled counted_meets (lot_in lot)) where
  met : {r : Refusal} → t ≡ Err r → write_says (lot_in lot) out ≡ Err r
  unfolding write_says write_meets totalled
  met e = ruled_first _ _ _ (totals_refused _ _ {t = t} said tt e)

  module _ {a : Totals} (e : t ≡ Ok a) where
    unrefused : checked (counted_meets (lot_in lot)) ≡ Ok tt
    unfolding totalled
    unrefused = (totals_answered _ _ {t = t} said e).0

    few : lot.count ≤ most
    few = (lot_accepted (lot_in lot) unrefused).few

    module _ (places : length lot.readings ≡ most) where
      -- The record is as long as the lot's count says.
      size : length (record_of (lot_in lot)) ≡ head_size + 4 * lot.count
      size = length_record (lot_in lot) ∙ ap (λ (n : ℕ). head_size + 4 * n) (lot_in_counted lot places few)

      short : length out < head_size + 4 * lot.count → write_says (lot_in lot) out ≡ Err Room
      short h = short_room_is_refused (lot_in lot) out unrefused (omega (arith, size))

      long :
          head_size + 4 * lot.count ≤ length out →
          (write_says (lot_in lot) out ≡ Ok (head_size + 4 * lot.count)) × (after_write (lot_in lot) out ≡ record_of (lot_in lot) ++ drop (head_size + 4 * lot.count) out)
      unfolding write_says write_meets written
      long h =
          let same : write_says (lot_in lot) out ≡ Ok (length (record_of (lot_in lot))) = ruled_later _ _ _ unrefused ∙ ruled_passed _ _ _ (le-ltb _ _ (omega (arith, size))) ∙ ruled_none _ in
          rw (← size) (same, ap (written (record_of (lot_in lot)) out) same)

pub returns-in_err-held : goal.returns-in_err-held
returns-in_err-held c =
    let same : write_says (lot_in c.args.lot) c.args.out.now ≡ Err c.in_err-held.field-0.0 = met c.args.lot c.args.out.now {t = c.held.result} c.held.ensures c.in_err-held.was in
    record { result_value = search rules; out_after = sym (refused_write_keeps _ _ _ same) }

pub returns-then-out-size : goal.returns-then-out-size
returns-then-out-size c =
    let same = short c.args.lot c.args.out.now {t = c.held.result} c.held.ensures c.in_ok-held.was (search rules) c.if-out-size.true in
    record { result_value = sym same; out_after = sym (refused_write_keeps _ _ _ same) }

pub put_record-requires-clause-few : goal.put_record-requires-clause-few
put_record-requires-clause-few c = few c.args.lot c.args.out.now {t = c.held.result} c.held.ensures c.in_ok-held.was

pub returns : goal.returns
returns c =
    let same = long c.args.lot c.args.out.now {t = c.held.result} c.held.ensures c.in_ok-held.was (search rules) c.if-out-size.false in
    record { result_value = sym same.0; out_after = c.put_record.ensures ∙ sym same.1 }

-- A lot that is written reads back as the same lot, and an accepted record is written again as the same bytes, for what a caller gets: for any
-- answers and lent bytes that the promises of `record::read` and `record::write` allow.
use mathlib.Core.Path.{◌≡◌, refl, sym, ap, ◌∙◌}
use mathlib.Core.List.{List, ◌++◌}
use Prim.Native.Nat.{ℕ, ◌≤◌}
use lib.ListN.{length, take, drop}
use Rattle.std.specs.Prelude.{Ok, Err}
use Rattle.rules.specs.declared.HeldLot.{HeldLot}
use Rattle.rules.specs.declared.ReadAnswer.{ReadAnswer}
use Rattle.rules.specs.Said.{Said}
use Rattle.rules.specs.Lot.{Lot, most, lot_in}
use Rattle.rules.specs.Entries.{ReadSaid, read_said, read_says, bare, read_leaves, write_says, after_write}
use Rattle.laws.specs.Bytes.{Bytes}
use Rattle.laws.proofs.Lots.{lot_in_counted}
use Rattle.laws.proofs.Returns.{read_is_held, no_two_records, write_reads_back, read_writes_back}

-- A record that is answered was read as the lot that is left in memory.
pub read_answered : (bs : List ℕ) (r : ReadAnswer) → r.said ≡ Ok tt → read_said r ≡ read_leaves bs → read_says bs ≡ Ok (lot_in r.lot)
read_answered bs r ok e = by (read_says bs) refl
  where
    by : (s : Said Lot) → read_says bs ≡ s → read_says bs ≡ Ok (lot_in r.lot)
    by (Err q) f = cc (ok, ap (λ (x : ReadSaid). x.said) e, ap bare f)
    by (Ok lot) f = f ∙ ap Ok (sym (ap (λ (x : ReadSaid). lot_in x.lot) e ∙ read_is_held bs lot f))

-- What was written of a lot in memory reads back as the same lot.
pub written_answer_reads_back :
    (held : HeldLot) (out after : List ℕ) (size : ℕ) (r : ReadAnswer) →
    length held.readings ≡ most →
    Ok size ≡ write_says (lot_in held) out → after ≡ after_write (lot_in held) out →
    read_said r ≡ read_leaves (take size after) →
    (r.said ≡ Ok tt) × (lot_in r.lot ≡ lot_in held)
written_answer_reads_back held out after size r places e f g =
    let back : read_says (take size after) ≡ Ok (lot_in held) = rw f (write_reads_back (lot_in held) out size (lot_in_counted held places) (sym e)) in (
      ap (λ (x : ReadSaid). x.said) g ∙ ap bare back,
      ap (λ (x : ReadSaid). lot_in x.lot) g ∙ read_is_held (take size after) (lot_in held) back,
    )

-- An accepted record, written again into any slice with room for it, is the same bytes, and what stood after them stays.
pub read_answer_writes_back :
    (bs out after : List ℕ) (r : ReadAnswer) (w : Said ℕ) →
    Bytes bs → length bs ≤ length out →
    r.said ≡ Ok tt → read_said r ≡ read_leaves bs →
    w ≡ write_says (lot_in r.lot) out → after ≡ after_write (lot_in r.lot) out →
    (w ≡ Ok (length bs)) × (after ≡ bs ++ drop (length bs) out)
read_answer_writes_back bs out after r w h room ok e f g =
    let back = read_writes_back bs out (lot_in r.lot) h room (read_answered bs r ok e) in
    (f ∙ back.0, g ∙ back.1)

-- Two records that are read as one lot are the same bytes.
pub no_lot_has_two_records :
    (bs cs : List ℕ) (r q : ReadAnswer) →
    Bytes bs → Bytes cs →
    r.said ≡ Ok tt → q.said ≡ Ok tt →
    read_said r ≡ read_leaves bs → read_said q ≡ read_leaves cs →
    lot_in r.lot ≡ lot_in q.lot → bs ≡ cs
no_lot_has_two_records bs cs r q h k ok also e f same =
    no_two_records bs cs (lot_in q.lot) h k (read_answered bs r ok e ∙ ap Ok same) (read_answered cs q also f)

-- What is answered is what is said of the record, beside the lot in memory, or a blank one.
use Rattle.std.proofs.Common.{◌≡◌, sym, ◌∙◌}
use Rattle.std.specs.Prelude.{Ok, Err}
use Rattle.rules.specs.declared.HeldLot.{HeldLot}
use Rattle.rules.specs.declared.Refusal.{Refusal}
use Rattle.rules.specs.Said.{Said}
use Rattle.rules.specs.Lot.{Lot}
use Rattle.rules.specs.Entries.{read_says, held, beside}
use Rattle.laws.specs.Totalled.{said_of}
use Rattle.record.proofs.read.Goals as goal

abbrev left : Said Lot → Said HeldLot
left = said_of (λ lot. held (Ok lot))

refused : (s : Said Lot) {answer : Said HeldLot} {r : Refusal} → answer ≡ left s → answer ≡ Err r → record { said = Err r; lot = held (Err r) } ≡ beside s
unfolding held
refused (Err q) is e = let same : ◌≡◌ {A = Said HeldLot} (Err _) (Err q) = sym e ∙ is in cc same
refused (Ok lot) is e = cc (is, e)

answered : (s : Said Lot) {answer : Said HeldLot} {lot : HeldLot} → answer ≡ left s → answer ≡ Ok lot → record { said = Ok tt; lot = lot } ≡ beside s
answered (Err q) is e = cc (is, e)
answered (Ok l) is e = cc (is, e)

pub returns-in-Err : goal.returns-in-Err
unfolding held
returns-in-Err c = refused (read_says c.args.bytes.now) c.lot.ensures c.in-Err.is

pub returns-in-Ok : goal.returns-in-Ok
returns-in-Ok c = answered (read_says c.args.bytes.now) c.lot.ensures c.in-Ok.is

-- The lots and the sheet are those of the host's numbers; what is said of them is given in plain numbers.
use Rattle.std.proofs.Common.{ap, ◌∙◌}
use mir.Facts.{to_z-of_z}
use Rattle.rules.specs.Lot.{lot_in}
use Rattle.rules.specs.Store.{table_in}
use Rattle.rules.specs.Check.{check_says}
use Rattle.rules.specs.HostSheet.{host_checked}
use Rattle.tulpavice.proofs.tulpavice_check.Goals as goal

pub returns : goal.returns
returns c =
    let price = c.ranges.price in
    let quantity = c.ranges.quantity in
    let said = simp to_z-of_z at c.check.ensures in
    c.checked.ensures
    ∙ ap host_checked
    (said
    ∙ λ i. check_says (table_in c.args.store.now c.args.edition) (lot_in (c.held_lot.ensures i)) (lot_in (c.held_lot-2.ensures i)) (lot_in (c.held_lot-3.ensures i)) c.args.price c.args.quantity (c.held_sheet.ensures i))

-- What the first 13 bytes can meet comes first, and then what the record's lot can: the limits and the readings that are read are those of that lot.
use Rattle.std.proofs.Common.{Bool, true, false, cond, ◌||◌, ◌≡◌, List, ℕ, ℤ, drop, length-drop, arith, IfOk, rules, sym, ap, ◌∙◌}
use Rattle.std.specs.Prelude.{Ok, Err}
use Rattle.rules.specs.declared.HeldLot.{HeldLot}
use Rattle.rules.specs.declared.Refusal.{Refusal}
use Rattle.rules.specs.declared.Refusal.TheVariants.{Range}
use Rattle.rules.specs.declared.Thousandths.{Thousandths}
use Rattle.rules.specs.declared.Totals.{Totals}
use Rattle.rules.specs.Units.{Limit}
use Rattle.rules.specs.Said.{Said, ruled, checked}
use Rattle.rules.specs.Lot.{Lot, lot_of, in_places}
use Rattle.rules.specs.Record.{fours, n_field, head_size, lot_of_record}
use Rattle.rules.specs.Refusals.{out_of_range}
use Rattle.rules.specs.Meets.{head_meets, limits_meet, lot_meets, read_meets}
use Rattle.rules.specs.Entries.{read_says, held}
use Rattle.laws.specs.Totalled.{said_of, walk_says, limited_say, with_limits_say, lot_totals, totalled}
use Rattle.laws.proofs.Ruled.{ruled_first, ruled_later, ruled_unrefused, ruled_answers, refused_alike}
use Rattle.laws.proofs.HeadAccepted.{head_accepted}
use Rattle.laws.proofs.Lots.{walked_with_limits, with_limits_of}
use Rattle.laws.proofs.Spelled.{length_fours}
use Rattle.record.proofs.lot.Goals as goal

-- The lot in memory of what is said of a record.
abbrev left : List ℕ → Said HeldLot
left bs = said_of (λ lot. held (Ok lot)) (read_says bs)

-- What is answered after the limits is what the walk answered.
kept : {A : Type 0} (upper lower : Limit) (walked : Said A) {a : A} → with_limits_say upper lower walked ≡ Ok a → walked ≡ Ok a
unfolding with_limits_say
kept upper lower = by (out_of_range upper || out_of_range lower)
  where
    by : {A : Type 0} (b : Bool) (walked : Said A) {a : A} → cond b (Err Range) (limited_say upper lower walked) ≡ Ok a → walked ≡ Ok a
    by true walked e = cc
    by false (Err r) e = e
    by false (Ok x) e = ap Ok (ruled_answers (limits_meet upper lower) x _ e).1

module _ (bs : List ℕ) {A : Type 0} (f : A → List ℕ) {head : Said A} (said : said_of f head ≡ ruled (head_meets bs) bs) where
  head_refused : {r : Refusal} → head ≡ Err r → read_says bs ≡ Err r
  unfolding read_says read_meets
  head_refused e = ruled_first _ _ _ (refused_alike (head_meets bs) bs tt (sym said ∙ ap (said_of f) e))

  head_taken : {a : A} → head ≡ Ok a → (bs ≡ f a) × (checked (head_meets (f a)) ≡ Ok tt)
  head_taken e =
      let r = ruled_answers (head_meets bs) bs _ (sym said ∙ ap (said_of f) e) in
      (r.1, rw r.1 at r.0)

module _ (bs : List ℕ) (unrefused : checked (head_meets bs) ≡ Ok tt) where
  abbrev lot : Lot
  lot = lot_of_record bs

  abbrev readings : List ℤ
  readings = fours (n_field bs) (drop head_size bs)

  module _ {A : Type 0} (f : A → Totals) (walked : Said A) {upper lower : Limit} {met : Said A} (is_upper : upper ≡ lot.upper) (is_lower : lower ≡ lot.lower) (walk : said_of f walked ≡ walk_says readings) (limited : met ≡ with_limits_say upper lower walked) where
    lot_is : lot_of upper lower readings ≡ lot
    unfolding lot_of_record
    lot_is = λ i. record { n = length_fours (n_field bs) (drop head_size bs) i; upper = is_upper i; lower = is_lower i; readings = readings }

    said : said_of f met ≡ ruled (lot_meets lot) (lot_totals lot)
    unfolding totalled
    said = ap (said_of f) limited ∙ with_limits_of f upper lower walked ∙ ap (with_limits_say upper lower) walk ∙ walked_with_limits upper lower readings ∙ ap (totalled lot_meets) lot_is

    lot_refused : {r : Refusal} → met ≡ Err r → read_says bs ≡ Err r
    unfolding read_says read_meets
    lot_refused e = ruled_later _ _ _ unrefused ∙ refused_alike (lot_meets lot) (lot_totals lot) lot (sym said ∙ ap (said_of f) e)

    lot_read :
        {a : A} {count : ℕ} (g : A → List Thousandths) → count ≡ n_field bs → IfOk walked (λ w. g w ≡ in_places (n_field bs) readings) → met ≡ Ok a →
        Ok (record { upper = upper; lower = lower; count = count; readings = g a }) ≡ left bs
    unfolding read_says read_meets held lot_of_record
    lot_read g is_count placed e =
        let places = rw (kept upper lower walked (sym limited ∙ e)) at placed in
        let answered = ruled_later (head_meets bs) (lot_meets lot) lot unrefused ∙ ruled_unrefused _ _ (ruled_answers (lot_meets lot) (lot_totals lot) _ (sym said ∙ ap (said_of f) e)).0 in
        (λ i. Ok (record { upper = is_upper i; lower = is_lower i; count = is_count i; readings = places i }))
        ∙ ap (said_of (λ lot. held (Ok lot))) (sym answered)

pub returns-in_err-head : goal.returns-in_err-head
returns-in_err-head c =
    let same : read_says c.args.bytes.now ≡ Err c.in_err-head.field-0.0 = head_refused c.args.bytes.now _ c.of.ensures (search rules) in
    search rules

pub walk-requires : goal.walk-requires
walk-requires c =
    let bs : List ℕ = c.in_ok-head.head.bytes.now in
    let accepted = head_accepted bs (head_taken c.args.bytes.now _ c.of.ensures {a = c.in_ok-head.head} (search rules)).1 in
    rw (c.count-n.ensures, c.readings.ensures) (omega arith, omega (arith, length-drop head_size bs))

pub returns-in_err-readings : goal.returns-in_err-readings
returns-in_err-readings c =
    let bs : List ℕ = c.in_ok-head.head.bytes.now in
    let taken = head_taken c.args.bytes.now _ c.of.ensures {a = c.in_ok-head.head} (search rules) in
    let walk = rw (c.count-n.ensures, c.readings.ensures) at c.walk.ensures.said_value in
    let same : read_says c.args.bytes.now ≡ Err c.in_err-readings.field-0.0 = ap read_says taken.0 ∙ lot_refused bs taken.1 (λ w. w.totals) c.walk.result c.limits-limits.ensures.upper c.limits-limits.ensures.lower walk c.met.ensures c.in_err-readings.was in
    search rules

pub returns : goal.returns
returns c =
    let bs : List ℕ = c.in_ok-head.head.bytes.now in
    let taken = head_taken c.args.bytes.now _ c.of.ensures {a = c.in_ok-head.head} (search rules) in
    let walk = rw (c.count-n.ensures, c.readings.ensures) at c.walk.ensures.said_value in
    let placed = rw (c.count-n.ensures, c.readings.ensures) at c.walk.ensures.placed in
    lot_read bs taken.1 (λ w. w.totals) c.walk.result c.limits-limits.ensures.upper c.limits-limits.ensures.lower walk c.met.ensures (λ w. w.readings) c.count-n.ensures placed c.in_ok-readings.was
    ∙ ap left (sym taken.0)

-- What holds of a record whose first 13 bytes are not refused.
use Rattle.std.specs.Prelude.{◌≡◌, false, List, ℕ, ◌+◌, ◌*◌, ◌≤◌, ◌<◌, length}
use Rattle.rules.specs.Said.{Said, ruled}
use Rattle.rules.specs.Lot.{Lot, most}
use Rattle.rules.specs.Record.{spelled, length_field, version_field, flags_field, n_field, upper_field, lower_field, has_upper, has_lower, head_size, lot_of_record, length_of}
use Rattle.rules.specs.Meets.{lot_meets}

pub record HeadAccepted (bs : List ℕ) : Type 0 where
  pub size : length bs ≡ head_size + 4 * n_field bs
  pub follow : length_field bs ≡ length_of (n_field bs)
  pub version : version_field bs ≡ 1
  pub flags : flags_field bs < 4
  pub no_upper : has_upper bs ≡ false → spelled 0 (upper_field bs) ≡ 0
  pub no_lower : has_lower bs ≡ false → spelled 0 (lower_field bs) ≡ 0
  pub least : 2 ≤ n_field bs
  pub few : n_field bs ≤ most

-- what is said of the lot of such a record: one of refusals 5 to 7, or the lot
abbrev pub lot_says : List ℕ → Said Lot
lot_says bs = ruled (lot_meets (lot_of_record bs)) (lot_of_record bs)

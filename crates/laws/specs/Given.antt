-- What is said of C's answers.
use Rattle.std.specs.Prelude.{◌≡◌, ◌↔◌, Ok}
use Rattle.rules.specs.declared.Percentages.{Percentages}
use Rattle.rules.specs.declared.Row.{Row}
use Rattle.rules.specs.declared.host.HostRefusal.{HostRefusal}
use Rattle.rules.specs.declared.host.HostPercentages.{HostPercentages}
use Rattle.rules.specs.declared.host.HostRow.{HostRow}
use Rattle.rules.specs.Units.{hundredths}
use Rattle.rules.specs.Said.{Said}

-- There is an answer.
abbrev pub HasAnswer : {A : Type 0} → Said A → Type 0
HasAnswer {A} said = (a : A) × (said ≡ Ok a)

-- The refusal's number is 0 exactly when there is an answer.
abbrev pub ZeroWhenAnswered : {A : Type 0} → HostRefusal → Said A → Type 0
ZeroWhenAnswered part said = (part.number ≡ 0) ↔ HasAnswer said

-- C's plain numbers as percentages in hundredths, and the rows tried
abbrev pub given_percentages : HostPercentages → Percentages
given_percentages r =
    record {
      upper = hundredths r.upper;
      lower = hundredths r.lower;
      pwl = hundredths r.pwl;
      tried = record { upper = r.tried.upper; lower = r.tried.lower };
    }

-- C's row without its refusal: the three doubles
abbrev pub given_row_of : HostRow → Row
given_row_of r = record { mean = r.mean; deviation = r.deviation; pwl = r.pwl }

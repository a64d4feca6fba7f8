-- A pay sheet as a host gives it, and what the check of one gives a host, in plain numbers.
use Rattle.std.specs.Prelude.{pos, Option, Some, None, Ok, Err}
use Rattle.rules.specs.declared.Sheet.{Sheet}
use Rattle.rules.specs.declared.host.HostSheet.{HostSheet}
use Rattle.rules.specs.declared.host.HostChecked.{HostChecked}
use Rattle.rules.specs.declared.Difference.{Difference}
use Rattle.rules.specs.Units.{hundredths, composite_of, cents}
use Rattle.rules.specs.Said.{Said}
use Rattle.rules.specs.Host.{refusal_part, no_refusal}

abbrev pub held_sheet : HostSheet → Sheet
held_sheet h =
    record {
      vma = hundredths h.vma;
      voids = hundredths h.voids;
      density = hundredths h.density;
      composite = composite_of h.composite;
      verdict = record { 0 = h.verdict };
      pay = cents h.pay;
    }

-- Accepted is a number of its own, 1: so an accepted sheet is not taken for one that differs in entry 0, nor a refusal for either.
abbrev pub host_found : Option Difference → HostChecked
host_found None = record { refusal = no_refusal; accepted = 1; entry = 0; sheet = pos 0; ours = pos 0 }
host_found (Some d) =
    record { refusal = no_refusal; accepted = 0; entry = d.entry; sheet = d.first; ours = d.second }

abbrev pub host_checked : Said (Option Difference) → HostChecked
host_checked (Err r) = record { refusal = refusal_part r; accepted = 0; entry = 0; sheet = pos 0; ours = pos 0 }
host_checked (Ok finding) = host_found finding

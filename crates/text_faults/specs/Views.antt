-- The values of this crate as a contract sees them.
use Rattle.std.specs.Prelude.{string_bytes}
use Rattle.text_faults.specs.declared.spots.CallLabel.{CallLabel}
use Rattle.text_faults.specs.Spots.{Label}

-- A label as a contract sees it.
abbrev pub seen_label : CallLabel → Label
seen_label l = record { spot = l.spot; is_primary = l.is_primary; text = string_bytes l.text }

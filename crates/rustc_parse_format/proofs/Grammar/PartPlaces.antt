-- The places of the parts of a format specification: the text written from each part on is the one
-- that the computation finds there.
use Rattle.std.proofs.Common.{◌≡◌, ◌++◌, refl, sym, ◌∙◌, ap}
use Rattle.rustc_parse_format.specs.Characters.{Text}
use Rattle.rustc_parse_format.specs.Counts.{width, precision}
use Rattle.rustc_parse_format.specs.Syntax.{width_part, precision_part}
use Rattle.rustc_parse_format.specs.Specification.{type, width_at, precision_at, type_at}
use Rattle.rustc_parse_format.specs.Specification.{format_text}
use Rattle.rustc_parse_format.specs.Meaning.{from_type, from_precision, from_width}
use Rattle.rustc_parse_format.specs.PartFaults.{width_faults, precision_faults, type_faults}
use Rattle.rustc_parse_format.specs.PartFaults.{format_faults}
use Rattle.rustc_parse_format.specs.Tries.{width_tries, precision_tries, format_tries}
use Rattle.rustc_parse_format.proofs.Grammar.PartCounts.{width-finds, precision-finds}
use Rattle.rustc_parse_format.proofs.Grammar.PartSpecs.{type-sound}

pub from_type-at : (t : Text) → from_type (format_text t).0 (format_text t).1 ≡ type_at t
unfolding format_text
from_type-at t = sym (type-sound (type_at t)).whole

pub from_precision-at : (t : Text) → from_precision (format_text t).0 (format_text t).1
    ≡ precision_at t
unfolding format_text
from_precision-at t =
    ap (λ u. (precision_part (precision (precision_at t)).0).spelling ++ u) (from_type-at t)
    ∙ sym (precision-finds.sound (precision_at t)).whole

pub from_width-at : (t : Text) → from_width (format_text t).0 (format_text t).1 ≡ width_at t
unfolding format_text
from_width-at t = ap (λ u. (width_part (width (width_at t)).0).spelling ++ u) (from_precision-at t)
    ∙ sym (width-finds.sound (width_at t)).whole

pub format_faults-at : (t : Text) → format_faults (format_text t).0 (format_text t).1
    ≡ width_faults (width_at t) (width (width_at t)).0
    ++ precision_faults (precision_at t) (precision (precision_at t)).0 ++ type_faults (type_at t)
    (type (type_at t)).0
unfolding format_text format_faults
format_faults-at t = rw (from_width-at t, from_precision-at t, from_type-at t) refl

pub format_tries-at : (t : Text) → format_tries (format_text t).0 (format_text t).1
    ≡ width_tries (width_at t) (width (width_at t)).0
    ++ precision_tries (precision_at t) (precision (precision_at t)).0
unfolding format_text format_tries
format_tries-at t = rw (from_width-at t, from_precision-at t) refl

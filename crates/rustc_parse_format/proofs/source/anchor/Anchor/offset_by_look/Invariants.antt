use Rattle.std.proofs.Common.{chars, length}
use Rattle.rustc_parse_format.specs.Bytes.{IsLeft}
use Rattle.rustc_parse_format.specs.SourceViews.{IsAnchor, IsHere}
use Rattle.rustc_parse_format.specs.World.{World}
use Rattle.rustc_parse_format.proofs.source.anchor.Anchor.offset_by_look.Given as goal

abbrev pub invariant-loop-at : goal.invariant-loop-at
invariant-loop-at l = record {
  after : IsLeft l.at.0.now l.fn.rest;
  here : (w : World) → IsAnchor l.fn.snippet w l.fn.self
      → IsHere l.fn.snippet w (chars l.at.0.now) l.at.1;
}

abbrev pub decreases-loop-at : goal.decreases-loop-at
decreases-loop-at l = length l.at.0.now

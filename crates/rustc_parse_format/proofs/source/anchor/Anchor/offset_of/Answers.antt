use Rattle.std.proofs.Common.{inl, inr}
use Rattle.rustc_parse_format.proofs.Sources.Unescaped.{unescaped_here}
use Rattle.rustc_parse_format.proofs.source.anchor.Anchor.offset_of.Goals as goal
use Rattle.rustc_parse_format.proofs.source.anchor.Anchor.offset_of.Goals.{then-distance-eq0-via-then-distance-eq0}
use Rattle.rustc_parse_format.proofs.source.anchor.Anchor.offset_of.Goals.{then-distance-eq0-via-else-distance-eq0+then-distance-self}

pub returns-then-distance-eq0 : goal.returns-then-distance-eq0
returns-then-distance-eq0 c w h =
    unescaped_here c.args.snippet.now w c.args.self.now c.args.rest.now h c.requires.after
    (elim c.then-distance-eq0.branch [
      | then-distance-eq0-via-then-distance-eq0 k ↦ inl k.if-distance-eq0.true
      | then-distance-eq0-via-else-distance-eq0+then-distance-self k ↦ inr
          (k.if-distance-eq0.false, k.if-distance-self.true)
    ])

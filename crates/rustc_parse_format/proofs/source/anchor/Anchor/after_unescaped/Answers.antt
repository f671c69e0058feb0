use Rattle.std.proofs.Common.{ap, ◌∙◌, chars, inl, inr}
use Rattle.rustc_parse_format.proofs.Sources.Unescaped.{unescaped_ahead, unescaped_boundary}
use Rattle.rustc_parse_format.proofs.Sources.Unescaped.{unescaped_here}
use Rattle.rustc_parse_format.proofs.source.anchor.Anchor.after_unescaped.Goals as goal
use Rattle.rustc_parse_format.proofs.source.anchor.Anchor.after_unescaped.Goals.{then-distance-eq0-via-then-distance-eq0}
use Rattle.rustc_parse_format.proofs.source.anchor.Anchor.after_unescaped.Goals.{then-distance-eq0-via-else-distance-eq0+then-distance-self}

pub returns-then-distance-eq0-clause-here : goal.returns-then-distance-eq0-clause-here
returns-then-distance-eq0-clause-here c w h =
    unescaped_here c.args.snippet.now w c.args.self.now c.after_bytes-rest_after.result.now h
    c.after_bytes-rest_after.ensures.after
    (elim c.then-distance-eq0.branch [
      | then-distance-eq0-via-then-distance-eq0 k ↦ inl k.if-distance-eq0.true
      | then-distance-eq0-via-else-distance-eq0+then-distance-self k ↦ inr
          (k.if-distance-eq0.false, k.if-distance-self.true)
    ])

pub range_from-requires : goal.range_from-requires
range_from-requires c _ =
    unescaped_boundary c.args.snippet.now c.requires.here.0 c.args.self.now
    c.after_bytes-rest_after.result.now c.requires.here.1
    c.after_bytes-rest_after.ensures.after c.after_bytes-rest_after.ensures.width

pub returns-clause-here : goal.returns-clause-here
returns-clause-here c w h =
    unescaped_ahead c.args.snippet.now w c.args.self.now c.after_bytes-rest_after.result.now
    c.continuations_width.result h
    c.after_bytes-rest_after.ensures.after c.after_bytes-rest_after.ensures.width
    c.if-distance-eq0.false
    (λ q us k m. c.continuations_width.ensures.width q us k (ap chars c.range_from.ensures.value
    ∙ m))

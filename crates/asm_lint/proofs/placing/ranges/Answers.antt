use Rattle.std.proofs.Common.{◌∷◌, [], refl}
use Rattle.std.proofs.lemmas.List.{map-append}
use Rattle.asm_lint.specs.Findings.{nowhere}
use Rattle.asm_lint.specs.Spans.{IsSpan}
use Rattle.asm_lint.proofs.Elements.{all-more}
use Rattle.asm_lint.proofs.placing.ranges.Goals as goal

pub loop-place-preserved : goal.loop-place-preserved
loop-place-preserved c = record {
  shown =
      rw (
        c.in_ok-push.ensures.items,
        map-append nowhere c.loop-place.list.items (c.spot_range.result ∷ []),
        map-append nowhere c.loop-place.yielded (c.in-Some.place ∷ []),
        c.loop-place.invariant.shown,
      ) refl;
  spans = all-more (λ r. IsSpan c.args.site.text.now r) c.loop-place.list.items _ _
      c.in_ok-push.ensures.items c.loop-place.invariant.spans c.spot_range.ensures;
}

use Rattle.std.proofs.Common.{◌<◌, ◌^◌, ap, ◌∙◌, sym, subst, drop, length, arith, IsCharBoundary}
use Rattle.std.proofs.Common.{Some}
use Rattle.rustc_parse_format.specs.SourceViews.{world_with}
use Rattle.rustc_parse_format.proofs.Sources.Gaps.{Closes, first-boundary, first-found}
use Rattle.rustc_parse_format.proofs.Sources.Gaps.{first-inside, first-anchor}
use Rattle.rustc_parse_format.proofs.source.first_anchor.Goals as goal

pub range_from-requires : goal.range_from-requires
range_from-requires c =
    λ _. subst (λ bs. IsCharBoundary bs 1) (sym c.as_str.ensures.value)
    (first-boundary c.args.source.now c.in-Some.snippet c.in-Some.is c.requires)

pub overflow_add-offset : goal.overflow_add-offset
overflow_add-offset c =
    let closes = subst (λ bs. Closes bs c.continuations_width-offset.result)
    (c.range_from.ensures.value ∙ ap (drop 1) c.as_str.ensures.value)
    c.continuations_width-offset.ensures.width in
    let small : length c.as_str.result.now < 2 ^ 64 = c.as_str.type_inv.0 in
    omega (
      arith,
      first-inside c.args.source.now c.in-Some.snippet c.continuations_width-offset.result
          c.in-Some.is c.requires closes,
      ap length c.as_str.ensures.value,
      small,
    )

pub new-requires : goal.new-requires
new-requires c =
    let s = c.args.source.now in
    let closes = subst (λ bs. Closes bs c.continuations_width-offset.result)
    (c.range_from.ensures.value ∙ ap (drop 1) c.as_str.ensures.value)
    c.continuations_width-offset.ensures.width in (
      world_with (Some c.in-Some.snippet) s,
      rw c.as_str-in-Some.ensures.value
          (first-found s c.in-Some.snippet c.continuations_width-offset.result c.in-Some.is
          c.requires closes),
    )

pub returns-in-Some-clause-anchor : goal.returns-in-Some-clause-anchor
returns-in-Some-clause-anchor c =
    let closes = subst (λ bs. Closes bs c.continuations_width-offset.result)
    (c.range_from.ensures.value ∙ ap (drop 1) c.as_str.ensures.value)
    c.continuations_width-offset.ensures.width in
    first-anchor c.args.source.now c.in-Some.snippet c.continuations_width-offset.result
    c.new.result c.in-Some.is c.requires closes
    (rw c.as_str-in-Some.ensures.value at c.new.ensures.anchor)

use Rattle.std.proofs.Common.{◌≡◌, ◌<◌, length, rules}
use Rattle.emit.specs.Json.{span_json}
use Rattle.emit.specs.Texts.{items_of}
use Rattle.emit.proofs.Texts.{array-begins, items-end, items-step}
use Rattle.emit.proofs.json_lines.put_spans.Goals as goal

pub loop-span-init : goal.loop-span-init
loop-span-init c = array-begins _ _ (items_of (span_json c.args.path.now) c.args.spans.now)
    c.in_ok-push_str.ensures.bytes

pub loop-span-preserved : goal.loop-span-preserved
loop-span-preserved c =
    let below : c.loop-span.span-index < length c.args.spans.now = search rules in
    items-step (span_json c.args.path.now) c.args.spans.now c.loop-span.span-index _ _ _ _ _ below
    c.in_ok-put_comma.ensures c.in_ok-put_span.ensures c.loop-span.invariant

pub returns : goal.returns
returns c =
    let all : c.loop-span.span-index ≡ length c.args.spans.now = search rules in
    items-end (span_json c.args.path.now) c.args.spans.now c.loop-span.span-index _ _ _ all
    c.in_ok-push_str-2.ensures.bytes c.loop-span.invariant

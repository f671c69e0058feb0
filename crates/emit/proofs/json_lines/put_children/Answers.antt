use Rattle.std.proofs.Common.{◌≡◌, ◌<◌, length, rules}
use Rattle.emit.specs.Json.{child_json}
use Rattle.emit.specs.Texts.{items_of}
use Rattle.emit.proofs.Texts.{array-begins, items-end, items-step}
use Rattle.emit.proofs.json_lines.put_children.Goals as goal

pub loop-child-init : goal.loop-child-init
loop-child-init c = array-begins _ _ (items_of (child_json c.args.path.now) c.args.children.now)
    c.in_ok-push_str.ensures.bytes

pub loop-child-preserved : goal.loop-child-preserved
loop-child-preserved c =
    let below : c.loop-child.child-index < length c.args.children.now = search rules in
    items-step (child_json c.args.path.now) c.args.children.now c.loop-child.child-index
    _ _ _ _ _ below
    c.in_ok-put_comma.ensures c.in_ok-put_child.ensures c.loop-child.invariant

pub returns : goal.returns
returns c =
    let all : c.loop-child.child-index ≡ length c.args.children.now = search rules in
    items-end (child_json c.args.path.now) c.args.children.now c.loop-child.child-index _ _ _ all
    c.in_ok-push_str-2.ensures.bytes c.loop-child.invariant

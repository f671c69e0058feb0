use Rattle.std.proofs.Common.{rules, ◌∙◌, ap, string_bytes, sym, ◌++◌}
use Rattle.file_paths.proofs.Escaping.{shown-goes-on}
use Rattle.file_paths.proofs.escapes.shown_path.Goals as goal

pub loop-front-preserved : goal.loop-front-preserved
loop-front-preserved c = (
  search rules,
  shown-goes-on c.loop-front.rest.now c.in-Some.front.now c.in-Some.tail.now
      (string_bytes c.loop-front.shown) _ _ c.in-Some.ensures.parts
      c.in_ok-push_str.ensures.bytes c.in_ok-push_str-2.ensures.bytes c.loop-front.invariant.1,
)

use Rattle.std.proofs.Common.{◌≡◌, ◌<◌, rules}
use Rattle.emit.specs.Json.{line_items}
use Rattle.emit.proofs.Lines.{line-end, line-step}
use Rattle.emit.proofs.Texts.{array-begins}
use Rattle.emit.proofs.json_lines.put_lines.Goals as goal

pub loop-countdown-init : goal.loop-countdown-init
loop-countdown-init c = (
  c.utf8.lines,
  array-begins _ _ (line_items c.args.line_count c.args.from c.args.to
      c.args.lines.now) c.in_ok-push_str.ensures.bytes,
)

pub loop-countdown-preserved : goal.loop-countdown-preserved
loop-countdown-preserved c =
    let some : 0 < c.loop-countdown.countdown = search rules in (
      search rules,
      line-step c.loop-countdown.countdown _ _ _ _ _ _ _ _ _ some c.split_line.ensures.line
          c.split_line.ensures.rest c.length_of.ensures.value c.in_ok-put_line.ensures
          c.in_ok-push_str-2.ensures.bytes c.loop-countdown.invariant.1,
    )

pub returns : goal.returns
returns c =
    let none : c.loop-countdown.countdown ≡ 0 = search rules in
    line-end c.loop-countdown.countdown _ _ _ _ _ _ _ none c.split_line-2.ensures.line
    c.in_ok-put_line-2.ensures c.in_ok-push_str-3.ensures.bytes c.loop-countdown.invariant.1

use Rattle.std.proofs.Common.{◌-◌, ◌≤◌, IsUtf8, rules, subst, sym}
use Rattle.drawn_edits.proofs.EditLines.{IsPassed, pass-boundary, pass-one}
use Rattle.drawn_edits.proofs.edited.split_within.Goals as goal

pub loop-c-preserved : goal.loop-c-preserved
loop-c-preserved c =
    let l = c.loop-c in
    let tail = c.in-Some.tail.now in
    let is_text : IsUtf8 tail = search rules in
    record {
      is_text = is_text;
      passed = subst (λ n. IsPassed c.args.text.now tail c.args.width (l.countdown - n))
          (sym c.len_utf8-countdown.ensures.value)
          (pass-one c.args.text.now l.rest.now tail c.args.width l.countdown c.in-Some.c
          l.invariant.is_text is_text c.in-Some.ensures.parts
          (subst (λ n. n ≤ l.countdown) c.len_utf8.ensures.value c.if-countdown-len_utf8.false)
          l.invariant.passed);
    }

pub split_at-requires : goal.split_at-requires
split_at-requires c =
    pass-boundary c.args.text.now c.loop-c.rest.now c.args.width c.loop-c.countdown
    c.loop-c.invariant.is_text c.loop-c.invariant.passed

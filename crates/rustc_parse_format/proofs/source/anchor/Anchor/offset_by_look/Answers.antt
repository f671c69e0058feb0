use Rattle.std.proofs.Common.{ap, arith, chars, length, sym}
use Rattle.std.proofs.lemmas.Str.{IsUtf8-from_is_utf8, is_utf8-from_IsUtf8}
use Rattle.rustc_parse_format.proofs.Sources.PlainPlaces.{left}
use Rattle.rustc_parse_format.proofs.Sources.Moves.{front_gone, front_left, left_from, shorter}
use Rattle.rustc_parse_format.proofs.source.anchor.Anchor.offset_by_look.Goals as goal

pub next_start-next-requires-clause-within : goal.next_start-next-requires-clause-within
next_start-next-requires-clause-within c =
    (c.loop-at.invariant.here c.requires.here.0 c.requires.here.1).within

pub next_start-next-requires-clause-valid : goal.next_start-next-requires-clause-valid
next_start-next-requires-clause-valid c =
    (c.loop-at.invariant.here c.requires.here.0 c.requires.here.1).valid

pub new-requires : goal.new-requires
new-requires c =
    let w = c.requires.here.0 in
    let here = c.loop-at.invariant.here w c.requires.here.1 in (
      w,
      rw c.after_first.ensures.rest
          (c.next_start-next.ensures w (chars c.loop-at.at.0.now) here),
    )

pub after_unescaped-at-requires-in-loop-at : goal.after_unescaped-at-requires-in-loop-at
after_unescaped-at-requires-in-loop-at c =
    let text = c.loop-at.at.0.now in
    let rest_after = c.after_first.result.now in
    let rest = c.args.rest.now in
    let after = c.loop-at.invariant.after in
    let l = left text rest after in
    let front = front_left text rest_after rest (IsUtf8-from_is_utf8 text after.valid)
    (IsUtf8-from_is_utf8 rest after.valid_rest)
    c.after_first.ensures.rest c.loop-at-test.true l.pre l.whole in
    let w = c.requires.here.0 in
    let here = c.loop-at.invariant.here w c.requires.here.1 in
    record {
      after = rw c.new.ensures.rest
          (left_from rest_after rest front.0
          (is_utf8-from_IsUtf8 rest_after c.after_first.utf8) after.valid_rest front.1);
      here = (
        w,
        c.new.ensures.anchor w
            (rw c.after_first.ensures.rest
            (c.next_start-next.ensures w (chars text) here)),
      );
    }

pub loop-at-smaller : goal.loop-at-smaller
loop-at-smaller c =
    let text = c.loop-at.at.0.now in
    omega (
      arith,
      ap length c.new.ensures.rest,
      c.after_unescaped-at-in-loop-at.ensures.shorter,
      shorter text c.after_first.result.now c.args.rest.now
          (IsUtf8-from_is_utf8 text c.loop-at.invariant.after.valid) c.after_first.utf8
          c.after_first.ensures.rest c.loop-at-test.true,
    )

pub loop-at-preserved : goal.loop-at-preserved
loop-at-preserved c = record {
  after = c.after_unescaped-at-in-loop-at.ensures.after;
  here = λ w h. c.after_unescaped-at-in-loop-at.ensures.here w (c.new.ensures.anchor w
      (rw c.after_first.ensures.rest
      (c.next_start-next.ensures w (chars c.loop-at.at.0.now)
      (c.loop-at.invariant.here w h))));
}

pub returns : goal.returns
returns c w h =
    let text = c.loop-at.at.0.now in
    let rest = c.args.rest.now in
    let after = c.loop-at.invariant.after in
    let l = left text rest after in
    rw (sym (front_gone text rest (IsUtf8-from_is_utf8 text after.valid)
    (IsUtf8-from_is_utf8 rest after.valid_rest) c.loop-at-test.false
    l.pre l.whole)) (c.loop-at.invariant.here w h)

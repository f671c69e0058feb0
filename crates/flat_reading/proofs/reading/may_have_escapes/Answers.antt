use Rattle.std.proofs.Common.{◌≡◌, None, chars, refl}
use Rattle.rustc_parse_format.specs.Views.{seen_mode}
use Rattle.flat_reading.proofs.Worlds.{bare_plain, literal_plain, no_style, raw_plain}
use Rattle.flat_reading.proofs.reading.may_have_escapes.Goals as goal

pub returns-then-is_some : goal.returns-then-is_some
returns-then-is_some c = λ no.
    let a = c.is_some.ensures in
    let b = c.if-is_some.true in
    let task = c.args.task.now in
    raw_plain (seen_mode task.mode)
    (chars task.input.now) task.style _ task.appended_newline _ refl cc

pub returns-in-Some : goal.returns-in-Some
returns-in-Some c = λ no.
    let a = c.is_some.ensures in
    let b = c.if-is_some.false in
    let task = c.args.task.now in
    let s : task.style ≡ None = no_style task.style cc in
    let e = c.is_longer.ensures in
    rw (s, c.in-Some.is)
    (literal_plain (seen_mode task.mode) (chars task.input.now)
    (chars c.in-Some.literal.now) task.appended_newline cc)

pub returns-in-None : goal.returns-in-None
returns-in-None c = λ no.
    let a = c.is_some.ensures in
    let b = c.if-is_some.false in
    let task = c.args.task.now in
    let s : task.style ≡ None = no_style task.style cc in
    rw (s, c.in-None.is)
    (bare_plain (seen_mode task.mode) (chars task.input.now) task.appended_newline)

use Rattle.std.proofs.Common.{◌≡◌, ◌++◌, ◌∙◌, ap, arith, chars, encode_utf8_all, false}
use Rattle.std.proofs.Common.{◌-◌, length, nat_lt, string_bytes, sym}
use Rattle.std.proofs.lemmas.Bool.Decides.{nat_tests}
use Rattle.drawn_lines.specs.Glyphs.{glyphs}
use Rattle.drawn_lines.specs.Windows.{is_wide}
use Rattle.drawn_lines.proofs.WindowLemmas.{glyph-chars, shown-cut, shown-printable, shown-whole}
use Rattle.drawn_lines.proofs.window.put_shown_line.Goals as goal

pub returns-then-front-window-clause-drawn : goal.returns-then-front-window-clause-drawn
returns-then-front-window-clause-drawn c =
    let parts = c.split_printable.ensures in
    let none : length c.split_printable.result.1.now ≡ 0 = grind (arith, nat_tests) in
    c.in_ok-push_str.ensures.bytes
    ∙ ap (λ x. string_bytes c.args.out.now ++ x)
    (sym (shown-printable c.args.palette c.args.window c.args.text.now _ _ parts.parts none
    parts.pass (grind (arith, nat_tests)) (grind (arith, nat_tests))))

pub returns-then-not-is_wide-clause-drawn : goal.returns-then-not-is_wide-clause-drawn
returns-then-not-is_wide-clause-drawn c =
    let narrow : is_wide c.args.window (chars c.args.text.now) ≡ false =
    grind (arith, nat_tests) in
    c.in_ok-put_glyphs.ensures.drawn
    ∙ ap (λ x. string_bytes c.args.out.now ++ x)
    (sym (shown-whole c.args.palette c.args.window (chars c.args.text.now) c.if-window-eq0-2.true
    narrow))

pub returns-clause-drawn : goal.returns-clause-drawn
returns-clause-drawn c =
    let text = encode_utf8_all (glyphs (chars c.args.text.now)) in
    let row : c.as_str.result.now ≡ text =
    c.as_str.ensures.value
    ∙ (c.in_ok-put_glyphs-2.ensures.drawn ∙ ap (λ x. x ++ text) c.new-row.ensures.bytes) in
    let drawn = glyph-chars c.args.text.now c.as_str.result.now c.utf8.text row in
    let right =
    c.saturating_sub.ensures ∙ ap (λ n. n - c.args.window.start) c.columns.ensures.value in
    c.in_ok-put_cut.ensures
    ∙ ap (λ x. string_bytes c.args.out.now ++ x)
    (shown-cut c.args.palette c.args.window (chars c.args.text.now) (chars c.as_str.result.now) _
    drawn (ap (λ n. nat_lt c.args.window.room n) (sym right)))

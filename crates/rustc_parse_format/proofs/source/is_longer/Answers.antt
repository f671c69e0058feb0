use Rattle.std.proofs.Common.{◌≡◌, if◌then◌else◌, ap, refl, string_bytes, length, ◌∙◌, sym}
use Rattle.std.proofs.lemmas.Str.{IsUtf8-string_bytes}
use Rattle.rustc_parse_format.proofs.Literals.Widths.{width-chars}
use Rattle.rustc_parse_format.proofs.source.is_longer.Goals.{then-appended_newline}
use Rattle.rustc_parse_format.proofs.source.is_longer.Goals.{else-appended_newline}
use Rattle.rustc_parse_format.proofs.source.is_longer.Goals as goal

pub returns-after-appended_newline : goal.returns-after-appended_newline
returns-after-appended_newline c =
    let s = ap length c.as_str.ensures.value
    ∙ sym (width-chars (string_bytes c.in-None-Some.text)
    (IsUtf8-string_bytes c.in-None-Some.text)) in
    let q : c.if-appended_newline.quotes ≡ (if c.args.appended_newline then 1 else 2) =
    elim c.if-appended_newline.branch [
      | then-appended_newline w ↦ w.quotes-is
          ∙ sym (ap (λ b. if b then 1 else 2) w.if-appended_newline.true)
      | else-appended_newline w ↦ w.quotes-is
          ∙ sym (ap (λ b. if b then 1 else 2) w.if-appended_newline.false)
    ] in
    rw (
      c.in-None-Some.is-0,
      c.in-None-Some.is-1,
      s,
      width-chars c.args.input.now c.utf8.input,
      q,
    ) refl

pub returns-in_default : goal.returns-in_default
returns-in_default c = rw (c.in_default.is-0, c.in_default.is-1) refl

pub returns-in_default-2 : goal.returns-in_default-2
returns-in_default-2 c = rw c.in_default.is-0 refl

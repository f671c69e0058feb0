use Rattle.std.proofs.Common.{◌≡◌, if◌then◌else◌, ap, refl, ◌∙◌, sym}
use Rattle.rustc_parse_format.proofs.Sources.PlainPlaces.{width_chars}
use Rattle.flat_reading.proofs.reading.is_longer.Goals.{then-appended_newline}
use Rattle.flat_reading.proofs.reading.is_longer.Goals.{else-appended_newline}
use Rattle.flat_reading.proofs.reading.is_longer.Goals as goal

pub returns : goal.returns
returns c =
    let q : c.if-appended_newline.quotes ≡ (if c.args.appended_newline then 1 else 2) =
    elim c.if-appended_newline.branch [
      | then-appended_newline w ↦ w.quotes-is
          ∙ sym (ap (λ b. if b then 1 else 2) w.if-appended_newline.true)
      | else-appended_newline w ↦ w.quotes-is
          ∙ sym (ap (λ b. if b then 1 else 2) w.if-appended_newline.false)
    ] in
    rw (
      width_chars c.args.literal.now c.utf8.literal,
      width_chars c.args.input.now c.utf8.input,
      q,
    ) refl

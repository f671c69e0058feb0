use Rattle.std.proofs.Common.{◌≡◌, ◌∙◌, ap, chars, encode_utf8_all, sym}
use Rattle.std.proofs.lemmas.Str.{encodes-chars}
use Rattle.drawn_lines.specs.Windows.{past_columns}
use Rattle.drawn_lines.proofs.WindowLemmas.{past-nil, past-none}
use Rattle.drawn_lines.proofs.window.past_columns.Goals as goal
use Rattle.drawn_lines.proofs.window.past_columns.Goals.{in-Some+then-countdown-eq0, in_default}

pub returns-clause-bytes : goal.returns-clause-bytes
returns-clause-bytes c =
    let rest = chars c.loop-c.rest.now in
    let done : past_columns c.loop-c.countdown rest ≡ rest =
    elim c.match-split_first.branch [
      | in-Some+then-countdown-eq0 w ↦ past-none c.loop-c.countdown rest
          w.if-countdown-eq0.true
      | in_default w ↦ past-nil c.loop-c.countdown rest w.in_default.ensures.parts
    ] in
    sym (encodes-chars c.loop-c.rest.now c.loop-c.invariant.is_text)
    ∙ ap encode_utf8_all (sym done ∙ c.loop-c.invariant.same)

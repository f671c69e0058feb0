use Rattle.std.proofs.Common.{sym, ap, ◌∙◌, ◌&&◌, nat_eq}
use Rattle.std.proofs.lemmas.Bool.{eq-eqb, ne_eqb}
use Rattle.rustc_parse_format.specs.Views.{pair}
use Rattle.rustc_parse_format.proofs.Lines.LastLines.{ends_with-found}
use Rattle.rustc_parse_format.proofs.lists.ends_with.Goals as goal

pub returns-then-last-line : goal.returns-then-last-line
returns-then-last-line c =
    sym (ends_with-found (pair c.args.line.now) c.args.lines.now c.in-Some.last.now
    (sym c.in-Some.ensures.value)
    ∙ ap (λ b. b && nat_eq c.in-Some.last.now.end c.args.line.now.end)
    (eq-eqb _ _ c.if-last-line.true))

pub returns-else-last-line : goal.returns-else-last-line
returns-else-last-line c =
    let no = ne_eqb _ _ c.if-last-line.false in
    no ∙ sym (ends_with-found (pair c.args.line.now) c.args.lines.now c.in-Some.last.now
    (sym c.in-Some.ensures.value)
    ∙ ap (λ b. b && nat_eq c.in-Some.last.now.end c.args.line.now.end) no)

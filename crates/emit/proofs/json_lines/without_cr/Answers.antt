use Rattle.std.proofs.Common.{◌≡◌, ◌++◌, ◌∷◌, ◌<◌, None, Some, arith, [], ap, sym, ◌∙◌}
use Rattle.std.proofs.lemmas.Str.Pattern.{strip_suffix_char}
use Rattle.emit.specs.Json.{without_cr}
use Rattle.emit.proofs.LineEnds.{with-cr, with-none}
use Rattle.emit.proofs.json_lines.without_cr.Goals as goal

pub returns-in-Some : goal.returns-in-Some
returns-in-Some c =
    let ascii : 13 < 128 = omega arith in
    let cut = strip_suffix_char 13 c.args.line.now (Some c.in-Some.front)
    c.in-Some.ensures.cases ascii in
    sym (ap without_cr cut ∙ with-cr c.in-Some.front.now)

pub returns-in-None : goal.returns-in-None
returns-in-None c =
    let ascii : 13 < 128 = omega arith in
    sym (with-none c.args.line.now
    (strip_suffix_char 13 c.args.line.now None c.in-None.ensures.cases ascii))

use Rattle.std.proofs.Common.{ap, arith, rules, sym}
use Rattle.drawn_lines.specs.Glyphs.{indent}
use Rattle.drawn_lines.proofs.LineLemmas.{line-chars}
use Rattle.drawn_lines.proofs.glyphs.indent.Goals as goal

pub loop-c-init : goal.loop-c-init
loop-c-init c = record {
  is_text = search rules;
  whole = ap (indent 0) (sym (line-chars c.args.text.now c.utf8.text));
  few = omega arith;
}

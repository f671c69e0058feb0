use Rattle.std.proofs.Common.{◌≡◌, ◌++◌, ◌∙◌, ap, arith, length, rules, string_bytes, sym}
use Rattle.std.proofs.lemmas.Bool.Decides.{nat_tests}
use Rattle.std.proofs.lemmas.Grind.{common_steps}
use Rattle.drawn_lines.proofs.GlyphLemmas.{drop-run}
use Rattle.drawn_lines.proofs.PrintableLemmas.{whole-printable}
use Rattle.drawn_lines.proofs.glyphs.put_glyphs.Goals as goal

pub loop-c-preserved : goal.loop-c-preserved
loop-c-preserved c = record {
  is_text = search rules;
  whole = grind (arith, common_steps, drop-run);
}

pub returns-then-is_empty-clause-drawn : goal.returns-then-is_empty-clause-drawn
returns-then-is_empty-clause-drawn c =
    let skipped : c.args.count ≡ 0 = cc in
    let parts = c.split_printable.ensures in
    let none : length c.split_printable.result.1.now ≡ 0 = grind (arith, nat_tests) in
    let drawn = whole-printable c.args.text.now _ _ parts.parts none parts.pass in
    rw skipped (c.in_ok-push_str.ensures.bytes
    ∙ ap (λ x. string_bytes c.args.out.now ++ x) (sym drawn))

use Rattle.std.proofs.Common.{false, inl, inr, refl}
use Rattle.rustc_parse_format.specs.Views.{seen_mode}
use Rattle.fault_fixes.specs.Rounds.{IsFixed}
use Rattle.fault_fixes.specs.SeenEdits.{seen_fixed}
use Rattle.format_lint.specs.Lint.{Source, lone_literal}
use Rattle.format_lint.specs.SeenLint.{seen_source}
use Rattle.format_lint.proofs.outputs.fixed_output.Goals as goal

pub returns-in_ok-kept_output-in-Some-2 : goal.returns-in_ok-kept_output-in-Some-2
returns-in_ok-kept_output-in-Some-2 c =
    let f = seen_fixed c.in-Some-2.fixed_literal in
    let r : Source = lone_literal c.args.source.style f.text f.snippet in
    let fixed : IsFixed (seen_mode c.args.task.mode) c.args.source.text.now c.args.source.style
    c.in-Some.literal.now false f = rw c.in-Some-2.is at c.in_ok-fixed_literal.ensures.some in
    let shown = rw (
      c.as_str.ensures.value,
      c.as_str-in-Some-2.ensures.value,
      c.as_str-in-Some-2-2.ensures.value,
    ) at c.in_ok-kept_output-in-Some-2.ensures in
    (r, rw c.in-Some.is (inl (f, fixed, refl)), shown)

pub returns-in_default : goal.returns-in_default
returns-in_default c =
    (seen_source c.args.source, rw c.in_default.is refl, c.in_ok-kept_output.ensures)

pub returns-in_ok-kept_output-in-None : goal.returns-in_ok-kept_output-in-None
returns-in_ok-kept_output-in-None c =
    let none = rw c.in-None.is at c.in_ok-fixed_literal.ensures.none in (
      seen_source c.args.source,
      rw c.in-Some.is (inr (none, refl)),
      c.in_ok-kept_output-in-None.ensures,
    )

use Rattle.std.proofs.Common.{◌≡◌, ◌++◌, OnOk, map, string_bytes, subst}
use Rattle.rustc_parse_format.specs.Views.{seen_mode}
use Rattle.format_lint.specs.Lint.{picture, start}
use Rattle.format_lint.specs.SeenLint.{seen_finding, seen_source, seen_task}
use Rattle.format_lint.proofs.SomeFaults.{kept-drawn}
use Rattle.format_lint.proofs.outputs.put_faults.Goals as goal

pub returns-clause-drawn : goal.returns-clause-drawn
returns-clause-drawn c =
    let a = c.args in
    let d = seen_mode a.task.mode in
    let s = seen_source a.source in
    let first = map seen_finding a.faults.now.first.items in
    subst (λ t. OnOk c.put_drawings.result
    (string_bytes c.put_drawings.new.out ≡ string_bytes a.out.now ++ t))
    (kept-drawn a.all d (picture (seen_task a.task) s) (start d s) first _ _ c.requires)
    c.put_drawings.ensures.drawn

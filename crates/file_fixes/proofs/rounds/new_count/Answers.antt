use Rattle.std.proofs.Common.{◌≡◌, ◌∙◌, ◌-◌, length, rules}
use Rattle.file_fixes.proofs.FaultLaws.{new-count}
use Rattle.file_fixes.proofs.rounds.new_count.Goals as goal

pub returns : goal.returns
returns c = λ s.
    let xs = c.args.faults.now in
    let ys = c.args.new.now.findings.items in
    let value : c.saturating_sub.result ≡ length ys - (length xs - c.args.mended_count) =
    search rules in
    value ∙ new-count xs ys c.args.mended_count c.requires s

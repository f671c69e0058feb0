use Rattle.std.proofs.Common.{◌≡◌, ◌∷◌, ◌==◌, ◌+◌, ◌||◌, ◌∙◌, ◌≤◌, ap, drop, false, if◌then◌else◌}
use Rattle.std.proofs.Common.{length, map, not, rules, subst, true}
use Rattle.fault_fixes.specs.SeenEdits.{seen_edit}
use Rattle.source_report.specs.Suggestions.{are_after, edits_of, end_after, mended_faults}
use Rattle.file_fixes.specs.FaultSearch.{walk_count}
use Rattle.file_fixes.proofs.LiteralLaws.{count-more, mended-edits}
use Rattle.file_fixes.proofs.literals.literal_of.Goals as goal

pub returns-clause-count : goal.returns-clause-count
returns-clause-count c = λ xs.
    let l = c.args.from in
    let x = c.args.finding.now in
    let ts = c.args.tokens.now in
    let index = c.in-Some.index in
    let is_new = l.count == 0 || not (index == l.index) in
    let list = c.as_slice-list.result.now in
    let edits : map seen_edit list ≡ edits_of x =
    ap (map seen_edit) c.as_slice-list.ensures.value ∙ c.in_ok-edits.ensures in
    let after : are_after l.at (map seen_edit list) ≡ true = search rules in
    let some : 1 ≤ length list = search rules in
    let yes = mended-edits l.at x list edits some after in
    let end : c.end_after.result ≡ end_after l.at (edits_of x) = search rules in
    let rest = mended_faults (end_after l.at (edits_of x)) xs in
    let walk = subst
    (λ bs. walk_count bs (l.count == 0) (drop l.index ts) (x ∷ rest)
    ≡ (if is_new then 1 else 0) + walk_count bs false (drop index ts) rest)
    c.as_bytes.ensures.value (c.in-Some.ensures.count (l.count == 0) rest) in
    rw (yes, end) (count-more c.args.text.now (l.count == 0) is_new l.count
    c.in_ok-count_with.field-0 (drop l.index ts) (drop index ts) x rest walk
    c.in_ok-count_with.ensures.count c.in_ok-count_with.ensures.some)

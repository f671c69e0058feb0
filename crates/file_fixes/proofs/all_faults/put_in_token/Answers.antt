use Rattle.std.proofs.Common.{rules}
use Rattle.file_fixes.specs.AllFaults.{IsInside, IsString}
use Rattle.file_fixes.proofs.AllFaultLaws.{alone, inside, whole}
use Rattle.file_fixes.proofs.all_faults.put_in_token.Goals as goal

pub returns-in-Some : goal.returns-in-Some
returns-in-Some c =
    let s = c.in-Some.string in
    let is_string : IsString c.args.text.now s = search rules in
    let inside : IsInside c.args.text.now s.token.now s.start c.args.finding.now =
    inside _ _ _ c.args.edits.now _ is_string c.requires c.in-len1.len_at_least c.in-len1.len_below
    (rw c.in-Some.is at c.in_ok-string.ensures.range) in
    whole c.args.text.now s c.args.finding.now _ _ is_string inside c.in_ok-put_string.ensures

pub returns : goal.returns
returns c = alone c.args.text.now c.args.finding.now _ _ c.in_ok-put_copy.ensures

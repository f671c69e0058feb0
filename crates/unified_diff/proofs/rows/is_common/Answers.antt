use Rattle.std.proofs.Common.{rules}
use Rattle.std.proofs.lemmas.Slice.Eq.{bytes_eq-Decides}
use Rattle.unified_diff.proofs.rows.is_common.Goals as goal

pub returns-in-Some-Some : goal.returns-in-Some-Some
returns-in-Some-Some c t =
    let it = c.in-Some-Some in
    record {
      line = it.line.now;
      other = it.other.now;
      old_from = search;
      new_from = search;
      old_within = search rules;
      new_within = search rules;
      in_old = search rules;
      in_new = search rules;
      same = (bytes_eq-Decides it.line.now.now it.other.now.now).0 (search rules);
    }

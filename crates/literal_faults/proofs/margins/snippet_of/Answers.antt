use Rattle.std.proofs.Common.{arith}
use Rattle.literal_faults.proofs.Snippets.{rest-within}
use Rattle.literal_faults.proofs.margins.snippet_of.Goals as goal

pub returns : goal.returns
returns c =
    let within = rest-within _ _ c.trim_ascii_start-rest.ensures.value in
    record {
      rest = c.trim_ascii_start-rest.result.now;
      is_source = c.after_mark-source.ensures;
      is_rest = c.trim_ascii_start-rest.ensures.value;
      is_text = c.trim_ascii_end.ensures.value;
      is_start = omega arith;
    }

use Rattle.std.proofs.Common.{arith}
use Rattle.rustc_parse_format.proofs.Sources.Ends.{raw-room, raw-ends}
use Rattle.rustc_parse_format.proofs.literal.raw_end.Goals as goal

pub overflow_sub-result : goal.overflow_sub-result
overflow_sub-result c =
    omega (
      arith,
      raw-room c.args.hashes c.args.snippet.now _ c.utf8.snippet
          (c.is_raw_literal.ensures.0 c.if-is_raw_literal.true),
    )

pub overflow_sub-result-then-is_raw_literal : goal.overflow_sub-result-then-is_raw_literal
overflow_sub-result-then-is_raw_literal c =
    omega (
      arith,
      raw-room c.args.hashes c.args.snippet.now _ c.utf8.snippet
          (c.is_raw_literal.ensures.0 c.if-is_raw_literal.true),
    )

pub returns-then-is_raw_literal : goal.returns-then-is_raw_literal
returns-then-is_raw_literal c =
    raw-ends c.args.hashes c.args.snippet.now _ c.utf8.snippet
    (c.is_raw_literal.ensures.0 c.if-is_raw_literal.true)

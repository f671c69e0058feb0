use Rattle.std.proofs.Common.{◌++◌, ap, ◌∙◌, arith, flat_map, length, string_bytes}
use Rattle.rustc_parse_format.specs.Escaping.{is_unchanged, written_character}
use Rattle.rustc_parse_format.proofs.Bytes.Unchanged.{unchanged-front}
use Rattle.rustc_parse_format.proofs.Sources.Contents.{rest_after-shorter}
use Rattle.rustc_parse_format.proofs.escapes.put_unchanged.Goals as goal

pub returns-clause-written : goal.returns-clause-written
returns-clause-written c =
    ap (λ x. x ++ flat_map written_character c.take_run.new.self) c.in_ok-push_run.ensures
    ∙ (ap (λ x. (string_bytes c.args.out.now ++ c.take_run.result.now)
    ++ flat_map written_character x)
    c.take_run.ensures.rest
    ∙ unchanged-front (string_bytes c.args.out.now) c.take_run.result.now
    c.args.rest.now c.take_run.utf8 c.take_run.ensures.run)

pub returns-in_err-push_run-clause-shorter : goal.returns-in_err-push_run-clause-shorter
returns-in_err-push_run-clause-shorter c = omega (
  arith,
  ap length c.take_run.ensures.rest,
  rest_after-shorter is_unchanged c.args.rest.now,
)

pub returns-clause-shorter : goal.returns-clause-shorter
returns-clause-shorter c = omega (
  arith,
  ap length c.take_run.ensures.rest,
  rest_after-shorter is_unchanged c.args.rest.now,
)

use Rattle.std.proofs.Common.{◌+◌}
use Rattle.format_calls.specs.Assembly.{asm_part}
use Rattle.asm_lint.specs.Assembly.{is_raw_part, is_unknown_part}
use Rattle.asm_lint.proofs.AsmSteps.{any-step, list-step}
use Rattle.asm_lint.proofs.MovedAssembly.{all-rest}
use Rattle.asm_lint.proofs.assembly.operands_of.Goals as goal

pub loop-argument-preserved : goal.loop-argument-preserved
loop-argument-preserved c =
    let xs = c.args.part.now in
    let i = c.loop-argument.argument-index in
    let more = c.in_ok-add.ensures in
    record {
      lie = all-rest _ (i + 1) c.args.arguments.now c.requires;
      list = list-step xs c.args.arguments.now i _ _ _ _ c.loop-argument-test.true
          c.loop-argument.invariant.list more.list;
      raw = any-step (λ a. is_raw_part (asm_part xs a)) c.args.arguments.now i _ _ _ _
          c.loop-argument-test.true c.loop-argument.invariant.raw more.raw;
      unknown = any-step (λ a. is_unknown_part (asm_part xs a)) c.args.arguments.now i _ _ _ _
          c.loop-argument-test.true c.loop-argument.invariant.unknown more.unknown;
    }

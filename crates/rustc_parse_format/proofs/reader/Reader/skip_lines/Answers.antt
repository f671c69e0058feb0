use Rattle.std.proofs.Common.{rules, ◌≡◌, ap, subst, sym, ◌∙◌, length, arith, map, refl, Some, true}
use Rattle.rustc_parse_format.specs.Characters.{rest_after, first, is_no_brace, is_in_line}
use Rattle.rustc_parse_format.specs.CallStates.{CallState, Remainder, IsInOneLine, IsPastIndent}
use Rattle.rustc_parse_format.specs.CallStates.{call_state}
use Rattle.rustc_parse_format.specs.CallStates.{read_run}
use Rattle.std.specs.Prelude.{option_map}
use Rattle.rustc_parse_format.specs.Views.{pair}
use Rattle.rustc_parse_format.proofs.Readers.RunLines.{run-step, one_line-step, one_line-no_newline}
use Rattle.rustc_parse_format.proofs.Readers.RunSkips.{run-skip, one_line-skip, rest_after-shorter}
use Rattle.rustc_parse_format.proofs.reader.Reader.skip_lines.Goals as goal
use Rattle.rustc_parse_format.proofs.reader.Reader.skip_lines.Goals.{After-skip_while}

abbrev after : After-skip_while → CallState
after c =
    let r = c.self-then-is_past_indent.inside in
    record (call_state c.skip_while.new.self r.curarg r.line_start) {
      faults = r.faults;
      lines = map pair r.lines.items;
      closed_place = option_map pair r.closed_place;
    }

-- The rest of the line is skipped.
passed : (c : After-skip_while)
    → ◌≡◌ {A = CallState} (after c)
    (record c.loop-c.self { rest = rest_after is_in_line c.loop-c.self.rest })
passed c =
    let r = c.self-then-is_past_indent.inside in
    ap (λ (u : Remainder). record (call_state u r.curarg r.line_start) {
      faults = r.faults;
      lines = map pair r.lines.items;
      closed_place = option_map pair r.closed_place;
    }) c.skip_while.ensures.rest
    ∙ ap (λ (m : CallState). record m { rest = rest_after is_in_line m.rest })
    (c.self-then-is_past_indent.view_is ∙ c.is_past_indent.ensures.state)

pub loop-c-smaller-then-is_past_indent : goal.loop-c-smaller-then-is_past_indent
loop-c-smaller-then-is_past_indent c =
    let next : first c.loop-c.self.rest ≡ Some c.in-Some.c = search rules in
    let passes : is_in_line c.in-Some.c ≡ true = search rules in
    let skipped = passed c in
    omega (
      arith,
      ap (λ (s : CallState). length s.rest) skipped,
      rest_after-shorter is_in_line c.loop-c.self.rest c.in-Some.c next passes,
    )

pub loop-c-preserved-then-is_past_indent : goal.loop-c-preserved-then-is_past_indent
loop-c-preserved-then-is_past_indent c =
    let s = c.loop-c.self in
    let before = c.loop-c.invariant in
    let next : first s.rest ≡ Some c.in-Some.c = search rules in
    let past : IsPastIndent c.in-Some.c s.line_start s.world s.rest =
    c.is_past_indent.ensures.past c.if-is_past_indent.true next in
    let skipped = passed c in
    record {
      source = search rules;
      run = ap read_run skipped ∙ (run-skip s c.in-Some.c before.source next past ∙ before.run);
      spare = λ one. subst IsInOneLine (sym skipped)
          (one_line-skip s c.in-Some.c before.source next past (before.spare one));
    }

pub loop-c-preserved : goal.loop-c-preserved
loop-c-preserved c =
    let s = c.loop-c.self in
    let before = c.loop-c.invariant in
    let next : first s.rest ≡ Some c.in-Some.c = search rules in
    let passes : is_no_brace c.in-Some.c ≡ true = search rules in
    let passed = rw c.is_past_indent.ensures.state at c.skip_in_line.ensures.state in
    record {
      source = search rules;
      run = ap read_run passed ∙ (run-step s c.in-Some.c before.source next passes ∙ before.run);
      spare = λ one. subst IsInOneLine (sym passed)
          (one_line-step s c.in-Some.c before.source next passes (before.spare one));
    }

pub loop-c-preserved-in-Continue-1 : goal.loop-c-preserved-in-Continue-1
loop-c-preserved-in-Continue-1 c =
    let s = c.loop-c.self in
    let before = c.loop-c.invariant in
    let next : first s.rest ≡ Some 10 = search rules in
    let ended = c.in_ok-consume_newline.ensures in
    record {
      source = search rules;
      run = ap read_run ended.state ∙ (run-step s 10 before.source next refl ∙ before.run);
      spare = λ one. subst IsInOneLine (sym ended.state)
          (one_line-step s 10 before.source next refl (before.spare one));
    }

pub returns-in_err-consume_newline : goal.returns-in_err-consume_newline
returns-in_err-consume_newline c =
    let s = c.loop-c.self in
    let before = c.loop-c.invariant in
    let next : first s.rest ≡ Some 10 = search rules in
    record {
      reads = record {
        state = search rules;
        err = search rules;
        spare = λ one. absurd
            (one_line-no_newline s 10 before.source next refl (before.spare one) refl);
      };
    }

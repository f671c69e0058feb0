use Rattle.std.proofs.Common.{[], chars, length, sym, ap, ◌∙◌, arith}
use Rattle.std.proofs.lemmas.List.{length-map}
use Rattle.rustc_parse_format.specs.Views.{seen_error}
use Rattle.rustc_parse_format.specs.State.{State}
use Rattle.flat_reading.specs.Events.{calls}
use Rattle.flat_reading.proofs.Walking.{length-finders}
use Rattle.flat_reading.proofs.read.read_by.Goals as goal

pub walk-requires-clause-small : goal.walk-requires-clause-small
walk-requires-clause-small c =
    omega (arith, c.requires.short, c.requires.input_length)

pub walk-requires-clause-ready : goal.walk-requires-clause-ready
walk-requires-clause-ready c =
    let e = c.requires.start in
    let r = c.new-reading.ensures in
    record {
      utf8 = r.utf8;
      input = ap chars r.input ∙ sym (ap (λ (s : State). s.input) e);
      left = ([], ap (λ (s : State). s.input) e ∙ sym (ap (λ (s : State). s.rest) e));
      plain = rw (r.escapes, r.offset) c.requires.plain;
      mode = rw r.escapes c.requires.mode;
    }

pub put_errors-answer-requires : goal.put_errors-answer-requires
put_errors-answer-requires c =
    let s = c.args.start in
    let start = c.requires.start in
    ap length c.in_ok-count.ensures.finders
    ∙ length-finders 0 [] s (calls s) (sym (ap (λ (t : State). length t.errors) start))
    ∙ sym (ap (λ (t : State). length t.errors) c.in_ok-count.ensures.state)
    ∙ sym (ap length c.errors-errors.ensures)
    ∙ length-map c.errors-errors.result.now seen_error

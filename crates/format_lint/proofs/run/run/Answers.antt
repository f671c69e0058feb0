use Rattle.std.proofs.Common.{◌≡◌, ◌∙◌, Ok, refl, rules, subst}
use Rattle.std.proofs.lemmas.Option.{IfSome_then}
use Rattle.std.specs.Io.KnownBytes.{Appends}
use Rattle.format_lint.proofs.OneAnswer.{owed-only}
use Rattle.format_lint.proofs.SomeFaults.{no_mistakes}
use Rattle.format_lint.specs.Lint.{IsHarmlessFor, IsOwed, Outputs, start}
use Rattle.format_lint.specs.SeenLint.{seen_outputs, seen_task}
use Rattle.format_lint.proofs.run.run.Goals as goal

pub returns-in_err-input-clause-one_answer : goal.returns-in_err-input-clause-one_answer
returns-in_err-input-clause-one_answer g c = owed-only

pub returns-in_default-clause-one_answer : goal.returns-in_default-clause-one_answer
returns-in_default-clause-one_answer g c = owed-only

pub returns-in_err-outputs-clause-one_answer : goal.returns-in_err-outputs-clause-one_answer
returns-in_err-outputs-clause-one_answer g c = owed-only

pub returns-in_err-write_whole-clause-one_answer : goal.returns-in_err-write_whole-clause-one_answer
returns-in_err-write_whole-clause-one_answer g c = owed-only

pub returns-in_err-write_whole-2-clause-one_answer :
    goal.returns-in_err-write_whole-2-clause-one_answer
returns-in_err-write_whole-2-clause-one_answer g c = owed-only

pub returns-clause-one_answer : goal.returns-clause-one_answer
returns-clause-one_answer g c = owed-only

pub returns-in_err-input-clause-mistake_count : goal.returns-in_err-input-clause-mistake_count
returns-in_err-input-clause-mistake_count g c mode s = no_mistakes (start mode s) refl

pub returns-in_default-clause-mistake_count : goal.returns-in_default-clause-mistake_count
returns-in_default-clause-mistake_count g c mode s = no_mistakes (start mode s) refl

pub returns-in_err-outputs-clause-mistake_count : goal.returns-in_err-outputs-clause-mistake_count
returns-in_err-outputs-clause-mistake_count g c mode s = no_mistakes (start mode s) refl

pub returns-in_err-write_whole-clause-mistake_count :
    goal.returns-in_err-write_whole-clause-mistake_count
returns-in_err-write_whole-clause-mistake_count g c mode s = no_mistakes (start mode s) refl

pub returns-in_err-write_whole-2-clause-mistake_count :
    goal.returns-in_err-write_whole-2-clause-mistake_count
returns-in_err-write_whole-2-clause-mistake_count g c mode s = no_mistakes (start mode s) refl

pub returns-clause-mistake_count : goal.returns-clause-mistake_count
returns-clause-mistake_count g c mode s = no_mistakes (start mode s) refl

pub returns-clause-outputs : goal.returns-clause-outputs
returns-clause-outputs g c =
    let a = seen_task c.args.task in
    let x = seen_outputs c.in_ok-outputs.outputs in
    let before = g.W.Write.contents c.args.writer.now in
    let after = g.W.Write.contents c.write_whole.new.writer in
    let errors_before = g.E.Write.contents c.args.error_writer.now in
    let errors_after = g.E.Write.contents c.write_whole-2.new.writer in
    let text : c.in-Ok.text.now ≡ c.in_ok-input.input.items = search rules in
    let owed : IsOwed a c.in-Ok.text.now (Ok x) = search rules in
    let output : Appends before after x.output = search rules in
    let drawing : Appends errors_before errors_after x.error_output = search rules in
    IfSome_then _ {Q = λ input. (y : Outputs) × IsOwed a input (Ok y)
    × (x.mistake_count ≡ y.mistake_count)
    × Appends before after y.output × Appends errors_before errors_after y.error_output}
    c.in_ok-input.ensures.bytes
    (λ input e. (x, subst (λ i. IsOwed a i (Ok x)) (text ∙ e) owed, refl, output, drawing))

pub returns-clause-harmless : goal.returns-clause-harmless
returns-clause-harmless g c =
    let a = seen_task c.args.task in
    let x = seen_outputs c.in_ok-outputs.outputs in
    let before = g.W.Write.contents c.args.writer.now in
    let after = g.W.Write.contents c.write_whole.new.writer in
    let errors_before = g.E.Write.contents c.args.error_writer.now in
    let errors_after = g.E.Write.contents c.write_whole-2.new.writer in
    let text : c.in-Ok.text.now ≡ c.in_ok-input.input.items = search rules in
    let output : Appends before after x.output = search rules in
    let drawing : Appends errors_before errors_after x.error_output = search rules in
    IfSome_then _ {Q = λ input. (y : Outputs) × IsHarmlessFor a input y
    × Appends before after y.output × Appends errors_before errors_after y.error_output}
    c.in_ok-input.ensures.bytes (λ input e. (
      x,
      subst (λ i. IsHarmlessFor a i x) (text ∙ e) c.in_ok-outputs.ensures.harmless,
      output,
      drawing,
    ))

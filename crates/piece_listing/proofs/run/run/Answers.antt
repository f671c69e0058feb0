use Rattle.std.proofs.Common.{Err, Ok, inl, ap, map, option_map, string_bytes, sym, subst, ◌∙◌}
use Rattle.std.specs.Str.{IsUtf8}
use Rattle.std.proofs.lemmas.Bool.{false≢true}
use Rattle.std.proofs.lemmas.Option.{IfSome_then}
use Rattle.piece_listing.specs.declared.verdict.RunFault.TheVariants.{NotText}
use Rattle.piece_listing.specs.Program.{IsOwed, IsShort, empty_answer}
use Rattle.piece_listing.specs.SeenTask.{seen_task}
use Rattle.piece_listing.proofs.Empty.{task_of-literal, empty-listed, empty-read}
use Rattle.piece_listing.proofs.OneAnswer.{owed-only}
use Rattle.piece_listing.proofs.run.run.Goals as goal

pub returns-in_default-clause-not_text : goal.returns-in_default-clause-not_text
returns-in_default-clause-not_text g c _ =
    IfSome_then _ {Q = λ input. IsOwed (map string_bytes c.args.words.now) input (Err NotText)}
    c.in_ok-input.ensures.bytes (λ input e. (
      seen_task c.in-Some.task,
      sym c.task_of.ensures ∙ ap (option_map seen_task) c.in-Some.is,
      (
        subst IsShort e c.in_ok-input.ensures.short,
        λ u. c.in_default.ensures.cases.0 (subst IsUtf8 (sym (c.as_slice.ensures.value ∙ e)) u),
      ),
    ))

pub returns-in-None-clause-one_answer : goal.returns-in-None-clause-one_answer
returns-in-None-clause-one_answer g c = owed-only

pub returns-in_err-input-clause-one_answer : goal.returns-in_err-input-clause-one_answer
returns-in_err-input-clause-one_answer g c = owed-only

pub returns-in_default-clause-one_answer : goal.returns-in_default-clause-one_answer
returns-in_default-clause-one_answer g c = owed-only

pub returns-in_err-lines-clause-one_answer : goal.returns-in_err-lines-clause-one_answer
returns-in_err-lines-clause-one_answer g c = owed-only

pub returns-in_err-write_whole-clause-one_answer : goal.returns-in_err-write_whole-clause-one_answer
returns-in_err-write_whole-clause-one_answer g c = owed-only

pub returns-clause-one_answer : goal.returns-clause-one_answer
returns-clause-one_answer g c = owed-only

pub returns-in_err-write_whole-clause-empty : goal.returns-in_err-write_whole-clause-empty
returns-in_err-write_whole-clause-empty g c mode literal a e =
    let task = c.in-Some.task in
    let none =
    empty-read _ c.in_ok-input.input.items c.as_slice.result.now c.in-Ok.text.now e
    c.in_ok-input.ensures.bytes
    c.as_slice.ensures.value c.in-Ok.ensures.cases.0 in
    let asks = task_of-literal c.task_of.result task mode literal _ c.task_of.ensures
    c.in-Some.is a in
    let listed =
    empty-listed task c.in_ok-lines.field-0 c.in-Ok.text.now none asks.1
    c.in_ok-lines.ensures.empty_literal c.in_ok-lines.ensures.lines in
    absurd (false≢true (c.in_err-write_whole.ensures.empty (c.as_bytes.ensures.value ∙ listed.1)).0)

pub returns-clause-empty : goal.returns-clause-empty
returns-clause-empty g c mode literal a e =
    let task = c.in-Some.task in
    let none =
    empty-read _ c.in_ok-input.input.items c.as_slice.result.now c.in-Ok.text.now e
    c.in_ok-input.ensures.bytes
    c.as_slice.ensures.value c.in-Ok.ensures.cases.0 in
    let asks = task_of-literal c.task_of.result task mode literal _ c.task_of.ensures
    c.in-Some.is a in
    let listed =
    empty-listed task c.in_ok-lines.field-0 c.in-Ok.text.now none asks.1
    c.in_ok-lines.ensures.empty_literal c.in_ok-lines.ensures.lines in (
      (c.in_ok-write_whole.ensures.empty (c.as_bytes.ensures.value ∙ listed.1)).1,
      inl (ap Ok listed.2 ∙ ap empty_answer (sym listed.0 ∙ asks.0)),
    )

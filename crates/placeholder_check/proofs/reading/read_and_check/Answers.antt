use Rattle.std.proofs.Common.{◌∙◌, chars, map}
use Rattle.rustc_parse_format.specs.Views.{seen_piece, seen_mode, seen_snippet}
use Rattle.rustc_parse_format.specs.Types.{bare_piece}
use Rattle.rustc_parse_format.specs.World.{quote_offset, world}
use Rattle.placeholder_check.specs.Report.{IsReport}
use Rattle.placeholder_check.specs.Views.{seen_report, texts}
use Rattle.placeholder_check.specs.Uses.{uses}
use Rattle.placeholder_check.proofs.Empty.{no_pieces}
use Rattle.placeholder_check.proofs.NamedArguments.{named-alone}
use Rattle.placeholder_check.proofs.Reports.{uses-bare}
use Rattle.placeholder_check.proofs.reading.read_and_check.Goals as goal

pub returns-clause-reading : goal.returns-clause-reading
returns-clause-reading c = λ clean. record {
  pieces = map bare_piece (map seen_piece c.in_ok-pieces.field-0.pieces.items);
  are_read = c.in_ok-pieces.ensures.reading clean;
  are_only = λ others r. c.read_all.ensures.one_reading _ _ _ _ _ r
      (c.in_ok-pieces.ensures.reading clean);
  is_report = rw (
    uses-bare (map seen_piece c.in_ok-pieces.field-0.pieces.items),
    ← c.as_slice.ensures.value,
  ) c.in_ok-report.ensures.report;
}

pub returns-clause-uses_are_by_name : goal.returns-clause-uses_are_by_name
returns-clause-uses_are_by_name c = λ named. λ clean.
    let ps = map seen_piece c.in_ok-pieces.field-0.pieces.items in
    let read = rw named at c.in_ok-pieces.ensures.reading clean in
    let report : IsReport (uses (map bare_piece ps)) c.args.positional (texts c.args.names.now)
    (seen_report c.in_ok-report.report) =
    rw (uses-bare ps, ← c.as_slice.ensures.value) c.in_ok-report.ensures.report in
    named-alone.no_number_is_used 0 (chars c.args.input.now)
    (map bare_piece ps) read c.args.positional
    (texts c.args.names.now)
    (seen_report c.in_ok-report.report) report

pub returns-in_err-report-clause-empty : goal.returns-in_err-report-clause-empty
returns-in_err-report-clause-empty c = λ e without zero unnamed.
    let w = world (chars c.args.input.now) c.args.style
    (seen_snippet c.args.snippet) c.args.appended_newline in
    let none = no_pieces seen_piece c.in_ok-pieces.field-0.pieces.items (seen_mode c.args.mode) w
    (quote_offset c.args.style) c.args.input.now e
    c.in_ok-pieces.ensures.walk.0 in
    absurd (let made = c.in_err-report.ensures.empty (c.as_slice.ensures.value
    ∙ none) zero unnamed in cc)

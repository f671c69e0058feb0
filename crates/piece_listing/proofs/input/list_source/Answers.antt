use Rattle.std.proofs.Common.{◌∙◌, ap, chars, false}
use Rattle.rustc_parse_format.proofs.Walking.ReadPieces.{no_source}
use Rattle.rustc_parse_format.specs.Views.{seen_mode, seen_snippet}
use Rattle.rustc_parse_format.specs.State.{State, after_all, calls}
use Rattle.rustc_parse_format.specs.World.{quote_offset, world}
use Rattle.piece_listing.proofs.Empty.{chars-empty, no_faults}
use Rattle.piece_listing.specs.Program.{errors, pieces}
use Rattle.piece_listing.proofs.input.list_source.Goals as goal

pub returns-clause-lines : goal.returns-clause-lines
unfolding pieces errors
returns-clause-lines c = rw c.in_ok-parser.ensures.start at c.list_calls.ensures.lines

pub returns-clause-empty : goal.returns-clause-empty
returns-clause-empty c e without bare =
    let mode = seen_mode c.args.task.mode in
    let text = chars c.args.text.now in
    let w = world text c.args.style (seen_snippet c.args.snippet) false in
    let start = c.in_ok-parser.ensures.start in
    let rest = ap (λ (s : State). s.rest) start ∙ chars-empty c.args.text.now e in
    let source = no_source _ _ c.in_ok-parser.ensures.source without in
    let none = ap (λ (s : State). (after_all s (calls s)).errors) start
    ∙ no_faults mode w (quote_offset c.args.style) c.args.text.now e in
    c.list_calls.ensures.empty rest source none bare

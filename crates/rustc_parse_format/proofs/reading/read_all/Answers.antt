use Rattle.std.proofs.Common.{◌≡◌, ◌∙◌, false, ap, chars, refl}
use Rattle.std.proofs.lemmas.Bool.{false≢true}
use Rattle.std.proofs.lemmas.Str.{chars-nil}
use Rattle.rustc_parse_format.specs.Characters.{Text}
use Rattle.rustc_parse_format.specs.Views.{seen_mode, seen_snippet}
use Rattle.rustc_parse_format.specs.State.{State, first_state, calls}
use Rattle.rustc_parse_format.proofs.Grammar.Readings.{Reads-unique, Reads-spelled}
use Rattle.rustc_parse_format.proofs.Grammar.PartCuts.{cut-only}
use Rattle.rustc_parse_format.proofs.Walking.StateWalks.{after_all-world}
use Rattle.rustc_parse_format.proofs.Walking.ReadPieces.{no_source, walks_of, clean_in, in_clean}
use Rattle.rustc_parse_format.proofs.Walking.ReadPieces.{reading_of, stops_of}
use Rattle.rustc_parse_format.proofs.Walking.ParserLaws.{after_all-sourceless, fresh_inside}
use Rattle.rustc_parse_format.proofs.Walking.ParserLaws.{fresh_lines, fresh_places}
use Rattle.rustc_parse_format.proofs.Walking.ParserLaws.{fresh_reads_back, fresh_worlds}
use Rattle.rustc_parse_format.proofs.Lines.LinesInside.{walked_lies_inside}
use Rattle.rustc_parse_format.proofs.Spans.Worlds.{has_source-is}
use Rattle.rustc_parse_format.proofs.Sources.Decided.{has_source}
use Rattle.rustc_parse_format.proofs.reading.read_all.Goals as goal

pub returns-in_err-pieces-clause-one_reading : goal.returns-in_err-pieces-clause-one_reading
returns-in_err-pieces-clause-one_reading c = Reads-unique

pub returns-clause-one_reading : goal.returns-clause-one_reading
returns-clause-one_reading c = Reads-unique

pub returns-in_err-pieces-clause-one_cut : goal.returns-in_err-pieces-clause-one_cut
returns-in_err-pieces-clause-one_cut c = cut-only

pub returns-clause-one_cut : goal.returns-clause-one_cut
returns-clause-one_cut c = cut-only

pub returns-in_err-pieces-clause-reads_back : goal.returns-in_err-pieces-clause-reads_back
returns-in_err-pieces-clause-reads_back c source e h =
    fresh_reads_back (seen_mode c.args.mode)
    (chars c.args.input.now) c.args.style _ source c.args.appended_newline e h

pub returns-clause-reads_back : goal.returns-clause-reads_back
returns-clause-reads_back c source e h =
    fresh_reads_back (seen_mode c.args.mode)
    (chars c.args.input.now) c.args.style _ source c.args.appended_newline e h

pub returns-in_err-pieces-clause-inside : goal.returns-in_err-pieces-clause-inside
returns-in_err-pieces-clause-inside c source e h =
    fresh_inside (seen_mode c.args.mode)
    (chars c.args.input.now) c.args.style _ source c.args.appended_newline e h

pub returns-clause-inside : goal.returns-clause-inside
returns-clause-inside c source e h =
    fresh_inside (seen_mode c.args.mode)
    (chars c.args.input.now) c.args.style _ source c.args.appended_newline e h

-- The state in which the walk starts.
abbrev first : goal.In_ok-pieces → State
first c = first_state (seen_mode c.args.mode) (chars c.args.input.now) c.args.style
    (seen_snippet c.args.snippet) c.args.appended_newline

started : (c : goal.In_ok-pieces) → ◌≡◌ {A = State} c.in_ok-parser.parser (first c)
started c = c.in_ok-parser.ensures.start

pub returns-clause-lies_inside : goal.returns-clause-lies_inside
returns-clause-lies_inside c source e h =
    walked_lies_inside (seen_mode c.args.mode) (chars c.args.input.now) c.args.style
    (seen_snippet c.args.snippet) source c.args.appended_newline
    c.in_ok-parser.parser _ (started c) c.in_ok-pieces.ensures.state e h

pub returns-clause-worlds : goal.returns-clause-worlds
returns-clause-worlds c =
    fresh_worlds (first c) c.in_ok-parser.parser _ _
    (started c) c.in_ok-pieces.ensures.pieces c.in_ok-pieces.ensures.state refl

pub returns-clause-lines : goal.returns-clause-lines
returns-clause-lines c h =
    fresh_lines (first c) c.in_ok-parser.parser _ (started c) c.in_ok-pieces.ensures.state
    (has_source-is (chars c.args.input.now) c.args.style
    (seen_snippet c.args.snippet) c.args.appended_newline
    ∙ (has_source (chars c.args.input.now) c.args.style
    (seen_snippet c.args.snippet) c.args.appended_newline).1 h)

pub returns-clause-places : goal.returns-clause-places
returns-clause-places c =
    fresh_places (first c) c.in_ok-parser.parser _ (started c) c.in_ok-pieces.ensures.state refl

pub returns-clause-sourceless : goal.returns-clause-sourceless
returns-clause-sourceless c without =
    let none : c.in_ok-parser.parser.world.has_source
    ≡ false = no_source _ _ c.in_ok-parser.ensures.source without in
    let r = after_all-sourceless c.in_ok-parser.parser (calls c.in_ok-parser.parser) none in
    let state = c.in_ok-pieces.ensures.state in (
      ap (λ (s : State). s.arg_places) state ∙ (r.0 ∙ ap (λ (s : State). s.arg_places) (started c)),
      ap (λ (s : State). s.line_spans) state ∙ (r.1 ∙ ap (λ (s : State). s.line_spans) (started c)),
    )

pub returns-in_err-pieces-clause-empty : goal.returns-in_err-pieces-clause-empty
returns-in_err-pieces-clause-empty c e without =
    let none : c.in_ok-parser.parser.world.has_source
    ≡ false = no_source _ _ c.in_ok-parser.ensures.source without in
    let start : ◌≡◌ {A = Text} c.in_ok-parser.parser.rest (chars c.args.input.now) =
    ap (λ (s : State). s.rest) c.in_ok-parser.ensures.start in
    absurd (false≢true (c.in_err-pieces.ensures.empty (start ∙ ap chars e ∙ chars-nil) none))

pub returns-clause-clean : goal.returns-clause-clean
returns-clause-clean c = (
  clean_in (seen_mode c.args.mode) (first c).world (chars c.args.input.now) _ _ _
      (started c) c.in_ok-pieces.ensures.state,
  in_clean (seen_mode c.args.mode) (first c).world (chars c.args.input.now) _ _ _
      (started c) c.in_ok-pieces.ensures.state,
)

pub returns-clause-reading : goal.returns-clause-reading
returns-clause-reading c =
    reading_of (seen_mode c.args.mode) (first c).world (chars c.args.input.now) _ _ _ _
    (started c) c.in_ok-pieces.ensures.state c.in_ok-pieces.ensures.pieces

pub returns-clause-walks : goal.returns-clause-walks
returns-clause-walks c =
    walks_of (first c) _ _ _ (started c) c.in_ok-pieces.ensures.state c.in_ok-pieces.ensures.pieces

pub returns-clause-round_trip : goal.returns-clause-round_trip
returns-clause-round_trip c none =
    Reads-spelled (seen_mode c.args.mode) 0 (chars c.args.input.now) _
    (returns-clause-reading c none)

pub returns-clause-first_fault : goal.returns-clause-first_fault
returns-clause-first_fault c =
    stops_of (seen_mode c.args.mode) (first c).world (chars c.args.input.now) _ _ _ _
    (started c) c.in_ok-pieces.ensures.state c.in_ok-pieces.ensures.pieces

pub returns-clause-source : goal.returns-clause-source
returns-clause-source c =
    rw (
      ap (λ (s : State). s.world.has_source) c.in_ok-pieces.ensures.state,
      after_all-world c.in_ok-parser.parser
          (calls c.in_ok-parser.parser),
    ) c.in_ok-parser.ensures.source

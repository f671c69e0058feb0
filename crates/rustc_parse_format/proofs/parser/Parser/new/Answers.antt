use Rattle.std.proofs.Common.{◌≤◌, ℕ, List, IsUtf8, arith, chars, length, refl}
use Rattle.std.proofs.lemmas.Str.{encodes-chars, length-le-encodes}
use Rattle.rustc_parse_format.specs.Views.{seen_mode, seen_snippet}
use Rattle.rustc_parse_format.proofs.Lines.LinesInside.{fresh_lies_inside}
use Rattle.rustc_parse_format.proofs.Spans.Worlds.{has_source-is}
use Rattle.rustc_parse_format.proofs.Walking.ParserLaws.{world-end}
use Rattle.rustc_parse_format.proofs.Sources.Decided.{has_source}
use Rattle.rustc_parse_format.proofs.parser.Parser.new.Goals as goal

-- A text has at most as many characters as bytes.
fewer : (t : List ℕ) → IsUtf8 t → length (chars t) ≤ length t
fewer t h = rw (encodes-chars t h) at (length-le-encodes (chars t))

pub invariant_of-result : goal.invariant_of-result
invariant_of-result c =
    rw (c.new-2.ensures, c.new-cursor.ensures, c.source_of-source.ensures.input) (
      omega (arith, fewer c.args.input.now c.utf8.input),
      (refl, refl, refl),
    )

pub returns-clause-short : goal.returns-clause-short
returns-clause-short c =
    rw (c.new-2.ensures, c.new-cursor.ensures, c.source_of-source.ensures.input)
    (fewer c.args.input.now c.utf8.input)

pub returns-clause-source : goal.returns-clause-source
returns-clause-source c =
    rw (
      c.new-2.ensures,
      c.new-cursor.ensures,
      c.source_of-source.ensures.world,
      has_source-is (chars c.args.input.now) c.args.style
          (seen_snippet c.args.snippet) c.args.appended_newline,
    )
    (has_source (chars c.args.input.now) c.args.style
    (seen_snippet c.args.snippet) c.args.appended_newline)

pub returns-clause-end : goal.returns-clause-end
returns-clause-end c =
    rw (c.new-2.ensures, c.new-cursor.ensures, c.source_of-source.ensures.world)
    (world-end (chars c.args.input.now) c.args.style
    (seen_snippet c.args.snippet) c.args.appended_newline)

pub returns-clause-lies_inside : goal.returns-clause-lies_inside
returns-clause-lies_inside c source e h =
    fresh_lies_inside (seen_mode c.args.mode) (chars c.args.input.now) c.args.style
    (seen_snippet c.args.snippet) source c.args.appended_newline
    _ (rw (
      c.new-2.ensures,
      c.new-cursor.ensures,
      c.source_of-source.ensures.world,
      c.source_of-source.ensures.input,
      c.quote_offset.ensures,
      c.new-3.ensures.0,
      c.new-3.ensures.1,
      c.new-3.ensures.2,
    ) refl) e h

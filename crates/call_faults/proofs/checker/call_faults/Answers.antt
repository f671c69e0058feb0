use Rattle.std.proofs.Common.{◌≡◌, ◌==◌, ◌∙◌, [], ap, chars, map, refl, sym}
use Rattle.std.specs.Prelude.{is_none}
use Rattle.rustc_parse_format.specs.Call.{pieces_of}
use Rattle.rustc_parse_format.specs.Views.{seen_piece, seen_error}
use Rattle.rustc_parse_format.specs.State.{State, after_all, calls, first_state}
use Rattle.rustc_parse_format.specs.Types.{Format}
use Rattle.rustc_parse_format.specs.World.{pieces_in}
use Rattle.call_faults.specs.Calls.{call_faults}
use Rattle.call_faults.specs.Views.{seen_fault, seen_given, start}
use Rattle.call_faults.specs.Spots.{counts_before}
use Rattle.text_faults.specs.Texts.{text_fault}
use Rattle.call_faults.proofs.Checking.{clean-is, map-nil}
use Rattle.text_faults.proofs.TextFaults.{read-is}
use Rattle.call_faults.proofs.checker.call_faults.Goals as goal

pub returns : goal.returns
returns c =
    let s = start c.args.string in
    let at_start : first_state Format (chars c.args.string.text.now) c.args.string.style _
    c.args.string.appended_newline ≡ s
    = ap (λ t. first_state Format (chars c.args.string.text.now) c.args.string.style t
    c.args.string.appended_newline) c.in_ok-snippet.ensures in
    let pieces : map seen_piece c.in_ok-pieces.field-0.pieces.items
    ≡ pieces_in s.world (pieces_of (calls s))
    = c.in_ok-pieces.ensures.walk.0
    ∙ ap (λ (p : State). pieces_in p.world (pieces_of (calls p))) at_start in
    let parser : c.in_ok-pieces.field-0.parser ≡ after_all s (calls s) =
    c.in_ok-pieces.ensures.walk.1
    ∙ ap (λ (p : State). after_all p (calls p)) at_start in
    let errors : map seen_error c.errors.result.now ≡ (after_all s (calls s)).errors
    = c.errors.ensures ∙ ap (λ (p : State). p.errors) parser in
    let read : is_none (text_fault s) ≡ c.is_empty-is_read.result
    = read-is s c.errors.result.now seen_error refl
    (λ e. sym errors ∙ ap (map seen_error) e)
    (λ e. map-nil seen_error c.errors.result.now (errors ∙ e)) ∙ sym c.is_empty-is_read.ensures in
    let faults : map seen_fault c.in_ok-faults.faults.items
    ≡ call_faults c.args.string.captures_variables
    (map seen_given c.args.arguments.now) (text_fault s)
    (map seen_piece c.in_ok-pieces.field-0.pieces.items)
    = rw c.deref.ensures.value at (c.in_ok-faults.ensures.faults read) in
    record {
      walk = (pieces, parser);
      arguments = refl;
      kept = c.in_ok-faults.ensures.kept c.new-indices.ensures.items;
      counts = c.in_ok-counts.ensures
          ∙ ap (counts_before 0) (ap (map seen_piece) c.deref-2.ensures.value);
      faults = faults;
      clean = clean-is c.args.string.captures_variables (map seen_given c.args.arguments.now)
          (chars c.args.string.text.now) s (map seen_piece c.in_ok-pieces.field-0.pieces.items)
          (map seen_fault c.in_ok-faults.faults.items) c.in_ok-pieces.field-0.parser refl parser
          c.in_ok-pieces.ensures.clean c.in_ok-pieces.ensures.reading
          c.in_ok-pieces.ensures.one_reading faults;
    }

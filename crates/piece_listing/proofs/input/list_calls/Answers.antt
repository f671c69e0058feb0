use Rattle.std.proofs.Common.{◌≡◌, ◌∙◌, ◌++◌, [], ap, flat_map, length, map, nat_lt, refl, rules}
use Rattle.std.specs.Prelude.{◌||◌, IsSome, IsTrue, string_bytes}
use Rattle.rustc_parse_format.specs.Call.{pieces_of}
use Rattle.rustc_parse_format.specs.Views.{seen_error}
use Rattle.rustc_parse_format.specs.State.{State, after_all, calls}
use Rattle.rustc_parse_format.specs.World.{pieces_in}
use Rattle.placeholder_check.specs.Views.{seen_report}
use Rattle.piece_listing.specs.Listing.{fault_line, listing, piece_line, report_lines}
use Rattle.piece_listing.specs.Program.{has_entries}
use Rattle.piece_listing.proofs.input.list_calls.Goals as goal

pub returns-clause-lines : goal.returns-clause-lines
returns-clause-lines c =
    let s = c.args.parser.now in
    let ps = pieces_in s.world (pieces_of (calls s)) in
    let es = (after_all s (calls s)).errors in
    let r = seen_report c.in_ok-report.report in
    let errors : map seen_error c.errors.result.now ≡ es =
    c.errors.ensures ∙ ap (λ (u : State). u.errors) c.in_ok-put_calls.ensures.state in
    let front : string_bytes c.put_calls.new.out ≡ flat_map piece_line ps =
    c.in_ok-put_calls.ensures.lines
    ∙ ap (λ l. l ++ flat_map piece_line ps) c.new-lines.ensures.bytes in
    let lines : string_bytes c.put_ends.new.lines ≡ listing ps es r =
    c.in_ok-has_ends.ensures.lines
    ∙ ap (λ l. l ++ (flat_map fault_line (map seen_error c.errors.result.now)
    ++ report_lines r)) front
    ∙ ap (λ ms. flat_map piece_line ps ++ (flat_map fault_line ms ++ report_lines r)) errors in
    let has_ends : c.in_ok-has_ends.has_ends ≡ (nat_lt 0 (length es) || has_entries r) =
    c.in_ok-has_ends.ensures.has_ends ∙ ap (λ ms. nat_lt 0 (length ms) || has_entries r) errors in
    let held = λ (some : IsSome c.args.arguments).
    let given : IsTrue c.is_some.result = search rules in
    c.in_ok-put_calls.ensures.used given [] c.new-uses.ensures.holds in
    (r, c.in_ok-report.ensures.report ps held, rw (lines, has_ends) refl)

use Rattle.std.proofs.Common.{◌≡◌, ◌++◌, ◌∙◌, None, ap, chars, false, map}
use Rattle.rustc_parse_format.specs.Call.{pieces_of}
use Rattle.rustc_parse_format.specs.Views.{seen_piece}
use Rattle.rustc_parse_format.specs.State.{State, after_all, calls, first_state}
use Rattle.rustc_parse_format.specs.Types.{Diagnostic}
use Rattle.rustc_parse_format.specs.World.{World, pieces_in}
use Rattle.rustc_parse_format.proofs.Walking.StateWalks.{after_all-world}
use Rattle.message_faults.specs.Messages.{faults_of, pieces}
use Rattle.message_faults.specs.Views.{known_names, seen_fault, start}
use Rattle.message_faults.proofs.checker.push_placeholders.Goals as goal

pub returns : goal.returns
returns c =
    let s = start c.args.message in
    let old = map seen_fault c.args.faults.now.items in
    let ns = known_names c.args.message.parameters in
    let at_start : first_state Diagnostic (chars c.args.message.text.now) None _ false ≡ s
    = ap (λ t. first_state Diagnostic (chars c.args.message.text.now) None t false)
    c.in_ok-snippet.ensures in
    let read : map seen_piece c.in_ok-pieces.field-0.pieces.items ≡ pieces s
    = c.in_ok-pieces.ensures.walk.0
    ∙ ap (λ (p : State). pieces_in p.world (pieces_of (calls p))) at_start in
    let parser : c.in_ok-pieces.field-0.parser ≡ after_all s (calls s) =
    c.in_ok-pieces.ensures.walk.1
    ∙ ap (λ (p : State). after_all p (calls p)) at_start in
    let known : c.is_source_literal-is_known.result ≡ s.world.has_source
    = c.is_source_literal-is_known.ensures ∙ ap (λ (p : State). p.world.has_source) parser
    ∙ ap (λ (w : World). w.has_source) (after_all-world s (calls s)) in
    c.in_ok-push_pieces.ensures
    ∙ ap (λ b. old ++ faults_of ns b (map seen_piece c.deref.result.now)) known
    ∙ ap (λ qs. old ++ faults_of ns s.world.has_source qs)
    (ap (map seen_piece) c.deref.ensures.value ∙ read)

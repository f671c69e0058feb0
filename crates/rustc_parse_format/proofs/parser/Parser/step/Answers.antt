use Rattle.std.proofs.Common.{◌≡◌, ◌≢◌, ◌∙◌, [], ap, arith, refl, rules, subst}
use Rattle.std.proofs.Common.{false, sym}
use Rattle.std.specs.Prelude.{None, option_map}
use Rattle.rustc_parse_format.specs.Call.{call}
use Rattle.rustc_parse_format.specs.CallStates.{CallState, FindsNothing, HasFoundNothing}
use Rattle.rustc_parse_format.specs.CallStates.{opens_placeholder, read_call}
use Rattle.rustc_parse_format.specs.Views.{seen_mode}
use Rattle.rustc_parse_format.specs.State.{State, next_call}
use Rattle.rustc_parse_format.specs.World.{piece_in}
use Rattle.rustc_parse_format.proofs.Walking.Progress.{call_next-le}
use Rattle.rustc_parse_format.proofs.Lines.StateLines.{at_end, finds_nothing}
use Rattle.rustc_parse_format.proofs.Lines.StateLines.{nothing_found}
use Rattle.rustc_parse_format.proofs.Readers.Placeholders.{needs_adds, needs_text}
use Rattle.rustc_parse_format.proofs.parser.Parser.step.Goals as goal
use Rattle.rustc_parse_format.proofs.parser.Parser.step.Goals.{in_default}

pub returns-then-is_at_end-clause-piece : goal.returns-then-is_at_end-clause-piece
returns-then-is_at_end-clause-piece c =
    let s = c.args.self.now in
    let end : s.rest ≡ [] = rw (← c.self.view_is) (c.is_at_end.ensures.0 c.if-is_at_end.true) in
    sym (ap (option_map (piece_in s.world)) (at_end s end).0)

pub returns-then-is_at_end-clause-state : goal.returns-then-is_at_end-clause-state
returns-then-is_at_end-clause-state c =
    let s = c.args.self.now in
    let end : s.rest ≡ [] = rw (← c.self.view_is) (c.is_at_end.ensures.0 c.if-is_at_end.true) in
    c.in_ok-end_line.ensures.state ∙ sym (at_end s end).1

pub returns-clause-spare : goal.returns-clause-spare
returns-clause-spare c needs =
    let n = needs_adds c.args.self.now needs in
    let r = c.self.inside.reader in
    let s = c.args.self.now in
    let left : r.rest ≢ [] = search rules in
    let some : s.rest ≢ [] = subst (λ (x : State). x.rest ≢ []) c.self.view_is left in
    let same = ap (λ (x : State). x.world) c.self.view_is in
    let start = ap (λ (x : State). x.line_start) c.self.view_is in
    let nothing = λ (read : ◌≡◌ {A = CallState} c.piece.new.self
    (read_call r (call (seen_mode c.self.inside.mode) r.next r.rest))).
    subst HasFoundNothing
    (sym (read ∙ ap (λ (x : State). read_call r (next_call x)) c.self.view_is))
    (nothing_found s r (next_call s) some c.self.invariant.1 same start n) in
    elim c.match-piece.branch [
      | goal.in-Ok+in_default-take_over+in-None-1 w ↦
          w.in_default-take_over.ensures.none (nothing w.in-Ok.ensures.reads.state)
      | goal.in-Ok+in_default-take_over+in-Some+in-Lit-1 w ↦
          w.in_default-take_over.ensures.none (nothing w.in-Ok.ensures.reads.state)
      | goal.in-Ok+in_default-take_over+in-Some+in-NextArgument-1 w ↦
          w.in_default-take_over.ensures.none (nothing w.in-Ok.ensures.reads.state)
      | in_default w ↦
          w.in_default.ensures.reads.spare
          (subst (λ (x : State). FindsNothing r (next_call x).faults (next_call x).texts
          × (opens_placeholder x.rest ≡ false))
          (sym c.self.view_is)
          (finds_nothing s r (next_call s) some same start n, needs_text s needs))
    ]

pub invariant_of-self : goal.invariant_of-self
invariant_of-self c =
    let most =
    call_next-le (seen_mode c.self.inside.mode) c.self.inside.reader.next
    c.self.inside.reader.rest in
    let fits = c.self.invariant.0 in
    let taken : ◌≡◌ {A = CallState} c.take_over.new.reader
    (record c.piece.new.self { faults = []; lines = []; closed_place = None }) = search rules in
    rw (taken, c.in-Ok.ensures.reads.state)
    (omega arith, (refl, refl, refl))

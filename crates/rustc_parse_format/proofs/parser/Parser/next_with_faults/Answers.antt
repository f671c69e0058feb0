use Rattle.std.proofs.Common.{◌≡◌, ◌≢◌, ◌∙◌, [], ap, append-nil, arith, length, refl}
use Rattle.std.proofs.Common.{rules, subst, sym, take}
use Rattle.std.proofs.Math.Seq.{take-length}
use Rattle.std.specs.Prelude.{None, option_map}
use Rattle.rustc_parse_format.specs.Call.{call}
use Rattle.rustc_parse_format.specs.CallStates.{CallState, FindsNothing, HasFoundNothing, read_call}
use Rattle.rustc_parse_format.specs.Views.{seen_mode}
use Rattle.rustc_parse_format.specs.State.{State, next_call}
use Rattle.rustc_parse_format.specs.World.{piece_in}
use Rattle.rustc_parse_format.proofs.Walking.Progress.{call_next-le}
use Rattle.rustc_parse_format.proofs.Lines.StateLines.{at_end, end_faults, finds_nothing}
use Rattle.rustc_parse_format.proofs.Lines.StateLines.{nothing_found}
use Rattle.rustc_parse_format.proofs.parser.Parser.next_with_faults.Goals as goal
use Rattle.rustc_parse_format.proofs.parser.Parser.next_with_faults.Goals.{in_default}
use Rattle.rustc_parse_format.proofs.parser.Parser.next_with_faults.Goals.{}
use Rattle.rustc_parse_format.proofs.parser.Parser.next_with_faults.Goals.{}
use Rattle.rustc_parse_format.proofs.parser.Parser.next_with_faults.Goals.{}
use Rattle.rustc_parse_format.proofs.parser.Parser.next_with_faults.Goals.{}
use Rattle.rustc_parse_format.proofs.parser.Parser.next_with_faults.Goals.{in-Ok+in_default-move_faults}
use Rattle.rustc_parse_format.proofs.parser.Parser.next_with_faults.Goals.{}
use Rattle.rustc_parse_format.proofs.parser.Parser.next_with_faults.Goals.{}
use Rattle.rustc_parse_format.proofs.parser.Parser.next_with_faults.Goals.{}
use Rattle.rustc_parse_format.proofs.parser.Parser.next_with_faults.Goals.{}
use Rattle.rustc_parse_format.proofs.parser.Parser.next_with_faults.Goals.{in-Ok+in-Ok-move_faults+in_default-take_over}

pub returns-then-is_at_end-clause-piece : goal.returns-then-is_at_end-clause-piece
returns-then-is_at_end-clause-piece c =
    let s = c.args.self.now in
    let end : s.rest ≡ [] = rw (← c.self.view_is) (c.is_at_end.ensures.0 c.if-is_at_end.true) in
    sym (ap (option_map (piece_in s.world)) (at_end s end).0)

pub returns-then-is_at_end-clause-state : goal.returns-then-is_at_end-clause-state
returns-then-is_at_end-clause-state c =
    let s = c.args.self.now in
    let end : s.rest ≡ [] = rw (← c.self.view_is) (c.is_at_end.ensures.0 c.if-is_at_end.true) in
    c.in_ok-end_line.ensures.state
    ∙ ap (λ (x : State). record x { errors = s.errors }) (sym (at_end s end).1)

pub returns-then-is_at_end-clause-faults : goal.returns-then-is_at_end-clause-faults
returns-then-is_at_end-clause-faults c =
    let s = c.args.self.now in
    let end : s.rest ≡ [] = rw (← c.self.view_is) (c.is_at_end.ensures.0 c.if-is_at_end.true) in
    rw (end_faults s end) (sym (append-nil _))

pub returns-clause-kept : goal.returns-clause-kept
returns-clause-kept c =
    let old = c.args.faults.now.items in
    let kept = elim c.match-piece_into.branch as (λ _.
    take (length old) c.match-piece_into.faults.items ≡ old) [
      | in-Ok+in-Ok-move_faults+in_default-take_over w ↦ rw w.faults-is w.move_faults.ensures.kept
      | in-Ok+in_default-move_faults w ↦ rw w.faults-is w.in_default-move_faults.ensures.kept
      | in_default w ↦ rw w.faults-is (take-length old)
    ] in
    let count : c.len-count.result ≡ length old = search rules in
    c.truncate.ensures.items ∙ ap (λ n. take n c.match-piece_into.faults.items) count ∙ kept

pub returns-clause-spare : goal.returns-clause-spare
returns-clause-spare c n =
    let r = c.self.inside.reader in
    let s = c.args.self.now in
    let left : r.rest ≢ [] = search rules in
    let some : s.rest ≢ [] = subst (λ (x : State). x.rest ≢ []) c.self.view_is left in
    let same = ap (λ (x : State). x.world) c.self.view_is in
    let start = ap (λ (x : State). x.line_start) c.self.view_is in
    let nothing = λ (read : ◌≡◌ {A = CallState} c.piece_into.new.self
    (read_call r (call (seen_mode c.self.inside.mode) r.next r.rest))).
    subst HasFoundNothing
    (sym (read ∙ ap (λ (x : State). read_call r (next_call x)) c.self.view_is))
    (nothing_found s r (next_call s) some c.self.invariant.1 same start n) in
    elim c.match-piece_into.branch [
      | in-Ok+in-Ok-move_faults+in_default-take_over w ↦
          let m = nothing w.in-Ok.ensures.reads.state in
          w.in_default-take_over.ensures.none
          (subst HasFoundNothing (sym w.in-Ok-move_faults.ensures.state) (refl, m.1, m.2))
      | in-Ok+in_default-move_faults w ↦
          w.in_default-move_faults.ensures.spare (nothing w.in-Ok.ensures.reads.state).0
      | in_default w ↦
          w.in_default.ensures.reads.spare
          (subst (λ (x : State). FindsNothing r (next_call x).faults (next_call x).texts)
          (sym c.self.view_is)
          (finds_nothing s r (next_call s) some same start n))
    ]

pub invariant_of-self : goal.invariant_of-self
invariant_of-self c =
    let most =
    call_next-le (seen_mode c.self.inside.mode) c.self.inside.reader.next
    c.self.inside.reader.rest in
    let fits = c.self.invariant.0 in
    let taken : ◌≡◌ {A = CallState} c.take_over.new.reader
    (record c.piece_into.new.self { faults = []; lines = []; closed_place = None }) =
    search rules in
    rw (taken, c.in-Ok.ensures.reads.state)
    (omega arith, (refl, refl, refl))

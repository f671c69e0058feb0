use Rattle.std.proofs.Common.{◌≡◌, ◌≢◌, ◌++◌, ◌∙◌, List, [], ap, arith, length, refl, rules, subst}
use Rattle.std.proofs.Common.{sym}
use Rattle.std.specs.List.{filter}
use Rattle.std.specs.Prelude.{None, option_map}
use Rattle.rustc_parse_format.specs.Faults.{Fault, is_front}
use Rattle.rustc_parse_format.specs.CallStates.{CallState, FindsNothing, HasFoundNothing, read_call}
use Rattle.rustc_parse_format.specs.Views.{seen_mode}
use Rattle.rustc_parse_format.specs.State.{State, next_call}
use Rattle.rustc_parse_format.specs.World.{Place, faults_in, piece_in}
use Rattle.rustc_parse_format.proofs.Walking.Progress.{call_next-le}
use Rattle.rustc_parse_format.proofs.Walking.ParserLaws.{count_of_fronts}
use Rattle.rustc_parse_format.proofs.Lines.StateLines.{at_end, end_faults, finds_nothing}
use Rattle.rustc_parse_format.proofs.Lines.StateLines.{nothing_found}
use Rattle.rustc_parse_format.proofs.parser.Parser.next_into.Goals as goal
use Rattle.rustc_parse_format.proofs.parser.Parser.next_into.Goals.{in-Ok+in_default-take_over}
use Rattle.rustc_parse_format.proofs.parser.Parser.next_into.Goals.{in_default}

pub returns-then-is_at_end-clause-piece : goal.returns-then-is_at_end-clause-piece
returns-then-is_at_end-clause-piece c =
    let s = c.args.self.now in
    let end : s.rest ≡ [] = rw (← c.self.view_is) (c.is_at_end.ensures.0 c.if-is_at_end.true) in
    sym (ap (option_map (piece_in s.world)) (at_end s end).0)

pub returns-then-is_at_end-clause-state : goal.returns-then-is_at_end-clause-state
returns-then-is_at_end-clause-state c =
    let s = c.args.self.now in
    let end : s.rest ≡ [] = rw (← c.self.view_is) (c.is_at_end.ensures.0 c.if-is_at_end.true) in
    c.in_ok-end_line.ensures.state ∙ sym (at_end s end).1

pub returns-then-is_at_end-clause-front_count : goal.returns-then-is_at_end-clause-front_count
returns-then-is_at_end-clause-front_count c =
    let s = c.args.self.now in
    let end : s.rest ≡ [] = rw (← c.self.view_is) (c.is_at_end.ensures.0 c.if-is_at_end.true) in
    rw (end_faults s end) refl

pub returns-in-Ok-take_over-clause-front_count : goal.returns-in-Ok-take_over-clause-front_count
returns-in-Ok-take_over-clause-front_count c =
    let r = c.self.inside.reader in
    let s = c.args.self.now in
    let read : ◌≡◌ {A = CallState} c.piece_into.new.self (read_call r (next_call s)) =
    c.in-Ok.ensures.reads.state
    ∙ ap (λ (x : State). read_call r (next_call x)) c.self.view_is in
    let found : c.piece_into.new.self.faults ≡ faults_in s.world (next_call s).faults =
    ap (λ (m : CallState). m.faults) read
    ∙ ap (λ (fs : List (Fault Place)). fs
    ++ faults_in r.world (next_call s).faults) c.self.invariant.1.0
    ∙ ap (λ (x : State). faults_in x.world (next_call s).faults) c.self.view_is in
    c.in-Ok-take_over.ensures.front_count ∙ ap (λ fs. length (filter is_front fs)) found
    ∙ count_of_fronts s.world (next_call s).faults

pub returns-clause-spare : goal.returns-clause-spare
returns-clause-spare c n =
    let r = c.self.inside.reader in
    let s = c.args.self.now in
    let left : r.rest ≢ [] = search rules in
    let some : s.rest ≢ [] = subst (λ (x : State). x.rest ≢ []) c.self.view_is left in
    let same = ap (λ (x : State). x.world) c.self.view_is in
    let start = ap (λ (x : State). x.line_start) c.self.view_is in
    elim c.match-piece_into.branch [
      | in-Ok+in_default-take_over w ↦
          let read : ◌≡◌ {A = CallState} c.piece_into.new.self (read_call r (next_call s)) =
          w.in-Ok.ensures.reads.state
          ∙ ap (λ (x : State). read_call r (next_call x)) c.self.view_is in
          w.in_default-take_over.ensures.none
          (subst HasFoundNothing (sym read)
          (nothing_found s r (next_call s) some c.self.invariant.1 same start n))
      | in_default w ↦
          w.in_default.ensures.reads.spare
          (subst (λ (x : State). FindsNothing r (next_call x).faults (next_call x).texts)
          (sym c.self.view_is)
          (finds_nothing s r (next_call s) some same start n))
    ]

pub invariant_of-self : goal.invariant_of-self
invariant_of-self c =
    let most =
    call_next-le (seen_mode c.self.inside.mode) c.self.inside.reader.next
    c.self.inside.reader.rest in
    let fits = c.self.invariant.0 in
    let taken : ◌≡◌ {A = CallState} c.take_over.new.reader
    (record c.piece_into.new.self { faults = []; lines = []; closed_place = None }) =
    search rules in
    rw (taken, c.in-Ok.ensures.reads.state)
    (omega arith, (refl, refl, refl))

use Rattle.std.proofs.Common.{◌∙◌, ap, map, sym, subst}
use Rattle.std.specs.Prelude.{option_map}
use Rattle.rustc_parse_format.specs.Faults.{bare_message}
use Rattle.rustc_parse_format.specs.Types.{bare_piece}
use Rattle.rustc_parse_format.specs.State.{State, state_after, next_call}
use Rattle.rustc_parse_format.proofs.Walking.ParserLaws.{after_errors, bare_given, call_inside}
use Rattle.rustc_parse_format.proofs.Walking.ParserLaws.{call_lines, call_places, call_reads_back}
use Rattle.rustc_parse_format.proofs.Walking.ParserLaws.{call_sourceless}
use Rattle.rustc_parse_format.proofs.Walking.Agreement.{next_agrees}
use Rattle.rustc_parse_format.specs.Agreement.{Agree}
use Rattle.rustc_parse_format.specs.Views.{seen_piece}
use Rattle.rustc_parse_format.specs.ReadBack.{LiesInside}
use Rattle.rustc_parse_format.proofs.Lines.LinesInside.{call_lies_inside}
use Rattle.rustc_parse_format.proofs.Grammar.Rests.{IsRest}
use Rattle.rustc_parse_format.proofs.Walking.Nexts.{if_ok, on_ok, cut_given, next_reads}
use Rattle.rustc_parse_format.proofs.Walking.Nexts.{next_faulty, next_ends, next_moves}
use Rattle.rustc_parse_format.proofs.Walking.Nexts.{next_numbers, next_short, next_keeps}
use Rattle.rustc_parse_format.proofs.parser.Parser.next.Goals as goal

pub returns-clause-reads : goal.returns-clause-reads
returns-clause-reads c = if_ok c.step.result c.step.ensures.piece c.step.ensures.state
    (λ p e f q r n b. next_reads c.args.self.now c.step.new.self _ q r n e f b)

pub returns-clause-faulty : goal.returns-clause-faulty
returns-clause-faulty c = on_ok c.step.result c.step.ensures.state
    (λ f some none. next_faulty c.args.self.now c.step.new.self f some none)

pub returns-clause-cut : goal.returns-clause-cut
returns-clause-cut c = if_ok c.step.result c.step.ensures.piece c.step.ensures.state
    (λ p e f a r h. e ∙ cut_given c.args.self.now a r h)

pub returns-clause-end : goal.returns-clause-end
returns-clause-end c = if_ok c.step.result c.step.ensures.piece c.step.ensures.state
    (λ p e f h. next_ends seen_piece c.args.self.now c.step.new.self p e f h)

pub returns-clause-progress : goal.returns-clause-progress
returns-clause-progress c = on_ok c.step.result c.step.ensures.state
    (λ f some. next_moves c.args.self.now c.step.new.self f some)

pub returns-clause-numbers : goal.returns-clause-numbers
returns-clause-numbers c = on_ok c.step.result c.step.ensures.state
    (λ f. next_numbers c.args.self.now c.step.new.self f)

pub returns-clause-short : goal.returns-clause-short
returns-clause-short c =
    next_short c.step.result c.args.self.now c.step.new.self c.step.ensures.state c.step.ensures.err

pub returns-clause-keeps : goal.returns-clause-keeps
returns-clause-keeps c = on_ok c.step.result c.step.ensures.state
    (λ f. next_keeps c.args.self.now c.step.new.self f)

pub returns-clause-worlds : goal.returns-clause-worlds
returns-clause-worlds c = if_ok c.step.result c.step.ensures.piece c.step.ensures.state
    (λ p e f. (
      ap (option_map bare_piece) e ∙ bare_given c.args.self.now.world
          (next_call c.args.self.now).piece,
      ap (λ (s : State). map bare_message s.errors) f
          ∙ after_errors c.args.self.now (next_call c.args.self.now),
    ))

-- The rest is a suffix of the input.
rest : (c : goal.After-step) → IsRest c.args.self.now.input c.args.self.now.rest
rest c = record { front = c.reads_its_input.ensures.0; whole = c.reads_its_input.ensures.1 }

pub returns-clause-reads_back : goal.returns-clause-reads_back
returns-clause-reads_back c style snippet appended from =
    call_reads_back c.args.self.now style snippet appended (rest c) from

pub returns-clause-inside : goal.returns-clause-inside
returns-clause-inside c style snippet appended from =
    call_inside c.args.self.now style snippet appended (rest c) from

pub returns-clause-lies_inside : goal.returns-clause-lies_inside
returns-clause-lies_inside c = on_ok c.step.result c.step.ensures.state
    (λ f style snippet appended from h. subst (LiesInside snippet appended) (sym f)
    (call_lies_inside c.args.self.now style snippet appended
    (rest c) from h))

pub returns-clause-lines : goal.returns-clause-lines
returns-clause-lines c = on_ok c.step.result c.step.ensures.state
    (λ f some literal. rw f (call_lines c.args.self.now some literal))

pub returns-clause-places : goal.returns-clause-places
returns-clause-places c = on_ok c.step.result c.step.ensures.state
    (λ f literal. rw f (call_places c.args.self.now literal))

pub returns-clause-sourceless : goal.returns-clause-sourceless
returns-clause-sourceless c = on_ok c.step.result c.step.ensures.state
    (λ f none. rw f (call_sourceless c.args.self.now none))

pub returns-clause-agrees : goal.returns-clause-agrees
returns-clause-agrees c = if_ok c.step.result c.step.ensures.piece c.step.ensures.state
    (λ p e f other h.
    let both = next_agrees c.args.self.now other h in (
      ap (option_map bare_piece) e
          ∙ (bare_given c.args.self.now.world (next_call c.args.self.now).piece ∙ both.0),
      subst (λ (s : State). Agree s (state_after other (next_call other))) (sym f) both.1,
    ))

use Rattle.std.proofs.Common.{◌∙◌, ap, arith, length, refl, rules}
use Rattle.std.proofs.lemmas.Bool.{false≢true}
use Rattle.rustc_parse_format.specs.Meaning.{argument}
use Rattle.rustc_parse_format.specs.Placeholder.{cut, position}
use Rattle.rustc_parse_format.specs.Views.{seen_mode}
use Rattle.rustc_parse_format.specs.CallStates.{CallState}
use Rattle.rustc_parse_format.specs.PartFaults.{cut_faults}
use Rattle.rustc_parse_format.proofs.Grammar.CleanWords.{none_left, none_right}
use Rattle.rustc_parse_format.specs.Characters.{after_white}
use Rattle.rustc_parse_format.proofs.Grammar.Numbers.{specification_number}
use Rattle.rustc_parse_format.proofs.Grammar.Rests.{IsRest-le, after_white_rest, position_rest}
use Rattle.rustc_parse_format.proofs.Readers.Parts.{argument_read}
use Rattle.rustc_parse_format.proofs.reader.Reader.argument.Goals as goal

pub specification-requires-clause-numbers : goal.specification-requires-clause-numbers
specification-requires-clause-numbers c =
    let t = c.args.self.now.rest in
    let a = c.in_ok-spaced_position.ensures in
    let read = rw a.span at a.state in
    omega (
      arith,
      IsRest-le (position_rest t),
      IsRest-le (after_white_rest (position t).1),
      ap (λ (s : CallState). length s.rest) read,
      ap (λ (s : CallState). s.next) read,
      c.requires.numbers,
    )

pub resolve-requires : goal.resolve-requires
resolve-requires c =
    let t = c.args.self.now.rest in
    let a = c.in_ok-spaced_position.ensures in
    let read = rw a.span at a.state in
    let state = rw read at c.in_ok-specification.ensures.reads.state in
    omega (
      arith,
      IsRest-le (position_rest t),
      IsRest-le (after_white_rest (position t).1),
      specification_number (seen_mode c.args.mode) c.args.self.now.next
          (after_white (position t).1),
      ap (λ (s : CallState). s.next) state,
      c.requires.numbers,
    )

pub returns-clause-value : goal.returns-clause-value
unfolding argument cut
returns-clause-value c =
    let a = c.in_ok-spaced_position.ensures in
    let read = rw a.span at a.state in
    let state = rw read at c.in_ok-specification.ensures.reads.state in
    let spec = rw read at c.in_ok-specification.ensures.value in
    let position = rw state at c.resolve.ensures.value _ a.value in
    rw (position, a.span, spec) refl

pub returns-clause-reads : goal.returns-clause-reads
returns-clause-reads c =
    let a = c.in_ok-spaced_position.ensures in
    let read = rw a.span at a.state in
    let state = rw read at c.in_ok-specification.ensures.reads.state in
    record {
      state = rw state at c.resolve.ensures.state _ a.value
          ∙ argument_read c.args.self.now (seen_mode c.args.mode);
      err = tt;
      spare = λ none. refl;
    }

pub returns-in_err-spaced_position-clause-reads : goal.returns-in_err-spaced_position-clause-reads
unfolding cut cut_faults
returns-in_err-spaced_position-clause-reads c = record {
  state = search rules;
  err = search rules;
  spare = λ h. let given = none_left _ _ h.0 in absurd
      (false≢true
      (c.in_err-spaced_position.ensures.spare (none_left _ _ given) (none_right _ _ given)));
}

pub returns-in_err-specification-clause-reads : goal.returns-in_err-specification-clause-reads
unfolding cut cut_faults
returns-in_err-specification-clause-reads c =
    let a = c.in_ok-spaced_position.ensures in
    let read = rw a.span at a.state in
    let spare = rw read at c.in_err-specification.ensures.reads.spare in
    record {
      state = search rules;
      err = search rules;
      spare = λ h. absurd (false≢true (spare (none_right _ _ h.0, h.1)));
    }

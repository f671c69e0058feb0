use Rattle.std.proofs.Common.{◌∙◌, ap, map, sym, length, arith, refl, rules}
use Rattle.std.specs.Prelude.{option_map}
use Rattle.std.proofs.lemmas.Bool.{false≢true}
use Rattle.rustc_parse_format.specs.Characters.{begins_with, after_white, after_first}
use Rattle.rustc_parse_format.specs.Views.{pair, seen_argument, seen_mode}
use Rattle.rustc_parse_format.specs.CallStates.{CallState, Remainder, call_state}
use Rattle.rustc_parse_format.proofs.Readers.Placeholders.{argument-finds, call_opens, numbers_left}
use Rattle.rustc_parse_format.proofs.Readers.Placeholders.{opens-some, placeholder-faultless}
use Rattle.rustc_parse_format.proofs.Readers.Placeholders.{placeholder_closed}
use Rattle.rustc_parse_format.proofs.reader.Reader.placeholder.Goals as goal

pub closing_brace-requires : goal.closing_brace-requires
closing_brace-requires c =
    let u = c.self.inside.cursor in
    let given = rw c.consume_place-opening.ensures.rest at c.in_ok-argument.ensures in
    let whole = c.self-2.view_is ∙ given.reads.state in
    let rest = ap (λ (x : CallState). x.rest) c.self.view_is in
    let white = ap (λ (x : Remainder). x.rest) c.ws.ensures.rest in
    record {
      numbers = omega (
        arith,
        numbers_left (seen_mode c.args.mode) c.self.inside.curarg c.self-2.inside.curarg u.rest
            c.ws.new.self.rest
            (λ e. opens-some c.args.self.now.rest c.requires.opens (sym rest ∙ e))
            (ap (λ (x : CallState). x.next) whole)
            (white ∙ ap (λ (x : CallState). after_white x.rest) whole),
        ap length rest,
        ap (λ (x : CallState). x.next) c.self.view_is,
        c.requires.numbers,
      );
    }

pub returns-clause-reads : goal.returns-clause-reads
returns-clause-reads c =
    let u = c.self.inside.cursor in
    let s = record (call_state u c.self.inside.curarg c.self.inside.line_start) {
      faults = c.self.inside.faults;
      lines = map pair c.self.inside.lines.items;
      closed_place = option_map pair c.self.inside.closed_place;
    } in
    let given = rw c.consume_place-opening.ensures.rest at c.in_ok-argument.ensures in
    let e = c.self-2.view_is ∙ given.reads.state in
    let opens = call_opens (seen_mode c.args.mode) c.args.self.now.next c.args.self.now.rest
    c.requires.opens in
    record {
      state = rw (opens, ← c.self.view_is)
          (placeholder_closed s _ c.closing_brace.new.self (seen_mode c.args.mode) u.rest
          (after_first u.rest)
          (pair c.consume_place-opening.result)
          (seen_argument c.argument.new.slot) e c.consume_place-opening.ensures.place given.value
          (rw c.ws.ensures.rest at c.in_ok-closing_brace.ensures.state));
      err = tt;
      spare = λ none. refl;
    }

pub returns-in_err-argument-clause-reads : goal.returns-in_err-argument-clause-reads
returns-in_err-argument-clause-reads c =
    let u = c.self.inside.cursor in
    let s = record (call_state u c.self.inside.curarg c.self.inside.line_start) {
      faults = c.self.inside.faults;
      lines = map pair c.self.inside.lines.items;
      closed_place = option_map pair c.self.inside.closed_place;
    } in
    let spare = rw c.consume_place-opening.ensures.rest at c.in_err-argument.ensures.reads.spare in
    let opens = call_opens (seen_mode c.args.mode) c.args.self.now.next c.args.self.now.rest
    c.requires.opens in
    record {
      state = search rules;
      err = search rules;
      spare = rw (opens, ← c.self.view_is)
          (λ h. absurd (false≢true (spare
          (argument-finds s (seen_mode c.args.mode) u.rest (after_first u.rest) h))));
    }

pub returns-in_err-closing_brace-clause-reads : goal.returns-in_err-closing_brace-clause-reads
returns-in_err-closing_brace-clause-reads c =
    let u = c.self.inside.cursor in
    let s = record (call_state u c.self.inside.curarg c.self.inside.line_start) {
      faults = c.self.inside.faults;
      lines = map pair c.self.inside.lines.items;
      closed_place = option_map pair c.self.inside.closed_place;
    } in
    let mode = seen_mode c.args.mode in
    let given = rw c.consume_place-opening.ensures.rest at c.in_ok-argument.ensures in
    let at = ap (λ (x : CallState). begins_with 125 (after_white x.rest))
    (c.self-2.view_is ∙ given.reads.state) in
    let spare = rw c.ws.ensures.rest at c.in_err-closing_brace.ensures.spare in
    let opens = call_opens (seen_mode c.args.mode) c.args.self.now.next c.args.self.now.rest
    c.requires.opens in
    record {
      state = search rules;
      err = search rules;
      spare = rw (opens, ← c.self.view_is)
          (λ h. absurd (false≢true (spare
          (at ∙ (placeholder-faultless mode s.next u.rest (after_first u.rest) h.0).2))));
    }

use Rattle.std.proofs.Common.{◌≡◌, ◌∙◌, ◌+◌, ◌≤◌, IfSome, Some, ap, arith, subst, sym}
use Rattle.rustc_parse_format.specs.Views.{seen_mode}
use Rattle.fault_fixes.specs.Fixing.{FixedLiteral}
use Rattle.fault_fixes.specs.Rounds.{Best, IsFixed, count_left, ids, best_with}
use Rattle.fault_fixes.specs.SeenEdits.{seen_best, seen_fixed}
use Rattle.fault_fixes.proofs.RoundLaws.{IsBest, best-is, best-none, best-offered, first-round}
use Rattle.fault_fixes.proofs.RoundLaws.{none-left, none-seen, round-none, round-some, rounds-end}
use Rattle.fault_fixes.proofs.RoundLaws.{rounds-hashes, some-seen}
use Rattle.fault_fixes.proofs.rounds.fix.Goals as goal

pub returns-in_default-clause-none : goal.returns-in_default-clause-none
returns-in_default-clause-none c = λ f fixed.
    let first = first-round (seen_mode c.args.mode) c.args.input.now c.args.style
    c.args.snippet.now c.args.appended_newline f fixed in
    (rw c.in_default.is at c.in_ok-first_literal.ensures.none) first.0 first.1

pub returns-in_default-next_literal-clause-some : goal.returns-in_default-next_literal-clause-some
returns-in_default-next_literal-clause-some c =
    let l = c.loop-rounds in
    let mode = seen_mode c.args.mode in
    let start : FixedLiteral = record { snippet = c.args.snippet.now; text = c.args.input.now } in
    let end = rw c.in_default-next_literal.is at l.invariant.none in
    some-seen l.best.literal (λ f. IsFixed mode c.args.input.now c.args.style
    c.args.snippet.now c.args.appended_newline f)
    (best-is mode c.args.input.now c.args.style c.args.snippet.now c.args.appended_newline
    l.rounds (seen_best l.best).literal l.best.calls l.invariant.best
    (rounds-end mode c.args.style c.args.appended_newline start l.rounds
    (seen_best l.best).literal l.best.calls l.invariant.best end))

pub returns-in_default-next_literal-clause-none : goal.returns-in_default-next_literal-clause-none
returns-in_default-next_literal-clause-none c =
    let l = c.loop-rounds in
    let mode = seen_mode c.args.mode in
    let start : FixedLiteral = record { snippet = c.args.snippet.now; text = c.args.input.now } in
    let end = rw c.in_default-next_literal.is at l.invariant.none in
    none-seen l.best.literal _
    (best-none mode c.args.input.now c.args.style c.args.snippet.now c.args.appended_newline
    l.rounds (seen_best l.best).literal l.best.calls l.invariant.best
    (rounds-end mode c.args.style c.args.appended_newline start l.rounds
    (seen_best l.best).literal l.best.calls l.invariant.best end))

pub returns-in-Some-eq0-clause-some : goal.returns-in-Some-eq0-clause-some
returns-in-Some-eq0-clause-some c =
    let l = c.loop-rounds in
    let mode = seen_mode c.args.mode in
    let start : FixedLiteral = record { snippet = c.args.snippet.now; text = c.args.input.now } in
    let f = seen_fixed c.in-Some-next_literal.literal in
    let b = best_with (seen_best l.best) f c.in_ok-calls.calls in
    let reached = rw c.in-Some-next_literal.is at l.invariant.some in
    let few : l.rounds + 1 ≤ 8 = omega (arith, c.loop-rounds-test.true) in
    let count : c.in_ok-calls.calls ≡ count_left (ids mode c.args.input.now) mode f.text =
    rw (c.as_slice.ensures.value, c.as_str.ensures.value, c.in_ok-old.ensures.ids)
    at c.in_ok-calls.ensures in
    let best = best-offered mode c.args.style c.args.appended_newline start f l.rounds
    (seen_best l.best) c.in_ok-calls.calls l.invariant.best reached few count in
    let none = none-left (seen_best l.best) f c.in_ok-calls.calls
    (c.in-Some-eq0.is
    ∙ ap (λ n. Some n) (sym c.in-Some-eq0.field-0-is ∙ c.in-Some-eq0.field-0-test)) in
    some-seen c.offer.new.best.literal (λ f. IsFixed mode c.args.input.now c.args.style
    c.args.snippet.now c.args.appended_newline f)
    (subst (λ (d : Best). IfSome d.literal (λ g. IsFixed mode c.args.input.now c.args.style
    c.args.snippet.now c.args.appended_newline g)) (sym c.offer.ensures)
    (best-is mode c.args.input.now c.args.style c.args.snippet.now c.args.appended_newline
    (l.rounds + 1) b.literal b.calls best (λ m h y. omega (arith, none))))

pub loop-rounds-preserved : goal.loop-rounds-preserved
loop-rounds-preserved c =
    let l = c.loop-rounds in
    let mode = seen_mode c.args.mode in
    let start : FixedLiteral = record { snippet = c.args.snippet.now; text = c.args.input.now } in
    let f = seen_fixed c.in-Some-next_literal.literal in
    let reached = rw c.in-Some-next_literal.is at l.invariant.some in
    let few : l.rounds + 1 ≤ 8 = omega (arith, c.loop-rounds-test.true) in
    let count : c.in_ok-calls.calls ≡ count_left (ids mode c.args.input.now) mode f.text =
    rw (c.as_slice.ensures.value, c.as_str.ensures.value, c.in_ok-old.ensures.ids)
    at c.in_ok-calls.ensures in
    record {
      few = few;
      some = round-some mode c.args.style c.args.appended_newline start f l.rounds
          c.in_ok-next_literal.next_literal reached c.in_ok-next_literal.ensures.some;
      none = round-none mode c.args.style c.args.appended_newline start f l.rounds
          c.in_ok-next_literal.next_literal reached c.in_ok-next_literal.ensures.none;
      best = subst (λ (b : Best). IsBest mode c.args.style c.args.appended_newline start
          (l.rounds + 1) b.literal b.calls) (sym c.offer-in-loop-rounds.ensures)
          (best-offered mode c.args.style c.args.appended_newline start f l.rounds
          (seen_best l.best) c.in_ok-calls.calls l.invariant.best reached few count);
    }

pub next_round-requires : goal.next_round-requires
next_round-requires c =
    let l = c.loop-rounds in
    let start : FixedLiteral = record { snippet = c.args.snippet.now; text = c.args.input.now } in
    rounds-hashes (seen_mode c.args.mode) c.args.style c.args.appended_newline l.rounds start
    (seen_fixed c.in-Some-next_literal.literal) (rw c.in-Some-next_literal.is at l.invariant.some)

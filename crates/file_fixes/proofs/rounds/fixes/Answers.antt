use Rattle.std.proofs.Common.{◌≡◌, ◌++◌, [], IfSome, ap, append-nil}
use Rattle.std.proofs.Common.{◌∙◌, arith, map, refl, string_bytes, subst, sym}
use Rattle.std.proofs.lemmas.Grind.{common_steps}
use Rattle.std.proofs.lemmas.List.{map-append}
use Rattle.std.specs.List.{All}
use Rattle.format_calls.specs.Rows.{entry}
use Rattle.asm_lint.specs.Spans.{HasSpans}
use Rattle.file_fixes.specs.FileFixes.{AreRounds, IsRound, bytes_or, most_rounds}
use Rattle.file_fixes.proofs.RoundLaws.{one-more, stay, stop}
use Rattle.file_fixes.proofs.rounds.fixes.Goals as goal

pub loop-rounds_left-init : goal.loop-rounds_left-init
loop-rounds_left-init c =
    let r = c.in_ok-file_faults.field-0 in
    let es = map entry c.args.options.now.table.rows.items in
    let new = c.args.options.now.is_from_2021 in
    let text = c.args.text.now in
    record {
      report = c.in_ok-file_faults.ensures.report;
      spans = c.in_ok-file_faults.ensures.spans;
      rounds = (
        r,
        c.in_ok-file_faults.ensures.report,
        λ cs q ws h. subst (λ n. AreRounds es new n text r cs q
            (map (λ w. w.now) c.new.result.items ++ ws)) c.most_rounds-rounds_left.ensures
            (subst (λ xs. AreRounds es new c.most_rounds-rounds_left.result text r cs q
            (map (λ w. w.now) xs ++ ws)) (sym c.new.ensures.items) h),
      );
    }

pub returns-in_default-clause-rounds : goal.returns-in_default-clause-rounds
returns-in_default-clause-rounds c =
    let l = c.loop-rounds_left in
    let i = l.invariant.rounds in
    let es = map entry c.args.options.now.table.rows.items in
    let new = c.args.options.now.is_from_2021 in
    let text = c.args.text.now in
    let cs = bytes_or l.file_fixes.text text in (
      i.0,
      i.1,
      subst (λ ws. AreRounds es new (most_rounds text) text i.0 cs l.file_fixes.report ws)
          (append-nil _) (i.2 cs l.file_fixes.report []
          (stay es new l.rounds_left cs l.file_fixes.report
          ((rw c.in_default.is at c.in_ok-round.ensures.last) refl))),
    )

pub loop-rounds_left-preserved : goal.loop-rounds_left-preserved
loop-rounds_left-preserved c =
    let l = c.loop-rounds_left in
    let i = l.invariant.rounds in
    let x = c.in-Some.round in
    let y = c.in_ok-file_fixes.file_fixes in
    let es = map entry c.args.options.now.table.rows.items in
    let new = c.args.options.now.is_from_2021 in
    let text = c.args.text.now in
    let round : IsRound es new (bytes_or l.file_fixes.text text) l.file_fixes.report
    (string_bytes x.text)
    x.report (map (λ w. w.now) x.ids.items) = grind (arith, common_steps) in
    let next : IsRound es new (bytes_or l.file_fixes.text text) l.file_fixes.report
    (bytes_or y.text text)
    y.report (map (λ w. w.now) x.ids.items) = grind (arith, common_steps, round) in
    let spans : All (HasSpans (string_bytes x.text)) x.report.findings.items =
    subst (λ o. IfSome o (λ z. All (HasSpans (string_bytes z.text)) z.report.findings.items))
    c.in-Some.is c.in_ok-round.ensures.spans in
    let e : map (λ w. w.now) y.ids.items
    ≡ map (λ w. w.now) l.file_fixes.ids.items ++ map (λ w. w.now) x.ids.items =
    ap (map (λ w. w.now)) c.in_ok-file_fixes.ensures.ids
    ∙ map-append (λ w. w.now) l.file_fixes.ids.items x.ids.items in
    record {
      report = next.report;
      spans = subst (λ p. All (HasSpans (bytes_or y.text text)) p.findings.items)
          (sym c.in_ok-file_fixes.ensures.report) (subst (λ t. All (HasSpans (bytes_or t text))
          x.report.findings.items) (sym c.in_ok-file_fixes.ensures.text) spans);
      rounds = (
        i.0,
        i.1,
        λ cs q ws h. subst (λ us. AreRounds es new (most_rounds text) text i.0 cs q (us ++ ws))
            (sym e) (one-more es new l.rounds_left (most_rounds text) text
            (bytes_or l.file_fixes.text text)
            (bytes_or y.text text) i.0 l.file_fixes.report y.report
            (map (λ w. w.now) l.file_fixes.ids.items)
            (map (λ w. w.now) x.ids.items) c.loop-rounds_left-test.true next i.2 cs q ws h),
      );
    }

pub returns-clause-rounds : goal.returns-clause-rounds
returns-clause-rounds c =
    let l = c.loop-rounds_left in
    let i = l.invariant.rounds in
    let es = map entry c.args.options.now.table.rows.items in
    let new = c.args.options.now.is_from_2021 in
    let text = c.args.text.now in
    let cs = bytes_or l.file_fixes.text text in (
      i.0,
      i.1,
      subst (λ ws. AreRounds es new (most_rounds text) text i.0 cs l.file_fixes.report ws)
          (append-nil _) (i.2 cs l.file_fixes.report []
          (stop es new l.rounds_left cs l.file_fixes.report
          (omega (arith, c.loop-rounds_left-test.false)))),
    )

use Rattle.std.proofs.Common.{◌≡◌, ◌∙◌, IsFalse, IsTrue, List, ap, inl, inr, length, map, rules}
use Rattle.std.proofs.Common.{string_bytes, subst, sym, ℕ}
use Rattle.format_calls.specs.Rows.{entry}
use Rattle.source_lint.specs.Reports.{IsReport}
use Rattle.file_fixes.specs.FileFixes.{FaultsStay, HasLiterals, LeavesCalls, Lexes, OthersGo}
use Rattle.file_fixes.specs.FileFixes.{mended_bytes}
use Rattle.file_fixes.proofs.rounds.round_over.Goals as goal

pub returns-then-not-branch-clause-last : goal.returns-then-not-branch-clause-last
returns-then-not-branch-clause-last c = λ _ e.
    let text : string_bytes c.in-Some.text
    ≡ mended_bytes c.args.source.now c.args.faults.now = search rules in
    inr (inr (inl (
      c.in_ok-report.report,
      subst (λ v. IsReport (map entry c.args.options.now.table.rows.items)
          c.args.options.now.is_from_2021 v c.in_ok-report.report)
          (c.as_str.ensures.value ∙ (text ∙ ap (mended_bytes c.args.source.now) (sym e)))
          c.in_ok-report.ensures.report,
      λ h. let t = c.in_ok-keeps_faults.ensures.1 (rw (sym e) (h.0, h.1, h.2)) in search rules,
    )))

pub returns-then-not-branch-2-clause-last : goal.returns-then-not-branch-2-clause-last
returns-then-not-branch-2-clause-last c = λ _ e.
    let bs = c.args.source.now in
    let fs = c.args.faults.now in
    let q = c.in_ok-report.report in
    let text : string_bytes c.in-Some.text ≡ mended_bytes bs fs = search rules in
    let no : IsFalse c.in_ok-keeps_others.field-0 = search rules in
    elim (c.in_ok-keeps_others.ensures.no no) [
      | inl h ↦ inr (inr (inr (inl (subst (λ v. OthersGo bs v (mended_bytes bs v)) (sym e)
          (subst (OthersGo bs fs) (c.as_str-2.ensures.value ∙ text) h)))))
      | inr k ↦ elim k [
        | inl h ↦ inr (inr (inr (inr (subst (LeavesCalls bs) (sym e) h))))
        | inr h ↦ inr (inr (inl (
          q,
          subst (λ v. IsReport (map entry c.args.options.now.table.rows.items)
              c.args.options.now.is_from_2021 v q)
              (c.as_str.ensures.value ∙ (text ∙ ap (mended_bytes bs) (sym e)))
              c.in_ok-report.ensures.report,
          λ w. let s = subst (λ v. (s : FaultsStay v q.findings.items)
              × HasLiterals bs v (length s.others)) e (w.1, w.3) in
              h (subst (HasLiterals bs fs) (sym (c.new_count-new_faults.ensures s.0)) s.1),
        )))
      ]
    ]

pub returns-clause-round : goal.returns-clause-round
returns-clause-round c =
    let yes : IsTrue c.in_ok-keeps_others.field-0 = search rules in
    let kept = c.in_ok-keeps_others.ensures.yes yes in
    let stay : FaultsStay c.args.faults.now c.in_ok-report.report.findings.items = search rules in
    let P : List ℕ → Type 0 = λ v. Lexes v in record {
      faults = c.args.faults.now;
      are_all = c.requires;
      text = search rules;
      ids = search rules;
      report = search rules;
      no_worse = search rules;
      stay = stay;
      few = subst (HasLiterals c.args.source.now c.args.faults.now)
          (c.new_count-new_faults.ensures stay) kept.3;
      gone = search rules;
      calls = search rules;
      tokens = search rules;
      lexes = subst P c.as_str-2.ensures.value kept.1;
    }

use Rattle.std.proofs.Common.{◌≡◌, ◌∙◌, ◌≤◌, IsTrue, ap, arith, chars, false, inl, inr, map, rules}
use Rattle.std.proofs.Common.{subst, sym, true}
use Rattle.std.proofs.lemmas.Result.{IfOk-weaker}
use Rattle.fault_fixes.specs.SeenEdits.{seen_edit}
use Rattle.rust_tokens.specs.Spans.{placed_tokens}
use Rattle.rust_tokens.proofs.FileLaws.{file-once}
use Rattle.source_report.specs.Suggestions.{all_edits, are_after, mended_faults}
use Rattle.file_fixes.specs.FileFixes.{HasLiterals, LeavesCalls, Lexes, OthersGo, OthersStay}
use Rattle.file_fixes.specs.FileFixes.{StaysInCalls}
use Rattle.file_fixes.specs.Mending.{have_literals, literal_count}
use Rattle.file_fixes.specs.Outside.{KeepsTokens}
use Rattle.file_fixes.proofs.EditLaws.{mended-after}
use Rattle.file_fixes.proofs.rounds.keeps_others.Goals as goal

pub keeps_tokens-requires-clause-edits : goal.keeps_tokens-requires-clause-edits
keeps_tokens-requires-clause-edits c =
    let edits : map seen_edit c.as_slice-3.result.now
    ≡ all_edits (mended_faults 0 c.args.faults.now) =
    ap (map seen_edit) c.as_slice-3.ensures.value ∙ c.in_ok-edits.ensures in
    subst (λ es. IsTrue (are_after 0 es)) (sym edits) (mended-after 0 c.args.faults.now)

pub keeps_tokens-requires-clause-tokens : goal.keeps_tokens-requires-clause-tokens
keeps_tokens-requires-clause-tokens c =
    let xs = c.in_ok-old_tokens.ensures.reads in (xs.0, c.as_slice-2.ensures.value ∙ xs.2)

pub returns-in_default-clause-no : goal.returns-in_default-clause-no
unfolding LeavesCalls
returns-in_default-clause-no c = λ _.
    let xs = c.in_ok-old_tokens.ensures.reads in
    let no : have_literals c.args.old.now c.as_slice.result.now
    (mended_faults 0 c.args.faults.now) ≡ false = search rules in
    let value = ap (λ ts. have_literals c.args.old.now ts (mended_faults 0 c.args.faults.now))
    (c.as_slice.ensures.value ∙ xs.2) in
    inr (inl (xs.0, xs.1, λ k. let e : false ≡ true = sym no ∙ (value ∙ k) in absurd cc))

pub returns-then-literals-most-clause-no : goal.returns-then-literals-most-clause-no
unfolding HasLiterals
returns-then-literals-most-clause-no c = λ _.
    let xs = c.in_ok-old_tokens.ensures.reads in
    let fs = mended_faults 0 c.args.faults.now in
    let count : c.in-Some.most ≡ literal_count c.as_slice.result.now fs = search rules in
    let all = count ∙ ap (λ ts. literal_count ts fs) (c.as_slice.ensures.value ∙ xs.2) in
    inr (inr (λ h.
    let few = subst (λ ys. c.args.literals ≤ literal_count (placed_tokens 0 ys) fs)
    (file-once (chars c.args.old.now) h.0 xs.0 h.1 xs.1) h.2 in
    absurd (omega (arith, few, all, c.if-literals-most.true))))

pub returns-clause-yes : goal.returns-clause-yes
unfolding HasLiterals Lexes OthersStay StaysInCalls
returns-clause-yes c =
    let xs = c.in_ok-old_tokens.ensures.reads in
    let fs = mended_faults 0 c.args.faults.now in
    let placed = c.as_slice.ensures.value ∙ xs.2 in
    let yes : have_literals c.args.old.now c.as_slice.result.now fs ≡ true = search rules in
    let count : c.in-Some.most ≡ literal_count c.as_slice.result.now fs = search rules in
    let all = count ∙ ap (λ ts. literal_count ts fs) placed in
    let edits : map seen_edit c.as_slice-3.result.now
    ≡ all_edits (mended_faults 0 c.args.faults.now) =
    ap (map seen_edit) c.as_slice-3.ensures.value ∙ c.in_ok-edits.ensures in
    IfOk-weaker c.keeps_tokens.result _ _
    (λ b h t. let k = h.2.0 t in (
      (
        xs.0,
        h.0,
        (xs.1, h.1),
        subst (λ es. KeepsTokens es (placed_tokens 0 xs.0) (placed_tokens 0 h.0)) edits
            (subst (λ ts. KeepsTokens (map seen_edit c.as_slice-3.result.now) ts
            (placed_tokens 0 h.0)) (c.as_slice-2.ensures.value ∙ xs.2) k.0),
      ),
      (h.0, h.1, k.1),
      (xs.0, xs.1, subst (λ ts. have_literals c.args.old.now ts fs ≡ true) placed yes),
      (xs.0, xs.1, omega (arith, all, c.if-literals-most.false)),
    ))
    c.keeps_tokens.ensures

pub returns-clause-no : goal.returns-clause-no
unfolding OthersGo
returns-clause-no c =
    let xs = c.in_ok-old_tokens.ensures.reads in
    let edits : map seen_edit c.as_slice-3.result.now
    ≡ all_edits (mended_faults 0 c.args.faults.now) =
    ap (map seen_edit) c.as_slice-3.ensures.value ∙ c.in_ok-edits.ensures in
    IfOk-weaker c.keeps_tokens.result _ _
    (λ b h f. inl (
      xs.0,
      h.0,
      (xs.1, h.1),
      λ k. let e : b ≡ true = h.2.1 (
        subst (λ ts. KeepsTokens (map seen_edit c.as_slice-3.result.now) ts
            (placed_tokens 0 h.0)) (sym (c.as_slice-2.ensures.value ∙ xs.2))
            (subst (λ es. KeepsTokens es (placed_tokens 0 xs.0) (placed_tokens 0 h.0))
            (sym edits) k.0),
        k.1,
      ) in absurd cc,
    ))
    c.keeps_tokens.ensures

use Rattle.std.proofs.Common.{◌≡◌, ◌∙◌, [], List, ap, chars, inl, inr, map, refl, subst, sym}
use Rattle.std.proofs.lemmas.List.{append-nil}
use Rattle.rust_trees.specs.Leaves.{leaf}
use Rattle.call_faults.specs.Arguments.{FormatArgument}
use Rattle.call_faults.specs.Views.{seen_given}
use Rattle.source_lint.specs.Findings.{AreFindings}
use Rattle.source_lint.specs.Givens.{given_argument}
use Rattle.asm_lint.specs.Literals.{without_crs}
use Rattle.source_lint.specs.Readings.{call_of, counted_givens, start_of}
use Rattle.source_lint.proofs.CheckedCalls.{start-same}
use Rattle.source_lint.proofs.readings.read_string.Goals as goal

pub check_string-requires : goal.check_string-requires
check_string-requires c =
    rw c.as_str-text.ensures.value (rw c.in-Some.is at c.in_ok-literal.ensures.short)

pub returns-in_default-clause-read : goal.returns-in_default-clause-read
returns-in_default-clause-read c =
    ([], sym (append-nil _), inl (rw c.in_default.is at c.in_ok-literal.ensures.read, refl, refl))

pub returns-clause-read : goal.returns-clause-read
returns-clause-read c =
    let token = without_crs (chars c.args.site.literal.text.now) in
    let r = rw c.in-Some.is at c.in_ok-literal.ensures.read in
    let t = c.in_ok-check_string.ensures.outcome in
    let appended = c.args.appended_newline in
    let style = c.in-Some.literal.style in
    let start = start_of appended style token r.stands_for in
    let same = start-same (chars c.as_str-snippet.result.now) (chars c.as_str-text.result.now)
    r.stands_for token style appended
    (ap chars c.as_str-text.ensures.value ∙ r.text)
    (ap chars c.as_str-snippet.ensures.value ∙ r.snippet) in
    let given : map seen_given c.as_slice-list.result.now ≡ counted_givens c.args.is_counted
    (map (given_argument (map leaf c.args.site.tokens.now)) c.args.site.arguments.now) =
    ap (map seen_given) c.as_slice-list.ensures.value ∙ c.in_ok-arguments.ensures in (
      t.0,
      t.1,
      inr (
        style,
        r.stands_for,
        r.is_literal,
        (
          c.reading_of.ensures,
          subst (λ (gs : List FormatArgument). AreFindings c.args.is_counted
              (call_of c.args.captures_variables start gs) t.0) given
              (subst (λ q. AreFindings c.args.is_counted
              (call_of c.args.captures_variables q (map seen_given c.as_slice-list.result.now)) t.0)
              same t.2),
        ),
      ),
    )

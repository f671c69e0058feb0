use Rattle.std.proofs.Common.{◌≡◌, ◌∙◌, ap, chars, inl, inr, map, subst, sym}
use Rattle.std.specs.Prelude.{encode_utf8_all}
use Rattle.std.proofs.lemmas.Result.{IfOk-weaker}
use Rattle.std.proofs.lemmas.Str.{encodes-chars}
use Rattle.rust_trees.specs.Leaves.{leaf}
use Rattle.asm_lint.specs.Literals.{without_crs}
use Rattle.inlined_arguments.specs.Conditions.{Call as FormatCall}
use Rattle.inlined_arguments.specs.Views.{seen_argument, seen_edit}
use Rattle.file_inlines.specs.CallInlines.{AreEdits, Makes}
use Rattle.file_inlines.proofs.Calling.{call-same}
use Rattle.file_inlines.proofs.calls.inline_site.Goals as goal

pub returns-in_default : goal.returns-in_default
returns-in_default c = inl (
  rw c.in_default.is at c.in_ok-literal.ensures.read,
  c.unchanged_call.ensures.reason,
  ap (map seen_edit) c.unchanged_call.ensures.none,
)

pub inline_format_call-requires : goal.inline_format_call-requires
inline_format_call-requires c =
    rw c.as_str-text.ensures.value (rw c.in-Some.is at c.in_ok-literal.ensures.short)

pub returns : goal.returns
returns c =
    let found = c.args.site in
    let xs = map leaf found.tokens.now in
    let lines = without_crs (chars found.literal.text.now) in
    let r = rw c.in-Some.is at c.in_ok-literal.ensures.read in
    let snippet : c.as_str-snippet.result.now ≡ encode_utf8_all lines =
    sym (encodes-chars c.as_str-snippet.result.now c.as_str-snippet.utf8)
    ∙ ap encode_utf8_all (ap chars c.as_str-snippet.ensures.value ∙ r.snippet) in
    let same = call-same c.args.is_from_2021 c.args.rule c.args.name.now found.text.now xs lines
    r.stands_for (chars c.as_str-text.result.now) c.as_str-snippet.result.now
    c.in-Some.literal.style found.arguments.now c.args.is_counted _ _ _ _
    (map seen_argument c.as_slice-list.result.now)
    (ap chars c.as_str-text.ensures.value ∙ r.text) snippet
    c.appends_newline-appended_newline.ensures c.captures_variables.ensures
    (ap (map seen_argument) c.as_slice-list.ensures.value ∙ c.in_ok-arguments.ensures)
    c.is_format_alone.ensures c.has_const_form.ensures in
    IfOk-weaker c.inline_format_call.result _ _ (λ x h. inr (
      c.in-Some.literal.style,
      r.stands_for,
      r.is_literal,
      subst (λ (v : FormatCall). Makes c.args.allows_mixed v (leaf found.literal)
          (AreEdits found.text.now xs (leaf found.literal) found.arguments.now) x.inlining
          (map seen_edit x.edits.items)) same h,
    )) c.inline_format_call.ensures

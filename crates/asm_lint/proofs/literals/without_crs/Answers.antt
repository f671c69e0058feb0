use Rattle.std.proofs.Common.{◌∙◌, ◌++◌, ap, chars, rules, string_bytes, sym}
use Rattle.std.proofs.lemmas.Str.{IsUtf8-string_bytes, chars-nil}
use Rattle.std.proofs.lemmas.List.{append-nil}
use Rattle.rust_trees.proofs.PlaceSteps.{split-none}
use Rattle.rustc_parse_format.proofs.Literals.Texts.{chars-push}
use Rattle.asm_lint.specs.Literals.{without_crs}
use Rattle.asm_lint.proofs.Crs.{cr-dropped, cr-kept, no-cr}
use Rattle.asm_lint.proofs.literals.without_crs.Goals as goal

pub returns-then-not-contains : goal.returns-then-not-contains
returns-then-not-contains c =
    ap chars c.in_ok-from_str.ensures.ok
    ∙ no-cr c.args.text.now c.utf8.text c.if-not-contains.ensures.cases

pub loop-c-init : goal.loop-c-init
loop-c-init c = record {
  is_text = search rules;
  all = ap (λ v. v ++ without_crs (chars c.args.text.now))
      (ap chars c.new-lines.ensures.bytes ∙ chars-nil);
}

pub loop-c-preserved-in_ok-push : goal.loop-c-preserved-in_ok-push
loop-c-preserved-in_ok-push c = record {
  is_text = search rules;
  all = cr-kept _ _ _ _ _ _ (ap chars c.in_ok-push.ensures.bytes
      ∙ chars-push (string_bytes c.loop-c.lines) c.in-Some.c
      (IsUtf8-string_bytes c.loop-c.lines) (search rules)) c.in-Some.ensures.value
      (sym c.if-not-is_dropped.ensures) c.loop-c.invariant.all;
}

pub loop-c-preserved : goal.loop-c-preserved
loop-c-preserved c = record {
  is_text = search rules;
  all = cr-dropped _ _ _ _ _ c.in-Some.ensures.value (sym c.if-not-is_dropped.ensures)
      c.loop-c.invariant.all;
}

pub returns : goal.returns
returns c =
    sym (append-nil (chars (string_bytes c.loop-c.lines)))
    ∙ (ap (λ v. chars (string_bytes c.loop-c.lines) ++ without_crs v)
    (sym (split-none _ c.in_default.ensures.value)) ∙ c.loop-c.invariant.all)

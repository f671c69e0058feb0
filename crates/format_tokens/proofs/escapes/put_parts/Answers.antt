use Rattle.std.proofs.Common.{◌≡◌, ◌-◌, ◌∙◌, ap, sym, chars, rules}
use Rattle.rustc_parse_format.specs.Characters.{byte_length}
use Rattle.format_tokens.proofs.Cutting.{after_first-shorter, cut-escape, escape-shorter}
use Rattle.format_tokens.proofs.Cutting.{pass-character, pass-escape, so_far-cut, so_far-end}
use Rattle.format_tokens.proofs.Cutting.{so_far-pass, so_far-start}
use Rattle.format_tokens.proofs.Progress.{nil_chars, some_chars}
use Rattle.format_tokens.proofs.escapes.put_parts.Goals as goal

pub loop-rest-init : goal.loop-rest-init
loop-rest-init c = (c.utf8.text, so_far-start _ _ _)

pub loop-rest-smaller-in-None : goal.loop-rest-smaller-in-None
loop-rest-smaller-in-None c =
    let some = some_chars _ c.loop-rest.invariant.0
    (sym c.is_empty.ensures ∙ c.loop-rest-test.true) in
    rw c.after_first-rest.ensures (after_first-shorter _ some)

pub loop-rest-preserved-in-None : goal.loop-rest-preserved-in-None
loop-rest-preserved-in-None c =
    let h = c.loop-rest.invariant.1 in
    let some = some_chars _ c.loop-rest.invariant.0
    (sym c.is_empty.ensures ∙ c.loop-rest-test.true) in (
      search rules,
      rw c.after_first-rest.ensures (so_far-pass _ _ _ _ _ _ _ h
          (pass-character h.turns _ _ _ _ some h.enough (sym c.in-None.ensures))),
    )

pub loop-rest-smaller-in_ok-put_escape-in-Some : goal.loop-rest-smaller-in_ok-put_escape-in-Some
loop-rest-smaller-in_ok-put_escape-in-Some c = escape-shorter _ _ _ (sym c.in-Some.ensures)

pub loop-rest-preserved-in_ok-put_escape-in-Some :
    goal.loop-rest-preserved-in_ok-put_escape-in-Some
loop-rest-preserved-in_ok-put_escape-in-Some c =
    let h = c.loop-rest.invariant.1 in
    let end = c.args.token.now.span.end in
    let at : c.saturating_sub-at.result ≡ end - byte_length (chars c.loop-rest.rest.now) =
    c.saturating_sub-at.ensures ∙ ap (λ n. end - n) c.width_of.ensures in
    let to : c.saturating_sub-to.result ≡ end - byte_length (chars c.in-Some.field-0.rest.now) =
    c.saturating_sub-to.ensures ∙ ap (λ n. end - n) c.width_of-then-is_apart.ensures in (
      search rules,
      rw to (so_far-cut _ _ _ _ _ _ _ _ _ h
          (cut-escape h.turns _ _ _ _ _ _ h.enough (sym c.in-Some.ensures)
          (sym c.is_apart.ensures ∙ c.if-is_apart.true))
          (rw at at c.in_ok-put_run-in-Some.ensures)
          (rw (at, to) at c.in_ok-put_escape-in-Some.ensures)),
    )

pub loop-rest-smaller : goal.loop-rest-smaller
loop-rest-smaller c = escape-shorter _ _ _ (sym c.in-Some.ensures)

pub loop-rest-preserved : goal.loop-rest-preserved
loop-rest-preserved c =
    let h = c.loop-rest.invariant.1 in (
      search rules,
      so_far-pass _ _ _ _ _ _ _ h
          (pass-escape h.turns _ _ _ _ _ _ h.enough (sym c.in-Some.ensures)
          (sym c.is_apart.ensures ∙ c.if-is_apart.false)),
    )

pub returns : goal.returns
returns c =
    let none = nil_chars _ (sym c.is_empty.ensures ∙ c.loop-rest-test.false) in
    so_far-end _ _ _ _ _ _ (rw none at c.loop-rest.invariant.1) c.in_ok-put_run.ensures

use Rattle.std.proofs.Common.{◌≡◌, ◌∙◌, None, Some, ap, chars, false, inr, map, subst}
use Rattle.std.proofs.lemmas.List.{append-nil}
use Rattle.rustc_parse_format.specs.State.{first_state}
use Rattle.rustc_parse_format.specs.Types.{Diagnostic}
use Rattle.message_faults.specs.Messages.{message_faults}
use Rattle.message_faults.specs.Views.{seen_fault}
use Rattle.asm_lint.specs.Attributes.{TellMessages, message_start}
use Rattle.asm_lint.specs.Literals.{without_crs}
use Rattle.asm_lint.proofs.messages.read_text.Goals as goal

pub returns-clause-read : goal.returns-clause-read
returns-clause-read c =
    let name = chars c.args.item.name.now in
    let ps = map (λ p. p.now) c.args.item.parameters.now in
    let r = rw c.in-Some.is at c.in_ok-literal.ensures.read in
    let t = c.in_ok-put_findings.ensures.outcome in
    let found : map seen_fault c.deref-2.result.now ≡ message_faults (Some ps)
    (message_start (without_crs (chars c.args.token.now.text.now)) r.stands_for) =
    ap (map seen_fault) c.deref-2.ensures.value ∙ (c.in_ok-faults.ensures (Some ps) c.requires
    ∙ (ap (λ v. message_faults (Some ps)
    (first_state Diagnostic v None (Some (chars c.as_str-2.result.now)) false))
    (ap chars c.as_str.ensures.value ∙ (r.text ∙ append-nil r.stands_for))
    ∙ ap (λ v. message_faults (Some ps) (first_state Diagnostic r.stands_for None (Some v) false))
    (ap chars c.as_str-2.ensures.value ∙ r.snippet))) in (
      t.0,
      t.1,
      inr (
        c.in-Some.literal.style,
        r.stands_for,
        r.is_literal,
        subst (λ v. TellMessages name v t.0) found t.2,
      ),
    )

use Rattle.std.proofs.Common.{◌≡◌, ◌∙◌, ap, map, arith, if◌then◌else◌}
use Rattle.std.proofs.lemmas.List.{map-append}
use Rattle.format_tokens.specs.Culprits.{fits, inside_after, role_of}
use Rattle.format_tokens.specs.Views.{seen_token}
use Rattle.format_tokens.specs.Starts.{pairs}
use Rattle.format_tokens.specs.declared.kinds.Kind.TheVariants.{Unexpected}
use Rattle.format_tokens.proofs.Starts.{place-none, place-some}
use Rattle.format_tokens.proofs.places.place.Goals as goal
use Rattle.format_tokens.proofs.places.place.Goals.{then-at-to+in_ok-push, else-at-to}

pub loop-label-preserved : goal.loop-label-preserved
loop-label-preserved c =
    let label = c.in-Some.label.now in
    let others = pairs c.in-Some.others.now in
    let inside = c.loop-label.is_inside in
    let fit : c.fits-is_in_place.result ≡ fits c.args.needs_names inside others
    (role_of label.kind) =
    c.fits-is_in_place.ensures ∙ ap (fits c.args.needs_names inside others) c.role_of-role.ensures
    in
    let after : c.inside_after-is_inside.result
    ≡ inside_after inside (fits c.args.needs_names inside others (role_of label.kind))
    (role_of label.kind) =
    c.inside_after-is_inside.ensures
    ∙ (ap (λ f. inside_after inside f c.role_of-role.result) fit
    ∙ ap (inside_after inside (fits c.args.needs_names inside others (role_of label.kind)))
    c.role_of-role.ensures) in
    elim c.if-at-to.branch [
      | then-at-to+in_ok-push v ↦ record {
        kept = omega (arith, c.min.ensures, c.loop-label.invariant.kept);
        so_far = λ w e. (
            let x = rw c.in-Some.ensures.cases.0 at c.loop-label.invariant.so_far w e in
            let tokens = ap (map seen_token) v.in_ok-push.ensures.items
            ∙ map-append seen_token c.loop-label.tokens.items _ in
            let kind = v.marked_kind.ensures
            ∙ ap (λ f. if f then label.kind else Unexpected) fit in
            rw (v.tokens-is, tokens, kind, after)
            (place-some w _ c.loop-label.at c.args.count _ _ _ _ _ e c.loop-label.invariant.kept
            c.requires c.min.ensures v.if-at-to.true x)
            );
      }
      | else-at-to v ↦ record {
        kept = omega (arith, c.min.ensures, c.loop-label.invariant.kept);
        so_far = λ w e. (
            let x = rw c.in-Some.ensures.cases.0 at c.loop-label.invariant.so_far w e in
            rw (v.tokens-is, after)
            (place-none w c.loop-label.at c.args.count _ _ _ _ _ c.min.ensures v.if-at-to.false x)
            );
      }
    ]

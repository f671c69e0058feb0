use Rattle.std.proofs.Common.{◌≡◌, ap, length, subst, ◌∙◌, arith}
use Rattle.std.proofs.lemmas.Bool.{not-true, both_ways}
use Rattle.rustc_parse_format.specs.CallStates.{Remainder}
use Rattle.rustc_parse_format.specs.World.{place_at}
use Rattle.rustc_parse_format.proofs.Sources.Order.{HasPlaces, past_indent, anchored-places}
use Rattle.rustc_parse_format.proofs.cursor.Cursor.is_past_indent.Goals as goal

pub returns-then-start-byte : goal.returns-then-start-byte
returns-then-start-byte c _ e =
    let places = subst (λ (u : Remainder). HasPlaces u.world (length u.rest)) c.self.view_is
    (anchored-places c.self.inside.source c.self.inside.lookahead.rest.text.now c.self.inside.anchor
    c.self.invariant.0) in
    let start : c.start-start.result
    ≡ (place_at c.args.self.now.world (length c.args.self.now.rest)).0 =
    (rw c.next.ensures at c.start-start.ensures)
    ∙ ap (λ (u : Remainder). (place_at u.world (length u.rest)).0) c.self.view_is in
    let rest_after = c.if-start-byte.true in
    past_indent c.args.self.now.world c.args.self.now.rest c.args.c c.args.byte places e
    (omega (arith, start)) (λ white. omega (arith, start))

pub returns-then-start-byte-2 : goal.returns-then-start-byte-2
returns-then-start-byte-2 c no_white e =
    let places = subst (λ (u : Remainder). HasPlaces u.world (length u.rest)) c.self.view_is
    (anchored-places c.self.inside.source c.self.inside.lookahead.rest.text.now c.self.inside.anchor
    c.self.invariant.0) in
    let start : c.start-start.result
    ≡ (place_at c.args.self.now.world (length c.args.self.now.rest)).0 =
    (rw c.next.ensures at c.start-start.ensures)
    ∙ ap (λ (u : Remainder). (place_at u.world (length u.rest)).0) c.self.view_is in
    let same = c.if-start-byte-2.true in
    past_indent c.args.self.now.world c.args.self.now.rest c.args.c c.args.byte places e
    (omega (arith, start))
    (λ white. absurd (both_ways _ (not-true _ no_white) (c.is_whitespace.ensures ∙ white)))

use Rattle.std.proofs.Common.{length, ◌≡◌, ap, sym, rules}
use Rattle.rustc_parse_format.specs.SourceViews.{seen_world}
use Rattle.rustc_parse_format.specs.World.{Place}
use Rattle.rustc_parse_format.proofs.Sources.Places.{anchor_in, place_gone, plain_stop}
use Rattle.rustc_parse_format.proofs.source.Source.stop.Goals as goal

pub returns-then-is_empty : goal.returns-then-is_empty
returns-then-is_empty c =
    let z : length c.args.rest.now ≡ 0 = search rules in
    sym (ap (λ (x : Place). x.1)
    (place_gone c.args.self.now c.args.rest.now c.args.anchor.now c.requires z))

pub stop_of-requires-clause-leads : goal.stop_of-requires-clause-leads
stop_of-requires-clause-leads c =
    let placed =
    anchor_in c.args.self.now c.args.rest.now c.args.anchor.now c.in-Some.snippet c.requires
    c.in-Some.is in
    record {
      after = c.requires.is_after;
      here = (seen_world c.args.self.now, rw c.as_str.ensures.value placed);
    }

pub returns-in-Some : goal.returns-in-Some
returns-in-Some c =
    let placed =
    anchor_in c.args.self.now c.args.rest.now c.args.anchor.now c.in-Some.snippet c.requires
    c.in-Some.is in
    c.stop_of.ensures (seen_world c.args.self.now) (rw c.as_str.ensures.value placed)

pub returns-in-None : goal.returns-in-None
returns-in-None c =
    let z : length c.args.rest.now ≡ 0 → ⊥ = search rules in
    plain_stop c.args.self.now c.args.rest.now c.after_first.result.now c.args.anchor.now
    c.requires
    c.in-None.is c.after_first.utf8 z c.after_first.ensures.rest

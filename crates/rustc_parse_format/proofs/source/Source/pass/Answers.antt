use Rattle.std.proofs.Common.{◌≡◌, ◌∙◌, ap, chars, length, rules, sym}
use Rattle.std.proofs.lemmas.Str.{chars-nil}
use Rattle.std.proofs.lemmas.List.{nil_from_length}
use Rattle.rustc_parse_format.specs.Characters.{after_first}
use Rattle.rustc_parse_format.specs.SourceViews.{seen_world}
use Rattle.rustc_parse_format.specs.World.{place_at}
use Rattle.rustc_parse_format.proofs.Sources.Places.{anchor_in, place_by, place_gone, plain_start}
use Rattle.rustc_parse_format.proofs.Sources.Places.{plain_stop}
use Rattle.rustc_parse_format.proofs.source.Source.pass.Goals as goal

pub returns-then-is_empty-clause-place : goal.returns-then-is_empty-clause-place
returns-then-is_empty-clause-place c =
    let z : length c.args.rest.now ≡ 0 = search rules in
    sym (place_gone c.args.self.now c.args.rest.now c.args.anchor.now c.requires z)

pub returns-then-is_empty-clause-rest : goal.returns-then-is_empty-clause-rest
returns-then-is_empty-clause-rest c =
    let z : length c.args.rest.now ≡ 0 = search rules in
    let none = ap chars (nil_from_length c.args.rest.now z) ∙ chars-nil in
    none ∙ sym (ap after_first none)

pub pass-requires-clause-leads : goal.pass-requires-clause-leads
pass-requires-clause-leads c =
    let placed =
    anchor_in c.args.self.now c.args.rest.now c.args.anchor.now c.in-Some.snippet c.requires
    c.in-Some.is in
    record {
      after = c.requires.is_after;
      here = (seen_world c.args.self.now, rw c.as_str.ensures.value placed);
    }

pub returns-in-None-clause-place : goal.returns-in-None-clause-place
returns-in-None-clause-place c =
    let z : length c.args.rest.now ≡ 0 → ⊥ = search rules in
    place_by (place_at (seen_world c.args.self.now) (length (chars c.args.rest.now))) _ _
    (plain_start c.args.self.now c.args.rest.now c.args.anchor.now c.requires c.in-None.is z)
    (plain_stop c.args.self.now c.args.rest.now c.after_first-rest_after.result.now
    c.args.anchor.now
    c.requires c.in-None.is c.after_first-rest_after.utf8 z
    c.after_first-rest_after.ensures.rest)

use Rattle.std.proofs.Common.{length, chars, sym, arith}
use Rattle.std.proofs.lemmas.Str.{IsUtf8-from_is_utf8, len_utf8_bounds}
use Rattle.rustc_parse_format.specs.World.{place_at}
use Rattle.rustc_parse_format.proofs.Sources.PlainPlaces.{begun, after_width}
use Rattle.rustc_parse_format.proofs.Sources.Unescaped.{unescaped_inside, unescaped_stop}
use Rattle.rustc_parse_format.proofs.Sources.Places.{place_by}
use Rattle.rustc_parse_format.proofs.Sources.Steps.{here_start}
use Rattle.rustc_parse_format.proofs.source.anchor.Anchor.pass.Goals as goal

pub returns-then-distance-self-clause-place : goal.returns-then-distance-self-clause-place
returns-then-distance-self-clause-place c w h =
    let rest = c.args.rest.now in
    let u = IsUtf8-from_is_utf8 rest c.requires.leads.after.valid_rest in
    let b = begun rest u c.requires.some in
    let left = c.after_first-rest_after.ensures.rest in
    let size =
    after_width rest c.after_first-rest_after.result.now b.head b.tail u
    c.after_first-rest_after.utf8 b.chars_are left in
    let within = c.requires.leads.after.within in
    let bytes = (len_utf8_bounds b.head).0 in
    let more = c.if-distance-self.true in
    let here = unescaped_inside c.args.snippet.now w c.args.self.now rest h c.requires.leads.after
    (omega arith) in
    place_by (place_at w (length (chars rest))) _ _
    (sym (here_start c.args.snippet.now w (chars rest) _ here))
    (unescaped_stop c.args.snippet.now w c.args.self.now rest c.after_first-rest_after.result.now h
    c.requires.leads.after
    (c.after_first-rest_after.ensures.left c.args.self.now.rest.now c.requires.leads.after) left
    c.requires.some more)

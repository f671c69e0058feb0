use Rattle.std.proofs.Common.{◌≡◌, chars, length, sym}
use Rattle.std.proofs.lemmas.Str.{IsUtf8-from_is_utf8}
use Rattle.rustc_parse_format.specs.World.{place_at}
use Rattle.rustc_parse_format.proofs.Sources.PlainPlaces.{begun}
use Rattle.rustc_parse_format.proofs.Sources.Places.{place_by}
use Rattle.rustc_parse_format.proofs.Sources.Steps.{here_start}
use Rattle.rustc_parse_format.proofs.source.anchor.Anchor.pass_by_look.Goals as goal

pub character_at-stop-requires-clause-within : goal.character_at-stop-requires-clause-within
character_at-stop-requires-clause-within c =
    (c.offset_of-start.ensures c.requires.leads.here.0 c.requires.leads.here.1).within

pub character_at-stop-requires-clause-valid : goal.character_at-stop-requires-clause-valid
character_at-stop-requires-clause-valid c =
    (c.offset_of-start.ensures c.requires.leads.here.0 c.requires.leads.here.1).valid

pub new-requires : goal.new-requires
new-requires c = (
  c.requires.leads.here.0,
  rw c.requires.rest_after
      (c.character_at-stop.ensures.after _ _
      (c.offset_of-start.ensures c.requires.leads.here.0 c.requires.leads.here.1)),
)

pub returns-clause-place : goal.returns-clause-place
returns-clause-place c w h =
    let rest = c.args.rest.now in
    let here = c.offset_of-start.ensures w h in
    let b = begun rest (IsUtf8-from_is_utf8 rest c.requires.leads.after.valid_rest) c.requires.some
    in
    let stop : c.character_at-stop.result.stop ≡ (place_at w (length (chars rest))).1 =
    rw b.chars_are (c.character_at-stop.ensures.stop w b.head b.tail (rw b.chars_are at here)) in
    place_by (place_at w (length (chars rest))) c.offset_of-start.result
    c.character_at-stop.result.stop
    (sym (here_start c.args.snippet.now w (chars rest) c.offset_of-start.result here)) stop

pub returns-clause-here : goal.returns-clause-here
returns-clause-here c w h =
    c.new.ensures.anchor w
    (rw c.requires.rest_after
    (c.character_at-stop.ensures.after w _ (c.offset_of-start.ensures w h)))

use Rattle.std.proofs.lemmas.Str.{IsUtf8-from_is_utf8}
use Rattle.rustc_parse_format.proofs.Sources.PlainPlaces.{begun}
use Rattle.rustc_parse_format.proofs.source.anchor.Anchor.stop_of.Goals as goal

pub character_at-requires-clause-within : goal.character_at-requires-clause-within
character_at-requires-clause-within c =
    (c.offset_of.ensures c.requires.leads.here.0 c.requires.leads.here.1).within

pub character_at-requires-clause-valid : goal.character_at-requires-clause-valid
character_at-requires-clause-valid c =
    (c.offset_of.ensures c.requires.leads.here.0 c.requires.leads.here.1).valid

pub returns : goal.returns
returns c w h =
    let rest = c.args.rest.now in
    let b = begun rest (IsUtf8-from_is_utf8 rest c.requires.leads.after.valid_rest) c.requires.some
    in
    rw b.chars_are (c.character_at.ensures.stop w b.head b.tail
    (rw b.chars_are at (c.offset_of.ensures w h)))

use Rattle.std.proofs.Common.{chars, ap, ◌∙◌, Vec, Global}
use Rattle.rustc_parse_format.specs.declared.literal.ContentCharacter.{ContentCharacter}
use Rattle.std.proofs.lemmas.Str.{chars-nil}
use Rattle.rustc_parse_format.specs.LiteralReading.{seen_characters}
use Rattle.rustc_parse_format.proofs.Literals.Places.{read-found, read-none}
use Rattle.rustc_parse_format.proofs.Literals.ContentPlaces.{in_literal}
use Rattle.rustc_parse_format.proofs.literal.read_content.Goals as goal

pub returns-clause-found : goal.returns-clause-found
returns-clause-found c =
    read-found c.read_characters.result
    (λ (v : Vec ContentCharacter Global). seen_characters v.items) (chars c.args.content.now)
    c.read_characters.ensures.computed

pub returns-clause-none : goal.returns-clause-none
returns-clause-none c =
    read-none c.read_characters.result
    (λ (v : Vec ContentCharacter Global). seen_characters v.items) (chars c.args.content.now)
    c.read_characters.ensures.computed

pub returns-clause-empty : goal.returns-clause-empty
returns-clause-empty c e = c.read_characters.ensures.empty (ap chars e ∙ chars-nil)

pub returns-clause-places : goal.returns-clause-places
returns-clause-places c = in_literal c.read_characters.result
    (λ (v : Vec ContentCharacter Global). seen_characters v.items)
    (chars c.args.content.now) (returns-clause-found c)

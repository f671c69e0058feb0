use Rattle.std.proofs.lemmas.Str.{encodes-chars}
use Rattle.listing_json.proofs.fields.put_text.Goals as goal

pub returns-clause-tokens : goal.returns-clause-tokens
returns-clause-tokens c = rw (encodes-chars c.args.text.now c.utf8.text) c.in_ok-string.ensures.ok

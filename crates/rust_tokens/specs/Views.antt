-- A token without its suffix, as a contract sees it.
use Rattle.std.specs.Prelude.{chars}
use Rattle.rust_tokens.specs.declared.bodies.Body.{Body as DeclaredBody}
use Rattle.rust_tokens.specs.First.{Body}

-- The kind, whether it is ended, and the rest.
abbrev pub seen_body : DeclaredBody → Body
seen_body b = (b.kind, b.is_ended, chars b.rest.now)

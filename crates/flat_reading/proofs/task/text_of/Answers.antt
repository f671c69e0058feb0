use Rattle.std.proofs.Common.{◌≡◌, ℕ, List, Bool, true, false, sym, refl}
use Rattle.std.specs.Str.{is_utf8, IsUtf8}
use Rattle.std.proofs.lemmas.Str.{IsUtf8-from_is_utf8, is_utf8-from_IsUtf8}
use Rattle.flat_reading.proofs.task.text_of.Goals as goal

no_text : (bs : List ℕ) (b : Bool) → b ≡ is_utf8 bs → ¬ (IsUtf8 bs) → false ≡ is_utf8 bs
no_text bs true e h = absurd (h (IsUtf8-from_is_utf8 bs (sym e)))
no_text bs false e h = e

pub returns-in-Ok-clause-some : goal.returns-in-Ok-clause-some
returns-in-Ok-clause-some c = sym (is_utf8-from_IsUtf8 c.args.bytes.now c.in-Ok.ensures.cases.1)

pub returns-in-Err-clause-some : goal.returns-in-Err-clause-some
returns-in-Err-clause-some c = no_text c.args.bytes.now _ refl c.in-Err.ensures.cases.0

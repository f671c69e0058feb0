use Rattle.std.proofs.Common.{◌≡◌, ◌≢◌, ◌∙◌, arith, false, refl, sym}
use Rattle.std.proofs.lemmas.Bool.{false≢true}
use Rattle.unicode_ident.proofs.Computing.{unicode_ident}
use Rattle.rustc_parse_format.specs.Bytes.{IsOfAscii}
use Rattle.rustc_parse_format.specs.Characters.{is_id_continue}
use Rattle.rustc_parse_format.specs.Classes.{passes}
use Rattle.rustc_parse_format.specs.declared.characters.Class.{Class}
use Rattle.rustc_parse_format.specs.declared.characters.Class.TheVariants.{Continue, White}
use Rattle.rustc_parse_format.specs.declared.characters.Class.TheVariants.{Text, Line, Unescaped}
use Rattle.rustc_parse_format.specs.declared.characters.Class.TheVariants.{Plain, Unchanged}
use Rattle.rustc_parse_format.proofs.characters.run_width.Goals as goal

no_continue : is_id_continue 128 ≡ false
unfolding unicode_ident
no_continue = refl

-- Each other class lacks a character outside ASCII.
other : (k : Class) → IsOfAscii (passes k) → k ≢ Text → k ≢ Line → k ≢ Unescaped → k ≢ Plain
    → k ≢ Unchanged → ⊥
other Continue h a b d e f = false≢true (sym no_continue ∙ h 128 (omega arith))
other White h a b d e f = false≢true (h 128 (omega arith))
other Text h a b d e f = a refl
other Line h a b d e f = b refl
other Unescaped h a b d e f = d refl
other Plain h a b d e f = e refl
other Unchanged h a b d e f = f refl

pub returns-in_default : goal.returns-in_default
returns-in_default c = let d = c.in_default in
    absurd (other c.args.class c.requires d.not-Text d.not-Line d.not-Unescaped d.not-Plain
    d.not-Unchanged)

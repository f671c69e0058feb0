-- Laws of texts that are written to the output.
use Rattle.std.proofs.Common.{◌≡◌, ℕ, ◌++◌, ◌==◌, [], ◌∷◌, List, Option, Some, None, option_map}
use Rattle.std.proofs.Common.{is_some, true, false, sym, ap, ◌∙◌, append-nil}
use Rattle.std.proofs.Common.{encode_utf8_all, chars, codes, length, refl, arith}
use Rattle.std.specs.declared.ops.Range.{Range}
use Rattle.std.specs.Str.{IsUtf8}
use Rattle.std.proofs.lemmas.Bool.Decides.{nat_tests}
use Rattle.std.proofs.lemmas.Str.{encodes-chars, chars-nil}
use Rattle.rustc_parse_format.specs.Characters.{Text}
use Rattle.rustc_parse_format.specs.Views.{pair}
use Rattle.piece_listing.specs.Listing.{at_entry, quoted_text, type_entry}

-- a type that was not written leaves nothing
pub type_entry-absent : (out : List ℕ) (s : Option (Range ℕ)) (bs : List ℕ) → is_some s ≡ false
    → true ≡ (length bs == 0) → out
    ≡ out ++ type_entry (option_map pair s) (chars bs)
type_entry-absent out None [] e h =
    sym (ap (λ t. out ++ type_entry None t) chars-nil ∙ append-nil out)
type_entry-absent out None (b ∷ bs) e h = grind (arith, nat_tests)
type_entry-absent out (Some r) bs e h = cc

-- the entry of a type
abbrev type_text : Option (Range ℕ) → Text → List ℕ
type_text s t = codes " ty=" ++ (quoted_text t ++ at_entry (option_map pair s))

-- one with a span is shown
pub type_entry-given : (s : Option (Range ℕ)) (t : Text) → is_some s ≡ true
    → type_entry (option_map pair s) t ≡ type_text s t
type_entry-given None t e = cc
type_entry-given (Some r) t e = refl

-- one that is not empty is shown
type_entry-cons : (s : Option (Range ℕ)) (bs : List ℕ) (t : Text) → encode_utf8_all t ≡ bs
    → is_some s ≡ false → false ≡ (length bs == 0) →
    type_entry (option_map pair s) t ≡ type_text s t
type_entry-cons None bs [] w e h = absurd (elim bs as (λ x. [] ≡ x → false ≡ (length x == 0) →
    ⊥) [ [] ↦ λ p q. grind (arith, nat_tests) | b ∷ bs ↦ λ p q. cc ] w h)
type_entry-cons None bs (c ∷ t) w e h =
    ap (λ x. codes " ty=" ++ x) (sym (append-nil (quoted_text (c ∷ t))))
type_entry-cons (Some r) bs t w e h = cc

pub type_entry-chars : (s : Option (Range ℕ)) (bs : List ℕ) → IsUtf8 bs → is_some s ≡ false
    → false ≡ (length bs == 0) →
    type_entry (option_map pair s) (chars bs) ≡ type_text s (chars bs)
type_entry-chars s bs u e h = type_entry-cons s bs (chars bs) (encodes-chars bs u) e h

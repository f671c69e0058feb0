-- Characters that are written as they are.
use Rattle.std.proofs.Common.{◌≡◌, ◌++◌, List, ℕ, true, false, [], ◌∷◌, chars, IsUtf8, flat_map}
use Rattle.std.proofs.Common.{refl, ap, sym, ◌∙◌, append_assoc, Some, None, arith}
use Rattle.std.specs.Prelude.{encode_utf8, nat_lt, ◌==◌, ◌||◌}
use Rattle.std.specs.List.{list_all}
use Rattle.std.proofs.lemmas.Bool.{and_parts, cond-false}
use Rattle.std.proofs.lemmas.Bool.Decides.{nat_tests}
use Rattle.std.proofs.lemmas.Grind.{flat_map-append}
use Rattle.std.proofs.lemmas.Str.{encodes-chars}
use Rattle.std.proofs.Math.Utf8.{encodes}
use Rattle.rustc_parse_format.specs.Characters.{Text, rest_after, front}
use Rattle.rustc_parse_format.specs.Escaping.{is_unchanged, plainly_written, short_escape}
use Rattle.rustc_parse_format.specs.Escaping.{written_character}
use Rattle.rustc_parse_format.proofs.Grammar.Fronts.{front-rest_after, list_all-front}

no_escape : (c : ℕ) → is_unchanged c ≡ true → short_escape c ≡ None
no_escape c h = grind (arith, nat_tests)

no_control : (c : ℕ) → is_unchanged c ≡ true → plainly_written c ≡ encode_utf8 c
no_control c h =
    let e : (nat_lt c 32 || c == 127) ≡ false = grind (arith, nat_tests) in
    cond-false _ _ _ e

written-unchanged : (c : ℕ) → is_unchanged c ≡ true → written_character c ≡ encode_utf8 c
unfolding written_character
written-unchanged c h =
    ap (λ o. elim o [ Some s ↦ s | None ↦ plainly_written c ]) (no_escape c h) ∙ no_control c h

all-unchanged : (t : Text) → list_all is_unchanged t ≡ true
    → flat_map written_character t ≡ encodes t
all-unchanged [] h = refl
all-unchanged (c ∷ t) h =
    let parts = and_parts (is_unchanged c) _ h in
    ap (λ x. x ++ flat_map written_character t) (written-unchanged c parts.0)
    ∙ ap (λ x. encode_utf8 c ++ x) (all-unchanged t parts.1)

-- The longest prefix of such characters is written as its bytes.
pub unchanged-front : (out bytes : List ℕ) (t : Text) → IsUtf8 bytes
    → chars bytes ≡ front is_unchanged t
    → (out ++ bytes) ++ flat_map written_character (rest_after is_unchanged t)
    ≡ out ++ flat_map written_character t
unchanged-front out bytes t u e =
    let same : bytes ≡ flat_map written_character (front is_unchanged t) =
    sym (encodes-chars bytes u) ∙ (ap encodes e
    ∙ sym (all-unchanged (front is_unchanged t) (list_all-front is_unchanged t))) in
    append_assoc out bytes _
    ∙ ap (λ x. out ++ x)
    (ap (λ x. x ++ flat_map written_character (rest_after is_unchanged t)) same
    ∙ (sym (flat_map-append written_character (front is_unchanged t) (rest_after is_unchanged t))
    ∙ ap (flat_map written_character) (sym (front-rest_after is_unchanged t))))

-- The CRs that a literal drops, one character after the other.
use Rattle.std.proofs.Common.{◌≡◌, ◌++◌, ◌+◌, ℕ, List, true, false, [], ◌∷◌, Some, IsUtf8, ap}
use Rattle.std.proofs.Common.{◌∙◌, ◌<◌, Bool, chars, length, length-append, refl, rules, subst, sym}
use Rattle.std.specs.Prelude.{◌==◌, ◌&&◌, encode_utf8, if◌then◌else◌}
use Rattle.std.specs.Char.{len_utf8}
use Rattle.std.specs.Str.{NoCharPasses, NonePass, encode_utf8_all}
use Rattle.std.proofs.lemmas.List.{append_assoc}
use Rattle.std.proofs.lemmas.Str.{chars_from_encodes, encodes-chars, len_utf8_ascii, length-encode}
use Rattle.rust_tokens.specs.Runs.{first_passes}
use Rattle.rust_tokens.specs.Texts.{Text, split_first}
use Rattle.rust_trees.specs.Places.{is_lf}
use Rattle.rust_trees.proofs.PlaceSteps.{split-some}
use Rattle.asm_lint.specs.Literals.{dropped_crs}

-- The length of the text s, which is the character c and the text r.
pub first-length : (s r : List ℕ) (c : ℕ) → IsUtf8 s → IsUtf8 r
    → Some (c, chars r) ≡ split_first (chars s) → length s ≡ len_utf8 c + length r
first-length s r c u v h =
    let e : encode_utf8_all (chars s) ≡ encode_utf8 c ++ encode_utf8_all (chars r) =
    ap encode_utf8_all (split-some (chars s) (chars r) c h) in
    let f : s ≡ encode_utf8 c ++ r =
    sym (encodes-chars s u) ∙ (e ∙ ap (λ x. encode_utf8 c ++ x) (encodes-chars r v)) in
    ap length f ∙ (length-append (encode_utf8 c) r ∙ ap (λ k. k + length r) (length-encode c))

-- The character c is a CR that is dropped.
pub cr-found : (done now all : List ℕ) (at next : ℕ) (t m : Text) (c : ℕ) → now ≡ done ++ at ∷ []
    → next ≡ at → Some (c, m) ≡ split_first t → (c == 13 && first_passes is_lf m) ≡ true
    → done ++ dropped_crs at t ≡ all → now ++ dropped_crs next m ≡ all
cr-found done now all at next t m c e n f b h =
    ap (λ v. v ++ dropped_crs next m) e
    ∙ (append_assoc done (at ∷ []) (dropped_crs next m)
    ∙ (ap (λ k. done ++ at ∷ dropped_crs k m) n
    ∙ (ap (λ v. done ++ v) (sym (ap (dropped_crs at) (split-some t m c f)
    ∙ ap (λ v. if v then at ∷ dropped_crs at m else dropped_crs (at + len_utf8 c) m) b)) ∙ h)))

-- It is another character.
pub no-cr-found : (done all : List ℕ) (at next : ℕ) (t m : Text) (c : ℕ) → next ≡ at + len_utf8 c
    → Some (c, m) ≡ split_first t → (c == 13 && first_passes is_lf m) ≡ false
    → done ++ dropped_crs at t ≡ all → done ++ dropped_crs next m ≡ all
no-cr-found done all at next t m c n f b h =
    ap (λ k. done ++ dropped_crs k m) n
    ∙ (ap (λ v. done ++ v) (sym (ap (dropped_crs at) (split-some t m c f)
    ∙ ap (λ v. if v then at ∷ dropped_crs at m else dropped_crs (at + len_utf8 c) m) b)) ∙ h)

-- A CR is one byte.
pub cr-one : (c : ℕ) (b : Bool) → (c == 13 && b) ≡ true → len_utf8 c ≡ 1
cr-one c b h =
    let small : c < 128 = search rules in
    len_utf8_ascii c small

-- Without a CR none is found.
none-found : (at : ℕ) (t : Text) → NonePass (λ c. c == 13) t → dropped_crs at t ≡ []
none-found at [] n = refl
none-found at (c ∷ t) n =
    ap (λ b. if b && first_passes is_lf t then at ∷ dropped_crs at t
    else dropped_crs (at + len_utf8 c) t) n.0
    ∙ none-found (at + len_utf8 c) t n.1

pub no-crs : (bs : List ℕ) → IsUtf8 bs → NoCharPasses (λ c. c == 13) bs
    → dropped_crs 0 (chars bs) ≡ []
no-crs bs u h = subst (λ t. dropped_crs 0 t ≡ []) (chars_from_encodes h.0 bs u h.1)
    (none-found 0 h.0 h.2)

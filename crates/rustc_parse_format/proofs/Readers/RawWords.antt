-- A position that begins with `r#`: a raw identifier, or the word `r`.
use Rattle.std.proofs.Common.{◌≡◌, ◌&&◌, ◌==◌, Bool, true, false, [], ◌∷◌, Some, refl, ap, sym, ◌∙◌}
use Rattle.std.proofs.lemmas.Bool.{and_parts, eqb-true, false≢true}
use Rattle.unicode_ident.proofs.Computing.{unicode_ident}
use Rattle.rustc_parse_format.specs.Characters.{Text, is_id_start, word, after_word, after_first}
use Rattle.rustc_parse_format.specs.Characters.{after_prefix, begins_prefix, begins_raw}
use Rattle.rustc_parse_format.specs.Characters.{begins_with, after_white, first, first_passes}
use Rattle.rustc_parse_format.specs.Placeholder.{position}
use Rattle.rustc_parse_format.specs.PartFaults.{position_faults}
use Rattle.rustc_parse_format.specs.Syntax.{Word, RawWord, NoPosition}

-- such a text
prefixed : (t : Text) → begins_prefix t ≡ true → t ≡ 114 ∷ 35 ∷ after_prefix t
prefixed [] h = absurd (false≢true h)
prefixed (c ∷ []) h = absurd (false≢true (and_parts (c == 114) false h).1)
prefixed (c ∷ d ∷ t) h =
    let both = and_parts (c == 114) (d == 35) h in
    rw (eqb-true c 114 both.0, eqb-true d 35 both.1) refl

raw_here : (t : Text) → first_passes is_id_start t ≡ true → position (114 ∷ 35 ∷ t)
    ≡ (RawWord (word t), after_word t)
unfolding unicode_ident
raw_here t h = rw h refl

r_here : (t : Text) → first_passes is_id_start t ≡ false → position (114 ∷ 35 ∷ t)
    ≡ (Word (114 ∷ []), 35 ∷ t)
unfolding unicode_ident word after_word
r_here t h = rw h refl

no_fault_here : (t : Text) → position_faults (114 ∷ 35 ∷ t) (Word (114 ∷ [])) ≡ []
unfolding unicode_ident word
no_fault_here t = refl

pub raw-position : (t : Text) → begins_prefix t ≡ true → first_passes is_id_start (after_prefix t)
    ≡ true →
    position t ≡ (RawWord (word (after_prefix t)), after_word (after_prefix t))
raw-position t h e = ap position (prefixed t h) ∙ raw_here (after_prefix t) e

pub r-whole : (t : Text) → begins_prefix t ≡ true → t ≡ 114 ∷ after_first t
r-whole t h = prefixed t h ∙ ap (λ u. 114 ∷ u) (sym (ap after_first (prefixed t h)))

pub r-position : (t : Text) → begins_prefix t ≡ true → first_passes is_id_start (after_prefix t)
    ≡ false → position t ≡ (Word (114 ∷ []), after_first t)
r-position t h e =
    ap position (prefixed t h) ∙ r_here (after_prefix t) e
    ∙ ap (λ (u : Text). (Word (114 ∷ []), u)) (sym (ap after_first (prefixed t h)))

pub r-faultless : (t : Text) → begins_prefix t ≡ true → position_faults t (Word (114 ∷ [])) ≡ []
r-faultless t h = ap (λ u. position_faults u (Word (114 ∷ []))) (prefixed t h)
    ∙ no_fault_here (after_prefix t)

neither : (a b c : Bool) → (a && b) ≡ false → (a && (b && c)) ≡ false
neither true true c e = absurd (false≢true (sym e))
neither true false c e = refl
neither false b c e = refl

pub no_prefix : (t : Text) → begins_prefix t ≡ false → begins_raw t ≡ false
no_prefix t e = neither (begins_with 114 t) (begins_with 35 (after_first t)) _ e

-- in front of a `}` or a `:` there is no position, and no white space
pub none_at_brace : (t : Text) → first t ≡ Some 125 → position t ≡ (NoPosition, t)
unfolding unicode_ident
none_at_brace [] h = cc h
none_at_brace (c ∷ t) h = let same : c ≡ 125 = cc in rw same refl

pub none_at_colon : (t : Text) → first t ≡ Some 58 → position t ≡ (NoPosition, t)
unfolding unicode_ident
none_at_colon [] h = cc h
none_at_colon (c ∷ t) h = let same : c ≡ 58 = cc in rw same refl

pub unspaced_at_brace : (t : Text) → first t ≡ Some 125 → after_white t ≡ t
unfolding after_white
unspaced_at_brace [] h = cc h
unspaced_at_brace (c ∷ t) h = let same : c ≡ 125 = cc in rw same refl

pub unspaced_at_colon : (t : Text) → first t ≡ Some 58 → after_white t ≡ t
unfolding after_white
unspaced_at_colon [] h = cc h
unspaced_at_colon (c ∷ t) h = let same : c ≡ 58 = cc in rw same refl

pub ruleset no_positions = (none_at_brace, none_at_colon, unspaced_at_brace, unspaced_at_colon)

pub ruleset raw_words = (raw-position, r-position, r-faultless)

pub ruleset no_raw_words = (no_prefix)

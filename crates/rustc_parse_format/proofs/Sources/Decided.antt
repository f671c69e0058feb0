-- The test for a source literal is true exactly if the snippet is one.
use Rattle.std.proofs.Common.{◌≡◌, ◌++◌, ◌-◌, ◌&&◌, ℕ, Bool, true, false, [], ◌∷◌, length, take}
use Rattle.std.proofs.Common.{Option, Some, None, IsTrue, refl, sym, ap, ◌∙◌, arith}
use Rattle.std.proofs.Common.{length-append, ◌↔◌}
use Rattle.std.specs.Prelude.{bytes_eq}
use Rattle.std.proofs.lemmas.Slice.Eq.{bytes_eq-Decides}
use Rattle.std.proofs.Math.Seq.{take-append_seam}
use Rattle.std.proofs.lemmas.List.{append-nil}
use Rattle.rustc_parse_format.specs.Characters.{Text}
use Rattle.rustc_parse_format.specs.Literal.{IsLiteral, IsSource, ordinary_frame, raw_frame}
use Rattle.rustc_parse_format.specs.Literal.{newline}
use Rattle.rustc_parse_format.specs.Source.{unappended_input, text_between, spells, is_literal_of}
use Rattle.rustc_parse_format.specs.Source.{is_source}
use Rattle.rustc_parse_format.specs.Source.{HasSource}
use Rattle.rustc_parse_format.proofs.Literals.Spelling.{spells-parts, spells-from}

both : (a b : Bool) → IsTrue (a && b) → IsTrue a × IsTrue b
both true b h = (refl, h)
both false b h = cc h

join : (a b : Bool) → IsTrue a → IsTrue b → IsTrue (a && b)
join true b h k = k
join false b h k = cc h

same : (s t : Text) → IsTrue (bytes_eq s t) → s ≡ t
same s t h = (bytes_eq-Decides s t).0 h

test : (s t : Text) → s ≡ t → IsTrue (bytes_eq s t)
test s t e = (bytes_eq-Decides s t).1 e

-- a text in front of its newline
pub unappended-append : (b : Bool) (t : Text) → unappended_input b (t ++ newline b) ≡ t
unappended-append true t =
    let n : length (t ++ 10 ∷ []) - 1 ≡ length t = omega (arith, length-append t (10 ∷ [])) in
    ap (λ k. take k (t ++ 10 ∷ [])) n ∙ take-append_seam t (10 ∷ [])
unappended-append false t = append-nil t

pub between-frame : (t : Text) → text_between (ordinary_frame t) ≡ t
between-frame t =
    let n : length (34 ∷ t ++ 34 ∷ []) - 2 ≡ length t = omega (arith, length-append t (34 ∷ [])) in
    ap (λ k. take k (t ++ 34 ∷ [])) n ∙ take-append_seam t (34 ∷ [])

literal_of : (style : Option ℕ) (snippet t : Text) → IsTrue (is_literal_of style snippet t)
    → IsLiteral style snippet t
literal_of None snippet t h =
    let k = both (bytes_eq (ordinary_frame (text_between snippet)) snippet)
    (spells (text_between snippet) t) h in
    let parts = spells-parts (text_between snippet) t k.1 in (
      text_between snippet,
      parts.0,
      sym (same (ordinary_frame (text_between snippet)) snippet k.0),
      parts.1,
      parts.2,
    )
literal_of (Some n) snippet t h = sym (same (raw_frame n t) snippet h)

of_literal : (style : Option ℕ) (snippet t : Text) → IsLiteral style snippet t
    → IsTrue (is_literal_of style snippet t)
of_literal None snippet t (content, us, e, h, v) =
    let b : text_between snippet ≡ content = ap text_between e ∙ between-frame content in
    join (bytes_eq (ordinary_frame (text_between snippet)) snippet)
    (spells (text_between snippet) t)
    (test (ordinary_frame (text_between snippet)) snippet (ap ordinary_frame b ∙ sym e))
    (ap (λ s. spells s t) b ∙ spells-from content t us h v)
of_literal (Some n) snippet t e = test (raw_frame n t) snippet (sym e)

pub source-found : (input : Text) (style : Option ℕ) (snippet : Text) (b : Bool)
    → IsTrue (is_source input style (Some snippet) b) →
    IsSource input style snippet b
unfolding is_source
source-found input style snippet b h =
    let k = both (bytes_eq (unappended_input b input ++ newline b) input)
    (is_literal_of style snippet (unappended_input b input)) h in (
      unappended_input b input,
      literal_of style snippet (unappended_input b input) k.1,
      same (unappended_input b input ++ newline b) input k.0,
    )

pub found-source : (input : Text) (style : Option ℕ) (snippet : Text) (b : Bool)
    → IsSource input style snippet b →
    IsTrue (is_source input style (Some snippet) b)
unfolding is_source
found-source input style snippet b (t, l, e) =
    let u : unappended_input b input ≡ t =
    ap (unappended_input b) (sym e) ∙ unappended-append b t in
    join (bytes_eq (unappended_input b input ++ newline b) input)
    (is_literal_of style snippet (unappended_input b input))
    (test (unappended_input b input ++ newline b) input (ap (λ s. s ++ newline b) u ∙ e))
    (rw u (of_literal style snippet t l))

-- whether or not a snippet was given
pub has_source : (input : Text) (style : Option ℕ) (snippet : Option Text) (b : Bool) →
    IsTrue (is_source input style snippet b) ↔ HasSource input style snippet b
unfolding is_source
has_source input style None b = ((λ h. cc h), (λ h. absurd h))
has_source input style (Some snippet) b =
    (source-found input style snippet b, found-source input style snippet b)

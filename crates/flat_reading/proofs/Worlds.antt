-- A parser at the start whose places are those of a plain text.
use Rattle.std.proofs.Common.{◌≡◌, ℕ, ◌+◌, ◌++◌, Bool, true, false, Option, Some, None, [], ◌∷◌}
use Rattle.std.proofs.Common.{refl, ap, ◌∙◌, arith, is_some}
use Rattle.std.proofs.lemmas.Bool.{cond_both, not-false, eqb-true}
use Rattle.rustc_parse_format.specs.Characters.{Text, byte_length}
use Rattle.rustc_parse_format.specs.Literal.{content_value, newline, ordinary_frame}
use Rattle.rustc_parse_format.specs.LiteralReading.{is_longer}
use Rattle.rustc_parse_format.specs.Source.{is_source}
use Rattle.rustc_parse_format.proofs.Literals.Widths.{width-append, width-cons}
use Rattle.rustc_parse_format.proofs.Sources.Ends.{frame-units}
use Rattle.rustc_parse_format.proofs.Sources.Plain.{ordinary-plain}
use Rattle.rustc_parse_format.proofs.Sources.Decided.{has_source}
use Rattle.rustc_parse_format.specs.Types.{Mode}
use Rattle.rustc_parse_format.specs.World.{World, foreign_end, input_end, ordinary_end}
use Rattle.rustc_parse_format.specs.World.{ordinary_world, plain_world, quote_offset, world}
use Rattle.rustc_parse_format.specs.State.{first_state}
use Rattle.rustc_parse_format.proofs.Spans.TextBytes.{no_source-plain, raw-plain}
use Rattle.flat_reading.specs.Progress.{IsPlain}

pub sourceless_plain : (mode : Mode) (input : Text) (style : Option ℕ) (snippet : Option Text)
    (appended : Bool) (at : ℕ) → at ≡ quote_offset style →
    (first_state mode input style snippet appended).world.has_source ≡ false
    → IsPlain (first_state mode input style snippet appended) at
sourceless_plain mode input style snippet appended at e h =
    let p = no_source-plain input style snippet appended h in rw e (p.literal, p.end, p.is)

pub raw_plain : (mode : Mode) (input : Text) (style : Option ℕ) (snippet : Option Text)
    (appended : Bool) (at : ℕ) → at ≡ quote_offset style →
    is_some style ≡ true → IsPlain (first_state mode input style snippet appended) at
raw_plain mode input None snippet appended at e h = cc
raw_plain mode input (Some n) snippet appended at e h =
    let p = raw-plain input n snippet appended in rw e (p.literal, p.end, p.is)

pub bare_plain : (mode : Mode) (input : Text) (appended : Bool)
    → IsPlain (first_state mode input None None appended) 1
unfolding world
bare_plain mode input appended = (false, input_end input appended, refl)

pub no_style : (style : Option ℕ) → is_some style ≡ false → style ≡ None
no_style None e = refl
no_style (Some n) e = cc

-- An ordinary literal that is not longer than its value: its content is as long as that.
width-frame : (q : Text) → byte_length (ordinary_frame q) ≡ byte_length q + 2
width-frame q = omega (
  arith,
  width-cons 34 (q ++ 34 ∷ []),
  width-append q (34 ∷ []),
  width-cons 34 [],
)

as_long : (q v s input : Text) (appended : Bool) → s ≡ ordinary_frame q
    → v ++ newline appended ≡ input →
    is_longer input None (Some s) appended ≡ false → byte_length q ≡ byte_length v
as_long q v s input true e f n =
    omega (
      arith,
      eqb-true _ _ (not-false _ n),
      ap byte_length e,
      width-frame q,
      ap byte_length f,
      width-append v (10 ∷ []),
      width-cons 10 [],
    )
as_long q v s input false e f n =
    omega (
      arith,
      eqb-true _ _ (not-false _ n),
      ap byte_length e,
      width-frame q,
      ap byte_length f,
      width-append v [],
    )

pub literal_plain : (mode : Mode) (input s : Text) (appended : Bool)
    → is_longer input None (Some s) appended ≡ false →
    IsPlain (first_state mode input None (Some s) appended) 1
unfolding world
literal_plain mode input s appended n =
    cond_both {A = World} (is_source input None (Some s) appended) _ _
    (λ w. (b : Bool) × (e : ℕ) × (w ≡ plain_world b 1 input e))
    (λ yes.
    let (t, (q, us, frame, content, value), whole) =
    (has_source input None (Some s) appended).0 yes in
    let stands : content_value us ++ newline appended
    ≡ input = ap (λ x. x ++ newline appended) value ∙ whole in
    let long = as_long q (content_value us) s input appended frame stands n in (
      true,
      ordinary_end us,
      ap (λ u. ordinary_world u appended) (frame-units s q us frame content)
          ∙ ordinary-plain q us appended content long
          ∙ ap (λ u. plain_world true 1 u (ordinary_end us)) stands,
    ))
    (λ no. (false, foreign_end s, refl))

-- The world of the input of a parser, by what the search for its source literal returns.
use Rattle.std.proofs.Common.{◌≡◌, ◌+◌, ◌++◌, ◌&&◌, ℕ, Bool, true, false, [], refl, sym, ap, ◌∙◌}
use Rattle.std.proofs.Common.{◌∷◌, arith, Option, Some, None, IsTrue, if◌then◌else◌}
use Rattle.std.proofs.Common.{chars, string_bytes, subst, length, length-append}
use Rattle.std.specs.Prelude.{is_some, unwrap_or, not, ◌==◌}
use Rattle.std.specs.declared.string.String.{String}
use Rattle.std.specs.declared.alloc.Global.{Global}
use Rattle.std.proofs.lemmas.Bool.{cond_both, cond-true, cond-false, not-false, eqb-true}
use Rattle.std.proofs.lemmas.Bool.{eq-eqb, ne_eqb, not_from_true, not_from_false}
use Rattle.rustc_parse_format.specs.declared.source.Source.{Source}
use Rattle.rustc_parse_format.specs.Characters.{Text, byte_length}
use Rattle.rustc_parse_format.specs.Literal.{content_value, ordinary_frame, newline}
use Rattle.rustc_parse_format.specs.Source.{is_source, HasSource}
use Rattle.rustc_parse_format.specs.Views.{seen_snippet}
use Rattle.rustc_parse_format.specs.World.{World, world, literal_world, plain_world, ordinary_world}
use Rattle.rustc_parse_format.specs.World.{ordinary_end, quote_offset, foreign_end}
use Rattle.rustc_parse_format.specs.LiteralReading.{IsFound, IsSourceTo, is_longer, plain_end}
use Rattle.rustc_parse_format.specs.Source.{units_between}
use Rattle.rustc_parse_format.specs.SourceViews.{IsOrdinary, IsKeptIn, is_appended, world_with}
use Rattle.rustc_parse_format.proofs.Literals.Widths.{width-append, width-cons}
use Rattle.rustc_parse_format.proofs.Sources.Decided.{has_source}
use Rattle.rustc_parse_format.proofs.Sources.Ends.{frame-units}
use Rattle.rustc_parse_format.proofs.Sources.Plain.{ordinary-plain}

world-found : (input : Text) (style : Option ℕ) (s : Text) (appended : Bool)
    → HasSource input style (Some s) appended →
    world input style (Some s) appended ≡ literal_world input style s appended
unfolding world
world-found input style s appended h =
    cond-true (is_source input style (Some s) appended) _ _
    ((has_source input style (Some s) appended).1 h)

world-foreign : (input : Text) (style : Option ℕ) (s : Text) (appended : Bool)
    → (HasSource input style (Some s) appended → ⊥) →
    world input style (Some s) appended
    ≡ plain_world false (quote_offset style) input (foreign_end s)
unfolding world
world-foreign input style s appended h =
    cond-false (is_source input style (Some s) appended) _ _
    (none (is_source input style (Some s) appended)
    (λ b. h ((has_source input style (Some s) appended).0 b)))
  where
    none : (b : Bool) → (IsTrue b → ⊥) → b ≡ false
    none false h = refl
    none true h = absurd (h refl)

-- an ordinary literal, in the words of what is kept
pub kept-literal : (source : Source) (s : Text) (appended : Bool)
    → IsSourceTo (chars source.input.now) None s appended source.end →
    IsOrdinary (chars source.input.now) s appended source.end
kept-literal source s appended ((t, (content, us, frame, is_content, value), e), f) = record {
  content = content;
  units = us;
  is_literal = frame;
  is_content = is_content;
  stands_for = ap (λ x. x ++ newline appended) value ∙ e;
  ending = f ∙ ap ordinary_end (frame-units s content us frame is_content);
}

-- whether a newline was appended, by the lengths of the input and of the literal's text
longer-appended : (v : Text) (appended : Bool)
    → not (length (v ++ newline appended) == length v) ≡ appended
longer-appended v true =
    not_from_false _ (ne_eqb _ _ (λ e. omega (arith, e, length-append v (10 ∷ []))))
longer-appended v false =
    not_from_true _ (eq-eqb _ _ (omega (arith, length-append v [])))

pub appended-is : (input s : Text) (appended : Bool) (end : ℕ) → IsOrdinary input s appended end
    → is_appended input s ≡ appended
appended-is input s appended end k =
    ap (λ us. not (length input == length (content_value us)))
    (frame-units s k.content k.units k.is_literal k.is_content)
    ∙ (ap (λ t. not (length t == length (content_value k.units))) (sym k.stands_for)
    ∙ longer-appended (content_value k.units) appended)

-- a literal that is not longer than its value
width-frame : (q : Text) → byte_length (ordinary_frame q) ≡ byte_length q + 2
width-frame q = omega (
  arith,
  width-cons 34 (q ++ 34 ∷ []),
  width-append q (34 ∷ []),
  width-cons 34 [],
)

as_long : (q v s input : Text) (appended : Bool) → s ≡ ordinary_frame q
    → v ++ newline appended ≡ input →
    is_longer input None (Some s) appended ≡ false → byte_length q ≡ byte_length v
as_long q v s input true e f n = omega (
  arith,
  eqb-true _ _ (not-false _ n),
  ap byte_length e,
  width-frame q,
  ap byte_length f,
  width-append v (10 ∷ []),
  width-cons 10 [],
)
as_long q v s input false e f n = omega (
  arith,
  eqb-true _ _ (not-false _ n),
  ap byte_length e,
  width-frame q,
  ap byte_length f,
  width-append v [],
)

kept-plain : (source : Source) (s : Text) (appended : Bool)
    (k : IsOrdinary (chars source.input.now) s appended source.end) →
    is_longer (chars source.input.now) None (Some s) appended ≡ false →
    plain_world true 1 (chars source.input.now) source.end
    ≡ ordinary_world (units_between s) appended
kept-plain source s appended k n =
    let found = frame-units s k.content k.units k.is_literal k.is_content in
    let long = as_long k.content (content_value k.units) s
    (chars source.input.now) appended k.is_literal k.stands_for n in
    rw (found, k.ending, ← k.stands_for)
    (sym (ordinary-plain k.content k.units appended k.is_content long))

-- the snippet that is kept
abbrev pub kept_of : Option ℕ → Text → Option ℕ → Option (String Global) → Bool
    → Option (String Global)
kept_of o input style snippet appended = if is_some o
    && is_longer input style (seen_snippet snippet) appended then snippet else None

-- a source with what is found, in the words of the contracts
pub record IsSourceWith (source : Source) (style : Option ℕ) (snippet : Option (String Global))
    (appended : Bool) (o : Option ℕ) : Type 0 where
  pub offset : source.offset ≡ quote_offset style
  pub is_literal : source.is_literal ≡ is_some o
  pub end : source.end
      ≡ unwrap_or o (plain_end (chars source.input.now) (seen_snippet snippet) appended)
  pub found : IsFound (chars source.input.now) style (seen_snippet snippet) appended o

kept : (source : Source) (s : String Global) (appended : Bool) (e : ℕ)
    → IsSourceWith source None (Some s) appended (Some e) →
    IsOrdinary (chars source.input.now) (chars (string_bytes s)) appended source.end
kept source s appended e k =
    kept-literal source (chars (string_bytes s)) appended (k.found.0, k.end ∙ k.found.1)

-- worlds by their parts
same_world : (v w : World) → v.has_source ≡ w.has_source → v.places ≡ w.places → v.end ≡ w.end
    → v ≡ w
same_world v w a b c = rw (a, b, c) refl

kept-world : (source : Source) (s : String Global) → source.is_literal ≡ true →
    world_with (Some s) source
    ≡ ordinary_world (units_between (chars (string_bytes s)))
    (is_appended (chars source.input.now) (chars (string_bytes s)))
kept-world source s e =
    let found : (world_with (Some s) source).has_source ≡ true = cc in
    same_world (world_with (Some s) source)
    (ordinary_world (units_between (chars (string_bytes s)))
    (is_appended (chars source.input.now) (chars (string_bytes s)))) found refl refl

pub source-world : (source : Source) (style : Option ℕ) (snippet : Option (String Global))
    (appended : Bool) (o : Option ℕ) → IsSourceWith source style snippet appended o →
    world_with (kept_of o (chars source.input.now) style snippet appended) source
    ≡ world (chars source.input.now) style (seen_snippet snippet) appended
unfolding world
source-world source style None appended None k = rw (k.offset, k.is_literal, k.end) refl
source-world source style None appended (Some e) k = absurd k.found
source-world source style (Some s) appended None k =
    rw (k.offset, k.is_literal, k.end)
    (sym (world-foreign (chars source.input.now) style
    (chars (string_bytes s)) appended k.found))
source-world source (Some n) (Some s) appended (Some e) k =
    rw (k.offset, k.is_literal, k.end, k.found.1)
    (sym (world-found (chars source.input.now) (Some n)
    (chars (string_bytes s)) appended k.found.0))
source-world source None (Some s) appended (Some e) k =
    cond_both (is_longer (chars source.input.now) None (Some (chars (string_bytes s))) appended)
    (Some s) None
    (λ o. world_with o source ≡ ordinary_world (units_between (chars (string_bytes s))) appended)
    (λ yes. kept-world source s k.is_literal
    ∙ ap (ordinary_world (units_between (chars (string_bytes s))))
    (appended-is (chars source.input.now) (chars (string_bytes s)) appended source.end
    (kept source s appended e k)))
    (λ none. rw (k.offset, k.is_literal)
    (kept-plain source (chars (string_bytes s)) appended (kept source s appended e k) none))
    ∙ sym (world-found (chars source.input.now) None
    (chars (string_bytes s)) appended k.found.0)

pub source-kept : (source : Source) (style : Option ℕ) (snippet : Option (String Global))
    (appended : Bool) (o : Option ℕ) → IsSourceWith source style snippet appended o →
    IsKeptIn (kept_of o (chars source.input.now) style snippet appended) source
source-kept source style None appended None k = tt
source-kept source style None appended (Some e) k = absurd k.found
source-kept source style (Some s) appended None k = tt
source-kept source (Some n) (Some s) appended (Some e) k = tt
source-kept source None (Some s) appended (Some e) k =
    let o = kept source s appended e k in
    cond_both (is_longer (chars source.input.now) None (Some (chars (string_bytes s))) appended)
    (Some s) None (λ o. IsKeptIn o source)
    (λ yes. subst (λ b. IsOrdinary (chars source.input.now) (chars (string_bytes s)) b source.end)
    (sym (appended-is (chars source.input.now) (chars (string_bytes s)) appended source.end o)) o)
    (λ none. tt)

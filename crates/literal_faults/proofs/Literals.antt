-- An ordinary literal is what reads up to a quote at its end.
use Rattle.std.proofs.Common.{◌≡◌, ◌++◌, ◌==◌, List, [], ◌∷◌, refl, sym, ap, subst, ◌∙◌, Some}
use Rattle.std.proofs.Common.{None, ◌⊎◌, inl, inr, true, false, append_assoc, ℕ}
use Rattle.std.specs.Prelude.{IsTrue, MatchOption, Option, is_some}
use Rattle.std.proofs.lemmas.Bool.{cases_Bool, eqb-true, false≢true}
use Rattle.std.proofs.lemmas.Option.{none-some}
use Rattle.rustc_parse_format.specs.Characters.{Text}
use Rattle.rustc_parse_format.specs.LiteralUnits.{LiteralUnit, Plain, SimpleEscape, ByteEscape}
use Rattle.rustc_parse_format.specs.LiteralUnits.{UnicodeEscape, Continuation, may_precede}
use Rattle.rustc_parse_format.specs.LiteralUnits.{spelling, unit_at}
use Rattle.rustc_parse_format.specs.Literal.{IsContent, raw_frame}
use Rattle.rustc_parse_format.specs.Literal.{content_value}
use Rattle.literal_faults.specs.declared.fault.FaultKind.{FaultKind}
use Rattle.literal_faults.specs.Stops.{ReadsTo, StopsAt}
use Rattle.literal_faults.specs.Faults.{IsAnyLiteral, IsOrdinary, stop_fault}
use Rattle.literal_faults.proofs.Reading.{no_unit, one-stop}

-- the closing quote alone
abbrev quote : Text
quote = 34 ∷ []

before-quote : (u : LiteralUnit) (r : Text) → IsTrue (may_precede u r)
    → IsTrue (may_precede u (r ++ quote))
before-quote (Plain c) r h = h
before-quote (SimpleEscape l) r h = h
before-quote (ByteEscape a b) r h = h
before-quote (UnicodeEscape w) r h = h
before-quote (Continuation w) [] h = refl
before-quote (Continuation w) (c ∷ r) h = h

without-quote : (u : LiteralUnit) (r : Text) → IsTrue (may_precede u (r ++ quote))
    → IsTrue (may_precede u r)
without-quote (Plain c) r h = h
without-quote (SimpleEscape l) r h = h
without-quote (ByteEscape a b) r h = h
without-quote (UnicodeEscape w) r h = h
without-quote (Continuation w) [] h = refl
without-quote (Continuation w) (c ∷ r) h = h

content-reads : (t : Text) (us : List LiteralUnit) → IsContent t us
    → ReadsTo (t ++ quote) us quote
content-reads t [] e = ap (λ x. x ++ quote) e
content-reads t (u ∷ us) (r, w, m, e, rest) = (
  r ++ quote,
  record {
    is_formed = w;
    takes_all = before-quote u r m;
    joins = ap (λ x. x ++ quote) e ∙ append_assoc (spelling u) r quote;
  },
  content-reads r us rest,
)

-- A content with its closing quote after it.
record Closed (t : Text) (us : List LiteralUnit) : Type 0 where
  pub content : Text
  pub is_content : IsContent content us
  pub joins : t ≡ content ++ quote

reads-content : (t : Text) (us : List LiteralUnit) → ReadsTo t us quote → Closed t us
reads-content t [] e = record { content = []; is_content = refl; joins = e }
reads-content t (u ∷ us) (s, b, h) =
    let x = reads-content s us h in
    record {
      content = spelling u ++ x.content;
      is_content = (
        x.content,
        b.is_formed,
        without-quote u x.content (subst (λ y. IsTrue (may_precede u y)) x.joins b.takes_all),
        refl,
        x.is_content,
      );
      joins = b.joins ∙ (ap (λ y. spelling u ++ y) x.joins
          ∙ sym (append_assoc (spelling u) x.content quote));
    }

quote-none : unit_at quote ≡ None
unfolding unit_at
quote-none = refl

pub ordinary-stops : (content : Text) → IsOrdinary (34 ∷ content) → StopsAt content quote
ordinary-stops content (text, (c, us, e, h, v)) =
    let same : content ≡ c ++ quote = rest_after-first content (c ++ quote) e in
    record {
      units = us;
      reads = subst (λ x. ReadsTo x us quote) (sym same) (content-reads c us h);
      stops = no_unit quote quote-none;
    }
  where
    rest_after-first : (s t : Text) → 34 ∷ s ≡ 34 ∷ t → s ≡ t
    rest_after-first s t e = cc

pub stops-ordinary : (content : Text) → StopsAt content quote → IsOrdinary (34 ∷ content)
stops-ordinary content a =
    let x = reads-content content a.units a.reads in (
      content_value a.units,
      (x.content, a.units, ap (λ y. 34 ∷ y) x.joins, x.is_content, refl),
    )

-- Where nothing is at fault, the closing quote is left alone.
pub none-left : (r : Text) → None ≡ stop_fault r → r ≡ quote
none-left [] e = absurd (none-some _ e)
none-left (c ∷ t) e = by_quote (cases_Bool (c == 34)) t e
  where
    by_quote : ((c == 34) ≡ true) ⊎ ((c == 34) ≡ false) → (t : Text) → None ≡ stop_fault (c ∷ t)
        → c ∷ t ≡ quote
    by_quote (inl y) [] e = ap (λ x. x ∷ []) (eqb-true c 34 y)
    by_quote (inl y) (d ∷ t) e = absurd (none-some _ (rw y at e))
    by_quote (inr n) t e = by_slash (cases_Bool (c == 92))
      where
        by_slash : ((c == 92) ≡ true) ⊎ ((c == 92) ≡ false) → c ∷ t ≡ quote
        by_slash (inl y) = absurd (none-some _ (rw (n, y) at e))
        by_slash (inr m) = absurd (none-some _ (rw (n, m) at e))

pub quote-left : (x : FaultKind) → Some x ≡ stop_fault quote → ⊥
quote-left x e = none-some x (sym e)

pub no-ordinary : (content r : Text) (x : FaultKind) → StopsAt content r
    → Some x ≡ stop_fault r → IsOrdinary (34 ∷ content) → ⊥
no-ordinary content r x a e o =
    quote-left x (e ∙ ap stop_fault (one-stop content r quote a (ordinary-stops content o)))

pub ordinary : (content r : Text) → StopsAt content r → None ≡ stop_fault r
    → IsOrdinary (34 ∷ content)
ordinary content r a e =
    stops-ordinary content (subst (λ x. StopsAt content x) (none-left r e) a)

-- A literal is an ordinary one or a raw one.
pub by-style : (t : Text) → ((n : ℕ) (w : Text) → t ≡ raw_frame n w → ⊥) → IsAnyLiteral t
    → IsOrdinary t
by-style t raw (None, w, h) = (w, h)
by-style t raw (Some n, w, h) = absurd (raw n w h)

-- An option and what is known of it.
pub some-matched : {X : Type 0} (o : Option X) (P : Type 0) (Q : X → Type 0) → is_some o ≡ true
    → MatchOption o P Q → (x : X) × Q x
some-matched None P Q e h = absurd (false≢true e)
some-matched (Some x) P Q e h = (x, h)

pub none-matched : {X : Type 0} (o : Option X) (P : Type 0) (Q : X → Type 0) → is_some o ≡ false
    → MatchOption o P Q → P
none-matched None P Q e h = h
none-matched (Some x) P Q e h = absurd (false≢true (sym e))

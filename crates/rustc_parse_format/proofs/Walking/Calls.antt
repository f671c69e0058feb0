-- A call has no fault exactly if a piece begins the text, and then it returns this piece.
use Rattle.std.proofs.Common.{◌≡◌, ◌≢◌, ℕ, ◌++◌, ◌==◌, Bool, true, false, List, [], ◌∷◌, refl, sym}
use Rattle.std.proofs.Common.{◌∙◌, ap, subst, arith, Some}
use Rattle.std.proofs.lemmas.Bool.{cond_both, eqb-true, eq-eqb, not_from_false, not-true}
use Rattle.std.proofs.lemmas.Bool.{false≢true}
use Rattle.std.specs.Char.{is_whitespace}
use Rattle.unicode_ident.proofs.Computing.{unicode_ident}
use Rattle.rustc_parse_format.specs.Characters.{
  Text,
  is_brace,
  is_no_brace,
  front,
  rest_after,
  word,
}
use Rattle.rustc_parse_format.specs.Characters.{after_word, digits, after_digits, after_white}
use Rattle.rustc_parse_format.specs.Characters.{after_first, begins_with, first_passes}
use Rattle.rustc_parse_format.specs.Marks.{Span}
use Rattle.rustc_parse_format.specs.Types.{Mode, Piece, Lit, NextArgument, bare_piece}
use Rattle.rustc_parse_format.specs.Spelling.{IsPart, run, doubled_part}
use Rattle.rustc_parse_format.specs.Syntax.{PieceText, RunText, DoubledText, PlaceholderText}
use Rattle.rustc_parse_format.specs.Syntax.{piece_part}
use Rattle.rustc_parse_format.specs.Placeholder.{cut}
use Rattle.rustc_parse_format.specs.Values.{argument_value, number_after_field, piece_value}
use Rattle.rustc_parse_format.specs.Values.{number_after}
use Rattle.rustc_parse_format.specs.Meaning.{argument}
use Rattle.rustc_parse_format.specs.Grammar.{IsClean, IsCleanPiece, Begins}
use Rattle.rustc_parse_format.specs.Faults.{Fault}
use Rattle.rustc_parse_format.specs.PartFaults.{cut_faults}
use Rattle.rustc_parse_format.specs.Call.{Call, call, placeholder, text_call}
use Rattle.rustc_parse_format.proofs.Grammar.CleanWords.{none_right}
use Rattle.rustc_parse_format.proofs.Grammar.CleanCuts.{cut_clean, cut_faultless}
use Rattle.rustc_parse_format.proofs.Grammar.BareValues.{argument-bare}
use Rattle.rustc_parse_format.proofs.Grammar.PartLaws.{IsPart-moved, two-split, then, last}
use Rattle.rustc_parse_format.proofs.Grammar.PartFronts.{run-finds, some_run-sound}
use Rattle.rustc_parse_format.proofs.Grammar.PartFronts.{some_run-complete}
use Rattle.rustc_parse_format.proofs.Grammar.PlaceholderCuts.{from_cut, by_cut}

-- the call gives a piece, which begins the text
pub record Steps (mode : Mode) (c : ℕ) (t : Text) (k : Call) : Type 0 where
  pub piece : Piece Span
  pub given : k.piece ≡ Some piece
  pub begins : Begins mode c t (bare_piece piece) k.rest k.next

abbrev Good : Mode → ℕ → Text → Call → Type 0
Good mode c t k = k.faults ≡ [] → Steps mode c t k

text_steps : (mode : Mode) (c b : ℕ) (t : Text) → is_brace b ≡ false
    → Steps mode c (b ∷ t) (text_call c [] (b ∷ t))
text_steps mode c b t e = record {
  piece = Lit (front is_no_brace (b ∷ t));
  given = refl;
  begins = record {
    text = RunText (front is_no_brace (b ∷ t));
    written = some_run-sound is_no_brace b t (not_from_false _ e);
    clean = tt;
    means = refl;
    numbered = refl;
  };
}

doubled_steps : (mode : Mode) (c b : ℕ) (t : Text) → is_brace b ≡ true → begins_with b t ≡ true
    → Steps mode c (b ∷ t) (text_call c (b ∷ []) (after_first t))
doubled_steps mode c b [] e h = cc h
doubled_steps mode c b (d ∷ t) e h =
    let two : IsPart (b ∷ d ∷ t) (doubled_part is_brace b) t =
    record { whole = ap (λ x. b ∷ x ∷ t) (eqb-true d b h); formed = e; ends = refl } in
    record {
      piece = Lit (b ∷ front is_no_brace t);
      given = refl;
      begins = record {
        text = DoubledText b (front is_no_brace t);
        written = (then two (last ((run-finds is_no_brace).sound t))).part;
        clean = tt;
        means = refl;
        numbered = refl;
      };
    }

closes_with : (r : Text) → begins_with 125 r ≡ true → r ≡ 125 ∷ after_first r
closes_with [] h = cc h
closes_with (d ∷ r) h = ap (λ x. x ∷ r) (eqb-true d 125 h)

placeholder_steps : (mode : Mode) (c b : ℕ) (t : Text) → b ≡ 123
    → Good mode c (b ∷ t) (placeholder mode c (b ∷ t) t)
unfolding placeholder
placeholder_steps mode c b t e =
    cond_both {A = Call} (begins_with 125 (after_white (cut mode t).rest)) _ _
    (Good mode c (b ∷ t))
    (λ h f. record {
      piece = NextArgument (argument c (cut mode t));
      given = refl;
      begins = record {
        text = PlaceholderText (cut mode t).field (front is_whitespace (cut mode t).rest);
        written = IsPart-moved (b ∷ t) (123 ∷ t) _ _ (ap (λ x. x ∷ t) e)
            (from_cut mode t _ (closes_with _ h));
        clean = cut_clean mode t f;
        means = ap NextArgument (argument-bare c (cut mode t));
        numbered = refl;
      };
    })
    (λ h f. absurd (report (cut_faults mode (cut mode t)) _ _ f))
  where
    report : (xs : List (Fault Span)) (x : Fault Span) (ys : List (Fault Span))
        → xs ++ (x ∷ ys) ≡ []
        → ⊥
    report xs x ys f = let k = none_right xs (x ∷ ys) f in cc k

-- A call with no fault gives a piece that begins the text,
pub call_begins : (mode : Mode) (c : ℕ) (t : Text) → t ≢ [] → (call mode c t).faults ≡ []
    → Steps mode c t (call mode c t)
unfolding call
call_begins mode c [] h = absurd (h refl)
call_begins mode c (b ∷ t) h =
    cond_both {A = Call} (is_brace b) _ _ (Good mode c (b ∷ t))
    (λ e. cond_both {A = Call} (begins_with b t) _ _ (Good mode c (b ∷ t))
    (λ d f. doubled_steps mode c b t e d)
    (λ d. cond_both {A = Call} (b == 123) _ _ (Good mode c (b ∷ t))
    (λ o. placeholder_steps mode c b t (eqb-true b 123 o)) (λ o f. cc f)))
    (λ e f. text_steps mode c b t e)

-- so where nothing begins it there is a fault.
pub call_faults : (mode : Mode) (c : ℕ) (t : Text) → t ≢ []
    → ((p : Piece (Unit {0})) (r : Text) (n : ℕ) → ¬ (Begins mode c t p r n)) →
    (call mode c t).faults ≢ []
call_faults mode c t h none f =
    let s = call_begins mode c t h f in
    none (bare_piece s.piece) (call mode c t).rest (call mode c t).next s.begins

-- the call gives the piece p, takes the text up to r and has no fault
pub record Gives (p : Piece (Unit {0})) (r : Text) (n : ℕ) (k : Call) : Type 0 where
  pub piece : Piece Span
  pub given : k.piece ≡ Some piece
  pub same : bare_piece piece ≡ p
  pub faultless : k.faults ≡ []
  pub rest : k.rest ≡ r
  pub next : k.next ≡ n

given_as : {p q : Piece (Unit {0})} {r s : Text} {n m : ℕ} {k : Call} → Gives p r n k → p ≡ q
    → r ≡ s → n ≡ m → Gives q s m k
given_as g e f h = record {
  piece = g.piece;
  given = g.given;
  same = g.same ∙ e;
  faultless = g.faultless;
  rest = g.rest ∙ f;
  next = g.next ∙ h;
}

call_run : (mode : Mode) (c : ℕ) (t : Text) → first_passes is_no_brace t ≡ true
    → Gives (Lit (front is_no_brace t)) (rest_after is_no_brace t) c (call mode c t)
unfolding call
call_run mode c [] e = absurd (false≢true e)
call_run mode c (b ∷ t) e =
    rw (not-true (is_brace b) e)
    (record {
      piece = Lit (b ∷ front is_no_brace t);
      given = refl;
      same = refl;
      faultless = refl;
      rest = refl;
      next = refl;
    })

call_doubled : (mode : Mode) (c b : ℕ) (t : Text) → is_brace b ≡ true
    → Gives (Lit (b ∷ front is_no_brace t)) (rest_after is_no_brace t) c (call mode c (b ∷ b ∷ t))
unfolding call
call_doubled mode c b t e =
    rw (e, eq-eqb b b refl)
    (record {
      piece = Lit (b ∷ front is_no_brace t);
      given = refl;
      same = refl;
      faultless = refl;
      rest = refl;
      next = refl;
    })

-- after `{{` there is no placeholder
brace_stays : (mode : Mode) (u : Text) → after_white (cut mode (123 ∷ u)).rest ≡ 123 ∷ u
unfolding cut unicode_ident word after_word digits after_digits after_white
brace_stays mode u = refl

head : Text → ℕ
head [] = 0
head (c ∷ t) = c

differ : (s u : Text) → 125 ∷ s ≡ 123 ∷ u → ⊥
unfolding head
differ s u e = let h : ◌≡◌ {A = ℕ} 125 123 = ap head e in omega arith

-- a placeholder that a brace closes does not begin with an opening brace
opens_one : (mode : Mode) (t r : Text) → after_white (cut mode t).rest ≡ 125 ∷ r
    → begins_with 123 t ≡ false
opens_one mode [] r e = refl
opens_one mode (d ∷ t) r e = cond_free (d == 123) (λ h. again d t (eqb-true d 123 h) e)
  where
    cond_free : (b : Bool) → (b ≡ true → ⊥) → b ≡ false
    cond_free true f = absurd (f refl)
    cond_free false f = refl

    again : (d : ℕ) (t : Text) → d ≡ 123 → after_white (cut mode (d ∷ t)).rest ≡ 125 ∷ r → ⊥
    again d t h e = differ r t (sym e ∙ rw h (brace_stays mode t))

call_closed : (mode : Mode) (c : ℕ) (t r : Text) → after_white (cut mode t).rest ≡ 125 ∷ r
    → IsClean mode (cut mode t).field →
    Gives (NextArgument (argument_value c (cut mode t).field)) r
    (number_after_field c (cut mode t).field) (call mode c (123 ∷ t))
unfolding call placeholder
call_closed mode c t r e h =
    let one = opens_one mode t r e in
    let none = cut_faultless mode t r h e in
    rw (one, e) (record {
      piece = NextArgument (argument c (cut mode t));
      given = refl;
      same = ap NextArgument (argument-bare c (cut mode t));
      faultless = none;
      rest = refl;
      next = refl;
    })

moved : (mode : Mode) (c : ℕ) (t u : Text) (p : Piece (Unit {0})) (r : Text) (n : ℕ) → t ≡ u
    → Gives p r n (call mode c u) → Gives p r n (call mode c t)
moved mode c t u p r n e g = rw e g

part_call : (mode : Mode) (c : ℕ) (t : Text) (x : PieceText) (r : Text)
    → IsPart t (piece_part mode x) r → IsCleanPiece mode x →
    Gives (piece_value c x) r (number_after c x) (call mode c t)
part_call mode c t (RunText u) r w h =
    let k = some_run-complete is_no_brace t u r w in
    given_as (call_run mode c t k.begins) (ap Lit k.read) k.rest_after refl
part_call mode c t (DoubledText b u) r w h =
    let s = two-split t (doubled_part is_brace b) (run is_no_brace u) r w in
    let e = (run-finds is_no_brace).complete s.seam u r s.second in
    moved mode c t (b ∷ b ∷ s.seam) _ r _ s.first.whole
    (given_as (call_doubled mode c b s.seam s.first.formed) (ap (λ x. Lit (b ∷ x.0)) e)
    (ap (λ x. x.1) e) refl)
part_call mode c t (PlaceholderText a space) r w h =
    let k = by_cut mode t a space r w in
    moved mode c t (123 ∷ k.inside) _ r _ k.opens
    (given_as (call_closed mode c k.inside r k.closes (subst (IsClean mode) k.field h))
    (ap (λ x. NextArgument (argument_value c x)) (sym k.field)) refl
    (ap (number_after_field c) (sym k.field)))

-- A call gives the piece that begins the text, with no fault.
pub begins_call : (mode : Mode) (c : ℕ) (t : Text) (p : Piece (Unit {0})) (r : Text) (n : ℕ)
    → Begins mode c t p r n → Gives p r n (call mode c t)
begins_call mode c t p r n b = given_as (part_call mode c t b.text r b.written b.clean)
    (sym b.means) refl (sym b.numbered)

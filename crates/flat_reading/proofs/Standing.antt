-- The texts of a call's piece are in the input where the code looks for them.
use Rattle.std.proofs.Common.{◌≡◌, ℕ, ◌+◌, ◌-◌, ◌++◌, true, [], ◌∷◌, append_assoc, List, Option}
use Rattle.std.proofs.Common.{Some, None, chars, IsUtf8, inl, inr, refl}
use Rattle.std.proofs.Common.{arith, codes, sym, ap, ◌∙◌}
use Rattle.std.specs.Prelude.{IfNone, option_map}
use Rattle.std.proofs.lemmas.Str.{chars-encodes, scalars-chars}
use Rattle.std.proofs.Math.Utf8.{scalar, scalars}
use Rattle.rustc_parse_format.specs.Characters.{Text, byte_length}
use Rattle.rustc_parse_format.specs.Marks.{Span}
use Rattle.rustc_parse_format.proofs.Literals.Widths.{width-append}
use Rattle.flat_reading.proofs.Cuts.{uncut_text}
use Rattle.flat_reading.proofs.Specs.{both as both_true}
use Rattle.rustc_parse_format.specs.Types.{Mode, Format, InlineAsm, Diagnostic, DiagnosticNamed}
use Rattle.rustc_parse_format.specs.Types.{Position, Implicit, Index, Named, Count, Is, Name}
use Rattle.rustc_parse_format.specs.Types.{Param, Star, Implied}
use Rattle.rustc_parse_format.specs.Types.{Argument, Piece, Lit, NextArgument}
use Rattle.rustc_parse_format.specs.World.{Place, piece_in}
use Rattle.rustc_parse_format.specs.State.{State, next_call, state_after}
use Rattle.rustc_parse_format.proofs.Walking.ParserLaws.{call_rest}
use Rattle.rustc_parse_format.proofs.Spans.TextPlaces.{ArgumentTexts, CountTexts, EndsAt}
use Rattle.rustc_parse_format.proofs.Spans.TextPlaces.{PieceStands as TextPieceStands, PieceTexts}
use Rattle.rustc_parse_format.proofs.Spans.TextPlaces.{PositionTexts, TypeTexts}
use Rattle.rustc_parse_format.proofs.Spans.TextPlaces.{call_stands as call_texts}
use Rattle.rustc_parse_format.proofs.Spans.TextBytes.{HasLast, HasName, HasText, piece_has}
use Rattle.rustc_parse_format.proofs.Spans.TextBytes.{text-bytes}
use Rattle.flat_reading.specs.Events.{position}
use Rattle.flat_reading.specs.Progress.{ArgumentStands, CountStands, EndsWith, IsLast, IsPlain}
use Rattle.flat_reading.specs.Progress.{PlaceholderStands, PositionStands, RunStands, StandsAfter}
use Rattle.flat_reading.specs.Progress.{TypeStands}

-- Evidence for a name, N, and for another text, P, gives evidence for an argument.
count_stands : (bytes : List ℕ) (at : ℕ) (P : Place → Text → Type 0)
    → ((s : Place) (w : Text) → P s w → HasText bytes at s w) → (k : Count Place)
    → CountTexts P k → CountStands bytes at k
count_stands bytes at P p (Is n) h = tt
count_stands bytes at P p (Name w s) h = λ some. p s w h
count_stands bytes at P p (Param n) h = tt
count_stands bytes at P p (Star n) h = tt
count_stands bytes at P p Implied h = tt

type_stands : (bytes : List ℕ) (at : ℕ) (P : Place → Text → Type 0)
    → ((s : Place) (w : Text) → P s w → HasText bytes at s w) → (mode : Mode) (ty : Text)
    (o : Option Place) → TypeTexts P mode ty o → TypeStands bytes at o ty
unfolding lib.Utf8.encode
type_stands bytes at P p mode ty None h = h
type_stands bytes at P p Format ty (Some s) h = inl (λ some. p s ty h)
type_stands bytes at P p InlineAsm ty (Some s) h = inl (λ some. p s ty h)
type_stands bytes at P p Diagnostic ty (Some s) h = inr (p s _ h)
type_stands bytes at P p DiagnosticNamed ty (Some s) h = inr (p s _ h)

name_stands : (bytes : List ℕ) (at : ℕ) (s : Place) (w : Text) → HasName bytes at s w
    → StandsAfter bytes (codes "r#") (s.0 - at) w
unfolding lib.Utf8.encode
name_stands bytes at s w (inl h) = inl (λ some. h)
name_stands bytes at s w (inr h) = inr h

position_stands : (bytes : List ℕ) (at : ℕ) (N : Place → Text → Type 0)
    → ((s : Place) (w : Text) → N s w → HasName bytes at s w) → (s : Place) (p : Position)
    → PositionTexts N s p → PositionStands bytes (s.0 - at) p
position_stands bytes at N n s (Implicit k) h = tt
position_stands bytes at N n s (Index k) h = tt
position_stands bytes at N n s (Named w) h = name_stands bytes at s w (n s w h)

pub argument_stands : (bytes : List ℕ) (at : ℕ) (N P : Place → Text → Type 0)
    → ((s : Place) (w : Text) → N s w → HasName bytes at s w)
    → ((s : Place) (w : Text) → P s w → HasText bytes at s w) → (mode : Mode) (a : Argument Place)
    → ArgumentTexts N P mode a → ArgumentStands bytes at a
argument_stands bytes at N P n p mode a h = record {
  position = position_stands bytes at N n a.position_span a.position h.position;
  format = record {
    width = count_stands bytes at P p a.format.width h.format.width;
    precision = count_stands bytes at P p a.format.precision h.format.precision;
    ty = type_stands bytes at P p mode a.format.ty a.format.ty_span h.format.ty;
  };
}

-- A run of text is what was read last.
scalars-left : (xs ys : Text) → scalars (xs ++ ys) ≡ true → scalars xs ≡ true
scalars-left [] ys h = refl
scalars-left (x ∷ xs) ys h =
    let e = both_true {a = scalar x} {b = scalars (xs ++ ys)} h in
    rw (e.0, scalars-left xs ys e.1) refl

pub scalars-right : (xs ys : Text) → scalars (xs ++ ys) ≡ true → scalars ys ≡ true
scalars-right [] ys h = h
scalars-right (x ∷ xs) ys h =
    scalars-right xs ys (both_true {a = scalar x} {b = scalars (xs ++ ys)} h).1

is_last : (bytes : List ℕ) (input rest r w : Text) (read : ℕ) → IsUtf8 bytes → chars bytes ≡ input
    → EndsWith input rest → EndsAt rest r w
    → read ≡ position input r → IsLast bytes read w
is_last bytes input rest r w read v c left x e =
    let before = left.0 ++ x.0 in
    let whole : input ≡ before ++ (w ++ r) = left.1 ∙ ap (λ u. left.0 ++ u) x.1
    ∙ sym (append_assoc left.0 x.0 (w ++ r)) in
    let all : byte_length input ≡ byte_length before + (byte_length w + byte_length r) =
    ap byte_length whole ∙ width-append before (w ++ r)
    ∙ ap (λ n. byte_length before + n) (width-append w r) in
    let from : read - byte_length w ≡ byte_length before = omega (arith, e, all) in
    let to : read ≡ byte_length before + byte_length w = omega (arith, e, all) in
    let there = text-bytes bytes (byte_length before) w v
    (record { before = before; after = r; whole = c ∙ whole; from_is = refl }) in
    let known =
    scalars-left w r
    (scalars-right before (w ++ r) (ap scalars (sym (c ∙ whole)) ∙ scalars-chars bytes v))
    in
    rw (from, to) (uncut_text bytes (byte_length before) (byte_length before + byte_length w)
    (omega arith) there.starts there.ends
    ∙ ap chars there.same ∙ chars-encodes w known)

-- Of the piece that a call gives, by the spans that it has in characters.
run_is_last : (bytes : List ℕ) (s : State) (read : ℕ) (o : Option (Piece Span)) → IsUtf8 bytes
    → chars bytes ≡ s.input → EndsWith s.input s.rest
    → read ≡ position s.input (next_call s).rest
    → TextPieceStands s.mode s.rest (next_call s).rest o
    → RunStands bytes read (option_map (piece_in s.world) o)
run_is_last bytes s read None v c left e h = tt
run_is_last bytes s read (Some (Lit w)) v c left e h =
    is_last bytes s.input s.rest (next_call s).rest w read v c left h e
run_is_last bytes s read (Some (NextArgument a)) v c left e h = tt

placeholder_stands : (bytes : List ℕ) (at : ℕ) (input r : Text) (mode : Mode)
    (o : Option (Piece Place))
    → PieceTexts (HasLast bytes input r) (HasName bytes at) (HasText bytes at) mode o
    → PlaceholderStands bytes at o
placeholder_stands bytes at input r mode None h = tt
placeholder_stands bytes at input r mode (Some (Lit w)) h = tt
placeholder_stands bytes at input r mode (Some (NextArgument a)) h =
    argument_stands bytes at (HasName bytes at) (HasText bytes at) (λ s w k. k) (λ s w k. k) mode a
    h

pub last : (bytes : List ℕ) (s : State) (read : ℕ) (o : Option (Piece Place))
    → IsUtf8 bytes → chars bytes ≡ s.input → EndsWith s.input s.rest
    → read ≡ position s.input (next_call s).rest
    → o ≡ option_map (piece_in s.world) (next_call s).piece → RunStands bytes read o
last bytes s read o u c left e f =
    rw f (run_is_last bytes s read (next_call s).piece u c left e
    (call_texts s.mode s.next s.rest))

pub stands : {A : Type 0} (bytes : List ℕ) (s : State) (at : ℕ) (m : Option A)
    (o : Option (Piece Place)) → IsUtf8 bytes → chars bytes ≡ s.input → EndsWith s.input s.rest
    → IfNone m (IsPlain s at) → o ≡ option_map (piece_in s.world) (next_call s).piece
    → IfNone m (PlaceholderStands bytes at o)
stands bytes s at None o u c left p f =
    placeholder_stands bytes at s.input (next_call s).rest s.mode o
    (piece_has bytes p.0 at p.1 s o u c (record { front = left.0; whole = left.1 }) p.2 f)
stands bytes s at (Some m) o u c left p f = tt

pub still_ends : (s new : State) → EndsWith s.input s.rest → new ≡ state_after s (next_call s)
    → EndsWith new.input new.rest
still_ends s new e f =
    let k = call_rest s.mode s.next s.rest in
    rw f (
      e.0 ++ k.front,
      e.1 ∙ ap (λ l. e.0 ++ l) k.whole
          ∙ sym (append_assoc e.0 k.front (next_call s).rest),
    )

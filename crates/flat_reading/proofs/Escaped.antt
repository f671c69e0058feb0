-- The texts of a placeholder by the spans of a parser that begins there.
use Rattle.std.proofs.Common.{◌≡◌, ℕ, ◌+◌, ◌-◌, ◌<◌, ◌≤◌, ◌^◌, ◌++◌, false, None, List, []}
use Rattle.std.proofs.Common.{Option, Some, length, take, drop, chars, IsUtf8, inl, inr, refl}
use Rattle.std.proofs.Common.{arith, sym, ap, ◌∙◌, append_assoc, take-append-drop}
use Rattle.std.proofs.Common.{length-drop, length-take, is_some}
use Rattle.std.specs.Prelude.{IfSome, option_map}
use Rattle.std.specs.Str.{IsCharBoundary}
use Rattle.std.proofs.lemmas.Str.{IsUtf8-drop, IsUtf8-take, chars-append, chars-encodes}
use Rattle.std.proofs.lemmas.Str.{scalars-chars}
use Rattle.std.proofs.lemmas.List.{append-nil, take_all}
use Rattle.std.proofs.Math.Utf8.{scalars}
use Rattle.rustc_parse_format.specs.declared.types.ParseMode.{ParseMode}
use Rattle.rustc_parse_format.specs.declared.types.Argument.{Argument as DeclaredArgument}
use Rattle.rustc_parse_format.specs.declared.types.PieceKind.{PieceKind}
use Rattle.rustc_parse_format.specs.declared.types.PieceKind.TheVariants.{Lit as TextKind}
use Rattle.rustc_parse_format.specs.declared.types.PieceKind.TheVariants.{}
use Rattle.rustc_parse_format.specs.declared.types.PieceKind.TheVariants.{}
use Rattle.rustc_parse_format.specs.declared.types.PieceKind.TheVariants.{}
use Rattle.rustc_parse_format.specs.declared.types.PieceKind.TheVariants.{}
use Rattle.rustc_parse_format.specs.declared.types.PieceKind.TheVariants.{NextArgument as ArgumentKind}
use Rattle.rustc_parse_format.specs.Views.{seen_argument, seen_mode, seen_taken}
use Rattle.rustc_parse_format.specs.Call.{call}
use Rattle.rustc_parse_format.specs.Characters.{Text, byte_length}
use Rattle.rustc_parse_format.specs.Marks.{Span}
use Rattle.rustc_parse_format.specs.State.{State, first_state, next_call}
use Rattle.rustc_parse_format.specs.Types.{Argument, Count, Implied, Is, Lit, Mode}
use Rattle.rustc_parse_format.specs.Types.{Name, NextArgument, Param, Piece}
use Rattle.rustc_parse_format.specs.Types.{Star, map_argument, map_count}
use Rattle.rustc_parse_format.specs.World.{Place, World, input_end, piece_in, place_of, world}
use Rattle.rustc_parse_format.proofs.Grammar.Rests.{IsRest-self}
use Rattle.rustc_parse_format.proofs.Literals.Widths.{width-append}
use Rattle.rustc_parse_format.proofs.Sources.PlainPlaces.{width_chars}
use Rattle.rustc_parse_format.proofs.Spans.TextBytes.{HasName, NamePlace, TextPlace}
use Rattle.rustc_parse_format.proofs.Spans.TextBytes.{piece_bytes, text-bytes, text-has}
use Rattle.rustc_parse_format.proofs.Spans.TextPlaces.{ArgumentTexts, PieceTexts, TypeTexts}
use Rattle.rustc_parse_format.proofs.Spans.TextPlaces.{PieceStands as TextPieceStands}
use Rattle.rustc_parse_format.proofs.Spans.TextPlaces.{call_stands as call_texts}
use Rattle.flat_reading.specs.declared.texts.Texts.{Texts}
use Rattle.flat_reading.specs.Events.{position}
use Rattle.flat_reading.specs.Meaning.{text_at}
use Rattle.flat_reading.specs.Progress.{ArgumentStands, CountAt, EndsWith, IsReadAt}
use Rattle.flat_reading.specs.Progress.{PositionAt, SpecAt}
use Rattle.flat_reading.specs.Progress.{IsListed}
use Rattle.flat_reading.proofs.Standing.{argument_stands, scalars-right}

listed_type : (f : Span → Place) (P : Span → Text → Type 0) (mode : Mode) (ty : Text)
    (o : Option Span) → is_some (option_map f o) ≡ false → TypeTexts P mode ty o → IsListed ty
listed_type f P mode ty None e h = h
listed_type f P mode ty (Some s) e h = cc

listed_argument : (f : Span → Place) (N P : Span → Text → Type 0) (mode : Mode) (a : Argument Span)
    → is_some (option_map f a.format.ty_span) ≡ false → ArgumentTexts N P mode a
    → IsListed a.format.ty
listed_argument f N P mode a e h = listed_type f P mode a.format.ty a.format.ty_span e h.format.ty

listed_piece : (w : World) (mode : Mode) (t r : Text) (o : Option (Piece Span))
    (a : Argument Place) → TextPieceStands mode t r o
    → Some (NextArgument a) ≡ option_map (piece_in w) o → is_some a.format.ty_span ≡ false
    → IsListed a.format.ty
listed_piece w mode t r None a h e none = cc
listed_piece w mode t r (Some (Lit u)) a h e none = cc
listed_piece w mode t r (Some (NextArgument b)) a h e none =
    let same : a ≡ map_argument (place_of w) b = cc in
    rw same (listed_argument (place_of w) _ _ mode b (rw same at none) h)

-- The type of an argument that has no span is one that may have none.
pub listed : (bytes : List ℕ) (mode : Mode) (next start : ℕ) (a : Argument Place)
    → IsReadAt bytes mode next start (Some (NextArgument a)) → is_some a.format.ty_span ≡ false
    → IsListed a.format.ty
listed bytes mode next start a h none =
    listed_piece h.world mode (chars (drop start bytes)) _ _ a
    (call_texts mode next (chars (drop start bytes))) h.gives none

-- Texts do not depend on the world.
same_count : {A B C : Type 0} (f : A → B) (g : A → C) (t : Text) (k : Count A)
    → CountAt t (map_count f k) → CountAt t (map_count g k)
same_count f g t (Is n) h = tt
same_count f g t (Name w s) h = h
same_count f g t (Param n) h = tt
same_count f g t (Star n) h = tt
same_count f g t Implied h = tt

same_texts : (bytes : List ℕ) (x : Texts) (v w : World) (o : Option (Piece Span))
    (a b : Argument Place) → Some (NextArgument a) ≡ option_map (piece_in v) o
    → Some (NextArgument b) ≡ option_map (piece_in w) o
    → PositionAt (text_at bytes x.name) a.position → SpecAt bytes x.format a.format
    → PositionAt (text_at bytes x.name) b.position × SpecAt bytes x.format b.format
same_texts bytes x v w None a b e f p h = cc
same_texts bytes x v w (Some (Lit u)) a b e f p h = cc
same_texts bytes x v w (Some (NextArgument c)) a b e f p h =
    let here : a ≡ map_argument (place_of v) c = cc in
    let there : b ≡ map_argument (place_of w) c = cc in
    let q = rw here at p in
    let k = rw here at h in
    rw there (
      q,
      record {
        width = same_count (place_of v) (place_of w) _ c.format.width k.width;
        precision = same_count (place_of v) (place_of w) _ c.format.precision k.precision;
        ty = k.ty;
      },
    )

-- Texts of the rest from a byte on, in the whole input.
later : (bytes part : List ℕ) (front : Text) (from at : ℕ) (p : Place) (w : Text)
    → chars bytes ≡ front ++ chars part → byte_length front ≡ from
    → TextPlace part (from + at) p w → TextPlace bytes at p w
later bytes part front from at p w whole wide h =
    let rest_after = h.rest_after in
    record {
      some = h.some;
      rest_after = omega arith;
      text = record {
        before = front ++ h.text.before;
        after = h.text.after;
        whole = whole ∙ ap (λ u. front ++ u) h.text.whole
            ∙ sym (append_assoc front h.text.before (w ++ h.text.after));
        from_is = omega (arith, h.text.from_is, wide, width-append front h.text.before);
      };
    }

later_name : (bytes part : List ℕ) (front : Text) (from at : ℕ) (p : Place) (w : Text)
    → IsUtf8 bytes → chars bytes ≡ front ++ chars part → byte_length front ≡ from
    → NamePlace part (from + at) p w → HasName bytes at p w
later_name bytes part front from at p w u whole wide (inl h) =
    inl (text-has bytes _ w u (later bytes part front from at p w whole wide h.text).text)
later_name bytes part front from at p w u whole wide (inr h) =
    inr (text-has bytes _ _ u (later bytes part front from at p _ whole wide h.raw).text)

placeholder_texts : (mode : Mode) (L : Text → Type 0) (N P : Place → Text → Type 0)
    (o : Option (Piece Place)) (a : Argument Place) → Some (NextArgument a) ≡ o
    → PieceTexts L N P mode o → ArgumentTexts N P mode a
placeholder_texts mode L N P None a e h = cc
placeholder_texts mode L N P (Some (Lit w)) a e h = cc
placeholder_texts mode L N P (Some (NextArgument b)) a e h =
    let same : a ≡ b = cc in rw same h

from_there : (bytes part : List ℕ) (mode : Mode) (start next : ℕ) (s : State) (a : Argument Place)
    → IsUtf8 bytes → IsCharBoundary bytes start → part ≡ drop start bytes
    → s ≡ record (first_state mode (chars part) (Some start) None false) { next = next }
    → Some (NextArgument a) ≡ option_map (piece_in s.world) (next_call s).piece
    → ArgumentStands bytes 2 a
unfolding world
from_there bytes part mode start next s a u cut is state gives =
    let v : IsUtf8 part = rw is (IsUtf8-drop bytes start u cut) in
    let front = IsUtf8-take bytes start u cut in
    let parts : bytes ≡ take start bytes ++ part = sym (take-append-drop start bytes)
    ∙ ap (λ t. take start bytes ++ t) (sym is) in
    let whole : chars bytes ≡ chars (take start bytes) ++ chars part = ap chars parts
    ∙ chars-append (take start bytes) part front in
    let within : start ≤ length bytes = cut.0 in
    let wide : byte_length (chars (take start bytes)) ≡ start =
    width_chars (take start bytes) front ∙ omega (arith, length-take {A = ℕ} start bytes) in
    let texts = piece_bytes part false (start + 2) (input_end (chars part) false) s _ v
    (sym (ap (λ (t : State). t.input) state))
    (rw state (IsRest-self (chars part))) (rw state refl) refl in
    argument_stands bytes 2 (NamePlace part (start + 2)) (TextPlace part (start + 2))
    (λ p w h. later_name bytes part (chars (take start bytes)) start 2 p w u whole wide h)
    (λ p w h. text-has bytes _ w u
    (later bytes part (chars (take start bytes)) start 2 p w whole wide h).text)
    s.mode a (placeholder_texts s.mode _ _ _ _ a gives texts)

-- The parser that begins there returns a placeholder too.
again : (arg : DeclaredArgument) (o : Option PieceKind) (v w : World) (k : Option (Piece Span))
    (a : Argument Place) → option_map (seen_taken arg) o ≡ option_map (piece_in v) k
    → Some (NextArgument a) ≡ option_map (piece_in w) k
    → Some (NextArgument (seen_argument arg)) ≡ option_map (piece_in v) k
again arg o v w None a e f = cc
again arg o v w (Some (Lit t)) a e f = cc
again arg None v w (Some (NextArgument b)) a e f = cc
again arg (Some (TextKind t)) v w (Some (NextArgument b)) a e f = cc
again arg (Some ArgumentKind) v w (Some (NextArgument b)) a e f = e

-- The texts of the placeholder b stand where its spans say, and are those of the placeholder a.
pub record Found (bytes : List ℕ) (a b : Argument Place) : Type 0 where
  pub stands : ArgumentStands bytes 2 b
  pub same : (x : Texts) → PositionAt (text_at bytes x.name) b.position
      → SpecAt bytes x.format b.format
      → PositionAt (text_at bytes x.name) a.position × SpecAt bytes x.format a.format

pub found : (bytes part : List ℕ) (mode : Mode) (start next : ℕ) (first s : State)
    (a : Argument Place) (arg : DeclaredArgument) (o : Option PieceKind)
    → IsUtf8 bytes → IsReadAt bytes mode next start (Some (NextArgument a))
    → part ≡ drop start bytes
    → first ≡ first_state mode (chars part) (Some start) None false
    → s ≡ record first { next = next }
    → option_map (seen_taken arg) o ≡ option_map (piece_in s.world) (next_call s).piece
    → Found bytes a (seen_argument arg)
found bytes part mode start next first s a arg o u read is fresh set piece =
    let state : s ≡ record (first_state mode (chars part) (Some start) None false) { next = next } =
    rw fresh at set in
    let call_is : call mode next (chars (drop start bytes)) ≡ next_call s = rw (state, is) refl in
    let gives = rw call_is at read.gives in
    let too = again arg o s.world read.world (next_call s).piece a piece gives in
    record {
      stands = from_there bytes part mode start next s (seen_argument arg) u read.starts is
          state too;
      same = λ x p h. same_texts bytes x s.world read.world (next_call s).piece _ a too gives p h;
    }

-- The facts that a walk has of a call: where it begins, and the piece that it returns.
pub read_at : (bytes : List ℕ) (s : State) (m : Option ParseMode) (start next : ℕ)
    (o : Option (Piece Place)) → IsUtf8 bytes → chars bytes ≡ s.input → EndsWith s.input s.rest
    → IfSome m (λ n. seen_mode n ≡ s.mode) → start ≡ position s.input s.rest → next ≡ s.next
    → next + length s.rest < 2 ^ 64 → o ≡ option_map (piece_in s.world) (next_call s).piece
    → IfSome m (λ n. IsReadAt bytes (seen_mode n) next start o)
read_at bytes s None start next o u c left mode at number fits gives = tt
read_at bytes s (Some m) start next o u c left mode at number fits gives =
    let whole : chars bytes ≡ left.0 ++ (s.rest ++ []) = c ∙ left.1
    ∙ ap (λ t. left.0 ++ t) (sym (append-nil s.rest)) in
    let wide : byte_length s.input ≡ byte_length left.0 + byte_length s.rest =
    ap byte_length left.1 ∙ width-append left.0 s.rest in
    let long : byte_length s.input ≡ length bytes = ap byte_length (sym c) ∙ width_chars bytes u in
    let there = text-bytes bytes start s.rest u (record {
      before = left.0;
      after = [];
      whole = whole;
      from_is = omega (arith, at, wide);
    }) in
    let known = scalars-right left.0 s.rest (ap scalars (sym (c ∙ left.1))
    ∙ scalars-chars bytes u) in
    let short : length (drop start bytes) ≤ (start + byte_length s.rest) - start =
    omega (arith, at, wide, long, length-drop start bytes) in
    let rest : chars (drop start bytes) ≡ s.rest =
    ap chars (sym (take_all _ (drop start bytes) short) ∙ there.same)
    ∙ chars-encodes s.rest known in
    record {
      starts = there.starts;
      fits = rw rest fits;
      world = s.world;
      gives = rw (rest, mode, number) gives;
    }

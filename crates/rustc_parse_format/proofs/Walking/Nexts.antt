-- The relation of a call to the grammar: it returns the piece that begins the rest, finds a
-- fault if there is none, or is at the end.
use Rattle.std.proofs.Common.{◌≡◌, ◌≢◌, ◌<◌, ◌≤◌, ◌+◌, ℕ, [], length, Option, Some, None, IsNone}
use Rattle.std.proofs.Common.{◌∷◌, false, refl, ap, ◌∙◌, codes, arith}
use Rattle.std.specs.Prelude.{Result, Ok, Err, IfOk, OnErr, OnOk, option_map}
use Rattle.rustc_parse_format.specs.Characters.{Text, begins_with}
use Rattle.rustc_parse_format.specs.Grammar.{Begins}
use Rattle.rustc_parse_format.specs.Types.{Mode, Piece, NextArgument, bare_piece}
use Rattle.rustc_parse_format.specs.Faults.{Keeps}
use Rattle.rustc_parse_format.specs.Call.{call}
use Rattle.rustc_parse_format.specs.State.{IsPutBack, State, GivesPiece, state_after, last_lines}
use Rattle.rustc_parse_format.specs.State.{next_call}
use Rattle.rustc_parse_format.specs.World.{Place, faults_in, piece_in}
use Rattle.std.proofs.lemmas.Bool.{not-true}
use Rattle.rustc_parse_format.specs.Spelling.{IsPart, part_unless}
use Rattle.rustc_parse_format.specs.Syntax.{FieldText, field_part, opened_part}
use Rattle.rustc_parse_format.specs.Placeholder.{cut, cut_of}
use Rattle.rustc_parse_format.specs.Meaning.{argument}
use Rattle.rustc_parse_format.proofs.Grammar.PartLaws.{two-split}
use Rattle.rustc_parse_format.proofs.Grammar.PartCuts.{cut-placed}
use Rattle.rustc_parse_format.proofs.Readers.Placeholders.{placeholder-piece}
use Rattle.rustc_parse_format.proofs.Grammar.BarePieces.{bare-piece_in}
use Rattle.rustc_parse_format.proofs.Readers.Errors.{add_errors-keeps}
use Rattle.rustc_parse_format.proofs.Walking.Calls.{begins_call, call_faults}
use Rattle.rustc_parse_format.proofs.Walking.Progress.{call-lt, call_next-le}
use Rattle.rustc_parse_format.proofs.Walking.StateWalks.{after-same, after-more}
use Rattle.rustc_parse_format.proofs.Lines.StateLines.{at_end}

-- a property of a result that follows from two facts
pub if_ok : {A E : Type 0} {P Q : A → Type 0} {X : Type 0} (r : Result A E) → IfOk r P → OnOk r X
    → ((a : A) → P a → X → Q a) → IfOk r Q
if_ok (Ok a) p x f = f a p x
if_ok (Err e) p x f = tt

pub on_ok : {A E X Y : Type 0} (r : Result A E) → OnOk r X → (X → Y) → OnOk r Y
on_ok (Ok a) x f = f x
on_ok (Err e) x f = tt

opened_call : (mode : Mode) (c : ℕ) (t : Text) → begins_with 123 t ≡ false
    → (call mode c (123 ∷ t)).piece ≡ Some (NextArgument (argument c (cut mode t)))
unfolding call
opened_call mode c t e = rw e (placeholder-piece mode c (123 ∷ t) t)

-- after a single brace the piece is the argument of the cut
pub cut_given : (s : State) (a : FieldText) (r : Text) → IsPart s.rest (opened_part s.mode a) r →
    option_map (piece_in s.world) (next_call s).piece
    ≡ Some (piece_in s.world (NextArgument (argument s.next (cut_of s.mode a r))))
cut_given s a r h =
    let o = two-split s.rest (part_unless (codes "{") (begins_with 123))
    (field_part s.mode a) r h in
    ap (λ t. option_map (piece_in s.world) (call s.mode s.next t).piece) o.first.whole
    ∙ ap (option_map (piece_in s.world)) (opened_call s.mode s.next o.seam (not-true _ o.first.ends)
    ∙ ap (λ x. Some (NextArgument (argument s.next x))) (cut-placed s.mode o.seam a r o.second))

pub next_reads : (s new : State) (o : Option (Piece Place)) (q : Piece (Unit {0})) (r : Text)
    (n : ℕ) → o ≡ option_map (piece_in s.world) (next_call s).piece →
    new ≡ state_after s (next_call s) → Begins s.mode s.next s.rest q r n → GivesPiece o q r n s new
next_reads s new o q r n e f b =
    let g = begins_call s.mode s.next s.rest q r n b in
    record {
      piece = ap (option_map bare_piece) (e ∙ ap (option_map (piece_in s.world)) g.given)
          ∙ ap Some (bare-piece_in s.world g.piece ∙ g.same);
      rest = ap (λ (x : State). x.rest) f ∙ g.rest;
      next = ap (λ (x : State). x.next) f ∙ g.next;
      errors = ap (λ (x : State). x.errors) f ∙ after-same s (next_call s) g.faultless;
    }

pub next_faulty : (s new : State) → new ≡ state_after s (next_call s) → s.rest ≢ [] →
    ((q : Piece (Unit {0})) (r : Text) (n : ℕ) → ¬ (Begins s.mode s.next s.rest q r n))
    → length s.errors < length new.errors
next_faulty s new f some none =
    rw f (after-more s (next_call s) (call_faults s.mode s.next s.rest some none))

pub next_moves : (s new : State) → new ≡ state_after s (next_call s) → s.rest ≢ []
    → length new.rest < length s.rest
next_moves s new f some = rw f (call-lt s.mode s.next s.rest some)

call_short : (mode : Mode) (c : ℕ) (t : Text) → length (call mode c t).rest ≤ length t
unfolding call
call_short mode c [] = omega arith
call_short mode c (b ∷ t) =
    omega (arith, call-lt mode c (b ∷ t) (λ (e : b ∷ t ≡ []). absurd (cc e)))

pub next_short : {A E : Type 0} (r : Result A E) (s new : State)
    → OnOk r (new ≡ state_after s (next_call s)) → OnErr r (IsPutBack s new) →
    length new.rest ≤ length s.rest
next_short (Ok a) s new f g = rw f (call_short s.mode s.next s.rest)
next_short (Err e) s new f g = rw g (omega arith)

pub next_numbers : (s new : State) → new ≡ state_after s (next_call s)
    → new.next + length new.rest ≤ s.next + length s.rest
next_numbers s new f = rw f (call_next-le s.mode s.next s.rest)

none_given : {A B : Type 0} (f : A → B) (o : Option A) → option_map f o ≡ None → IsNone o
none_given f None e = refl
none_given f (Some a) e = cc e

pub next_ends : {A : Type 0} (f : A → Piece Place) (s new : State) (o : Option A)
    → option_map f o ≡ option_map (piece_in s.world) (next_call s).piece →
    new ≡ state_after s (next_call s) → s.rest ≡ [] → IsNone o
    × (new ≡ record s { line_spans = last_lines s s.line_spans })
next_ends f s new o e h end =
    let both = at_end s end in
    (none_given f o (e ∙ ap (option_map (piece_in s.world)) both.0), h ∙ both.1)

-- a call that gives a piece moves on
pub piece_moves : {A : Type 0} (f : A → Piece Place) (s new : State) (a : A)
    → Some (f a) ≡ option_map (piece_in s.world) (next_call s).piece →
    new ≡ state_after s (next_call s) → length new.rest < length s.rest
piece_moves f s new a e h =
    next_moves s new h (λ end. let no : IsNone (Some a) = (next_ends f s new (Some a) e h end).0 in
    cc no)

pub next_keeps : (s new : State) → new ≡ state_after s (next_call s) → Keeps s.errors new.errors
next_keeps s new e = rw e (add_errors-keeps s.errors (faults_in s.world (next_call s).faults))

-- An input has exactly one answer.
use Rattle.std.proofs.Common.{◌≡◌, ◌<◌, ℕ, Bool, true, false, List, Option, None, Some, refl, sym}
use Rattle.std.proofs.Common.{ap, ◌∙◌, inl, inr, subst, arith, Result, Ok, Err, chars, length}
use Rattle.std.proofs.Common.{append-nil, option_map, IsUtf8}
use Rattle.std.proofs.Math.Utf8.{encodes}
use Rattle.std.proofs.lemmas.Str.{encodes-chars}
use Rattle.rustc_parse_format.specs.Types.{Mode}
use Rattle.fault_fixes.specs.Fixing.{FixedLiteral}
use Rattle.fault_fixes.proofs.RoundLaws.{fixed-one}
use Rattle.piece_listing.specs.declared.verdict.RunFault.{RunFault}
use Rattle.piece_listing.specs.declared.verdict.RunFault.TheVariants.{Words, Read, TooLong, NotText}
use Rattle.piece_listing.specs.declared.verdict.RunFault.TheVariants.{NotLiteral, Memory, Write}
use Rattle.piece_listing.specs.Program.{IsShort, limit}
use Rattle.piece_listing.specs.Source.{IsInLiteral, Source as ListedSource}
use Rattle.literal_faults.specs.Margins.{IsSnippet}
use Rattle.literal_faults.proofs.Snippets.{one-snippet}
use Rattle.rustc_parse_format.specs.Characters.{Text}
use Rattle.rustc_parse_format.specs.Literal.{IsLiteral}
use Rattle.piece_listing.proofs.OneLiteral.{source-only as listed_source-only}
use Rattle.format_lint.specs.declared.task.OutputKind.{OutputKind}
use Rattle.format_lint.specs.declared.task.OutputKind.TheVariants.{Fault as ShowFault}
use Rattle.format_lint.specs.declared.task.OutputKind.TheVariants.{Fix as ShowFix}
use Rattle.format_lint.specs.declared.task.OutputKind.TheVariants.{All as ShowAll}
use Rattle.format_lint.specs.declared.task.OutputKind.TheVariants.{Tokens as ShowTokens}
use Rattle.format_lint.specs.Lint.{IsLiteralIn, IsMended, IsMendedIn, IsOwed, IsShown, IsSourceIn}
use Rattle.format_lint.specs.Lint.{Outputs, Source, Task, lone_literal, drawn_source, kept_source}
use Rattle.format_lint.specs.Lint.{lexed_source}

-- UTF-8 of the same characters is the same.
same_bytes : (s t : List ℕ) → IsUtf8 s → IsUtf8 t → chars s ≡ chars t → s ≡ t
same_bytes s t u v e = sym (encodes-chars s u) ∙ ap encodes e ∙ encodes-chars t v

-- A source as `piece_listing` has it.
abbrev as_listed : Source → ListedSource
as_listed s = record {
  text = chars s.text;
  style = s.style;
  snippet = option_map (λ l. chars l) s.literal;
}

-- The source is the literal alone.
in_literal : (input : List ℕ) (s : Source) (h : IsLiteralIn input s)
    → IsInLiteral (chars h.literal) (as_listed s)
in_literal input s h = record {
  literal = chars h.literal;
  appended = false;
  is_whole = append-nil (chars h.literal);
  is_literal = h.is_literal;
  is_snippet = ap (option_map (λ l. chars l)) h.is_written;
}

same_source : (s r : Source) → s.text ≡ r.text → s.style ≡ r.style → s.literal ≡ r.literal
    → s.lines ≡ r.lines → s.line_start ≡ r.line_start → s.start ≡ r.start → s ≡ r
same_source s r d e f g h k = rw (d, e, f, g, h, k) refl

literal_in-only : (input : List ℕ) (s r : Source) → IsLiteralIn input s → IsLiteralIn input r
    → s ≡ r
literal_in-only input s r h k =
    let same = one-snippet input s.lines r.lines h.literal k.literal s.start r.start h.is_snippet
    k.is_snippet in
    let e = listed_source-only true (chars k.literal) (as_listed s) (as_listed r)
    (subst (λ l. IsInLiteral (chars l) (as_listed s)) same.1 (in_literal input s h))
    (in_literal input r k) in
    let texts : chars s.text ≡ chars r.text = ap (λ (x : ListedSource). x.text) e in
    let styles : s.style ≡ r.style = ap (λ (x : ListedSource). x.style) e in
    same_source s r (same_bytes s.text r.text h.text_utf8 k.text_utf8 texts) styles
    (h.is_written ∙ ap Some same.1 ∙ sym k.is_written) same.0 (h.is_first ∙ sym k.is_first) same.2

-- Where the snippet of an input is no literal, the input has none.
pub no-literal : (input lines literal : List ℕ) (start : ℕ) → IsSnippet input lines literal start
    → ((style : Option ℕ) (t : Text) → IsLiteral style (chars literal) t → ⊥) → (s : Source)
    → IsLiteralIn input s → ⊥
no-literal input lines literal start a none s h =
    let same = one-snippet input lines s.lines literal h.literal start s.start a h.is_snippet in
    none s.style (chars s.text)
    (subst (λ l. IsLiteral s.style (chars l) (chars s.text)) (sym same.1) h.is_literal)

source-only : (is_literal : Bool) (input : List ℕ) (s r : Source) → IsSourceIn is_literal input s
    → IsSourceIn is_literal input r → s ≡ r
source-only true input s r h k = literal_in-only input s r h k
source-only false input s r h k = h ∙ sym k

-- A source with its edits.
abbrev with_fixed : Source → FixedLiteral → Source
with_fixed s f = lone_literal s.style f.text f.snippet

mended_in-only : (mode : Mode) (s : Source) (l : List ℕ) (r q : Source)
    → IsMendedIn mode s l r → IsMendedIn mode s l q → r ≡ q
mended_in-only mode s l r q (inl (f, h, d)) (inl (g, k, e)) =
    d ∙ ap (λ (f : FixedLiteral). with_fixed s f) (fixed-one mode s.text s.style l false f g h k)
    ∙ sym e
mended_in-only mode s l r q (inl (f, h, d)) (inr (none, e)) = absurd (none f h)
mended_in-only mode s l r q (inr (none, d)) (inl (g, k, e)) = absurd (none g k)
mended_in-only mode s l r q (inr (none, d)) (inr (never, e)) = d ∙ sym e

-- The mended form of a source with this literal, if it has one.
abbrev MendedTo : Mode → Source → Option (List ℕ) → Source → Type 0
MendedTo mode s o r = elim o [
  | None ↦ r ≡ s
  | Some l ↦ IsMendedIn mode s l r
]

mended-only : (mode : Mode) (s : Source) (o : Option (List ℕ)) (r q : Source)
    → MendedTo mode s o r → MendedTo mode s o q → r ≡ q
mended-only mode s None r q h k = h ∙ sym k
mended-only mode s (Some l) r q h k = mended_in-only mode s l r q h k

-- The output that is shown in this way.
abbrev pub ShownAs : Task → Source → OutputKind → Outputs → Type 0
ShownAs a s w x = elim w [
  | ShowFault ↦ x ≡ drawn_source false a s
  | ShowAll ↦ x ≡ drawn_source true a s
  | ShowTokens ↦ x ≡ lexed_source a s
  | ShowFix ↦ (r : Source) × IsMended a.mode s r × (x ≡ kept_source a r)
]

shown-only : (a : Task) (s : Source) (w : OutputKind) (x y : Outputs) → ShownAs a s w x
    → ShownAs a s w y
    → x ≡ y
shown-only a s ShowFault x y h k = h ∙ sym k
shown-only a s ShowAll x y h k = h ∙ sym k
shown-only a s ShowTokens x y h k = h ∙ sym k
shown-only a s ShowFix x y (r, h, d) (q, k, e) =
    d ∙ ap (kept_source a) (mended-only a.mode s s.literal r q h k) ∙ sym e

-- the answer where something is shown
with_shown : (a : Task) (input : List ℕ) (x : Outputs) (y : Result Outputs RunFault)
    → IsOwed a input (Ok x) → IsOwed a input y → Ok x ≡ y
with_shown a input x (Ok y) (_, _, (s, h, e)) (_, _, (r, k, f)) =
    let same : s ≡ r = source-only a.is_literal input s r h k in
    ap Ok (shown-only a s a.output_kind x y e (subst (λ t. IsShown a t y) (sym same) f))
with_shown a input x (Err TooLong) (short, _, _) long = absurd (omega arith)
with_shown a input x (Err NotText) (_, text, _) (_, never) = absurd (never text)
with_shown a input x (Err NotLiteral) (_, _, (s, h, _)) (_, _, never) = absurd (never s h)
with_shown a input x (Err Words) h k = absurd k
with_shown a input x (Err Read) h k = absurd k
with_shown a input x (Err Memory) h k = absurd k
with_shown a input x (Err Write) h k = absurd k

-- for an input that is too long
with_long : (a : Task) (input : List ℕ) (y : Result Outputs RunFault) → limit < length input
    → IsOwed a input y → Err TooLong ≡ y
with_long a input (Ok y) long (short, _, _) = absurd (omega arith)
with_long a input (Err TooLong) long k = refl
with_long a input (Err NotText) long (short, _) = absurd (omega arith)
with_long a input (Err NotLiteral) long (short, _, _) = absurd (omega arith)
with_long a input (Err Words) long k = absurd k
with_long a input (Err Read) long k = absurd k
with_long a input (Err Memory) long k = absurd k
with_long a input (Err Write) long k = absurd k

-- for one that is no text
with_no_text : (a : Task) (input : List ℕ) (y : Result Outputs RunFault) → IsShort input
    → (IsUtf8 input → ⊥) → IsOwed a input y → Err NotText ≡ y
with_no_text a input (Ok y) short never (_, text, _) = absurd (never text)
with_no_text a input (Err TooLong) short never long = absurd (omega arith)
with_no_text a input (Err NotText) short never k = refl
with_no_text a input (Err NotLiteral) short never (_, text, _) = absurd (never text)
with_no_text a input (Err Words) short never k = absurd k
with_no_text a input (Err Read) short never k = absurd k
with_no_text a input (Err Memory) short never k = absurd k
with_no_text a input (Err Write) short never k = absurd k

-- for one that gives no source
with_no_source : (a : Task) (input : List ℕ) (y : Result Outputs RunFault) → IsShort input
    → IsUtf8 input → ((s : Source) → IsSourceIn a.is_literal input s → ⊥) → IsOwed a input y
    → Err NotLiteral ≡ y
with_no_source a input (Ok y) short text never (_, _, (s, h, _)) = absurd (never s h)
with_no_source a input (Err TooLong) short text never long = absurd (omega arith)
with_no_source a input (Err NotText) short text never (_, no_text) = absurd (no_text text)
with_no_source a input (Err NotLiteral) short text never k = refl
with_no_source a input (Err Words) short text never k = absurd k
with_no_source a input (Err Read) short text never k = absurd k
with_no_source a input (Err Memory) short text never k = absurd k
with_no_source a input (Err Write) short text never k = absurd k

pub owed-only : (a : Task) (input : List ℕ) (x y : Result Outputs RunFault) → IsOwed a input x
    → IsOwed a input y → x ≡ y
owed-only a input (Ok x) y h k = with_shown a input x y h k
owed-only a input (Err TooLong) y long k = with_long a input y long k
owed-only a input (Err NotText) y (short, never) k = with_no_text a input y short never k
owed-only a input (Err NotLiteral) y (short, text, never) k =
    with_no_source a input y short text never k
owed-only a input (Err Words) y h k = absurd h
owed-only a input (Err Read) y h k = absurd h
owed-only a input (Err Memory) y h k = absurd h
owed-only a input (Err Write) y h k = absurd h

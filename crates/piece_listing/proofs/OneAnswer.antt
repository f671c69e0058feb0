-- An input has exactly one answer.
use Rattle.std.proofs.Common.{◌≡◌, ◌<◌, ℕ, Bool, List, Option, None, Some, refl, sym, ap, ◌∙◌}
use Rattle.std.proofs.Common.{subst, arith, Ok, Err, chars, length}
use Rattle.std.specs.Str.{IsUtf8}
use Rattle.std.proofs.lemmas.Option.{same_Some}
use Rattle.piece_listing.specs.declared.verdict.RunFault.TheVariants.{Words, Read, TooLong, NotText}
use Rattle.piece_listing.specs.declared.verdict.RunFault.TheVariants.{NotLiteral, Memory, Write}
use Rattle.rustc_parse_format.specs.Types.{Piece}
use Rattle.rustc_parse_format.specs.World.{Place}
use Rattle.placeholder_check.specs.Report.{Report}
use Rattle.placeholder_check.specs.Uses.{uses}
use Rattle.placeholder_check.proofs.Unique.{one-report}
use Rattle.piece_listing.specs.GivenArguments.{GivenArguments}
use Rattle.piece_listing.specs.Program.{Answer, IsListed, IsOwed, IsOwedFor, IsReportFor, IsShort}
use Rattle.piece_listing.specs.Program.{Task, limit, listing_of, pieces}
use Rattle.piece_listing.specs.Source.{IsSourceOf, Source}
use Rattle.piece_listing.proofs.OneLiteral.{source-only}

-- a source and a list have one report, and so one listing
report-only : (g : Option GivenArguments) (ps : List (Piece Place)) (r q : Report)
    → IsReportFor g ps r
    → IsReportFor g ps q → r ≡ q
report-only None ps r q h k = h ∙ sym k
report-only (Some g) ps r q h k = one-report (uses ps) g.positional g.names r q h k

listed-only : (a : Task) (s : Source) (x y : List ℕ × Bool) → IsListed a s x → IsListed a s y
    → x ≡ y
listed-only a s x y (r, h, e) (q, k, f) = e
    ∙ ap (listing_of a.mode s) (report-only a.given (pieces a.mode s) r q h k) ∙ sym f

-- any other answer that is owed for a source that is listed is the same
with_listing : (a : Task) (input : List ℕ) (x : List ℕ × Bool) (y : Answer)
    → IsOwedFor a input (Ok x) → IsOwedFor a input y → Ok x ≡ y
with_listing a input x (Ok y) (_, _, (s, h, e)) (_, _, (r, k, f)) =
    let same : s ≡ r = source-only a.is_literal (chars input) s r h k in
    ap Ok (listed-only a s x y e (subst (λ t. IsListed a t y) (sym same) f))
with_listing a input x (Err TooLong) (short, _, _) long = absurd (omega arith)
with_listing a input x (Err NotText) (_, text, _) (_, never) = absurd (never text)
with_listing a input x (Err NotLiteral) (_, _, (s, h, _)) (_, _, never) = absurd (never s h)
with_listing a input x (Err Words) h k = absurd k
with_listing a input x (Err Read) h k = absurd k
with_listing a input x (Err Memory) h k = absurd k
with_listing a input x (Err Write) h k = absurd k

-- for an input that is too long
with_long : (a : Task) (input : List ℕ) (y : Answer) → limit < length input → IsOwedFor a input y
    → Err TooLong ≡ y
with_long a input (Ok y) long (short, _, _) = absurd (omega arith)
with_long a input (Err TooLong) long k = refl
with_long a input (Err NotText) long (short, _) = absurd (omega arith)
with_long a input (Err NotLiteral) long (short, _, _) = absurd (omega arith)
with_long a input (Err Words) long k = absurd k
with_long a input (Err Read) long k = absurd k
with_long a input (Err Memory) long k = absurd k
with_long a input (Err Write) long k = absurd k

-- for one that is no text
with_no_text : (a : Task) (input : List ℕ) (y : Answer) → IsShort input → (IsUtf8 input → ⊥)
    → IsOwedFor a input y → Err NotText ≡ y
with_no_text a input (Ok y) short never (_, text, _) = absurd (never text)
with_no_text a input (Err TooLong) short never long = absurd (omega arith)
with_no_text a input (Err NotText) short never k = refl
with_no_text a input (Err NotLiteral) short never (_, text, _) = absurd (never text)
with_no_text a input (Err Words) short never k = absurd k
with_no_text a input (Err Read) short never k = absurd k
with_no_text a input (Err Memory) short never k = absurd k
with_no_text a input (Err Write) short never k = absurd k

-- for one that gives no source
with_no_source : (a : Task) (input : List ℕ) (y : Answer) → IsShort input → IsUtf8 input
    → ((s : Source) → IsSourceOf a.is_literal (chars input) s → ⊥)
    → IsOwedFor a input y → Err NotLiteral ≡ y
with_no_source a input (Ok y) short text never (_, _, (s, h, _)) = absurd (never s h)
with_no_source a input (Err TooLong) short text never long = absurd (omega arith)
with_no_source a input (Err NotText) short text never (_, no_text) = absurd (no_text text)
with_no_source a input (Err NotLiteral) short text never k = refl
with_no_source a input (Err Words) short text never k = absurd k
with_no_source a input (Err Read) short text never k = absurd k
with_no_source a input (Err Memory) short text never k = absurd k
with_no_source a input (Err Write) short text never k = absurd k

owed_for-only : (a : Task) (input : List ℕ) (x y : Answer) → IsOwedFor a input x
    → IsOwedFor a input y → x ≡ y
owed_for-only a input (Ok x) y h k = with_listing a input x y h k
owed_for-only a input (Err TooLong) y long k = with_long a input y long k
owed_for-only a input (Err NotText) y (short, never) k = with_no_text a input y short never k
owed_for-only a input (Err NotLiteral) y (short, text, never) k =
    with_no_source a input y short text never k
owed_for-only a input (Err Words) y h k = absurd h
owed_for-only a input (Err Read) y h k = absurd h
owed_for-only a input (Err Memory) y h k = absurd h
owed_for-only a input (Err Write) y h k = absurd h

pub owed-only : (words : List (List ℕ)) (input : List ℕ) (x y : Answer) → IsOwed words input x
    → IsOwed words input y → x ≡ y
owed-only words input x y (a, e, h) (b, f, k) =
    let tasks : a ≡ b = same_Some a b (sym e ∙ f) in
    owed_for-only a input x y h (subst (λ t. IsOwedFor t input y) (sym tasks) k)

-- A terminal obeys nothing of what is shown, but for colours and the source as it is written.
use Rattle.std.proofs.Common.{◌≡◌, ◌++◌, ◌∷◌, ◌-◌, ℕ, Bool, true, false, List, [], None}
use Rattle.std.proofs.Common.{Option, Some, ap, append_assoc, codes, length, refl, take}
use Rattle.std.proofs.Common.{Err, IfOk, Ok, Result, chars, subst}
use Rattle.std.specs.Char.{is_ascii_digit}
use Rattle.std.specs.List.{list_all}
use Rattle.std.specs.Prelude.{◌==◌, flat_map, unwrap_or}
use Rattle.rustc_parse_format.specs.Characters.{Text}
use Rattle.rustc_parse_format.specs.FaultIds.{fault_id}
use Rattle.rustc_parse_format.specs.Faults.{Fault, Message, message}
use Rattle.rustc_parse_format.specs.Faults.{UnmatchedBrace, MissingBrace, FillBrace, Underscore}
use Rattle.rustc_parse_format.specs.Faults.{TooLarge, Unnamed, TextAfterColon, RawIdentifier}
use Rattle.rustc_parse_format.specs.Faults.{LateFlag, MissingColon, LateDebug, LateAlign, Grouping}
use Rattle.rustc_parse_format.specs.Faults.{DebugPrint, LateSign, FieldAccess, TupleIndex}
use Rattle.rustc_parse_format.specs.Types.{Mode}
use Rattle.rustc_parse_format.specs.World.{Place}
use Rattle.piece_listing.specs.Listing.{quoted_text}
use Rattle.drawn_lines.specs.Glyphs.{IsHarmless}
use Rattle.drawn_lines.specs.Painting.{IsColoured, IsHarmlessWith}
use Rattle.drawn_lines.specs.Places.{Picture, front_within}
use Rattle.drawn_lines.proofs.Coloured.{joined, joined_with, plain_with, sgr}
use Rattle.drawn_lines.proofs.Harmless.{decimal-harmless, either, glyphs-harmless, is_written}
use Rattle.drawn_lines.proofs.Harmless.{join}
use Rattle.drawn_lines.proofs.Harmless.{text}
use Rattle.drawn_faults.proofs.HarmlessDrawings.{drawing-harmless}
use Rattle.format_tokens.specs.Escapes.{Placed}
use Rattle.format_tokens.specs.declared.kinds.Kind.{Kind}
use Rattle.format_tokens.specs.declared.kinds.Kind.TheVariants.{Text as TextKind}
use Rattle.format_tokens.specs.declared.kinds.Kind.TheVariants.{EscapedBrace as EscapeKind}
use Rattle.format_tokens.specs.declared.kinds.Kind.TheVariants.{CloseBrace, Integer, Identifier}
use Rattle.format_tokens.specs.declared.kinds.Kind.TheVariants.{OpenBrace}
use Rattle.format_tokens.specs.declared.kinds.Kind.TheVariants.{RawPrefix, Whitespace, Colon, Fill}
use Rattle.format_tokens.specs.declared.kinds.Kind.TheVariants.{Alignment, Sign, NumberSign, Zero}
use Rattle.format_tokens.specs.declared.kinds.Kind.TheVariants.{DollarSign, Dot, Asterisk}
use Rattle.format_tokens.specs.declared.kinds.Kind.TheVariants.{«Type» as TypeKind, Modifier}
use Rattle.format_tokens.specs.declared.kinds.Kind.TheVariants.{DiagnosticText, Unexpected, Quote}
use Rattle.format_tokens.specs.declared.kinds.Kind.TheVariants.{EscapeSequence}
use Rattle.format_lint.specs.Colours.{rest_after, colour, in_colour, kind_name, shown_tokens}
use Rattle.format_lint.specs.Findings.{Finding, first_error, most_drawn}
use Rattle.format_lint.specs.Lint.{IsHarmlessFor, IsMended, IsShown, IsSourceIn, Outputs, Source}
use Rattle.format_lint.specs.Lint.{Task, drawing_of, drawn_finding, findings, lexed_source}
use Rattle.format_lint.specs.Lint.{more_line, picture}
use Rattle.format_lint.specs.Lint.{shown_error, start, tokens_in, written_source}
use Rattle.format_lint.proofs.OneAnswer.{ShownAs}
use Rattle.format_lint.specs.declared.task.OutputKind.{OutputKind}
use Rattle.format_lint.specs.declared.task.OutputKind.TheVariants.{All as ShowAll}
use Rattle.format_lint.specs.declared.task.OutputKind.TheVariants.{Fault as ShowFault}
use Rattle.format_lint.specs.declared.task.OutputKind.TheVariants.{Fix as ShowFix}
use Rattle.format_lint.specs.declared.task.OutputKind.TheVariants.{Tokens as ShowTokens}

id-written : {A : Type 0} (f : Fault A) → list_all is_written (fault_id f) ≡ true
unfolding fault_id
id-written (UnmatchedBrace s) = refl
id-written (MissingBrace c s o) = refl
id-written (FillBrace c s o) = refl
id-written (Underscore s) = refl
id-written (TooLarge ds s) = refl
id-written (Unnamed s) = refl
id-written (TextAfterColon s) = refl
id-written (RawIdentifier s p) = refl
id-written (LateFlag c s b) = refl
id-written (MissingColon s) = refl
id-written (LateDebug w s) = refl
id-written (LateAlign c s) = refl
id-written (Grouping s o) = refl
id-written (DebugPrint s o) = refl
id-written (LateSign s) = refl
id-written (FieldAccess s) = refl
id-written (TupleIndex s) = refl

-- drawings
of_finding : (mode : Mode) (p : Picture) (f : Finding)
    → IsHarmlessWith p.colours (drawn_finding mode p f)
of_finding mode p f =
    joined_with p.colours _ _ (plain_with p.colours
    (join (either f.is_consequence (text (codes "follows: ") refl) (text (codes "fault: ") refl))
    (join (text (fault_id f.fault) (id-written f.fault)) (text (codes "\n") refl))))
    (drawing-harmless mode p (message f.fault))

of_findings : (mode : Mode) (p : Picture) (fs : List Finding)
    → IsHarmlessWith p.colours (flat_map (drawn_finding mode p) fs)
of_findings mode p [] = plain_with p.colours (text [] refl)
of_findings mode p (f ∷ fs) =
    joined_with p.colours _ _ (of_finding mode p f) (of_findings mode p fs)

of_more : (n : ℕ) → IsHarmless (more_line n)
of_more n =
    either (n == 0) (text [] refl)
    (join (text (codes "and ") refl) (join (decimal-harmless n) (text (codes " more\n") refl)))

of_error : (mode : Mode) (p : Picture) (e : Option (Message Place))
    → IsHarmlessWith p.colours (shown_error mode p e)
of_error mode p None = plain_with p.colours (text [] refl)
of_error mode p (Some m) = drawing-harmless mode p m

of_drawn : (all : Bool) (a : Task) (s : Source) → IsHarmlessWith a.colours (drawing_of all a s)
of_drawn true a s =
    let fs = findings a.mode s in
    joined_with a.colours _ _ (of_findings a.mode (picture a s) (take most_drawn fs))
    (plain_with a.colours (of_more (length fs - most_drawn)))
of_drawn false a s = of_error a.mode (picture a s) (first_error (start a.mode s))

-- tokens, each in a line
name-written : (k : Kind) → list_all is_written (kind_name k) ≡ true
unfolding kind_name
name-written TextKind = refl
name-written EscapeKind = refl
name-written OpenBrace = refl
name-written CloseBrace = refl
name-written Integer = refl
name-written Identifier = refl
name-written RawPrefix = refl
name-written Whitespace = refl
name-written Colon = refl
name-written Fill = refl
name-written Alignment = refl
name-written Sign = refl
name-written NumberSign = refl
name-written Zero = refl
name-written DollarSign = refl
name-written Dot = refl
name-written Asterisk = refl
name-written TypeKind = refl
name-written Modifier = refl
name-written DiagnosticText = refl
name-written Unexpected = refl
name-written Quote = refl
name-written EscapeSequence = refl

of_lines : (t : Text) (xs : List Placed) → IsHarmless (shown_tokens false t xs)
of_lines t [] = text [] refl
of_lines t (x ∷ xs) =
    let n = x.1.1 - x.1.0 in
    join (join (text (kind_name x.0) (name-written x.0)) (join (text (codes " ") refl)
    (join (join (decimal-harmless x.1.0) (join (text (codes "..") refl) (decimal-harmless x.1.1)))
    (join (text (codes " ") refl) (join (glyphs-harmless (chars (quoted_text (front_within n t))))
    (text (codes "\n") refl)))))) (of_lines (rest_after n t) xs)

-- tokens in colours
has_digits : Option (List ℕ) → Bool
has_digits None = true
has_digits (Some n) = list_all is_ascii_digit n

colour-digits : (k : Kind) → has_digits (colour k) ≡ true
unfolding colour has_digits
colour-digits TextKind = refl
colour-digits EscapeKind = refl
colour-digits OpenBrace = refl
colour-digits CloseBrace = refl
colour-digits Integer = refl
colour-digits Identifier = refl
colour-digits RawPrefix = refl
colour-digits Whitespace = refl
colour-digits Colon = refl
colour-digits Fill = refl
colour-digits Alignment = refl
colour-digits Sign = refl
colour-digits NumberSign = refl
colour-digits Zero = refl
colour-digits DollarSign = refl
colour-digits Dot = refl
colour-digits Asterisk = refl
colour-digits TypeKind = refl
colour-digits Modifier = refl
colour-digits DiagnosticText = refl
colour-digits Unexpected = refl
colour-digits Quote = refl
colour-digits EscapeSequence = refl

in_colour-safe : (o : Option (List ℕ)) (u : List ℕ) → has_digits o ≡ true → IsHarmless u
    → IsColoured (in_colour o u)
unfolding has_digits
in_colour-safe None u e h = plain_with true h
in_colour-safe (Some n) u e h =
    let whole : (codes "\u{1b}[" ++ (n ++ codes "m")) ++ (u ++ codes "\u{1b}[0m")
    ≡ in_colour (Some n) u =
    ap (λ t. codes "\u{1b}[" ++ t) (append_assoc n (codes "m") (u ++ codes "\u{1b}[0m")) in
    subst IsColoured whole
    (joined (sgr n e) (joined (plain_with true h) (sgr (codes "0") refl)))

of_colours : (t : Text) (xs : List Placed) → IsColoured (shown_tokens true t xs)
of_colours t [] = plain_with true (text [] refl)
of_colours t (x ∷ xs) =
    let n = x.1.1 - x.1.0 in
    joined (in_colour-safe (colour x.0) _ (colour-digits x.0) (glyphs-harmless (front_within n t)))
    (of_colours (rest_after n t) xs)

of_tokens : (b : Bool) (t : Text) (xs : List Placed) → IsHarmlessWith b (shown_tokens b t xs)
of_tokens true t xs = of_colours t xs
of_tokens false t xs = of_lines t xs

of_lexed : (a : Task) (s : Source) → IsHarmlessWith a.colours (lexed_source a s).output
of_lexed a s =
    joined_with a.colours _ _
    (of_tokens a.colours (chars (unwrap_or s.literal s.text)) (tokens_in a.mode s))
    (plain_with a.colours (either a.colours (text (codes "\n") refl) (text [] refl)))

-- A terminal obeys nothing of an output that is written in this way, as `IsHarmlessOutput` says.
abbrev HarmlessAs : Task → List ℕ → OutputKind → List ℕ → Type 0
HarmlessAs a input w t = elim w [
  | ShowFault ↦ IsHarmlessWith a.colours t
  | ShowAll ↦ IsHarmlessWith a.colours t
  | ShowTokens ↦ IsHarmlessWith a.colours t
  | ShowFix ↦ (s : Source) × (r : Source) × IsSourceIn a.is_literal input s
      × IsMended a.mode s r × (t ≡ written_source r)
]

as-shown : (a : Task) (input : List ℕ) (s : Source) (w : OutputKind) (x : Outputs)
    → IsSourceIn a.is_literal input s → ShownAs a s w x
    → HarmlessAs a input w x.output × IsHarmlessWith a.colours x.error_output
as-shown a input s ShowFault x i e = rw e (of_drawn false a s, plain_with a.colours (text [] refl))
as-shown a input s ShowAll x i e = rw e (of_drawn true a s, plain_with a.colours (text [] refl))
as-shown a input s ShowTokens x i e = rw e (of_lexed a s, of_drawn false a s)
as-shown a input s ShowFix x i (r, m, e) = rw e ((s, r, i, m, refl), of_drawn false a r)

-- So it is with what is shown of a source of the input.
pub shown-harmless : (a : Task) (input : List ℕ) (s : Source) (x : Outputs)
    → IsSourceIn a.is_literal input s → IsShown a s x → IsHarmlessFor a input x
shown-harmless a input s x i h = as-shown a input s a.output_kind x i h

-- A property of a result that follows from another.
pub ok-weaker : {A B : Type 0} {P Q : A → Type 0} (r : Result A B) → ((x : A) → P x → Q x)
    → IfOk r P → IfOk r Q
ok-weaker (Ok x) f h = f x h
ok-weaker (Err e) f h = h

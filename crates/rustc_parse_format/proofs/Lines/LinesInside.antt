-- In a source literal the lines, the errors and the places of placeholders that a parser holds are
-- inside the snippet, and its current line has begun.
use Rattle.std.proofs.Common.{◌≡◌, ℕ, suc, ◌+◌, ◌-◌, ◌<◌, ◌≤◌, ◌++◌, ◌==◌, ◌&&◌, inl, inr, Bool}
use Rattle.std.proofs.Common.{true, false, not, List, [], ◌∷◌, length}
use Rattle.std.proofs.Common.{Option, Some, None, refl, sym, ap, subst, arith, length-append, codes}
use Rattle.std.specs.Prelude.{if◌then◌else◌, option_map}
use Rattle.std.specs.List.{AllByRecursion}
use Rattle.std.proofs.lemmas.Bool.{cond_both, and_parts, false≢true}
use Rattle.rustc_parse_format.specs.Characters.{Text, is_brace, is_no_brace, begins_with}
use Rattle.rustc_parse_format.specs.Characters.{after_first, after_brace, after_white, rest_after}
use Rattle.rustc_parse_format.specs.Characters.{front}
use Rattle.rustc_parse_format.specs.Characters.{is_nil, byte_length}
use Rattle.rustc_parse_format.specs.Types.{Mode, Format, InlineAsm, Diagnostic, DiagnosticNamed}
use Rattle.rustc_parse_format.specs.Types.{Argument, Piece}
use Rattle.rustc_parse_format.specs.Spelling.{IsPart, fixed_part, run}
use Rattle.rustc_parse_format.specs.Syntax.{SpecText, Default, Formatting, Modifier, DiagnosticText}
use Rattle.rustc_parse_format.specs.Syntax.{spec_part}
use Rattle.rustc_parse_format.specs.Placeholder.{cut}
use Rattle.rustc_parse_format.specs.Marks.{Mark, Start, Span, run_texts, over_first}
use Rattle.rustc_parse_format.specs.Faults.{Fault, UnmatchedBrace, MissingBrace, FillBrace}
use Rattle.rustc_parse_format.specs.Faults.{Underscore}
use Rattle.rustc_parse_format.specs.Faults.{TooLarge, Unnamed, TextAfterColon, RawIdentifier}
use Rattle.rustc_parse_format.specs.Faults.{LateFlag}
use Rattle.rustc_parse_format.specs.Faults.{Message, map_fault, message, is_front, add_errors}
use Rattle.rustc_parse_format.specs.Call.{Call, IsWalk, GoesOn, call, placeholder, closed_call}
use Rattle.rustc_parse_format.specs.Call.{unclosed_call}
use Rattle.rustc_parse_format.specs.Values.{number_after_field}
use Rattle.rustc_parse_format.specs.Meaning.{argument, spec_texts}
use Rattle.rustc_parse_format.specs.Identifiers.{is_identifier}
use Rattle.rustc_parse_format.specs.Recovery.{Recovery, sign_fault, sign, late_debug, field}
use Rattle.rustc_parse_format.specs.Recovery.{recovery}
use Rattle.rustc_parse_format.specs.Faults.{MissingColon, LateDebug, LateAlign, Grouping}
use Rattle.rustc_parse_format.specs.Faults.{DebugPrint, LateSign, FieldAccess, TupleIndex}
use Rattle.rustc_parse_format.specs.LiteralUnits.{LiteralUnit}
use Rattle.rustc_parse_format.specs.Literal.{IsSource, content_value, newline}
use Rattle.rustc_parse_format.specs.World.{World, Place, world, quote_offset, content_places}
use Rattle.rustc_parse_format.specs.World.{place_at, place_of, faults_in}
use Rattle.rustc_parse_format.specs.Lines.{is_indent, is_newline, texts_in, read_lines, lines_in}
use Rattle.rustc_parse_format.specs.Lines.{closed_places, place_list, ends_with, with_last}
use Rattle.rustc_parse_format.specs.State.{State, ComesFrom, state_after, after_all, calls}
use Rattle.rustc_parse_format.specs.State.{first_state}
use Rattle.rustc_parse_format.specs.State.{last_lines, next_call}
use Rattle.rustc_parse_format.specs.ReadBack.{IsInside, IsLineInside, HasBegun, LiesInside}
use Rattle.rustc_parse_format.specs.ReadBack.{optional_list, spans_of_fault, spans_of_error}
use Rattle.rustc_parse_format.proofs.Grammar.Fronts.{front-rest_after}
use Rattle.rustc_parse_format.proofs.Sources.PlainPlaces.{place_end}
use Rattle.rustc_parse_format.proofs.Spans.PlaceOrder.{length-content_places}
use Rattle.rustc_parse_format.proofs.Grammar.PartLaws.{two-split}
use Rattle.rustc_parse_format.proofs.Grammar.Rests.{IsRest, IsRest-le, IsRest-self}
use Rattle.rustc_parse_format.proofs.Grammar.Rests.{after_first_rest, after_word_rest}
use Rattle.rustc_parse_format.proofs.Grammar.Rests.{after_white_rest}
use Rattle.rustc_parse_format.proofs.Readers.Recoveries.{after_brace_rest}
use Rattle.rustc_parse_format.proofs.Walking.Progress.{walk-IsWalk}
use Rattle.rustc_parse_format.proofs.Lines.LineLaws.{Reading}
use Rattle.rustc_parse_format.proofs.Spans.Units.{content-ordered, start-after, stop-start}
use Rattle.rustc_parse_format.proofs.Spans.Worlds.{known, unit_world}
use Rattle.rustc_parse_format.proofs.Spans.Forward.{all-append, cut-spec, cut-spec_at}
use Rattle.rustc_parse_format.proofs.Spans.ReadBack.{ends, mark-order, start-number, stop-number}
use Rattle.rustc_parse_format.proofs.Walking.ParserLaws.{call_inside, call_rest, from_source}
use Rattle.rustc_parse_format.proofs.Walking.ParserLaws.{rest_after_call}

-- The places of a text of n characters, which starts at a byte, stand one after the other inside a
-- snippet.
record IsLaidOut (snippet : Text) (appended : Bool) (w : World) (at n : ℕ) : Type 0 where
  first : at ≤ (place_at w n).0
  starts : (i j : ℕ) → j ≤ i → (place_at w i).0 ≤ (place_at w j).0
  stops : (i j : ℕ) → j < i → i ≤ n → HasBegun w appended (place_at w i).1 j
  end_is : (place_at w 0).0 ≡ w.end
  room : suc w.end ≤ byte_length snippet

-- The last character ends after the end of the text only where it is an appended newline.
newline-last : (b : Bool) (p n i j : ℕ) → n ≡ p + length (newline b) → p ≤ n - i → j < i → i ≤ n
    → (b ≡ true) × (j ≡ 0)
newline-last true p n i j e h l k = (refl, omega arith)
newline-last false p n i j e h l k = absurd (omega arith)

unit-stops : (q : ℕ) (us : List LiteralUnit) (b : Bool) (n i j : ℕ)
    → n ≡ length (content_value us ++ newline b) → j < i → i ≤ n →
    HasBegun (unit_world q us b) b (place_at (unit_world q us b) i).1 j
unit-stops q us b n i j h l k =
    let ps = content_places q us in
    let next = start-number q us b n j h in
    let order = stop-start q ps (ends q us) (n - i) (n - j) (omega arith)
    (content-ordered q q us (omega arith)) in
    let size : n ≡ length ps + length (newline b) =
    omega (
      arith,
      h,
      length-append (content_value us) (newline b),
      length-content_places q us,
    ) in
    elim (stop-number q us b n i h) [
      | inl s ↦ inl (omega (arith, next, order, s))
      | inr (past, s) ↦ (let last = newline-last b (length ps) n i j size past l k in
          inr (last.0, last.1, s))
    ]

laid_out : (input : Text) (style : Option ℕ) (snippet : Text) (b : Bool)
    → IsSource input style snippet b →
    IsLaidOut snippet b (world input style (Some snippet) b) (quote_offset style) (length input)
laid_out input style snippet b h =
    let k = known input style snippet b h in
    let q = quote_offset style in
    let us = k.units in
    let n = length input in
    let size : n ≡ length (content_value us ++ newline b) = ap length k.whole in
    subst (λ w. IsLaidOut snippet b w q n) (sym k.world_is)
    (record {
      first = omega (
        arith,
        start-number q us b n n size,
        start-after q (content_places q us) (ends q us) (n - n)
            (content-ordered q q us (omega arith)),
      );
      starts = λ i j l. mark-order q us b n i (Start j) size l;
      stops = λ i j l m. unit-stops q us b n i j size l m;
      end_is = ap (λ (p : Place). p.0) (place_end (unit_world q us b));
      room = k.inside;
    })

-- Characters that are read one after the other, while the rest goes from so many characters
-- down to so many.
abbrev AreBetween : ℕ → List (ℕ × ℕ) → ℕ → Type 0
AreBetween from [] to = to ≤ from
AreBetween from (x ∷ xs) to = (n : ℕ) × (x.1 ≡ suc n) × (suc n ≤ from) × AreBetween n xs to

between-wider : (from to start stop : ℕ) (cs : List (ℕ × ℕ)) → from ≤ start → stop ≤ to
    → AreBetween from cs to → AreBetween start cs stop
between-wider from to start stop [] h k b = omega arith
between-wider from to start stop (x ∷ cs) h k (n, e, l, b) =
    (n, e, omega arith, between-wider n to n stop cs (omega arith) k b)

marked-between : (u r : Text) → AreBetween (length (u ++ r)) (run_texts u r) (length r)
marked-between [] r = omega arith
marked-between (c ∷ u) r = (length (u ++ r), refl, omega arith, marked-between u r)

run-between : (t : Text)
    → AreBetween (length t) (run_texts (front is_no_brace t) (rest_after is_no_brace t))
    (length (rest_after is_no_brace t))
run-between t =
    subst (λ u. AreBetween (length u) (run_texts (front is_no_brace t) (rest_after is_no_brace t))
    (length (rest_after is_no_brace t)))
    (sym (front-rest_after is_no_brace t)) (marked-between (front is_no_brace t) (rest_after
    is_no_brace t))

text-between : (t u r : Text) → IsPart t (spec_part Diagnostic (DiagnosticText u)) r
    → AreBetween (length t) (run_texts u r) (length r)
text-between t u r h =
    let s = two-split t (fixed_part (codes ":")) (run is_no_brace u) r h in
    between-wider (length (u ++ r)) (length r) (length t) (length r) (run_texts u r)
    (omega (arith, ap length s.first.whole, ap length s.second.whole)) (omega arith)
    (marked-between u r)

spec-between : (mode : Mode) (t : Text) (s : SpecText) (r : Text) → IsPart t (spec_part mode s) r
    → AreBetween (length t) (spec_texts s r) (length r)
spec-between mode t Default r h =
    IsRest-le (record { front = (spec_part mode Default).spelling; whole = h.whole })
spec-between mode t (Formatting p) r h =
    IsRest-le (record { front = (spec_part mode (Formatting p)).spelling; whole = h.whole })
spec-between mode t (Modifier w) r h =
    IsRest-le (record { front = (spec_part mode (Modifier w)).spelling; whole = h.whole })
spec-between Diagnostic t (DiagnosticText u) r h = text-between t u r h
spec-between DiagnosticNamed t (DiagnosticText u) r h = text-between t u r h
spec-between Format t (DiagnosticText u) r h = absurd (false≢true h.formed)
spec-between InlineAsm t (DiagnosticText u) r h = absurd (false≢true h.formed)

between-append : (from mid to : ℕ) (cs ds : List (ℕ × ℕ)) → AreBetween from cs mid
    → AreBetween mid ds to → AreBetween from (cs ++ ds) to
between-append from mid to [] ds h k = between-wider mid to from to ds h (omega arith) k
between-append from mid to (x ∷ cs) ds (n, e, l, b) k = (n, e, l, between-append n mid to cs ds b k)

-- those that a recovery reads
abbrev IsWithin : Text → Recovery → Type 0
IsWithin t k = AreBetween (length t) k.texts (length k.rest)

field-between : (mode : Mode) (c : ℕ) (m : Mark) (t : Text) → IsWithin t (field mode c m t)
unfolding field
field-between mode c m t =
    let u : Text = after_first t in
    let a = cut mode u in
    let less : length u ≤ length t = IsRest-le (after_first_rest t) in
    between-wider (length a.spec_at) (length a.rest) (length t) (length (after_brace a.rest))
    (spec_texts a.field.spec a.rest)
    (omega (arith, less, cut-spec_at mode u)) (IsRest-le (after_brace_rest a.rest))
    (spec-between mode a.spec_at a.field.spec a.rest (cut-spec mode u))

late_debug-between : (c : ℕ) (t : Text) → IsWithin t (late_debug c t)
unfolding late_debug
late_debug-between c t =
    cond_both {A = Recovery} (begins_with 58 (after_first t)) _ _ (IsWithin t)
    (λ e. omega (
      arith,
      IsRest-le (after_first_rest t),
      IsRest-le (after_first_rest (after_first t)),
      IsRest-le (after_word_rest (after_first (after_first t))),
    ))
    (λ e. IsRest-le (after_first_rest t))

sign-between : (c : ℕ) (f : Option (Fault Span)) (t : Text) → IsWithin t (sign c f t)
sign-between c None t = omega arith
sign-between c (Some f) t = IsRest-le (after_first_rest t)

recovery-between : (mode : Mode) (c : ℕ) (o : Text) (a : Argument Span) (t : Text)
    → IsWithin t (recovery mode c o a t)
unfolding recovery
recovery-between mode c o a [] = omega arith
recovery-between mode c o a (x ∷ []) = omega arith
recovery-between mode c o a (x ∷ y ∷ t) =
    cond_both {A = Recovery} (x == 46 && is_identifier a) _ _ (IsWithin (x ∷ y ∷ t))
    (λ e. field-between mode c a.position_span.from (x ∷ y ∷ t))
    (λ e. cond_both {A = Recovery} (x == 63 && not (y == 125)) _ _ (IsWithin (x ∷ y ∷ t))
    (λ h. late_debug-between c (x ∷ y ∷ t))
    (λ h. sign-between c (sign_fault x y (over_first (x ∷ y ∷ t)) (over_first o)) (x ∷ y ∷ t)))

abbrev IsBetween : Text → Call → Type 0
IsBetween t k = AreBetween (length t) k.texts (length k.rest)

placeholder-between : (mode : Mode) (c b : ℕ) (t : Text)
    → IsBetween (b ∷ t) (placeholder mode c (b ∷ t) t)
unfolding placeholder
placeholder-between mode c b t =
    let a = cut mode t in
    let r : Text = after_white a.rest in
    let read = spec-between mode a.spec_at a.field.spec a.rest (cut-spec mode t) in
    let first : length a.spec_at ≤ length (b ∷ t) = omega (arith, cut-spec_at mode t) in
    let white : length r ≤ length a.rest = IsRest-le (after_white_rest a.rest) in
    let n = number_after_field c a.field in
    let k = recovery mode n (b ∷ t) (argument c a) r in
    cond_both {A = Call} (begins_with 125 r) (closed_call mode c (b ∷ t) a r)
    (unclosed_call mode c (b ∷ t) a r) (IsBetween (b ∷ t))
    (λ yes. between-wider (length a.spec_at) (length a.rest) (length (b ∷ t))
    (length (after_first r)) (spec_texts a.field.spec a.rest) first
    (omega (arith, white, IsRest-le (after_first_rest r))) read)
    (λ no. between-append (length (b ∷ t)) (length r) (length k.rest)
    (spec_texts a.field.spec a.rest) k.texts
    (between-wider (length a.spec_at) (length a.rest) (length (b ∷ t)) (length r)
    (spec_texts a.field.spec a.rest) first white read)
    (recovery-between mode n (b ∷ t) (argument c a) r))

call-between : (mode : Mode) (c : ℕ) (t : Text) → IsBetween t (call mode c t)
unfolding call
call-between mode c [] = omega arith
call-between mode c (b ∷ t) =
    cond_both {A = Call} (is_brace b) _ _ (IsBetween (b ∷ t))
    (λ e. cond_both {A = Call} (begins_with b t) _ _ (IsBetween (b ∷ t))
    (λ d. between-wider (length (after_first t)) _ (length (b ∷ t)) _ _
    (omega (arith, IsRest-le (after_first_rest t))) (omega arith)
    (run-between (after_first t)))
    (λ d. cond_both {A = Call} (b == 123) _ _ (IsBetween (b ∷ t))
    (λ o. placeholder-between mode c b t) (λ o. omega arith)))
    (λ e. run-between (b ∷ t))

-- A line that has begun has begun later on too,
begun-later : (snippet : Text) (b : Bool) (w : World) (at n start i j : ℕ)
    → IsLaidOut snippet b w at n → j ≤ i → HasBegun w b start i → HasBegun w b start j
begun-later snippet b w at n start i j l h (inl k) = inl (omega (arith, l.starts i j h, k))
begun-later snippet b w at n start i j l h (inr (a, k, e)) = inr (a, omega arith, e)

-- and where characters are read one after the other, each line that ends lies inside, and the next
-- one has begun.
read-inside : (snippet : Text) (b : Bool) (w : World) (at n start from to : ℕ) (cs : List (ℕ × ℕ))
    → IsLaidOut snippet b w at n → from ≤ n →
    HasBegun w b start from → AreBetween from cs to →
    AllByRecursion (IsLineInside snippet b w.end) (read_lines start (texts_in w cs)).1
    × HasBegun w b (read_lines start (texts_in w cs)).0 to
read-inside snippet b w at n start from to [] l h begun k =
    (tt, begun-later snippet b w at n start from to l k begun)
read-inside snippet b w at n start from to (x ∷ cs) l h begun (m, e, k, later) =
    let p : Place = place_at w x.1 in
    let next : HasBegun w b start m = begun-later snippet b w at n start from m l
    (omega arith) begun in
    let stopped : HasBegun w b p.1 m = l.stops x.1 m (omega arith) (omega arith) in
    let rest = λ (s : ℕ). λ (y : HasBegun w b s m). read-inside snippet b w at n s m to cs l
    (omega arith) y later in
    cond_both {A = Reading} (is_newline (x.0, p)) _ _
    (λ r. AllByRecursion (IsLineInside snippet b w.end) r.1 × HasBegun w b r.0 to)
    (λ yes.
    let here = begun-later snippet b w at n start from x.1 l (omega arith) begun in
    ((inl (line-inside x.1 (omega arith) here), (rest p.1 stopped).0), (rest p.1 stopped).1))
    (λ no. cond_both {A = ℕ} (is_indent start (x.0, p)) p.1 start
    (λ s. AllByRecursion (IsLineInside snippet b w.end) (read_lines s (texts_in w cs)).1
    × HasBegun w b (read_lines s (texts_in w cs)).0 to)
    (λ white. rest p.1 stopped) (λ other. rest start next))
  where
    line-inside : (i : ℕ) → 0 < i → HasBegun w b start i
        → IsInside snippet (start, (place_at w i).0)
    line-inside i some (inl k) =
        record {
          in_order = k;
          within = omega (arith, l.starts i 0 (omega arith), l.end_is, l.room);
        }
    line-inside i some (inr (a, none, e)) = absurd (omega arith)

-- The last line of a text that was read.
last-inside : (snippet : Text) (b : Bool) (w : World) (at n start : ℕ) → IsLaidOut snippet b w at n
    → HasBegun w b start 0 →
    IsLineInside snippet b w.end (start, w.end)
last-inside snippet b w at n start l (inl k) =
    inl (record { in_order = omega (arith, k, l.end_is); within = omega (arith, l.room) })
last-inside snippet b w at n start l (inr (a, none, e)) =
    inr (a, ap (λ s. (s, w.end)) e, record { in_order = omega arith; within = l.room })

ended-inside : (snippet : Text) (b : Bool) (s : State) (at n : ℕ) (ls : List Place)
    → IsLaidOut snippet b s.world at n →
    HasBegun s.world b s.line_start (length s.rest)
    → AllByRecursion (IsLineInside snippet b s.world.end) ls →
    AllByRecursion (IsLineInside snippet b s.world.end) (last_lines s ls)
ended-inside snippet b s at n ls l begun h =
    let P = AllByRecursion (IsLineInside snippet b s.world.end) in
    let line : Place = (s.line_start, s.world.end) in
    cond_both {A = List Place} (s.world.has_source && is_nil s.rest) (with_last line ls) ls P
    (λ yes. cond_both {A = List Place} (ends_with line ls) ls (ls ++ line ∷ []) P
    (λ same. h)
    (λ more. all-append (IsLineInside snippet b s.world.end) ls (line ∷ []) h (
      last-inside snippet b s.world at n s.line_start l
          (at_end s.rest (and_parts s.world.has_source (is_nil s.rest) yes).1 begun),
      tt,
    )))
    (λ no. h)
  where
    at_end : (t : Text) → is_nil t ≡ true → HasBegun s.world b s.line_start (length t)
        → HasBegun s.world b s.line_start 0
    at_end [] e k = k
    at_end (c ∷ t) e k = absurd (false≢true e)

-- The spans of errors are those of their faults.
fault-spans : (P : Place → Type 0) (w : World) (f : Fault Span)
    → AllByRecursion (λ m. P (place_of w m)) (spans_of_fault f) →
    AllByRecursion P (spans_of_error (message (map_fault (place_of w) f)))
unfolding message
fault-spans P w (UnmatchedBrace s) h = h
fault-spans P w (MissingBrace c s o) h = h
fault-spans P w (FillBrace c s o) h = h
fault-spans P w (Underscore s) h = h
fault-spans P w (TooLarge ds s) h = h
fault-spans P w (Unnamed s) h = h
fault-spans P w (TextAfterColon s) h = h
fault-spans P w (RawIdentifier s p) h = h
fault-spans P w (LateFlag c s b) h = h
fault-spans P w (MissingColon s) h = (h.0, h)
fault-spans P w (LateDebug v s) h = h
fault-spans P w (LateAlign c s) h = h
fault-spans P w (Grouping s o) h = h
fault-spans P w (DebugPrint s o) h = h
fault-spans P w (LateSign s) h = h
fault-spans P w (FieldAccess s) h = h
fault-spans P w (TupleIndex s) h = h

errors-inside : (P : Place → Type 0) (w : World) (old : List (Message Place))
    (fs : List (Fault Span)) →
    AllByRecursion (λ e. AllByRecursion P (spans_of_error e)) old →
    AllByRecursion (λ f. AllByRecursion (λ m. P (place_of w m)) (spans_of_fault f)) fs →
    AllByRecursion (λ e. AllByRecursion P (spans_of_error e)) (add_errors old (faults_in w fs))
errors-inside P w old [] h k = h
errors-inside P w old (f ∷ fs) h k =
    let e = message (map_fault (place_of w) f) in
    let one = fault-spans P w f k.0 in
    errors-inside P w (if is_front (map_fault (place_of w) f) then e ∷ old else old ++ e ∷ []) fs
    (cond_both {A = List (Message Place)} (is_front (map_fault (place_of w) f)) (e ∷ old)
    (old ++ e ∷ [])
    (AllByRecursion (λ x. AllByRecursion P (spans_of_error x))) (λ front. (one, h))
    (λ back. all-append (λ x. AllByRecursion P (spans_of_error x)) old (e ∷ []) h (one, tt))) k.1

closed-inside : (P : Place → Type 0) (w : World) (o : Option Span)
    → AllByRecursion (λ m. P (place_of w m)) (optional_list o)
    → AllByRecursion P (closed_places w o)
closed-inside P w o h =
    cond_both {A = Option Place} w.has_source (option_map (place_of w) o) None
    (λ x. AllByRecursion P (place_list x)) (λ yes. placed o h) (λ no. tt)
  where
    placed : (o : Option Span) → AllByRecursion (λ m. P (place_of w m)) (optional_list o)
        → AllByRecursion P (place_list (option_map (place_of w) o))
    placed None h = tt
    placed (Some s) h = h

-- A call keeps all inside,
pub call_lies_inside : (s : State) (style : Option ℕ) (snippet : Text) (appended : Bool)
    → IsRest s.input s.rest → ComesFrom s style snippet appended →
    LiesInside snippet appended s → LiesInside snippet appended (state_after s (next_call s))
call_lies_inside s style snippet appended r f h =
    let k = next_call s in
    let w = s.world in
    let n = length s.input in
    let from = length s.rest in
    let spans = call_inside s style snippet appended r f in
    let l : IsLaidOut snippet appended w (quote_offset style) n =
    subst (λ v. IsLaidOut snippet appended v (quote_offset style) n) (sym f.world_is)
    (laid_out s.input style snippet appended f.is_source) in
    let between : AreBetween from k.texts (length k.rest) = call-between s.mode s.next s.rest in
    let read = cond_both {A = Reading} w.has_source (read_lines s.line_start (texts_in w k.texts))
    (s.line_start, [])
    (λ x. AllByRecursion (IsLineInside snippet appended w.end) x.1
    × HasBegun w appended x.0 (length k.rest))
    (λ yes. read-inside snippet appended w (quote_offset style) n s.line_start from
    (length k.rest) k.texts l (IsRest-le r) h.line_start between)
    (λ no. (
      tt,
      begun-later snippet appended w (quote_offset style) n s.line_start from (length k.rest) l
          (IsRest-le (call_rest s.mode s.next s.rest))
          h.line_start,
    )) in
    record {
      errors = errors-inside (IsInside snippet) w s.errors k.faults h.errors spans.faults;
      arg_places = all-append (IsInside snippet) s.arg_places
          (closed_places w k.closes) h.arg_places
          (closed-inside (IsInside snippet) w k.closes spans.closes);
      line_spans = ended-inside snippet appended s (quote_offset style) n
          (s.line_spans ++ (lines_in w s.line_start k.texts).1) l h.line_start
          (all-append (IsLineInside snippet appended w.end) s.line_spans
          (lines_in w s.line_start k.texts).1 h.line_spans read.0);
      line_start = read.1;
    }

-- so does a walk,
walk_lies_inside : (s : State) (ks : List Call) (style : Option ℕ) (snippet : Text)
    (appended : Bool) → IsRest s.input s.rest →
    ComesFrom s style snippet appended → IsWalk s.mode s.next s.rest ks
    → LiesInside snippet appended s → LiesInside snippet appended (after_all s ks)
walk_lies_inside s [] style snippet appended r f w h = absurd w
walk_lies_inside s (k ∷ ks) style snippet appended r f w h =
    let one : LiesInside snippet appended (state_after s k) =
    subst (λ x. LiesInside snippet appended (state_after s x)) (sym w.0)
    (call_lies_inside s style snippet appended r f h) in
    by_piece k.piece w.1 one
    (λ v. walk_lies_inside (state_after s k) ks style snippet appended (rest_after_call s k r w.0)
    (record { is_source = f.is_source; world_is = f.world_is }) v one)
  where
    by_piece : (o : Option (Piece Span)) → GoesOn o ks (IsWalk s.mode k.next k.rest ks)
        → LiesInside snippet appended (state_after s k) →
        (IsWalk s.mode k.next k.rest ks → LiesInside snippet appended
        (after_all (state_after s k) ks))
        → LiesInside snippet appended (after_all (state_after s k) ks)
    by_piece None e one f = rw e one
    by_piece (Some p) v one f = f v

-- and with a fresh parser it begins.
pub fresh_lies_inside : (mode : Mode) (input : Text) (style : Option ℕ) (snippet : Option Text)
    (source : Text) (appended : Bool) (p : State) →
    p ≡ first_state mode input style snippet appended → snippet ≡ Some source
    → IsSource input style source appended → LiesInside source appended p
fresh_lies_inside mode input style snippet source appended p same e h =
    let l : IsLaidOut source appended (world input style snippet appended) (quote_offset style)
    (length input) =
    subst (λ o. IsLaidOut source appended (world input style o appended) (quote_offset style)
    (length input)) (sym e)
    (laid_out input style source appended h) in
    subst (λ s. LiesInside source appended s) (sym same)
    (record { errors = tt; arg_places = tt; line_spans = tt; line_start = inl l.first })

pub walked_lies_inside : (mode : Mode) (input : Text) (style : Option ℕ) (snippet : Option Text)
    (source : Text) (appended : Bool) (p new : State) →
    p ≡ first_state mode input style snippet appended → new ≡ after_all p (calls p)
    → snippet ≡ Some source → IsSource input style source appended →
    LiesInside source appended new
walked_lies_inside mode input style snippet source appended p new same f e h =
    let s = first_state mode input style snippet appended in
    rw (f, same) (walk_lies_inside s (calls s) style source appended (IsRest-self input)
    (from_source mode input style snippet source appended e h)
    (walk-IsWalk mode 0 input)
    (fresh_lies_inside mode input style snippet source appended s refl e h))

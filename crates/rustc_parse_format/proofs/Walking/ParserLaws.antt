-- The places of calls and walks: spans read back, are inside the snippet, and do not depend on the
-- world. Lines and places of placeholders are those of the input that was read.
use Rattle.std.proofs.Common.{◌≡◌, ◌≢◌, ℕ, ◌++◌, Bool, true, false, cond, List, [], ◌∷◌, length}
use Rattle.std.proofs.Common.{map, refl, ap, sym, subst, ◌∙◌, Option, Some, None}
use Rattle.std.proofs.Common.{append_assoc, suc}
use Rattle.std.specs.Prelude.{if◌then◌else◌, option_map}
use Rattle.std.specs.List.{AllByRecursion, filter}
use Rattle.std.proofs.lemmas.List.{append-nil, map-append}
use Rattle.std.proofs.lemmas.Bool.{cond_both}
use Rattle.std.proofs.lemmas.Option.{none-some}
use Rattle.std.specs.Prelude.{◌==◌}
use Rattle.rustc_parse_format.specs.Characters.{is_brace, is_no_brace, begins_with, after_first}
use Rattle.rustc_parse_format.specs.Characters.{after_white}
use Rattle.rustc_parse_format.specs.Characters.{Text}
use Rattle.rustc_parse_format.specs.Marks.{Span}
use Rattle.rustc_parse_format.specs.Types.{Mode, Piece, bare_piece}
use Rattle.rustc_parse_format.specs.Faults.{Fault, UnmatchedBrace, MissingBrace, FillBrace}
use Rattle.rustc_parse_format.specs.Faults.{Underscore}
use Rattle.rustc_parse_format.specs.Faults.{TooLarge, Unnamed, TextAfterColon, RawIdentifier}
use Rattle.rustc_parse_format.specs.Faults.{LateFlag}
use Rattle.rustc_parse_format.specs.Faults.{Message, add_errors, bare_fault, bare_message, is_front}
use Rattle.rustc_parse_format.specs.Faults.{map_fault, message}
use Rattle.rustc_parse_format.specs.Faults.{MissingColon, LateDebug, LateAlign, Grouping}
use Rattle.rustc_parse_format.specs.Faults.{DebugPrint, LateSign, FieldAccess, TupleIndex}
use Rattle.rustc_parse_format.specs.Values.{number_after_field}
use Rattle.rustc_parse_format.specs.Meaning.{argument}
use Rattle.rustc_parse_format.proofs.Readers.Recoveries.{recovery_rest}
use Rattle.rustc_parse_format.specs.Call.{Call, IsWalk, GoesOn, call, closed_call, unclosed_call}
use Rattle.rustc_parse_format.specs.Call.{placeholder, faults_of, pieces_of}
use Rattle.rustc_parse_format.specs.Lines.{IsLines, lines_in, place_list, texts_in, closed_in}
use Rattle.rustc_parse_format.specs.Lines.{closed_places, with_last}
use Rattle.rustc_parse_format.specs.Literal.{IsSource}
use Rattle.rustc_parse_format.specs.ReadBack.{AllSpans, IsInside, ReadsBack}
use Rattle.rustc_parse_format.specs.State.{State, AreLines, ComesFrom, state_after, after_all}
use Rattle.rustc_parse_format.specs.State.{calls}
use Rattle.rustc_parse_format.specs.State.{closed_of, first_state, next_call, reach_end, texts_of}
use Rattle.rustc_parse_format.specs.World.{World, Place, literal_world, literal_end, text_end}
use Rattle.rustc_parse_format.specs.World.{place_at, faults_in, piece_in, pieces_in, place_of}
use Rattle.rustc_parse_format.specs.World.{world}
use Rattle.rustc_parse_format.proofs.Grammar.Rests.{IsRest, IsRest-cons, IsRest-self, IsRest-trans}
use Rattle.rustc_parse_format.proofs.Grammar.Rests.{after_rest, after_first_rest}
use Rattle.rustc_parse_format.proofs.Grammar.Rests.{after_white_rest, cut_rest}
use Rattle.rustc_parse_format.specs.Placeholder.{cut}
use Rattle.rustc_parse_format.specs.Source.{is_source}
use Rattle.rustc_parse_format.proofs.Grammar.BarePieces.{bare-piece_in, bare-pieces_in}
use Rattle.rustc_parse_format.proofs.Walking.Progress.{walk-IsWalk}
use Rattle.rustc_parse_format.proofs.Lines.LineLaws.{lines_in-append, lines_in-source}
use Rattle.rustc_parse_format.proofs.Lines.LineLaws.{read_lines-cut}
use Rattle.rustc_parse_format.proofs.Spans.Calls.{rest-reads_back, rest-inside}
use Rattle.rustc_parse_format.proofs.Lines.StateLines.{not_last}

placeholder_rest : (mode : Mode) (c b : ℕ) (t : Text)
    → IsRest (b ∷ t) (placeholder mode c (b ∷ t) t).rest
unfolding placeholder
placeholder_rest mode c b t =
    let a = cut mode t in
    let r : Text = after_white a.rest in
    let white : IsRest (b ∷ t) r =
    IsRest-cons b (IsRest-trans (cut_rest mode t) (after_white_rest a.rest)) in
    cond_both {A = Call} (begins_with 125 r) (closed_call mode c (b ∷ t) a r)
    (unclosed_call mode c (b ∷ t) a r) (λ k. IsRest (b ∷ t) k.rest)
    (λ e. IsRest-trans white (after_first_rest r))
    (λ e. IsRest-trans white
    (recovery_rest mode (number_after_field c a.field) (b ∷ t) (argument c a) r))

-- A call leaves a rest of its text.
pub call_rest : (mode : Mode) (c : ℕ) (t : Text) → IsRest t (call mode c t).rest
unfolding call
call_rest mode c [] = IsRest-self []
call_rest mode c (b ∷ t) =
    cond_both {A = Call} (is_brace b) _ _ (λ k. IsRest (b ∷ t) k.rest)
    (λ e. cond_both {A = Call} (begins_with b t) _ _ (λ k. IsRest (b ∷ t) k.rest)
    (λ d. IsRest-cons b
    (IsRest-trans (after_first_rest t) (after_rest is_no_brace (after_first t))))
    (λ d. cond_both {A = Call} (b == 123) _ _ (λ k. IsRest (b ∷ t) k.rest)
    (λ o. placeholder_rest mode c b t) (λ o. IsRest-cons b (IsRest-self t))))
    (λ e. after_rest is_no_brace (b ∷ t))

-- A call in a source literal.
pub call_reads_back : (s : State) (style : Option ℕ) (snippet : Text) (appended : Bool)
    → IsRest s.input s.rest → ComesFrom s style snippet appended →
    AllSpans (λ m. ReadsBack s.input style snippet appended m (place_of s.world m)) (next_call s)
call_reads_back s style snippet appended r f =
    subst (λ (w : World). AllSpans (λ m. ReadsBack s.input style snippet appended m (place_of w m))
    (next_call s)) (sym f.world_is)
    (rest-reads_back s.mode s.next s.input s.rest style snippet appended r f.is_source)

pub call_inside : (s : State) (style : Option ℕ) (snippet : Text) (appended : Bool)
    → IsRest s.input s.rest → ComesFrom s style snippet appended →
    AllSpans (λ m. IsInside snippet (place_of s.world m)) (next_call s)
call_inside s style snippet appended r f =
    subst (λ (w : World). AllSpans (λ m. IsInside snippet (place_of w m)) (next_call s))
    (sym f.world_is)
    (rest-inside s.mode s.next s.input s.rest style snippet appended r f.is_source)

-- Faults without their spans do not depend on the world.
bare_fault-map : {A B : Type 0} (f : A → B) (x : Fault A) → bare_fault (map_fault f x)
    ≡ bare_fault x
bare_fault-map f (UnmatchedBrace s) = refl
bare_fault-map f (MissingBrace c s o) = refl
bare_fault-map f (FillBrace c s o) = refl
bare_fault-map f (Underscore s) = refl
bare_fault-map f (TooLarge ds s) = refl
bare_fault-map f (Unnamed s) = refl
bare_fault-map f (TextAfterColon s) = refl
bare_fault-map f (RawIdentifier s p) = refl
bare_fault-map f (LateFlag c s b) = refl
bare_fault-map f (MissingColon s) = refl
bare_fault-map f (LateDebug w s) = refl
bare_fault-map f (LateAlign c s) = refl
bare_fault-map f (Grouping s o) = refl
bare_fault-map f (DebugPrint s o) = refl
bare_fault-map f (LateSign s) = refl
bare_fault-map f (FieldAccess s) = refl
bare_fault-map f (TupleIndex s) = refl

bare_faults-in : (w : World) (fs : List (Fault Span)) → map bare_fault (faults_in w fs)
    ≡ map bare_fault fs
bare_faults-in w [] = refl
bare_faults-in w (f ∷ fs) = rw (bare_fault-map (place_of w) f, bare_faults-in w fs) refl

bare-report : {A : Type 0} (f : Fault A) → (bare_message (message f) ≡ message (bare_fault f))
    × (is_front (bare_fault f) ≡ is_front f)
unfolding message
bare-report (UnmatchedBrace s) = (refl, refl)
bare-report (MissingBrace c s o) = (refl, refl)
bare-report (FillBrace c s o) = (refl, refl)
bare-report (Underscore s) = (refl, refl)
bare-report (TooLarge ds s) = (refl, refl)
bare-report (Unnamed s) = (refl, refl)
bare-report (TextAfterColon s) = (refl, refl)
bare-report (RawIdentifier s p) = (refl, refl)
bare-report (LateFlag c s b) = (refl, refl)
bare-report (MissingColon s) = (refl, refl)
bare-report (LateDebug w s) = (refl, refl)
bare-report (LateAlign c s) = (refl, refl)
bare-report (Grouping s o) = (refl, refl)
bare-report (DebugPrint s o) = (refl, refl)
bare-report (LateSign s) = (refl, refl)
bare-report (FieldAccess s) = (refl, refl)
bare-report (TupleIndex s) = (refl, refl)

bare-added : {A : Type 0} (b : Bool) (es : List (Message A)) (m : Message A)
    → map bare_message (cond b (m ∷ es) (es ++ m ∷ []))
    ≡ cond b (bare_message m ∷ map bare_message es) (map bare_message es ++ bare_message m ∷ [])
bare-added true es m = refl
bare-added false es m = map-append bare_message es (m ∷ [])

bare_errors : {A : Type 0} (es : List (Message A)) (fs : List (Fault A))
    → map bare_message (add_errors es fs)
    ≡ add_errors (map bare_message es) (map bare_fault fs)
bare_errors es [] = refl
bare_errors es (f ∷ fs) =
    bare_errors (cond (is_front f) (message f ∷ es) (es ++ message f ∷ [])) fs
    ∙ ap (λ ms. add_errors ms (map bare_fault fs))
    (rw ((bare-report f).1, ← (bare-report f).0) (bare-added (is_front f) es (message f)))

pub after_errors : (s : State) (k : Call) → map bare_message (state_after s k).errors
    ≡ add_errors (map bare_message s.errors) (map bare_fault k.faults)
after_errors s k = bare_errors s.errors (faults_in s.world k.faults)
    ∙ ap (add_errors (map bare_message s.errors)) (bare_faults-in s.world k.faults)

-- How many go to the front does not either.
front-map : (g : Span → Place) (f : Fault Span) → is_front (map_fault g f) ≡ is_front f
front-map g f = sym (bare-report (map_fault g f)).1 ∙ ap is_front (bare_fault-map g f)
    ∙ (bare-report f).1

one_in_front : {A B : Type 0} (b : Bool) (x : A) (y : B) (xs : List A) (ys : List B)
    → length xs ≡ length ys →
    length (cond b (x ∷ xs) xs) ≡ length (cond b (y ∷ ys) ys)
one_in_front true x y xs ys e = ap suc e
one_in_front false x y xs ys e = e

pub count_of_fronts : (w : World) (fs : List (Fault Span))
    → length (filter is_front (faults_in w fs)) ≡ length (filter is_front fs)
count_of_fronts w [] = refl
count_of_fronts w (f ∷ fs) =
    rw (front-map (place_of w) f)
    (one_in_front (is_front f) (map_fault (place_of w) f) f (filter is_front (faults_in w fs))
    (filter is_front fs) (count_of_fronts w fs))

pub bare_given : (w : World) (o : Option (Piece Span))
    → option_map bare_piece (option_map (piece_in w) o)
    ≡ option_map bare_piece o
bare_given w None = refl
bare_given w (Some p) = ap Some (bare-piece_in w p)

add_errors-append : {A : Type 0} (es : List (Message A)) (fs gs : List (Fault A))
    → add_errors es (fs ++ gs) ≡ add_errors (add_errors es fs) gs
add_errors-append es [] gs = refl
add_errors-append es (f ∷ fs) gs =
    add_errors-append (cond (is_front f) (message f ∷ es) (es ++ message f ∷ [])) fs gs

pub after_all-errors : (s : State) (ks : List Call) → map bare_message (after_all s ks).errors
    ≡ add_errors (map bare_message s.errors) (map bare_fault (faults_of ks))
after_all-errors s [] = refl
after_all-errors s (k ∷ ks) =
    after_all-errors (state_after s k) ks
    ∙ (ap (λ es. add_errors es (map bare_fault (faults_of ks))) (after_errors s k)
    ∙ (sym (add_errors-append (map bare_message s.errors) (map bare_fault k.faults)
    (map bare_fault (faults_of ks)))
    ∙ ap (add_errors (map bare_message s.errors))
    (sym (map-append bare_fault k.faults (faults_of ks)))))

closed_in-source : (w : World) (o : Option Span) → w.has_source ≡ true
    → closed_in w o ≡ option_map (place_of w) o
unfolding place_at
closed_in-source w o h = rw h refl

-- The lines that a call before the end adds.
pub call_lines : (s : State) → s.rest ≢ [] → s.world.has_source ≡ true → (lines : List Place)
    × ((state_after s (next_call s)).line_spans ≡ s.line_spans ++ lines)
    × IsLines s.line_start (texts_in s.world (next_call s).texts) lines
    (state_after s (next_call s)).line_start
call_lines s some h =
    let k = next_call s in
    let r = lines_in s.world s.line_start k.texts in
    let e = lines_in-source s.world s.line_start k.texts h in (
      r.1,
      not_last s s.rest (s.line_spans ++ r.1) refl some,
      rw e (read_lines-cut s.line_start (texts_in s.world k.texts)),
    )

pub call_places : (s : State) → s.world.has_source ≡ true →
    (state_after s (next_call s)).arg_places ≡ s.arg_places
    ++ place_list (option_map (place_of s.world) (next_call s).closes)
call_places s h = ap (λ o. s.arg_places ++ place_list o)
    (closed_in-source s.world (next_call s).closes h)

-- Without a source literal there is neither a line nor a place,
after-sourceless : (s : State) (k : Call) → s.world.has_source ≡ false →
    ((state_after s k).arg_places ≡ s.arg_places) × ((state_after s k).line_spans ≡ s.line_spans)
after-sourceless s k h = rw (h, append-nil s.arg_places, append-nil s.line_spans) (refl, refl)

pub call_sourceless : (s : State) → s.world.has_source ≡ false →
    ((state_after s (next_call s)).arg_places ≡ s.arg_places)
    × ((state_after s (next_call s)).line_spans ≡ s.line_spans)
call_sourceless s h = after-sourceless s (next_call s) h

-- after all calls too.
pub after_all-sourceless : (s : State) (ks : List Call) → s.world.has_source ≡ false →
    ((after_all s ks).arg_places ≡ s.arg_places) × ((after_all s ks).line_spans ≡ s.line_spans)
after_all-sourceless s [] h = (refl, refl)
after_all-sourceless s (k ∷ ks) h =
    let one = after-sourceless s k h in
    let more = after_all-sourceless (state_after s k) ks h in (more.0 ∙ one.0, more.1 ∙ one.1)

-- The same of a walk.
pub after_all-places : (s : State) (ks : List Call) → (after_all s ks).arg_places
    ≡ s.arg_places ++ closed_of s.world ks
after_all-places s [] = sym (append-nil s.arg_places)
after_all-places s (k ∷ ks) =
    after_all-places (state_after s k) ks
    ∙ append_assoc s.arg_places (closed_places s.world k.closes) (closed_of s.world ks)

-- where the line starts, and the lines, after calls that were all before the end
abbrev walked : State → List Call → ℕ × List Place
walked s ks = lines_in s.world s.line_start (texts_of ks)

walked-next : (s : State) (k : Call) (ks : List Call) →
    walked s (k ∷ ks) ≡ (
      (walked (state_after s k) ks).0,
      (lines_in s.world s.line_start k.texts).1
          ++ (walked (state_after s k) ks).1,
    )
walked-next s k ks = lines_in-append s.world s.line_start k.texts (texts_of ks)

-- the lines with the last one, where the end was reached
abbrev ended : Bool → ℕ → ℕ → List Place → List Place
ended b start end ls = if b then with_last (start, end) ls else ls

-- The lines of a walk: all of it, and at the end the last line.
record Walked (s : State) (ks : List Call) (new : State) : Type 0 where
  start : new.line_start ≡ (walked s ks).0
  lines : new.line_spans ≡ ended (reach_end s.rest ks) new.line_start s.world.end
      (s.line_spans ++ (walked s ks).1)

only_call : (s : State) (k : Call) → walked s (k ∷ []) ≡ lines_in s.world s.line_start k.texts
only_call s k = ap (lines_in s.world s.line_start) (append-nil k.texts)

end_walked : (s : State) → s.rest ≡ [] → s.world.has_source ≡ true
    → Walked s (next_call s ∷ []) (state_after s (next_call s))
unfolding call
end_walked s e h =
    rw (e, h, append-nil s.line_spans)
    (record {
      start = refl;
      lines = ap (with_last (s.line_start, s.world.end)) (sym (append-nil s.line_spans));
    })

last_call : (s : State) (t : Text) → s.rest ≡ t → s.world.has_source ≡ true
    → (next_call s).piece ≡ None → Walked s (next_call s ∷ []) (state_after s (next_call s))
last_call s [] e h none = end_walked s e h
last_call s (b ∷ t) e h none =
    let k = next_call s in
    let some : s.rest ≢ [] = λ f. absurd (some_text b t (sym e ∙ f)) in
    record {
      start = ap (λ (r : ℕ × List Place). r.0) (sym (only_call s k));
      lines = not_last s s.rest (s.line_spans
          ++ (lines_in s.world s.line_start k.texts).1) refl some
          ∙ (ap (λ (r : ℕ × List Place). s.line_spans ++ r.1) (sym (only_call s k))
          ∙ ap (λ (u : Text). ended (reach_end u (k ∷ [])) (state_after s k).line_start s.world.end
          (s.line_spans ++ (walked s (k ∷ [])).1)) (sym e));
    }
  where
    some_text : (c : ℕ) (u : Text) → c ∷ u ≡ [] → ⊥
    some_text c u e = cc e

-- a call with a piece, and the calls after it
more_calls : (s new : State) (k : Call) (ks : List Call) → (state_after s k).line_spans
    ≡ s.line_spans ++ (lines_in s.world s.line_start k.texts).1 →
    IsWalk s.mode k.next k.rest ks → Walked (state_after s k) ks new → Walked s (k ∷ ks) new
more_calls s new k [] e v w = absurd v
more_calls s new k (l ∷ ks) e v w =
    let first = (lines_in s.world s.line_start k.texts).1 in
    let later = (walked (state_after s k) (l ∷ ks)).1 in
    let all : (state_after s k).line_spans ++ later ≡ s.line_spans ++ (walked s (k ∷ l ∷ ks)).1 =
    ap (λ ls. ls ++ later) e
    ∙ (append_assoc s.line_spans first later
    ∙ ap (λ (r : ℕ × List Place). s.line_spans ++ r.1) (sym (walked-next s k (l ∷ ks)))) in
    record {
      start = w.start ∙ ap (λ (r : ℕ × List Place). r.0) (sym (walked-next s k (l ∷ ks)));
      lines = w.lines ∙ ap (ended (reach_end k.rest (l ∷ ks)) new.line_start s.world.end) all;
    }

piece_some : (s : State) (p : Piece Span) → (next_call s).piece ≡ Some p → s.rest ≢ []
unfolding call
piece_some s p e f = let none : (next_call s).piece ≡ None = rw f refl in
    absurd (none-some p (sym none ∙ e))

walk_lines : (s : State) (ks : List Call) → s.world.has_source ≡ true
    → IsWalk s.mode s.next s.rest ks → Walked s ks (after_all s ks)
walk_lines s [] h w = absurd w
walk_lines s (k ∷ ks) h w = by_piece k.piece refl w.1 (λ v. walk_lines (state_after s k) ks h v)
  where
    by_piece : (o : Option (Piece Span)) → k.piece ≡ o
        → GoesOn o ks (IsWalk s.mode k.next k.rest ks) →
        (IsWalk s.mode k.next k.rest ks → Walked (state_after s k) ks
        (after_all (state_after s k) ks))
        → Walked s (k ∷ ks) (after_all (state_after s k) ks)
    by_piece None e g f =
        let same : k ≡ next_call s = w.0 in
        rw (g, same) (last_call s s.rest refl h (ap (λ (x : Call). x.piece) (sym same) ∙ e))
    by_piece (Some p) e g f =
        let some : s.rest ≢ [] = piece_some s p (ap (λ (x : Call). x.piece) (sym w.0) ∙ e) in
        more_calls s (after_all (state_after s k) ks) k ks
        (not_last s s.rest (s.line_spans ++ (lines_in s.world s.line_start k.texts).1) refl some) g
        (f g)

pub are_lines : (s : State) (ks : List Call) → s.world.has_source ≡ true
    → IsWalk s.mode s.next s.rest ks → AreLines s ks (after_all s ks)
are_lines s ks h w =
    let d = walk_lines s ks h w in
    let e = lines_in-source s.world s.line_start (texts_of ks) h in
    record {
      lines = (walked s ks).1;
      are_lines = rw (d.start, e) (read_lines-cut s.line_start (texts_in s.world (texts_of ks)));
      kept = d.lines;
    }

-- Spans of a walk in a source literal.
later : (P : Call → Type 0) (s : State) (k : Call) (ks : List Call)
    → GoesOn k.piece ks (IsWalk s.mode k.next k.rest ks) →
    (IsWalk s.mode k.next k.rest ks → AllByRecursion P ks) → AllByRecursion P ks
later P s k ks g f = by_piece k.piece g
  where
    by_piece : (o : Option (Piece Span)) → GoesOn o ks (IsWalk s.mode k.next k.rest ks)
        → AllByRecursion P ks
    by_piece None e = rw e tt
    by_piece (Some p) w = f w

pub rest_after_call : (s : State) (k : Call) → IsRest s.input s.rest → k ≡ next_call s
    → IsRest s.input k.rest
rest_after_call s k r e = rw e (IsRest-trans r (call_rest s.mode s.next s.rest))

pub walk_reads_back : (s : State) (ks : List Call) (style : Option ℕ) (snippet : Text)
    (appended : Bool) → IsRest s.input s.rest →
    ComesFrom s style snippet appended → IsWalk s.mode s.next s.rest ks →
    AllByRecursion (AllSpans (λ m. ReadsBack s.input style snippet appended m (place_of s.world m)))
    ks
walk_reads_back s [] style snippet appended r f w = absurd w
walk_reads_back s (k ∷ ks) style snippet appended r f w = (
  subst (AllSpans (λ m. ReadsBack s.input style snippet appended m (place_of s.world m))) (sym w.0)
      (call_reads_back s style snippet appended r f),
  later (λ x. AllSpans (λ m. ReadsBack s.input style snippet appended m (place_of s.world m)) x) s k
      ks w.1
      (λ v. walk_reads_back (state_after s k) ks style snippet appended (rest_after_call s k r w.0)
      (record { is_source = f.is_source; world_is = f.world_is }) v),
)

pub walk_inside : (s : State) (ks : List Call) (style : Option ℕ) (snippet : Text) (appended : Bool)
    → IsRest s.input s.rest →
    ComesFrom s style snippet appended → IsWalk s.mode s.next s.rest ks
    → AllByRecursion (AllSpans (λ m. IsInside snippet (place_of s.world m))) ks
walk_inside s [] style snippet appended r f w = absurd w
walk_inside s (k ∷ ks) style snippet appended r f w = (
  subst (AllSpans (λ m. IsInside snippet (place_of s.world m))) (sym w.0)
      (call_inside s style snippet appended r f),
  later (λ x. AllSpans (λ m. IsInside snippet (place_of s.world m)) x) s k ks w.1
      (λ v. walk_inside (state_after s k) ks style snippet appended (rest_after_call s k r w.0)
      (record { is_source = f.is_source; world_is = f.world_is }) v),
)

-- The end of each world.
literal-end : (input : Text) (style : Option ℕ) (snippet : Text) (b : Bool)
    → (literal_world input style snippet b).end ≡ literal_end style snippet
literal-end input None snippet b = refl
literal-end input (Some n) snippet b = refl

pub world-end : (input : Text) (style : Option ℕ) (snippet : Option Text) (b : Bool)
    → (world input style snippet b).end ≡ text_end input style snippet b
unfolding world
world-end input style None b = refl
world-end input style (Some snippet) b =
    by_test (is_source input style (Some snippet) b) _ _ (literal-end input style snippet b)
  where
    by_test : (t : Bool) (v w : World) {e : ℕ} → v.end ≡ e → (cond t v w).end
        ≡ (if t then e else w.end)
    by_test true v w h = h
    by_test false v w h = refl

-- The same of a fresh parser p, and of the parser new after its last call.
pub from_source : (mode : Mode) (input : Text) (style : Option ℕ) (snippet : Option Text)
    (source : Text) (appended : Bool) → snippet ≡ Some source →
    IsSource input style source appended
    → ComesFrom (first_state mode input style snippet appended) style source appended
from_source mode input style snippet source appended e h =
    record { is_source = h; world_is = ap (λ (o : Option Text). world input style o appended) e }

pub fresh_reads_back : (mode : Mode) (input : Text) (style : Option ℕ) (snippet : Option Text)
    (source : Text) (appended : Bool) → snippet ≡ Some source →
    IsSource input style source appended → (let s = first_state mode input style snippet appended in
    AllByRecursion (AllSpans (λ m. ReadsBack input style source appended m (place_of s.world m)))
    (calls s))
fresh_reads_back mode input style snippet source appended e h =
    let s = first_state mode input style snippet appended in
    walk_reads_back s (calls s) style source appended (IsRest-self input)
    (from_source mode input style snippet source appended e h) (walk-IsWalk mode 0 input)

pub fresh_inside : (mode : Mode) (input : Text) (style : Option ℕ) (snippet : Option Text)
    (source : Text) (appended : Bool) → snippet ≡ Some source →
    IsSource input style source appended → (let s = first_state mode input style snippet appended in
    AllByRecursion (AllSpans (λ m. IsInside source (place_of s.world m))) (calls s))
fresh_inside mode input style snippet source appended e h =
    let s = first_state mode input style snippet appended in
    walk_inside s (calls s) style source appended (IsRest-self input)
    (from_source mode input style snippet source appended e h) (walk-IsWalk mode 0 input)

pub fresh_worlds : (s p new : State) (ps : List (Piece Place)) → p ≡ s
    → ps ≡ pieces_in p.world (pieces_of (calls p)) → new ≡ after_all p (calls p) →
    s.errors ≡ [] → (map bare_piece ps ≡ map bare_piece (pieces_of (calls s)))
    × (map bare_message new.errors ≡ add_errors [] (map bare_fault (faults_of (calls s))))
fresh_worlds s p new ps e f g none = (
  subst (λ (x : State). map bare_piece ps ≡ map bare_piece (pieces_of (calls x))) e
      (ap (map bare_piece) f ∙ bare-pieces_in p.world (pieces_of (calls p))),
  subst (λ (x : State). map bare_message new.errors
      ≡ add_errors (map bare_message x.errors) (map bare_fault (faults_of (calls x)))) e
      (ap (λ (x : State). map bare_message x.errors) g ∙ after_all-errors p (calls p))
      ∙ ap (λ es. add_errors (map bare_message es) (map bare_fault (faults_of (calls s)))) none,
)

pub fresh_lines : (s p new : State) → p ≡ s → new ≡ after_all p (calls p)
    → s.world.has_source ≡ true → AreLines s (calls s) new
fresh_lines s p new e f h = rw (f, e) (are_lines s (calls s) h (walk-IsWalk s.mode s.next s.rest))

pub fresh_places : (s p new : State) → p ≡ s → new ≡ after_all p (calls p) → s.arg_places ≡ []
    → new.arg_places ≡ closed_of s.world (calls s)
fresh_places s p new e f none =
    rw (f, e) (after_all-places s (calls s) ∙ ap (λ ps. ps ++ closed_of s.world (calls s)) none)

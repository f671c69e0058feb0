-- The run of text at the start of a source literal, read one character at a time.
use Prim.Native.Char.{code}
use Rattle.std.proofs.Common.{◌≡◌, ◌≢◌, ℕ, ◌++◌, true, cond, List, [], ◌∷◌, length, Option, Some}
use Rattle.std.proofs.Common.{unwrap_or, sym, ap, subst, ◌∙◌, arith, length-append}
use Rattle.std.proofs.lemmas.List.{append-nil}
use Rattle.std.proofs.lemmas.Option.{none-some}
use Rattle.std.proofs.lemmas.Bool.{ne_eqb}
use Rattle.rustc_parse_format.specs.Characters.{Text, front, rest_after, is_no_brace, first}
use Rattle.rustc_parse_format.specs.World.{Place, place_at}
use Rattle.rustc_parse_format.specs.Marks.{run_texts}
use Rattle.rustc_parse_format.specs.Lines.{PlacedCharacter, read_lines}
use Rattle.rustc_parse_format.specs.CallStates.{CallState, read_texts, read_run, noted_next}
use Rattle.rustc_parse_format.specs.CallStates.{passed_next}
use Rattle.rustc_parse_format.specs.CallStates.{IsInOneLine}
use Rattle.rustc_parse_format.proofs.Grammar.Fronts.{front-rest_after}
use Rattle.rustc_parse_format.proofs.Lines.LineLaws.{Reading, lines_in-source, read_texts-append}
use Rattle.rustc_parse_format.proofs.Lines.LineLaws.{note-newline, read_lines-step}

-- read up to the rest r, with these characters as text
abbrev pub read_up_to : CallState → List (ℕ × ℕ) → Text → CallState
read_up_to s cs r = record (read_texts s cs) { rest = r }

-- A character that is no brace is noted, and then the run goes on after it.
step_here : (s : CallState) (c : ℕ) (t : Text) → s.world.has_source ≡ true → is_no_brace c ≡ true →
    read_run (record s { rest = c ∷ t }) ≡ read_run (passed_next c (record s { rest = c ∷ t }))
step_here s c t source passes =
    let here : CallState = record s { rest = c ∷ t } in
    let u : Text = front is_no_brace t in
    let r : Text = rest_after is_no_brace t in
    let first : ℕ × ℕ = (c, length (c ∷ t)) in
    ap (λ b. read_up_to here (run_texts (cond b (c ∷ u) []) (cond b r (c ∷ t))) (cond b r (c ∷ t)))
    passes
    ∙ (ap (λ (v : Text). read_up_to here ((c, length (c ∷ v)) ∷ run_texts u r) r)
    (sym (front-rest_after is_no_brace t))
    ∙ (ap (λ (m : CallState). record m { rest = r }) (read_texts-append here (first ∷ [])
    (run_texts u r))
    ∙ ap (λ (q : Reading). read_up_to (record here { line_start = q.0; lines = s.lines ++ q.1 })
    (run_texts u r) r)
    (lines_in-source s.world s.line_start (first ∷ []) source)))

step_at : (s : CallState) (c : ℕ) (t : Text) → s.world.has_source ≡ true → first t ≡ Some c
    → is_no_brace c ≡ true →
    read_run (record s { rest = t }) ≡ read_run (passed_next c (record s { rest = t }))
step_at s c [] source e passes = absurd (none-some c e)
step_at s c (d ∷ t) source e passes =
    subst (λ d. read_run (record s { rest = d ∷ t })
    ≡ read_run (passed_next c (record s { rest = d ∷ t })))
    (ap (λ (o : Option ℕ). unwrap_or o c) (sym e)) (step_here s c t source passes)

pub run-step : (s : CallState) (c : ℕ) → s.world.has_source ≡ true → first s.rest ≡ Some c
    → is_no_brace c ≡ true →
    read_run (passed_next c s) ≡ read_run s
run-step s c source e passes = sym (step_at s c s.rest source e passes)

-- A run in one line begins with no newline, and goes on in that line after any other character.
noted_line : (s : CallState) (c : ℕ) → c ≢ code "\n" → (noted_next c s).lines ≡ s.lines
noted_line s c other =
    let x : PlacedCharacter = (c, place_at s.world (length s.rest)) in
    ap (λ (q : Reading). s.lines ++ q.1)
    (read_lines-step s.line_start x [] (ne_eqb c (code "\n") other)) ∙ append-nil s.lines

longer : (old line : List Place) (more : List Place) → (old ++ line) ++ more ≡ old → length line ≡ 0
longer old line more e = omega (
  arith,
  ap length e,
  length-append (old ++ line) more,
  length-append old line,
)

pub one_line-no_newline : (s : CallState) (c : ℕ) → s.world.has_source ≡ true
    → first s.rest ≡ Some c → is_no_brace c ≡ true →
    IsInOneLine s → c ≢ code "\n"
one_line-no_newline s c source e passes one is =
    let line : List Place =
    (read_lines s.line_start ((c, place_at s.world (length s.rest)) ∷ [])).1 in
    let ended : line ≡ (s.line_start, (place_at s.world (length s.rest)).0) ∷ [] =
    ap (λ (q : Reading). q.1) (note-newline s.world s.line_start c (length s.rest) is) in
    let none : length line
    ≡ 0 = longer s.lines line _ (ap (λ (m : CallState). m.lines) (run-step s c source e passes)
    ∙ one) in
    absurd (omega (arith, none, ap length ended))

pub one_line-step : (s : CallState) (c : ℕ) → s.world.has_source ≡ true → first s.rest ≡ Some c
    → is_no_brace c ≡ true →
    IsInOneLine s → IsInOneLine (passed_next c s)
one_line-step s c source e passes one =
    ap (λ (m : CallState). m.lines) (run-step s c source e passes)
    ∙ (one ∙ sym (noted_line s c (one_line-no_newline s c source e passes one)))

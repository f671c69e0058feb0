-- If the next character is past the indent of the line, reading the run of text up to the next
-- newline changes only the rest.
use Prim.Native.Char.{code}
use Rattle.std.proofs.Common.{◌≡◌, ℕ, ◌<◌, ◌++◌, ◌==◌, Bool, true, false, not, cond, [], ◌∷◌}
use Rattle.std.proofs.Common.{length, Option, Some, unwrap_or, refl, sym, ap, subst, ◌∙◌, arith}
use Rattle.std.proofs.lemmas.List.{append-nil}
use Rattle.std.proofs.lemmas.Option.{none-some}
use Rattle.std.specs.Char.{is_whitespace}
use Rattle.std.proofs.lemmas.Bool.{cond-true, and_from, and_parts}
use Rattle.rustc_parse_format.specs.Characters.{Text, front, rest_after, after_first, is_no_brace}
use Rattle.rustc_parse_format.specs.Characters.{is_in_line, first}
use Rattle.rustc_parse_format.specs.World.{World, StartAfter, place_at}
use Rattle.rustc_parse_format.specs.Marks.{run_texts}
use Rattle.rustc_parse_format.specs.Lines.{texts_in}
use Rattle.rustc_parse_format.specs.CallStates.{CallState, read_texts, read_run, IsInOneLine}
use Rattle.rustc_parse_format.specs.CallStates.{IsPastIndent}
use Rattle.rustc_parse_format.proofs.Grammar.Fronts.{
  front-rest_after,
  list_all-front,
  list_all-weaker,
}
use Rattle.rustc_parse_format.proofs.Readers.Steps.{rest_after-le}
use Rattle.rustc_parse_format.proofs.Lines.LineLaws.{Reading, has_no_indent, indent-no}
use Rattle.rustc_parse_format.proofs.Lines.LineLaws.{lines_in-source, marked-append}
use Rattle.rustc_parse_format.proofs.Lines.LineLaws.{read_texts-append, read_lines-skip}
use Rattle.rustc_parse_format.proofs.Spans.PlaceOrder.{no_newline, noted-no_newline}
use Rattle.rustc_parse_format.proofs.Spans.PlaceOrder.{rest_after-no_indent}
use Rattle.rustc_parse_format.proofs.Readers.RunLines.{read_up_to}

-- The longest front of a class begins with the longest front of a class inside it.
front-inside : (p q : ℕ → Bool) (t : Text) → ((c : ℕ) → q c ≡ true → p c ≡ true)
    → front p t ≡ front q t ++ front p (rest_after q t)
front-inside p q [] f = refl
front-inside p q (c ∷ t) f = by_test (q c) (f c) (front-inside p q t f)
  where
    by_test : (b : Bool) → (b ≡ true → p c ≡ true) → front p t
        ≡ front q t ++ front p (rest_after q t) →
        front p (c ∷ t) ≡ cond b (c ∷ front q t) [] ++ front p (cond b (rest_after q t) (c ∷ t))
    by_test true passes e = cond-true (p c) _ _ (passes refl) ∙ ap (λ (u : Text). c ∷ u) e
    by_test false passes e = refl

rest_after-inside : (p q : ℕ → Bool) (t : Text) → ((c : ℕ) → q c ≡ true → p c ≡ true)
    → rest_after p t ≡ rest_after p (rest_after q t)
rest_after-inside p q [] f = refl
rest_after-inside p q (c ∷ t) f = by_test (q c) (f c) (rest_after-inside p q t f)
  where
    by_test : (b : Bool) → (b ≡ true → p c ≡ true) → rest_after p t ≡ rest_after p (rest_after q t)
        → rest_after p (c ∷ t) ≡ rest_after p (cond b (rest_after q t) (c ∷ t))
    by_test true passes e = cond-true (p c) _ _ (passes refl) ∙ e
    by_test false passes e = refl

in_line-no_brace : (c : ℕ) → is_in_line c ≡ true → is_no_brace c ≡ true
in_line-no_brace c e = (and_parts (is_no_brace c) _ e).0

in_line-no_newline : (t : Text) → no_newline (front is_in_line t) ≡ true
in_line-no_newline t =
    list_all-weaker is_in_line (λ c. not (c == code "\n")) (front is_in_line t)
    (λ c e. (and_parts (is_no_brace c) _ e).1)
    (list_all-front is_in_line t)

-- Characters of a run in front of a text r that are no newlines, and of which the first is past the
-- indent, change nothing.
past-no_indent : (w : World) (start c : ℕ) (t u r : Text) → first t ≡ Some c
    → IsPastIndent c start w t → t ≡ u ++ r →
    has_no_indent start (texts_in w (run_texts u r)) ≡ true
past-no_indent w start c t [] r e past split = refl
past-no_indent w start c t (d ∷ u) r e past split =
    let same : d ≡ c = ap (λ (o : Option ℕ). unwrap_or o c) (ap first (sym split) ∙ e) in
    let k = length (d ∷ (u ++ r)) in
    let size : length t ≡ k = ap length split in
    let left : after_first t ≡ u ++ r = ap after_first split in
    and_from _ _
    (ap not (indent-no w start d k
    (λ white same_start. none w start k same_start
    (subst (λ n. start < (place_at w n).0) size
    (past.0 (ap is_whitespace (sym same) ∙ white))))))
    (rest_after-no_indent w start u r
    (subst (λ (x : Text). StartAfter start w (length x)) left past.1))
  where
    none : (w : World) (start k : ℕ) → (place_at w k).0 ≡ start → start < (place_at w k).0 → ⊥
    none w start k same more = omega arith

read_nothing : (s : CallState) (u r : Text) → s.world.has_source ≡ true → no_newline u ≡ true →
    has_no_indent s.line_start (texts_in s.world (run_texts u r)) ≡ true
    → read_texts s (run_texts u r) ≡ s
read_nothing s u r source none past =
    ap (λ (q : Reading). record s { line_start = q.0; lines = s.lines ++ q.1 })
    (lines_in-source s.world s.line_start (run_texts u r) source
    ∙ read_lines-skip s.line_start (texts_in s.world (run_texts u r))
    (noted-no_newline s.world u r none) past)
    ∙ ap (λ ls. record s { lines = ls }) (append-nil s.lines)

pub run-skip : (s : CallState) (c : ℕ) → s.world.has_source ≡ true → first s.rest ≡ Some c
    → IsPastIndent c s.line_start s.world s.rest →
    read_run (record s { rest = rest_after is_in_line s.rest }) ≡ read_run s
run-skip s c source e past =
    let t : Text = s.rest in
    let u : Text = front is_in_line t in
    let v : Text = front is_no_brace (rest_after is_in_line t) in
    let r : Text = rest_after is_no_brace (rest_after is_in_line t) in
    let split : t ≡ u ++ (v ++ r) =
    front-rest_after is_in_line t
    ∙ ap (λ (x : Text). u ++ x) (front-rest_after is_no_brace (rest_after is_in_line t)) in
    let none : read_texts s (run_texts u (v ++ r)) ≡ s =
    read_nothing s u (v ++ r) source (in_line-no_newline t)
    (past-no_indent s.world s.line_start c t u (v ++ r) e past split) in
    sym (ap (λ (x : Text). read_up_to s (run_texts (front is_no_brace t) x) x)
    (rest_after-inside is_no_brace is_in_line t in_line-no_brace)
    ∙ (ap (λ (x : Text). read_up_to s (run_texts x r) r)
    (front-inside is_no_brace is_in_line t in_line-no_brace)
    ∙ (ap (λ cs. read_up_to s cs r) (marked-append u v r)
    ∙ (ap (λ (m : CallState). record m { rest = r })
    (read_texts-append s (run_texts u (v ++ r)) (run_texts v r))
    ∙ ap (λ (m : CallState). read_up_to m (run_texts v r) r) none))))

pub one_line-skip : (s : CallState) (c : ℕ) → s.world.has_source ≡ true → first s.rest ≡ Some c
    → IsPastIndent c s.line_start s.world s.rest →
    IsInOneLine s → IsInOneLine (record s { rest = rest_after is_in_line s.rest })
one_line-skip s c source e past one = ap (λ (m : CallState). m.lines) (run-skip s c source e past)
    ∙ one

-- Such a run that is not empty leaves less.
pub rest_after-shorter : (p : ℕ → Bool) (t : Text) (c : ℕ) → first t ≡ Some c → p c ≡ true
    → length (rest_after p t) < length t
rest_after-shorter p [] c e passes = absurd (none-some c e)
rest_after-shorter p (d ∷ t) c e passes =
    let same : d ≡ c = ap (λ (o : Option ℕ). unwrap_or o c) e in
    let left : rest_after p (d ∷ t) ≡ rest_after p t = cond-true (p d) _ _ (ap p same ∙ passes) in
    omega (arith, ap length left, rest_after-le p t)

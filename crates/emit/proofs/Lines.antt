-- The lines of a span, one after the other.
use Rattle.std.proofs.Common.{◌≡◌, ◌<◌, ◌+◌, ◌-◌, ℕ, zero, suc, List, ◌++◌, refl, sym, ap, ◌∙◌}
use Rattle.std.proofs.Common.{append_assoc, arith, chars, length}
use Rattle.std.specs.Prelude.{codes, false, true}
use Rattle.std.specs.List.{after_first}
use Rattle.serde_json.specs.Data.{no_items}
use Rattle.emit.specs.Json.{first_line, is_lf, line_items, line_json}
use Rattle.emit.specs.Texts.{array_text, json_text}
use Rattle.emit.proofs.Texts.{array-end, item-text}

-- A comma comes before the lines after another one.
later : (n from to : ℕ) (bs : List ℕ) → array_text true (line_items n from to bs)
    ≡ codes "," ++ array_text false (line_items n from to bs)
unfolding array_text
later zero from to bs = refl
later (suc n) from to bs = refl

-- The first line, if others come after it.
first : (n from to : ℕ) (bs : List ℕ) → 0 < n
    → array_text false (line_items n from to bs) ≡ json_text (line_json
    (first_line bs) from (length (chars (first_line bs)) + 1))
    ++ (codes "," ++ array_text false (line_items (n - 1) 1 to (after_first is_lf bs)))
first zero from to bs h = absurd (omega (arith, h))
first (suc n) from to bs h =
    let m : suc n - 1 ≡ n = omega arith in
    let line = json_text (line_json (first_line bs) from
    (length (chars (first_line bs)) + 1)) in
    rw m (item-text false _ (line_items n 1 to (after_first is_lf bs))
    ∙ ap (λ t. line ++ t) (later n 1 to (after_first is_lf bs)))

-- A line that is written, if others come after it.
pub line-step : {x : List ℕ} (n from to : ℕ) (bs line rest out a b : List ℕ) (k : ℕ) → 0 < n
    → line ≡ first_line bs → rest ≡ after_first is_lf bs → k ≡ length (chars line)
    → a ≡ out ++ json_text (line_json line from (k + 1)) → b ≡ a ++ codes ","
    → out ++ array_text false (line_items n from to bs) ≡ x
    → b ++ array_text false (line_items (n - 1) 1 to rest) ≡ x
line-step n from to bs line rest out a b k h e f g p q r = rw (q, p, g, f, e) (
    append_assoc _ (codes ",") _ ∙ (append_assoc out _ _
    ∙ (ap (λ t. out ++ t) (sym (first n from to bs h)) ∙ r)))

-- The last line.
pub line-end : {x : List ℕ} (n from to : ℕ) (bs line out a new : List ℕ) → n ≡ 0
    → line ≡ first_line bs → a ≡ out ++ json_text (line_json line from to)
    → new ≡ a ++ codes "]" → out ++ array_text false (line_items n from to bs) ≡ x → new ≡ x
line-end n from to bs line out a new z e p q r = rw (q, p, e) (
    append_assoc out _ (codes "]")
    ∙ (ap (λ t. out ++ (json_text (line_json (first_line bs) from to) ++ t))
    (sym (array-end true))
    ∙ (ap (λ t. out ++ t) (sym (item-text false _ no_items))
    ∙ (ap (λ k. out ++ array_text false (line_items k from to bs)) (sym z) ∙ r))))

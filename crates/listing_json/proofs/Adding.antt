-- Lines that are appended one after the other.
use Rattle.std.proofs.Common.{◌≡◌, ◌≤◌, ◌∙◌, ◌++◌, ◌∷◌, [], List, ap, append-nil, sym}
use Rattle.std.proofs.Common.{ℕ, append_assoc, flat_map, subst, option_and_then, codes}
use Rattle.std.proofs.lemmas.Grind.{flat_map-append}
use Rattle.std.specs.List.{AllByRecursion}
use Rattle.std.specs.Str.{IsUtf8}
use Rattle.json.specs.Json.{Json, if_last, max_depth, value}
use Rattle.json.specs.Lex.{tokens}
use Rattle.json.specs.Print.{print}
use Rattle.json.specs.Token.{Token}
use Rattle.json.specs.Tree.{depth, json_tokens}
use Rattle.json.proofs.Printed.Trees.{value-json_tokens}
use Rattle.listing_json.specs.Lines.{Adds, IsText, line}

are-texts : (xs ys : List Json) → AllByRecursion IsText xs → AllByRecursion IsText ys
    → AllByRecursion IsText (xs ++ ys)
are-texts [] ys h k = k
are-texts (x ∷ xs) ys h k = (h.0, are-texts xs ys h.1 k)

pub adds-none : (a : List ℕ) → Adds [] a a
adds-none a = record { lines = sym (append-nil a); are_texts = tt }

pub adds-then : (xs ys : List Json) (a b c : List ℕ) → Adds xs a b → Adds ys b c
    → Adds (xs ++ ys) a c
adds-then xs ys a b c h k = record {
  lines = k.lines ∙ (ap (λ l. l ++ flat_map line ys) h.lines
      ∙ (append_assoc a (flat_map line xs) (flat_map line ys)
      ∙ ap (λ l. a ++ l) (sym (flat_map-append line xs ys))));
  are_texts = are-texts xs ys h.are_texts k.are_texts;
}

-- The print of a value that nests no deeper than a reader goes is a JSON text.
text_of : (j : Json) → depth j ≤ max_depth → tokens (print (json_tokens j)) ≡ json_tokens j
    → IsUtf8 (print (json_tokens j)) → IsText j
text_of j low back utf8 = record {
  utf8 = utf8;
  reads_back = ap (option_and_then (λ p. if_last p.0 p.1))
      (ap (value max_depth) (back ∙ sym (append-nil (json_tokens j)))
      ∙ value-json_tokens j max_depth [] low);
}

-- The line of the tokens of a value is one line more.
pub adds-line : (j : Json) (ts : List Token) (before text new : List ℕ) → ts ≡ json_tokens j
    → depth j ≤ max_depth → text ≡ before ++ print ts → tokens (print ts) ≡ ts
    → IsUtf8 (print ts) → new ≡ text ++ codes "\n" → Adds (j ∷ []) before new
adds-line j ts before text new e low t back utf8 n = record {
  lines = n ∙ (ap (λ l. l ++ codes "\n") (t ∙ ap (λ us. before ++ print us) e)
      ∙ (append_assoc before (print (json_tokens j)) (codes "\n")
      ∙ ap (λ l. before ++ l) (sym (append-nil (line j)))));
  are_texts = (
    text_of j low (subst (λ us. tokens (print us) ≡ us) e back)
        (subst (λ us. IsUtf8 (print us)) e utf8),
    tt,
  );
}

-- A line that is begun with no token, and then has those of a value.
pub line-added : (j : Json) (a b new : List ℕ) (ss ts : List Token) → ss ≡ [] → b ≡ a
    → ts ≡ ss ++ json_tokens j → depth j ≤ max_depth
    → (ts ≡ json_tokens j → depth j ≤ max_depth → Adds (j ∷ []) b new) → Adds (j ∷ []) a new
line-added j a b new ss ts none same e low h = subst (λ l. Adds (j ∷ []) l new) same
    (h (e ∙ ap (λ l. l ++ json_tokens j) none) low)

-- Once the lines of these values are added, those of all are.
abbrev pub Owes : List Json → List Json → List ℕ → List ℕ → Type 0
Owes left all old now = (end : List ℕ) → Adds left now end → Adds all old end

pub owes-next : (done rest left all : List Json) (old now next : List ℕ) → left ≡ done ++ rest
    → Owes left all old now → Adds done now next → Owes rest all old next
owes-next done rest left all old now next e h k = λ end d.
    h end (subst (λ l. Adds l now end) (sym e) (adds-then done rest now next end k d))

pub owes-none : (left all : List Json) (old now : List ℕ) → left ≡ [] → Owes left all old now
    → Adds all old now
owes-none left all old now e h = h now (subst (λ l. Adds l now now) (sym e) (adds-none now))

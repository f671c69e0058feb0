-- Tokens and rows by their index.
use Rattle.std.proofs.Common.{◌≡◌, ◌<◌, ◌+◌, ℕ, List, Some, None, ap, sym, ◌∙◌, get_or}
use Rattle.std.proofs.Common.{length, map, drop}
use Rattle.std.specs.Prelude.{if◌then◌else◌, Bool, true, false, Option}
use Rattle.std.specs.Str.{bytes_eq}
use Rattle.std.proofs.lemmas.List.{drop_more}
use Rattle.std.proofs.Math.Seq.{drop-length}
use Rattle.format_calls.specs.declared.table.Row.{Row}
use Rattle.format_calls.specs.declared.table.Rule.{Rule}
use Rattle.format_calls.specs.Rows.{entry, rule_of}

rule-step : (rows : List Row) (i : ℕ) (d : Row) (w : List ℕ) (b : Bool) → i < length rows
    → bytes_eq (get_or rows i d).name.now w ≡ b → rule_of (map entry (drop i rows)) w
    ≡ (if b then Some (get_or rows i d).rule else rule_of (map entry (drop (i + 1) rows)) w)
rule-step rows i d w b h e =
    ap (λ t. rule_of (map entry t) w) (drop_more rows i d h)
    ∙ ap (λ t. if t then Some (get_or rows i d).rule
    else rule_of (map entry (drop (i + 1) rows)) w) e

-- A row that has the name, and one that has not.
pub rule-found : (rows : List Row) (i : ℕ) (d : Row) (w t : List ℕ) (o : Option Rule)
    → i < length rows → t ≡ (get_or rows i d).name.now → true ≡ bytes_eq t w
    → o ≡ rule_of (map entry (drop i rows)) w → Some (get_or rows i d).rule ≡ o
rule-found rows i d w t o h e f g =
    sym (g ∙ rule-step rows i d w true h (ap (λ s. bytes_eq s w) (sym e) ∙ sym f))

pub rule-later : (rows : List Row) (i : ℕ) (d : Row) (w t : List ℕ) (o : Option Rule)
    → i < length rows → t ≡ (get_or rows i d).name.now → false ≡ bytes_eq t w
    → o ≡ rule_of (map entry (drop i rows)) w → o ≡ rule_of (map entry (drop (i + 1) rows)) w
rule-later rows i d w t o h e f g =
    g ∙ rule-step rows i d w false h (ap (λ s. bytes_eq s w) (sym e) ∙ sym f)

pub rule-end : (rows : List Row) (w : List ℕ)
    → rule_of (map entry (drop (length rows) rows)) w ≡ None
rule-end rows w = ap (λ t. rule_of (map entry t) w) (drop-length rows)

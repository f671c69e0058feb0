-- The macros of a file of which the table says how their calls are read, by their index.
use Rattle.std.proofs.Common.{◌≡◌, ◌<◌, ◌+◌, ℕ, List, Some, None, ap, sym, ◌∙◌, get_or}
use Rattle.std.proofs.Common.{length, map, drop}
use Rattle.std.specs.Prelude.{if◌then◌else◌, Bool, true, false, Option}
use Rattle.std.specs.Str.{bytes_eq}
use Rattle.std.proofs.lemmas.List.{drop_more}
use Rattle.std.proofs.Math.Seq.{drop-length}
use Rattle.source_lint.specs.declared.macros.OwnMacro.{OwnMacro}
use Rattle.source_lint.specs.Macros.{newline_by, own}

newline-step : (ms : List OwnMacro) (i : ℕ) (d : OwnMacro) (w : List ℕ) (b : Bool)
    → i < length ms → bytes_eq (get_or ms i d).name.now w ≡ b
    → newline_by (map own (drop i ms)) w ≡ (if b then Some (get_or ms i d).appends_newline
    else newline_by (map own (drop (i + 1) ms)) w)
newline-step ms i d w b h e =
    ap (λ t. newline_by (map own t) w) (drop_more ms i d h)
    ∙ ap (λ t. if t then Some (get_or ms i d).appends_newline
    else newline_by (map own (drop (i + 1) ms)) w) e

-- A macro that has the name, and one that has not.
pub newline-found : (ms : List OwnMacro) (i : ℕ) (d : OwnMacro) (w t : List ℕ) (o : Option Bool)
    → i < length ms → t ≡ (get_or ms i d).name.now → true ≡ bytes_eq t w
    → o ≡ newline_by (map own (drop i ms)) w → Some (get_or ms i d).appends_newline ≡ o
newline-found ms i d w t o h e f g =
    sym (g ∙ newline-step ms i d w true h (ap (λ s. bytes_eq s w) (sym e) ∙ sym f))

pub newline-later : (ms : List OwnMacro) (i : ℕ) (d : OwnMacro) (w t : List ℕ) (o : Option Bool)
    → i < length ms → t ≡ (get_or ms i d).name.now → false ≡ bytes_eq t w
    → o ≡ newline_by (map own (drop i ms)) w → o ≡ newline_by (map own (drop (i + 1) ms)) w
newline-later ms i d w t o h e f g =
    g ∙ newline-step ms i d w false h (ap (λ s. bytes_eq s w) (sym e) ∙ sym f)

pub newline-end : (ms : List OwnMacro) (w : List ℕ)
    → newline_by (map own (drop (length ms) ms)) w ≡ None
newline-end ms w = ap (λ t. newline_by (map own t) w) (drop-length ms)

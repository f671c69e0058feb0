-- Names by their index.
use Rattle.std.proofs.Common.{◌≡◌, ◌<◌, ◌+◌, ◌||◌, ℕ, List, Bool, true, false, ap, sym, ◌∙◌}
use Rattle.std.proofs.Common.{drop, get_or, length, map}
use Rattle.std.specs.Str.{bytes_eq}
use denote.Ref.{Bor}
use Rattle.std.proofs.lemmas.List.{drop_more}
use Rattle.std.proofs.Math.Seq.{drop-length}
use Rattle.macro_owners.specs.Names.{has}

-- The names as a contract sees them.
abbrev pub texts : List (Bor (List ℕ)) → List (List ℕ)
texts ns = map (λ n. n.now) ns

name-step : (ns : List (Bor (List ℕ))) (i : ℕ) (d : Bor (List ℕ)) (w : List ℕ) (b : Bool)
    → i < length ns → bytes_eq w (get_or ns i d).now ≡ b
    → has (texts (drop i ns)) w ≡ (b || has (texts (drop (i + 1) ns)) w)
name-step ns i d w b h e =
    ap (λ t. has (texts t) w) (drop_more ns i d h)
    ∙ ap (λ t. t || has (texts (drop (i + 1) ns)) w) e

pub name-found : (ns : List (Bor (List ℕ))) (i : ℕ) (d : Bor (List ℕ)) (w t : List ℕ) (o : Bool)
    → i < length ns → t ≡ (get_or ns i d).now → true ≡ bytes_eq w t
    → o ≡ has (texts (drop i ns)) w → true ≡ o
name-found ns i d w t o h e f g =
    sym (g ∙ name-step ns i d w true h (ap (λ s. bytes_eq w s) (sym e) ∙ sym f))

pub name-later : (ns : List (Bor (List ℕ))) (i : ℕ) (d : Bor (List ℕ)) (w t : List ℕ) (o : Bool)
    → i < length ns → t ≡ (get_or ns i d).now → false ≡ bytes_eq w t
    → o ≡ has (texts (drop i ns)) w → o ≡ has (texts (drop (i + 1) ns)) w
name-later ns i d w t o h e f g =
    g ∙ name-step ns i d w false h (ap (λ s. bytes_eq w s) (sym e) ∙ sym f)

pub name-end : (ns : List (Bor (List ℕ))) (w : List ℕ)
    → has (texts (drop (length ns) ns)) w ≡ false
name-end ns w = ap (λ t. has (texts t) w) (drop-length ns)

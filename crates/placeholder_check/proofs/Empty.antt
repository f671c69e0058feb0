-- An empty input has no pieces.
use Rattle.std.proofs.Common.{◌≡◌, ℕ, List, [], ◌∷◌, refl, ap, ◌∙◌, chars, map}
use Rattle.std.proofs.lemmas.Str.{chars-nil}
use Rattle.rustc_parse_format.specs.Call.{call, pieces_of, walk}
use Rattle.rustc_parse_format.specs.State.{calls, fresh_state}
use Rattle.rustc_parse_format.specs.Types.{Mode, Piece}
use Rattle.rustc_parse_format.specs.World.{Place, World, pieces_in}

pieces-nil : (mode : Mode) (w : World) (start : ℕ)
    → pieces_in w (pieces_of (calls (fresh_state mode w [] start))) ≡ []
unfolding walk call
pieces-nil mode w start = refl

pub no_items : {A B : Type 0} (f : A → B) (xs : List A) → map f xs ≡ [] → xs ≡ []
no_items f [] e = refl
no_items f (x ∷ xs) e = absurd cc

pub no_pieces : {A : Type 0} (f : A → Piece Place) (ps : List A) (mode : Mode) (w : World)
    (start : ℕ) (bs : List ℕ) → bs ≡ []
    → map f ps ≡ pieces_in w (pieces_of (calls (fresh_state mode w (chars bs) start))) → ps ≡ []
no_pieces f ps mode w start bs e h = no_items f ps (h
    ∙ ap (λ t. pieces_in w (pieces_of (calls (fresh_state mode w t start)))) (ap chars e
    ∙ chars-nil)
    ∙ pieces-nil mode w start)

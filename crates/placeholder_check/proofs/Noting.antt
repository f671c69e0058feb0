-- How uses and names are collected.
use Rattle.std.proofs.Common.{◌≡◌, ℕ, ◌+◌, ◌<◌, ◌==◌, List, []}
use Rattle.std.proofs.Common.{◌∷◌, ◌++◌, length, map, take, get_or, refl}
use Rattle.std.proofs.Common.{sym, ap, ◌∙◌, append-nil}
use Rattle.std.specs.Bool.{Decides}
use Rattle.std.specs.List.{Contains}
use Rattle.std.proofs.lemmas.Bool.Decides.{Decides-by_or, Decides-eqb, Decides-like}
use Rattle.std.proofs.Math.Bool.{or_assoc}
use Rattle.std.proofs.Common.{append_assoc}
use Rattle.std.proofs.lemmas.Grind.{flat_map-append}
use Rattle.std.proofs.lemmas.List.{map-append, take_more}
use Rattle.std.proofs.lemmas.List.Folds.{list_any-append}
use Rattle.std.proofs.lemmas.List.Elements.{filter_map-append, Decides-contains}
use Rattle.rustc_parse_format.specs.declared.types.Piece.{Piece}
use Rattle.rustc_parse_format.specs.Views.{seen_piece}
use Rattle.placeholder_check.specs.declared.uses.Uses.{Uses}
use Rattle.placeholder_check.specs.Uses.{Use, ByIndex, ByName, piece_uses, used_name, used_names}
use Rattle.placeholder_check.specs.Uses.{uses}
use Rattle.placeholder_check.specs.Collection.{Adds, Holds, is_index, has_index, is_noted}

-- uses with others that are added
pub Holds-append : (us vs : List Use) (a b : Uses) → Holds us a → Adds vs a b → Holds (us ++ vs) b
Holds-append us vs a b h r = record {
  indices = λ n. r.indices n ∙ rw (h.indices n, ← list_any-append (is_index n) us vs) refl;
  names = rw (filter_map-append used_name us vs) (r.names (used_names us) h.names);
}

-- uses and then others
pub Adds-append : (us vs : List Use) (a b d : Uses) → Adds us a b → Adds vs b d
    → Adds (us ++ vs) a d
Adds-append us vs a b d r s = record {
  indices = λ n. s.indices n ∙ rw (r.indices n, list_any-append (is_index n) us vs)
      (or_assoc (is_noted a.indices n) (has_index us n) (has_index vs n));
  names = λ ts f. rw (filter_map-append used_name us vs, ← append_assoc)
      (s.names (ts ++ used_names us) (r.names ts f));
}

pub Adds-three : (u : Use) (vs ws : List Use) (a b d e : Uses) → Adds (u ∷ []) a b → Adds vs b d
    → Adds ws d e → Adds (u ∷ (vs ++ ws)) a e
Adds-three u vs ws a b d e r s t = Adds-append (u ∷ []) (vs ++ ws) a b e r
    (Adds-append vs ws b d e s t)

pub ruleset adding = (Adds-three)

-- the uses of one piece more
uses-next : (ps : List Piece) (i : ℕ) (p : Piece) → i < length ps →
    uses (map seen_piece (take (i + 1) ps)) ≡ uses (map seen_piece (take i ps))
    ++ piece_uses (seen_piece (get_or ps i p))
uses-next ps i p h = rw (
  take_more ps i p h,
  map-append seen_piece (take i ps) (get_or ps i p ∷ []),
  flat_map-append piece_uses (map seen_piece (take i ps)) (seen_piece (get_or ps i p) ∷ []),
)
    (ap (λ x. uses (map seen_piece (take i ps)) ++ x)
    (append-nil (piece_uses (seen_piece (get_or ps i p)))))

pub Holds-next : (ps : List Piece) (i : ℕ) (p : Piece) (a b : Uses) → i < length ps
    → p ≡ get_or ps i p →
    Holds (uses (map seen_piece (take i ps))) a → Adds (piece_uses (seen_piece p)) a b
    → Holds (uses (map seen_piece (take (i + 1) ps))) b
Holds-next ps i p a b h e held adds = rw (uses-next ps i p h, ← e) (Holds-append _ _ a b held adds)

-- whether a number is among uses
is_index-Decides : (n : ℕ) (u : Use) → Decides (is_index n u) (u ≡ ByIndex n)
is_index-Decides n (ByIndex m) = Decides-like (n == m) (λ e. ap ByIndex (sym e)) (λ e. cc)
    (Decides-eqb n m)
is_index-Decides n (ByName w) = (λ e. cc, λ e. cc)

pub has_index-Decides : (n : ℕ) (us : List Use) → Decides (has_index us n) (Contains us (ByIndex n))
has_index-Decides n us = Decides-contains us (ByIndex n) (has_index us n)
    (Decides-by_or (is_index n) (λ u. u ≡ ByIndex n) (λ us. has_index us n)
    (is_index-Decides n) refl (λ x xs. refl) us)

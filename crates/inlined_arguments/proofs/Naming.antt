-- A map from names to values.
use Rattle.std.proofs.Common.{◌≡◌, ℕ, Bool, true, false, cond, List, Option, Some, refl, sym, ap}
use Rattle.std.proofs.Common.{◌∙◌, chars, IsUtf8}
use Rattle.std.specs.Prelude.{option_map}
use Rattle.std.specs.BTreeMap.{BTreeMap, UpdatesBy}
use Rattle.std.specs.Cmp.Lexicographic.{slice_cmp}
use Rattle.std.specs.Ordering.{nat_cmp}
use Rattle.std.specs.Str.{bytes_eq, encode_utf8_all}
use denote.Ref.{Bor}
use Rattle.std.proofs.lemmas.Bool.Decides.{Decides-like, same_from_decides}
use Rattle.std.proofs.lemmas.Map.Text.{btree_map_updates_str}
use Rattle.std.proofs.lemmas.Slice.Eq.{bytes_eq-Decides}
use Rattle.std.proofs.lemmas.Str.{chars_from_encodes, encodes-chars}
use Rattle.rustc_parse_format.specs.Characters.{Text}
use Rattle.inlined_arguments.specs.declared.slots.Value.{Value as DeclaredValue}
use Rattle.inlined_arguments.specs.Views.{found_in, seen_value}

-- Texts are the same exactly if their bytes are.
same_text : (t : Text) (bs : List ℕ) → IsUtf8 bs → bytes_eq bs (encode_utf8_all t)
    ≡ bytes_eq t (chars bs)
same_text t bs u = same_from_decides {P = t ≡ chars bs} _ _
    (Decides-like (bytes_eq bs (encode_utf8_all t)) (λ e. chars_from_encodes t bs u (sym e))
    (λ e. sym (ap encode_utf8_all e ∙ encodes-chars bs u))
    (bytes_eq-Decides bs (encode_utf8_all t)))
    (bytes_eq-Decides t (chars bs))

seen-cond : (b : Bool) (v : DeclaredValue) (o : Option DeclaredValue)
    → option_map seen_value (cond b (Some v) o)
    ≡ cond b (Some (seen_value v)) (option_map seen_value o)
seen-cond true v o = refl
seen-cond false v o = refl

-- A map that has a name more.
pub found-inserted : (m n : BTreeMap (Bor (List ℕ)) DeclaredValue) (w : Bor (List ℕ))
    (v : DeclaredValue) → IsUtf8 w.now
    → UpdatesBy (λ x y. slice_cmp nat_cmp x.now y.now) (λ k. slice_cmp nat_cmp w.now k.now) m n
    (Some v) → (t : Text)
    → found_in n t ≡ cond (bytes_eq t (chars w.now)) (Some (seen_value v)) (found_in m t)
found-inserted m n w v u h t =
    ap (option_map seen_value) (btree_map_updates_str w.now m n (Some v) h (encode_utf8_all t))
    ∙ seen-cond (bytes_eq w.now (encode_utf8_all t)) v _
    ∙ ap (λ (b : Bool). cond b (Some (seen_value v)) (found_in m t)) (same_text t w.now u)

-- How the arguments that count are collected.
use Rattle.std.proofs.Common.{◌≡◌, ℕ, suc, ◌++◌, Bool, true, false, cond, ◌||◌, List, [], ◌∷◌}
use Rattle.std.proofs.Common.{Option, Some, None, refl, sym, ap, ◌∙◌, map, chars, IsUtf8}
use Rattle.std.specs.Prelude.{is_some, option_and_then, option_map}
use Rattle.std.specs.BTreeMap.{BTreeMap, UpdatesBy}
use Rattle.std.specs.Bool.{Decides}
use Rattle.std.specs.Cmp.Lexicographic.{slice_cmp}
use Rattle.std.specs.List.{list_any}
use Rattle.std.specs.Option.{option_map_or}
use Rattle.std.specs.Ordering.{nat_cmp}
use Rattle.std.specs.Str.{bytes_eq, encode_utf8_all}
use denote.Ref.{Bor}
use Rattle.std.proofs.lemmas.Bool.Decides.{Decides-like, same_from_decides}
use Rattle.std.proofs.lemmas.List.{map-append}
use Rattle.std.proofs.lemmas.List.Folds.{list_any-append}
use Rattle.std.proofs.lemmas.Map.Text.{btree_map_updates_str}
use Rattle.std.proofs.lemmas.Slice.Eq.{bytes_eq-Decides}
use Rattle.std.proofs.lemmas.Str.{chars_from_encodes, encodes-chars}
use Rattle.rustc_parse_format.specs.Characters.{Text}
use Rattle.placeholder_check.specs.Views.{text}
use Rattle.call_faults.specs.declared.arguments.Arguments.{Arguments}
use Rattle.call_faults.specs.declared.arguments.Entry.{Entry as DeclaredKept}
use Rattle.call_faults.specs.Arguments.{FormatArgument, Entry, first_of, has_name, index_of}
use Rattle.call_faults.specs.Views.{Holds, found_in, seen_given, seen_entry}
use Rattle.call_faults.proofs.Lists.{skipped}

-- texts are the same exactly if their bytes are
same_text : (t : Text) (bs : List ℕ) → IsUtf8 bs → bytes_eq bs (encode_utf8_all t)
    ≡ bytes_eq t (chars bs)
same_text t bs u = same_from_decides {P = t ≡ chars bs} _ _
    (Decides-like (bytes_eq bs (encode_utf8_all t)) (λ e. chars_from_encodes t bs u (sym e))
    (λ e. sym (ap encode_utf8_all e ∙ encodes-chars bs u))
    (bytes_eq-Decides bs (encode_utf8_all t)))
    (bytes_eq-Decides t (chars bs))

-- a map that has a name more
pub found-inserted : (m n : BTreeMap (Bor (List ℕ)) ℕ) (w : Bor (List ℕ)) (i : ℕ) → IsUtf8 w.now
    → UpdatesBy (λ x y. slice_cmp nat_cmp x.now y.now) (λ k. slice_cmp nat_cmp w.now k.now) m n
    (Some i) → (t : Text) → found_in n t ≡ cond (bytes_eq t (chars w.now)) (Some i) (found_in m t)
found-inserted m n w i u h t = btree_map_updates_str w.now m n (Some i) h (encode_utf8_all t)
    ∙ ap (λ (b : Bool). cond b (Some i) (found_in m t)) (same_text t w.now u)

-- an argument with another name changes nothing of a name
pub index-same : (ks : List Entry) (k : Entry) (w : Text) → has_name w k.argument ≡ false
    → index_of (ks ++ k ∷ []) w ≡ index_of ks w
index-same [] k w e = skipped (has_name w k.argument) k.index None e
index-same (l ∷ ks) k w e = ap (λ (o : Option ℕ). cond (has_name w l.argument) (Some l.index) o)
    (index-same ks k w e)

found-first : (b : Bool) (i : ℕ) (o p : Option ℕ) → cond b (Some i) o ≡ None → (o ≡ None → p ≡ p)
    → (b ≡ false) × (o ≡ None)
found-first true i o p e f = absurd cc
found-first false i o p e f = (refl, e)

pub index-new : (ks : List Entry) (k : Entry) (w : Text) → has_name w k.argument ≡ true
    → index_of ks w ≡ None → index_of (ks ++ k ∷ []) w ≡ Some k.index
index-new [] k w e f = rw e refl
index-new (l ∷ ks) k w e f =
    let both = found-first (has_name w l.argument) l.index (index_of ks w) None f (λ h. refl) in
    skipped (has_name w l.argument) l.index (index_of (ks ++ k ∷ []) w) both.0
    ∙ index-new ks k w e both.1

-- an argument more, with a name that is new
first-none : (ks : List Entry) (n : Option Text) (w : Text) → n ≡ Some w
    → option_and_then (index_of ks) n ≡ None → index_of ks w ≡ None
first-none ks n w e f = ap (option_and_then (index_of ks)) (sym e) ∙ f

is-named : (n : Option Text) (w t : Text) → n ≡ Some w
    → option_map_or (bytes_eq t) n false ≡ bytes_eq t w
is-named n w t e = ap (λ (m : Option Text). option_map_or (bytes_eq t) m false) e

not-named : (n : Option Text) (t : Text) → n ≡ None → option_map_or (bytes_eq t) n false ≡ false
not-named n t e = ap (λ (m : Option Text). option_map_or (bytes_eq t) m false) e

index-more : (ks : List Entry) (k : Entry) (w t : Text) (b : Bool) → bytes_eq t w ≡ b
    → k.argument.name ≡ Some w → index_of ks w ≡ None
    → cond b (Some k.index) (index_of ks t) ≡ index_of (ks ++ k ∷ []) t
index-more ks k w t true e n f =
    let s : t ≡ w = (bytes_eq-Decides t w).0 e in
    sym (index-new ks k t (is-named k.argument.name w t n ∙ e) (ap (index_of ks) s ∙ f))
index-more ks k w t false e n f = sym (index-same ks k t (is-named k.argument.name w t n ∙ e))

some-more : (ks : List Entry) (k : Entry) (b : Bool) → is_some k.argument.name ≡ b
    → list_any (λ l. is_some l.argument.name) (ks ++ k ∷ [])
    ≡ (list_any (λ l. is_some l.argument.name) ks || b)
some-more ks k b e = list_any-append (λ (l : Entry). is_some l.argument.name) ks (k ∷ [])
    ∙ ap (λ c. list_any (λ (l : Entry). is_some l.argument.name) ks || c)
    (one (is_some k.argument.name) b
    e)
  where
    one : (a b : Bool) → a ≡ b → (a || false) ≡ b
    one true b e = e
    one false b e = e

or-true : (b : Bool) → (b || true) ≡ true
or-true true = refl
or-true false = refl

or-false : (b : Bool) → (b || false) ≡ b
or-false true = refl
or-false false = refl

pub Holds-named : (ks : List Entry) (old new : Arguments) (k : DeclaredKept) (w : Bor (List ℕ))
    → Holds ks old → k.argument.name ≡ Some w → first_of ks (seen_given k.argument) ≡ None
    → new.list.items ≡ old.list.items ++ k ∷ []
    → ((t : Text) → found_in new.indices t
    ≡ cond (bytes_eq t (chars w.now)) (Some k.index) (found_in old.indices t))
    → new.has_names ≡ true → Holds (ks ++ seen_entry k ∷ []) new
Holds-named ks old new k w h n f l m b =
    let name : (seen_entry k).argument.name ≡ Some (chars w.now) = ap (option_map text) n in
    let none = first-none ks (seen_entry k).argument.name (chars w.now) name f in
    record {
      list = ap (map seen_entry) l ∙ map-append seen_entry old.list.items (k ∷ [])
          ∙ ap (λ (xs : List Entry). xs ++ seen_entry k ∷ []) h.list;
      names = λ t. m t ∙ ap (λ (o : Option ℕ). cond (bytes_eq t (chars w.now)) (Some k.index) o)
          (h.names t)
          ∙ index-more ks (seen_entry k) (chars w.now) t (bytes_eq t (chars w.now)) refl name none;
      has_names = b ∙ sym (some-more ks (seen_entry k) true (ap is_some name)
          ∙ or-true (list_any (λ (l : Entry). is_some l.argument.name) ks));
    }

pub Holds-unnamed : (ks : List Entry) (old new : Arguments) (k : DeclaredKept)
    → Holds ks old → k.argument.name ≡ None
    → new.list.items ≡ old.list.items ++ k ∷ [] → new.indices ≡ old.indices
    → new.has_names ≡ old.has_names → Holds (ks ++ seen_entry k ∷ []) new
Holds-unnamed ks old new k h n l m b =
    let name : (seen_entry k).argument.name ≡ None = ap (option_map text) n in
    record {
      list = ap (map seen_entry) l ∙ map-append seen_entry old.list.items (k ∷ [])
          ∙ ap (λ (xs : List Entry). xs ++ seen_entry k ∷ []) h.list;
      names = λ t. ap (λ (i : BTreeMap (Bor (List ℕ)) ℕ). found_in i t) m ∙ h.names t
          ∙ sym (index-same ks (seen_entry k) t (not-named (seen_entry k).argument.name t name));
      has_names = b ∙ h.has_names ∙ sym (some-more ks (seen_entry k) false (ap is_some name)
          ∙ or-false (list_any (λ (l : Entry). is_some l.argument.name) ks));
    }

-- How operands are collected.
use Rattle.std.proofs.Common.{◌≡◌, ℕ, suc, ◌+◌, ◌++◌, Bool, true, false, cond, List, [], ◌∷◌}
use Rattle.std.proofs.Common.{Option, Some, None, refl, sym, ap, ◌∙◌, map, chars, IsUtf8, arith}
use Rattle.std.proofs.Common.{append_assoc, append-nil, length}
use Rattle.std.specs.BTreeMap.{BTreeMap, UpdatesBy}
use Rattle.std.specs.Cmp.Lexicographic.{slice_cmp}
use Rattle.std.specs.Ordering.{nat_cmp}
use Rattle.std.specs.Str.{bytes_eq, encode_utf8_all}
use denote.Ref.{Bor}
use Rattle.std.proofs.lemmas.Bool.Decides.{Decides-like, same_from_decides}
use Rattle.std.proofs.lemmas.List.{map-append}
use Rattle.std.proofs.lemmas.Map.Text.{btree_map_updates_str}
use Rattle.std.proofs.lemmas.Slice.Eq.{bytes_eq-Decides}
use Rattle.std.proofs.lemmas.Str.{chars_from_encodes, encodes-chars}
use Rattle.rustc_parse_format.specs.Characters.{Text}
use Rattle.asm_faults.specs.declared.operands.Operand.{Operand as DeclaredOperand}
use Rattle.asm_faults.specs.declared.operands.Operands.{Operands}
use Rattle.asm_faults.specs.Operands.{Operand, Named, has_name, index_from, index_if, index_of}
use Rattle.asm_faults.specs.Operands.{indices_from, is_named, is_register}
use Rattle.asm_faults.specs.Views.{Holds, found_in, seen_operand}

-- texts are the same exactly if their bytes are
same_text : (t : Text) (bs : List ℕ) → IsUtf8 bs → bytes_eq bs (encode_utf8_all t)
    ≡ bytes_eq t (chars bs)
same_text t bs u = same_from_decides {P = t ≡ chars bs} _ _
    (Decides-like (bytes_eq bs (encode_utf8_all t)) (λ e. chars_from_encodes t bs u (sym e))
    (λ e. sym (ap encode_utf8_all e ∙ encodes-chars bs u))
    (bytes_eq-Decides bs (encode_utf8_all t)))
    (bytes_eq-Decides t (chars bs))

-- a map that has a name more
pub found-inserted : (m n : BTreeMap (Bor (List ℕ)) ℕ) (w : Bor (List ℕ)) (i : ℕ) → IsUtf8 w.now
    → UpdatesBy (λ x y. slice_cmp nat_cmp x.now y.now) (λ k. slice_cmp nat_cmp w.now k.now) m n
    (Some i) → (t : Text) → found_in n t ≡ cond (bytes_eq t (chars w.now)) (Some i) (found_in m t)
found-inserted m n w i u h t = btree_map_updates_str w.now m n (Some i) h (encode_utf8_all t)
    ∙ ap (λ (b : Bool). cond b (Some i) (found_in m t)) (same_text t w.now u)

skipped : (b : Bool) (i : ℕ) (o : Option ℕ) → b ≡ false → cond b (Some i) o ≡ o
skipped true i o e = absurd cc
skipped false i o e = refl

-- an operand with another name changes nothing of a name
index-same : (i : ℕ) (ss : List Operand) (s : Operand) (w : Text) → has_name w s ≡ false
    → index_from i (ss ++ s ∷ []) w ≡ index_from i ss w
index-same i [] s w e = skipped (has_name w s) i None e
index-same i (t ∷ ss) s w e = ap (λ (o : Option ℕ). cond (has_name w t) (Some i) o)
    (index-same (suc i) ss s w e)

found-first : (b : Bool) (i : ℕ) (o : Option ℕ) → cond b (Some i) o ≡ None
    → (b ≡ false) × (o ≡ None)
found-first true i o e = absurd cc
found-first false i o e = (refl, e)

index-new : (i : ℕ) (ss : List Operand) (s : Operand) (w : Text) → has_name w s ≡ true
    → index_from i ss w ≡ None → index_from i (ss ++ s ∷ []) w ≡ Some (i + length ss)
index-new i [] s w e f = rw e (ap Some (let h : i ≡ i + 0 = omega arith in h))
index-new i (t ∷ ss) s w e f =
    let both = found-first (has_name w t) i (index_from (suc i) ss w) f in
    skipped (has_name w t) i (index_from (suc i) (ss ++ s ∷ []) w) both.0
    ∙ index-new (suc i) ss s w e both.1
    ∙ ap Some (let h : suc i + length ss ≡ i + suc (length ss) = omega arith in h)

index-more : (ss : List Operand) (n : ℕ) (w t : Text) (b : Bool) → bytes_eq t w ≡ b
    → n ≡ length ss → index_of ss w ≡ None
    → cond b (Some n) (index_of ss t) ≡ index_of (ss ++ Named w ∷ []) t
index-more ss n w t true e k f =
    let s : t ≡ w = (bytes_eq-Decides t w).0 e in
    ap Some (let h : n ≡ 0 + length ss = omega (arith, k) in h)
    ∙ sym (index-new 0 ss (Named w) t e (ap (index_of ss) s ∙ f))
index-more ss n w t false e k f = sym (index-same 0 ss (Named w) t e)

indices-more : (p : Operand → Bool) (i n : ℕ) (ss : List Operand) (s : Operand) → n ≡ i + length ss
    → indices_from p i (ss ++ s ∷ []) ≡ indices_from p i ss ++ index_if (p s) n
indices-more p i n [] s e = append-nil (index_if (p s) i)
    ∙ ap (index_if (p s)) (let h : i ≡ n = omega (arith, e) in h)
indices-more p i n (t ∷ ss) s e =
    ap (λ (is : List ℕ). index_if (p t) i ++ is)
    (indices-more p (suc i) n ss s (let h : n ≡ suc i + length ss = omega (arith, e) in h))
    ∙ sym (append_assoc (index_if (p t) i) (indices_from p (suc i) ss) (index_if (p s) n))

at_start : (n : ℕ) (ss : List Operand) → n ≡ length ss → n ≡ 0 + length ss
at_start n ss k = let h : n ≡ 0 + length ss = omega (arith, k) in h

slots-more : (ss : List Operand) (old new : Operands) (s : DeclaredOperand) → Holds ss old
    → new.slots.items ≡ old.slots.items ++ s ∷ []
    → map seen_operand new.slots.items ≡ ss ++ seen_operand s ∷ []
slots-more ss old new s h l = ap (map seen_operand) l
    ∙ map-append seen_operand old.slots.items (s ∷ [])
    ∙ ap (λ (xs : List Operand). xs ++ seen_operand s ∷ []) h.slots

-- an operand more, with a name that is new
pub Holds-named : (ss : List Operand) (old new : Operands) (s : DeclaredOperand) (w : Bor (List ℕ))
    (n : ℕ) → Holds ss old → seen_operand s ≡ Named (chars w.now) → n ≡ length ss
    → index_of ss (chars w.now) ≡ None → new.slots.items ≡ old.slots.items ++ s ∷ []
    → ((t : Text) → found_in new.names t
    ≡ cond (bytes_eq t (chars w.now)) (Some n) (found_in old.names t))
    → new.named_operands.items ≡ old.named_operands.items ++ n ∷ []
    → new.registers.items ≡ old.registers.items
    → Holds (ss ++ Named (chars w.now) ∷ []) new
Holds-named ss old new s w n h e k f l m p r = record {
  slots = slots-more ss old new s h l ∙ ap (λ (o : Operand). ss ++ o ∷ []) e;
  names = λ t. m t ∙ ap (λ (o : Option ℕ). cond (bytes_eq t (chars w.now)) (Some n) o) (h.names t)
      ∙ index-more ss n (chars w.now) t (bytes_eq t (chars w.now)) refl k f;
  named = p ∙ ap (λ (is : List ℕ). is ++ n ∷ []) h.named
      ∙ sym (indices-more is_named 0 n ss (Named (chars w.now)) (at_start n ss k));
  registers = r ∙ h.registers ∙ sym (append-nil (indices_from is_register 0 ss))
      ∙ sym (indices-more is_register 0 n ss (Named (chars w.now)) (at_start n ss k));
}

-- an operand more, without one
pub Holds-nameless : (ss : List Operand) (old new : Operands) (s : DeclaredOperand)
    → Holds ss old → ((t : Text) → has_name t (seen_operand s) ≡ false)
    → is_named (seen_operand s) ≡ false → new.slots.items ≡ old.slots.items ++ s ∷ []
    → new.names ≡ old.names → new.named_operands.items ≡ old.named_operands.items
    → new.registers.items ≡ old.registers.items
    ++ index_if (is_register (seen_operand s)) (length ss)
    → Holds (ss ++ seen_operand s ∷ []) new
Holds-nameless ss old new s h n e l m p r = record {
  slots = slots-more ss old new s h l;
  names = λ t. ap (λ (i : BTreeMap (Bor (List ℕ)) ℕ). found_in i t) m ∙ h.names t
      ∙ sym (index-same 0 ss (seen_operand s) t (n t));
  named = p ∙ h.named ∙ sym (append-nil (indices_from is_named 0 ss))
      ∙ ap (λ (b : Bool). indices_from is_named 0 ss ++ index_if b (length ss)) (sym e)
      ∙ sym (indices-more is_named 0 (length ss) ss (seen_operand s)
      (at_start (length ss) ss refl));
  registers = r ∙ ap (λ (is : List ℕ). is ++ index_if (is_register (seen_operand s)) (length ss))
      h.registers ∙ sym (indices-more is_register 0 (length ss) ss (seen_operand s)
      (at_start (length ss) ss refl));
}

pub with-none : (is : List ℕ) → is ≡ is ++ []
with-none is = sym (append-nil is)

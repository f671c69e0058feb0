-- How names are collected.
use Rattle.std.proofs.Common.{◌≡◌, ℕ, zero, suc, ◌+◌, ◌<◌, ◌≤◌, Bool, true, false, cond, ◌||◌, ◌&&◌}
use Rattle.std.proofs.Common.{List, inl, inr, length-append, not}
use Rattle.std.proofs.Common.{[], ◌∷◌, ◌++◌, length, take, get_or, chars, refl, arith}
use Rattle.std.proofs.Common.{sym, ap, ◌∙◌, IsUtf8}
use Rattle.std.specs.BTreeSet.{BTreeSet, UpdatesBy}
use Rattle.std.specs.Cmp.Lexicographic.{slice_cmp}
use Rattle.std.specs.List.{list_any}
use Rattle.std.specs.Ordering.{is_eq, nat_cmp}
use Rattle.std.specs.Str.{bytes_eq, encode_utf8_all}
use denote.Ref.{Bor}
use Rattle.std.proofs.lemmas.Bool.Decides.{Decides-like, not_from_Decides, same_from_decides}
use Rattle.std.proofs.lemmas.Map.Made.{is_member-Decides}
use Rattle.placeholder_check.proofs.Firsts.{AreFirsts-push, AreFirsts-skip}
use Rattle.placeholder_check.specs.declared.names.Names.{Names}
use Rattle.std.proofs.lemmas.List.{map-append, take-append-le, take_all, take_more}
use Rattle.std.proofs.Math.Bool.{or_assoc}
use Rattle.std.specs.Bool.{Decides}
use Rattle.std.proofs.lemmas.List.Folds.{list_any-append}
use Rattle.std.proofs.lemmas.Map.Text.{is_eq-slice_cmp}
use Rattle.std.proofs.lemmas.Slice.Eq.{bytes_eq-Decides}
use Rattle.std.proofs.lemmas.Str.{chars_from_encodes, encodes-chars}
use Rattle.rustc_parse_format.specs.Characters.{Text}
use Rattle.placeholder_check.specs.Collection.{Follows, has_text, is_known}
use Rattle.placeholder_check.specs.Views.{text, texts}

-- texts are the same exactly if their bytes are
same_text : (t : Text) (bs : List ℕ) → IsUtf8 bs → bytes_eq bs (encode_utf8_all t)
    ≡ bytes_eq t (chars bs)
same_text t bs u = same_from_decides {P = t ≡ chars bs} _ _
    (Decides-like (bytes_eq bs (encode_utf8_all t)) (λ e. chars_from_encodes t bs u (sym e))
    (λ e. sym (ap encode_utf8_all e ∙ encodes-chars bs u))
    (bytes_eq-Decides bs (encode_utf8_all t)))
    (bytes_eq-Decides t (chars bs))

pub same_bytes : (cs bs : List ℕ) → IsUtf8 cs → IsUtf8 bs → bytes_eq cs bs
    ≡ bytes_eq (chars cs) (chars bs)
same_bytes cs bs u v = same_from_decides {P = chars cs ≡ chars bs} _ _
    (Decides-like (bytes_eq cs bs) (λ e. ap chars e)
    (λ e. sym (encodes-chars cs u) ∙ ap encode_utf8_all e ∙ encodes-chars bs v)
    (bytes_eq-Decides cs bs))
    (bytes_eq-Decides (chars cs) (chars bs))

-- a set of names to which one is added
cond-or : (a b : Bool) → cond a true b ≡ (a || b)
cond-or true b = refl
cond-or false b = refl

pub has_text-added : (old new : BTreeSet (Bor (List ℕ))) (w : Bor (List ℕ)) → IsUtf8 w.now →
    UpdatesBy (λ x y. slice_cmp nat_cmp x.now y.now)
    (λ k. slice_cmp nat_cmp w.now k.now) old new true →
    (t : Text) → has_text new t ≡ (bytes_eq t (chars w.now) || has_text old t)
has_text-added old new w u h t = h.0 (record { ref_ptr = (0, 0); now = encode_utf8_all t })
    ∙ cond-or (is_eq (slice_cmp nat_cmp w.now (encode_utf8_all t))) (has_text old t)
    ∙ ap (λ b. b || has_text old t)
    (is_eq-slice_cmp w.now (encode_utf8_all t) ∙ same_text t w.now u)

-- one name more
pub texts-next : (ws : List (Bor (List ℕ))) (i : ℕ) (d : Bor (List ℕ)) → i < length ws →
    texts (take (i + 1) ws) ≡ texts (take i ws) ++ chars (get_or ws i d).now ∷ []
texts-next ws i d h = rw (take_more ws i d h) (map-append text (take i ws) (get_or ws i d ∷ []))

or-last : (a b : Bool) → (a || (b || false)) ≡ (b || a)
or-last true true = refl
or-last true false = refl
or-last false true = refl
or-last false false = refl

any-last : (t u : Text) (ts : List Text)
    → list_any (bytes_eq t) (ts ++ u ∷ []) ≡ (bytes_eq t u || list_any (bytes_eq t) ts)
any-last t u ts = list_any-append (bytes_eq t) ts (u ∷ [])
    ∙ or-last (list_any (bytes_eq t) ts) (bytes_eq t u)

pub any-next : (t : Text) (ws : List (Bor (List ℕ))) (i : ℕ) (d : Bor (List ℕ)) → i < length ws →
    list_any (bytes_eq t) (texts (take (i + 1) ws))
    ≡ (bytes_eq t (chars (get_or ws i d).now) || list_any (bytes_eq t) (texts (take i ws)))
any-next t ws i d h = rw (texts-next ws i d h)
    (any-last t (chars (get_or ws i d).now) (texts (take i ws)))

or-more : (a b c : Bool) → (b ≡ true → c ≡ true) → (a || b) ≡ true → (a || c) ≡ true
or-more true b c f e = refl
or-more false b c f e = f e

-- a name that is among some of the names is among more
pub any-more : (t : Text) (i j : ℕ) (ws : List (Bor (List ℕ))) → i ≤ j
    → list_any (bytes_eq t) (texts (take i ws)) ≡ true
    → list_any (bytes_eq t) (texts (take j ws)) ≡ true
any-more t zero j ws h e = absurd cc
any-more t (suc i) zero ws h e = absurd (omega arith)
any-more t (suc i) (suc j) [] h e = absurd cc
any-more t (suc i) (suc j) (w ∷ ws) h e = or-more (bytes_eq t (chars w.now)) _ _
    (any-more t i j ws (omega arith)) e

-- The value of an index past the end of the list.
abbrev pub past : Bor (List ℕ)
past = record { ref_ptr = (0, 0); now = [] }

pub any-found : (t : Text) (ws : List (Bor (List ℕ))) (i j : ℕ) (d : Bor (List ℕ)) → i < length ws
    → i < j → bytes_eq t (chars (get_or ws i d).now) ≡ true
    → list_any (bytes_eq t) (texts (take j ws)) ≡ true
any-found t ws i j d h k e = any-more t (i + 1) j ws (omega arith)
    (any-next t ws i d h ∙ ap (λ b. b || list_any (bytes_eq t) (texts (take i ws))) e)

-- whether a text is among names, if one more text was looked at
and-left : (a b : Bool) → true ≡ (a && b) → true ≡ a
and-left true b e = refl
and-left false b e = e

and-false : (a : Bool) → (a && false) ≡ false
and-false true = refl
and-false false = refl

next-by : (b a n known : Bool) {P : Type 0} → Decides b P → (P → known ≡ n)
    → (b ≡ false → known ≡ (a && n)) → known ≡ ((b || a) && n)
next-by true a n known d here there = here (d.0 refl)
next-by false a n known d here there = there refl

next-same : (t u : Text) (ts ys : List Text) (known : Bool)
    → (t ≡ u → known ≡ not (list_any (bytes_eq t) ys))
    → (bytes_eq t u ≡ false → known
    ≡ (list_any (bytes_eq t) ts && not (list_any (bytes_eq t) ys)))
    → known ≡ (list_any (bytes_eq t) (ts ++ u ∷ []) && not (list_any (bytes_eq t) ys))
next-same t u ts ys known here there = rw (any-last t u ts)
    (next-by (bytes_eq t u) (list_any (bytes_eq t) ts) (not (list_any (bytes_eq t) ys)) known
    (bytes_eq-Decides t u) here there)

-- a name that ys has
pub Follows-skip : (ts ys : List Text) (s : Names) (u : Text) → list_any (bytes_eq u) ys ≡ true
    → Follows ts ys s → Follows (ts ++ u ∷ []) ys s
Follows-skip ts ys s u e f = record {
  firsts = AreFirsts-skip ts ys u (texts s.list.items)
      (inr ((is_member-Decides bytes_eq-Decides ys u).0 e)) f.firsts;
  same = λ t. next-same t u ts ys (is_known s t)
      (λ h. let has : list_any (bytes_eq t) ys ≡ true = rw h e in
      f.same t ∙ rw has (and-false (list_any (bytes_eq t) ts)))
      (λ h. f.same t);
}

-- a name that is there already
pub Follows-had : (ts ys : List Text) (s : Names) (u : Text) → list_any (bytes_eq u) ys ≡ false
    → is_known s u ≡ true → Follows ts ys s → Follows (ts ++ u ∷ []) ys s
Follows-had ts ys s u lacked e f = record {
  firsts = AreFirsts-skip ts ys u (texts s.list.items)
      (inl ((is_member-Decides bytes_eq-Decides ts u).0
      (sym (and-left (list_any (bytes_eq u) ts) _ (sym e ∙ f.same u))))) f.firsts;
  same = λ t. next-same t u ts ys (is_known s t)
      (λ h. rw (h, lacked, e) refl)
      (λ h. f.same t);
}

-- a name that is new
pub Follows-new : (ts ys : List Text) (old new : Names) (w : Bor (List ℕ))
    → list_any (bytes_eq (chars w.now)) ys ≡ false
    → is_known old (chars w.now) ≡ false → new.list.items ≡ old.list.items ++ w ∷ []
    → ((t : Text) → is_known new t ≡ (bytes_eq t (chars w.now) || is_known old t))
    → Follows ts ys old → Follows (ts ++ chars w.now ∷ []) ys new
Follows-new ts ys old new w lacked e pushed known f = record {
  firsts = rw (pushed, map-append text old.list.items (w ∷ []))
      (AreFirsts-push ts ys (chars w.now) (texts old.list.items)
      (not_from_Decides _ (is_member-Decides bytes_eq-Decides ts (chars w.now))
      (and-only (list_any (bytes_eq (chars w.now)) ts)
      (sym (f.same (chars w.now)
      ∙ ap (λ b. list_any (bytes_eq (chars w.now)) ts && not b) lacked) ∙ e)))
      (not_from_Decides _ (is_member-Decides bytes_eq-Decides ys (chars w.now)) lacked) f.firsts);
  same = λ t. next-same t (chars w.now) ts ys (is_known new t)
      (λ h. known t ∙ ap (λ b. b || is_known old t) ((bytes_eq-Decides t (chars w.now)).1 h)
      ∙ sym (rw (h, lacked) refl))
      (λ h. known t ∙ ap (λ b. b || is_known old t) h ∙ f.same t);
}
  where
    and-only : (a : Bool) → (a && true) ≡ false → a ≡ false
    and-only true e = e
    and-only false e = refl

-- one of the first names
pub known-early : (t : Text) (ws : List (Bor (List ℕ))) (w : Bor (List ℕ)) (n : ℕ) (later : Bool)
    → length ws < n → (list_any (bytes_eq t) (texts (take n (ws ++ w ∷ []))) || later)
    ≡ (bytes_eq t (chars w.now) || (list_any (bytes_eq t) (texts (take n ws)) || later))
known-early t ws w n later h = rw (
  take_all n (ws ++ w ∷ []) (omega (arith, length-append ws (w ∷ []))),
  take_all n ws (omega arith),
  map-append text ws (w ∷ []),
  any-last t (chars w.now) (texts ws),
) (or_assoc (bytes_eq t (chars w.now)) (list_any (bytes_eq t) (texts ws)) later)

pub or-swap : (a b c : Bool) → (a || (b || c)) ≡ (b || (a || c))
or-swap true true c = refl
or-swap true false c = refl
or-swap false b c = refl

-- one after them
pub known-late : (t : Text) (ws : List (Bor (List ℕ))) (w : Bor (List ℕ)) (n : ℕ) (later : Bool)
    → n ≤ length ws
    → (list_any (bytes_eq t) (texts (take n (ws ++ w ∷ []))) || (bytes_eq t (chars w.now) || later))
    ≡ (bytes_eq t (chars w.now) || (list_any (bytes_eq t) (texts (take n ws)) || later))
known-late t ws w n later h = rw (take-append-le n ws (w ∷ []) h)
    (or-swap (list_any (bytes_eq t) (texts (take n ws))) (bytes_eq t (chars w.now)) later)

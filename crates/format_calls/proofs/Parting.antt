-- The calls of parts of a file.
use Prim.Native.Char.{code}
use Rattle.std.proofs.Common.{◌≡◌, ◌<◌, ◌≤◌, ◌+◌, ◌++◌, ◌⊎◌, ℕ, zero, suc, List, [], ◌∷◌, Some}
use Rattle.std.proofs.Common.{None}
use Rattle.std.proofs.Common.{inl, inr, refl, ap, sym, ◌∙◌, subst, length, length-append, arith}
use Rattle.std.proofs.Common.{Option, Bool, true, false, ◌-◌}
use Rattle.std.specs.Prelude.{◌&&◌, slice_get, slice_index, is_some}
use Rattle.std.specs.Prelude.{if◌then◌else◌}
use Rattle.std.proofs.lemmas.Bool.{and_parts, cases_eq, cases_lt, eqb-true, false≢true}
use Rattle.std.proofs.lemmas.List.{append_assoc, append-nil}
use Rattle.rust_tokens.specs.declared.kinds.Kind.{Kind}
use Rattle.rust_tokens.specs.declared.kinds.Kind.TheVariants.{Punct}
use Rattle.std.proofs.lemmas.Option.{none-some, same_Some}
use Rattle.rust_trees.specs.declared.sides.Delimiter.{Delimiter}
use Rattle.rust_trees.specs.declared.sides.Side.TheVariants.{Closes, Neither}
use Rattle.rust_tokens.proofs.Readings.{reads-once}
use Rattle.rust_trees.specs.Leaves.{AreLeft, Leaf, Remainder, leaves, side}
use Rattle.rust_trees.specs.Sides.{is_opening, is_punct, side_of_mark}
use Rattle.rust_trees.specs.Forests.{IsPair, IsGroup}
use Rattle.rust_trees.proofs.Groups.{pair-shift, pair-unshift, pair-less}
use Rattle.rust_trees.proofs.Growing.{pair-more, pair-within}
use Rattle.rust_trees.proofs.Stacks.{no-close-neither}
use Rattle.format_calls.specs.declared.listing.Call.{Call}
use Rattle.format_calls.specs.Rows.{Entry, rule_of}
use Rattle.format_calls.specs.Calls.{IsCall, rule_of_leaf}
use Rattle.format_calls.specs.Marks.{is_after, is_byte, is_mark, is_mark_of, is_ident, word}
use Rattle.format_calls.specs.Parts.{IsPart, Window, after_next, front_of, front_of_tokens}
use Rattle.format_calls.specs.Parts.{moved_call, next_window, opens_call}
use Rattle.format_calls.proofs.CallSteps.{call-within}

-- A token after others, and in front of them.
pub get-shift : {A : Type 0} (f xs : List A) (k : ℕ)
    → slice_get (f ++ xs) (length f + k) ≡ slice_get xs k
get-shift {A = A} [] xs k =
    let e : length {A = A} [] + k ≡ k = omega arith in ap (λ n. slice_get xs n) e
get-shift (x ∷ f) xs k =
    let e : length (x ∷ f) + k ≡ suc (length f + k) = omega arith in
    ap (λ n. slice_get (x ∷ (f ++ xs)) n) e ∙ get-shift f xs k

pub get-front : {A : Type 0} (xs ys : List A) (k : ℕ) → k < length xs
    → slice_get (xs ++ ys) k ≡ slice_get xs k
get-front [] ys k h = absurd (omega (arith, h))
get-front (x ∷ xs) ys zero h = refl
get-front (x ∷ xs) ys (suc k) h = get-front xs ys k (omega (arith, h))

mark-shift : (m : ℕ) (f xs : List Leaf) (k n : ℕ) → n ≡ length f + k
    → is_mark m (f ++ xs) n ≡ is_mark m xs k
mark-shift m f xs k n e =
    ap (λ i. is_mark_of m (slice_get (f ++ xs) i)) e
    ∙ ap (λ o. is_mark_of m o) (get-shift f xs k)

-- No `$` stands after these tokens.
abbrev pub IsFixed : List Leaf → List Leaf → Type 0
IsFixed f xs = is_after (code "$") (f ++ xs) (length f) ≡ false

rest_after-shift : (f xs : List Leaf) (k n : ℕ) → IsFixed f xs → n ≡ length f + k
    → is_after (code "$") (f ++ xs) n ≡ is_after (code "$") xs k
rest_after-shift f xs zero n h e =
    let i : n ≡ length f = omega (arith, e) in
    ap (λ i. is_after (code "$") (f ++ xs) i) i ∙ h
rest_after-shift f xs (suc k) n h e =
    let i : n ≡ suc (length f + k) = omega (arith, e) in
    ap (λ i. is_after (code "$") (f ++ xs) i) i
    ∙ mark-shift (code "$") f xs k (length f + k) refl

-- A call after other tokens, and without them.
pub call-shift : (es : List Entry) (f xs : List Leaf) (c : Call) → IsFixed f xs → IsCall es xs c
    → IsCall es (f ++ xs) (moved_call (length f) c)
call-shift es f xs c h k =
    let n : length f + c.name + 1 ≡ length f + (c.name + 1) = omega arith in
    let m : length f + (c.name + 2) ≡ length f + c.name + 2 = omega arith in
    record {
      is_listed = ap (λ o. rule_of_leaf es o) (get-shift f xs c.name) ∙ k.is_listed;
      is_macro = mark-shift (code "!") f xs (c.name + 1) _ n ∙ k.is_macro;
      is_pair = subst (λ i. IsPair (f ++ xs) i (length f + c.close)) m
          (pair-shift f xs (c.name + 2) c.close k.is_pair);
      is_fixed = rest_after-shift f xs c.name _ h refl ∙ k.is_fixed;
    }

pub call-unshift : (es : List Entry) (f xs : List Leaf) (c : Call) → IsFixed f xs
    → IsCall es (f ++ xs) (moved_call (length f) c) → IsCall es xs c
call-unshift es f xs c h k =
    let n : length f + c.name + 1 ≡ length f + (c.name + 1) = omega arith in
    let m : length f + c.name + 2 ≡ length f + (c.name + 2) = omega arith in
    record {
      is_listed = sym (ap (λ o. rule_of_leaf es o) (get-shift f xs c.name)) ∙ k.is_listed;
      is_macro = sym (mark-shift (code "!") f xs (c.name + 1) _ n) ∙ k.is_macro;
      is_pair = pair-unshift f xs (c.name + 2) c.close
          (subst (λ i. IsPair (f ++ xs) i (length f + c.close)) m k.is_pair);
      is_fixed = sym (rest_after-shift f xs c.name _ h refl) ∙ k.is_fixed;
    }

-- A closing delimiter is no word, and no mark that is no delimiter.
pub punct-no-word : (k : Kind) → is_punct k ≡ true → is_ident k ≡ false
punct-no-word Punct h = refl
punct-no-word k h = absurd (false≢true h)

pub closing-punct : (x : Leaf) (d : Delimiter) → side x ≡ Closes d → is_punct x.kind ≡ true
closing-punct x d h = by_kind (is_punct x.kind) refl
  where
    by_kind : (b : Bool) → is_punct x.kind ≡ b → b ≡ true
    by_kind true e = refl
    by_kind false e = absurd (no-close-neither d (sym h ∙ ap (λ b. if b
        then side_of_mark (slice_index x.text 0) else Neither) e))

closing-no-word : (es : List Entry) (x : Leaf) (d : Delimiter) → side x ≡ Closes d
    → rule_of_leaf es (Some x) ≡ None
closing-no-word es x d h =
    ap (λ b. if b then rule_of es (word x) else None)
    (punct-no-word x.kind (closing-punct x d h))

pub byte-is : (m : ℕ) (t : List ℕ) → is_byte m (slice_get t 0) ≡ true → slice_index t 0 ≡ m
byte-is m [] h = absurd (false≢true h)
byte-is m (c ∷ t) h = eqb-true c m h

pub closing-no-mark : (m : ℕ) (x : Leaf) (d : Delimiter) → side_of_mark m ≡ Neither
    → side x ≡ Closes d → is_mark_of m (Some x) ≡ false
closing-no-mark m x d n h = by_mark (is_mark_of m (Some x)) refl
  where
    by_mark : (b : Bool) → is_mark_of m (Some x) ≡ b → b ≡ false
    by_mark false e = refl
    by_mark true e =
        let p = and_parts _ _ e in
        absurd (no-close-neither d (sym h ∙ (ap (λ b. if b
        then side_of_mark (slice_index x.text 0) else Neither) p.0
        ∙ (ap (λ c. side_of_mark c) (byte-is m x.text p.1) ∙ n))))

-- A call with tokens after it.
rest_after-front : (xs ys : List Leaf) (n : ℕ) → n ≤ length xs
    → is_after (code "$") (xs ++ ys) n ≡ is_after (code "$") xs n
rest_after-front xs ys zero h = refl
rest_after-front xs ys (suc k) h =
    ap (λ o. is_mark_of (code "$") o) (get-front xs ys k (omega (arith, h)))

call-more : (es : List Entry) (xs ys : List Leaf) (c : Call) → IsCall es xs c
    → IsCall es (xs ++ ys) c
call-more es xs ys c k =
    let l = (pair-within xs (c.name + 2) c.close k.is_pair).0 in
    record {
      is_listed = ap (λ o. rule_of_leaf es o) (get-front xs ys c.name (omega (arith, l)))
          ∙ k.is_listed;
      is_macro = ap (λ o. is_mark_of (code "!") o)
          (get-front xs ys (c.name + 1) (omega (arith, l))) ∙ k.is_macro;
      is_pair = pair-more xs ys (c.name + 2) c.close k.is_pair;
      is_fixed = rest_after-front xs ys c.name (omega (arith, l)) ∙ k.is_fixed;
    }

-- A call that begins in a group ends in it.
call-less : (es : List Entry) (xs ys : List Leaf) (c : Call) → IsGroup xs → c.name < length xs
    → IsCall es (xs ++ ys) c → IsCall es xs c
call-less es xs ys c g h k = by_end (cases_lt (c.name + 2) (length xs))
  where
    last : slice_get (xs ++ ys) (length g.front) ≡ Some g.closing
    last =
        let n = ap (λ t. length t) g.joins ∙ length-append g.front (g.closing ∷ []) in
        let z : length g.front ≡ length g.front + 0 = omega arith in
        get-front xs ys (length g.front) (omega (arith, n))
        ∙ (ap (λ t. slice_get t (length g.front)) g.joins
        ∙ (ap (λ i. slice_get (g.front ++ g.closing ∷ []) i) z
        ∙ get-shift g.front (g.closing ∷ []) 0))

    by_end : (c.name + 2 < length xs) ⊎ (length xs ≤ c.name + 2) → IsCall es xs c
    by_end (inl l) =
        let j = g.keeps ys (c.name + 2) c.close k.is_pair l in
        record {
          is_listed = sym (ap (λ o. rule_of_leaf es o) (get-front xs ys c.name h)) ∙ k.is_listed;
          is_macro = sym (ap (λ o. is_mark_of (code "!") o)
              (get-front xs ys (c.name + 1) (omega (arith, l)))) ∙ k.is_macro;
          is_pair = pair-less xs ys (c.name + 2) c.close k.is_pair j;
          is_fixed = sym (rest_after-front xs ys c.name (omega (arith, h))) ∙ k.is_fixed;
        }
    by_end (inr l) =
        let n = ap (λ t. length t) g.joins ∙ length-append g.front (g.closing ∷ []) in
        by_last (cases_lt (c.name + 1) (length xs))
      where
        by_last : (c.name + 1 < length xs) ⊎ (length xs ≤ c.name + 1) → IsCall es xs c
        by_last (inl m) =
            let e : c.name + 1 ≡ length g.front =
            let n = ap (λ t. length t) g.joins ∙ length-append g.front (g.closing ∷ []) in
            omega (arith, n, l, m) in
            absurd (false≢true (sym (closing-no-mark (code "!") g.closing g.delimiter refl g.closes)
            ∙ (sym (ap (λ o. is_mark_of (code "!") o)
            (ap (λ i. slice_get (xs ++ ys) i) e ∙ last)) ∙ k.is_macro)))
        by_last (inr m) =
            let e : c.name ≡ length g.front =
            let n = ap (λ t. length t) g.joins ∙ length-append g.front (g.closing ∷ []) in
            omega (arith, n, h, m) in
            absurd (none-some c.rule (sym (closing-no-word es g.closing g.delimiter g.closes)
            ∙ (sym (ap (λ o. rule_of_leaf es o)
            (ap (λ i. slice_get (xs ++ ys) i) e ∙ last)) ∙ k.is_listed)))

-- No `$` stands after a group.
group-fixed : (gap part left : List Leaf) → IsGroup part → IsFixed (gap ++ part) left
group-fixed gap part left g =
    let n = length-append gap part in
    let m = ap (λ t. length t) g.joins ∙ length-append g.front (g.closing ∷ []) in
    let e : length (gap ++ part) ≡ suc (length gap + length g.front) = omega (arith, n, m) in
    let z : length g.front ≡ length g.front + 0 = omega arith in
    ap (λ i. is_after (code "$") ((gap ++ part) ++ left) i) e
    ∙ (ap (λ o. is_mark_of (code "$") o)
    (ap (λ t. slice_get t (length gap + length g.front)) (append_assoc gap part left)
    ∙ (get-shift gap (part ++ left) (length g.front)
    ∙ (get-front part left (length g.front) (omega (arith, m))
    ∙ (ap (λ t. slice_get t (length g.front)) g.joins
    ∙ (ap (λ i. slice_get (g.front ++ g.closing ∷ []) i) z
    ∙ get-shift g.front (g.closing ∷ []) 0)))))
    ∙ closing-no-mark (code "$") g.closing g.delimiter refl g.closes)

-- Tokens are parted: nothing is left after the part, or it is a group.
pub part-of : (es : List Entry) (gap part left : List Leaf)
    → ((c : Call) → IsCall es (gap ++ (part ++ left)) c → length gap ≤ c.name)
    → IsFixed gap (part ++ left) → (left ≡ []) ⊎ IsGroup part → IsPart es gap part left
part-of es gap part left before fixed end = record {
  before = before;
  inside = λ c h. (
    λ k. call-shift es gap (part ++ left) c fixed (call-more es part left c k),
    λ k. inner c h (call-unshift es gap (part ++ left) c fixed k) end,
  );
  rest_after = λ c. (λ k. outer c k end, λ k. rest c k end);
}
  where
    inner : (c : Call) → c.name < length part → IsCall es (part ++ left) c
        → (left ≡ []) ⊎ IsGroup part → IsCall es part c
    inner c h k (inl e) = subst (λ t. IsCall es t c) (ap (λ t. part ++ t) e ∙ append-nil part) k
    inner c h k (inr g) = call-less es part left c g h k

    joined : (c : Call) → ◌≡◌ {A = Call} (moved_call (length (gap ++ part)) c)
        (moved_call (length gap + length part) c)
    joined c = ap (λ n. moved_call n c) (length-append gap part)

    outer : (c : Call) → IsCall es left c → (left ≡ []) ⊎ IsGroup part
        → IsCall es (gap ++ (part ++ left)) (moved_call (length gap + length part) c)
    outer c k (inl e) =
        let l = call-within es left c k in
        let n = ap (λ t. length t) e in absurd (omega (arith, l, n))
    outer c k (inr g) =
        subst (λ t. IsCall es t (moved_call (length gap + length part) c)) (append_assoc gap part
        left)
        (subst (λ d. IsCall es ((gap ++ part) ++ left) d) (joined c)
        (call-shift es (gap ++ part) left c (group-fixed gap part left g) k))

    rest : (c : Call) → IsCall es (gap ++ (part ++ left)) (moved_call (length gap + length part) c)
        → (left ≡ []) ⊎ IsGroup part → IsCall es left c
    rest c k (inl e) =
        let l = call-within es (gap
        ++ (part ++ left)) (moved_call (length gap + length part) c) k in
        let n = length-append gap (part ++ left) in
        let m = length-append part left in
        let z = ap (λ t. length t) e in absurd (omega (arith, l, n, m, z))
    rest c k (inr g) = call-unshift es (gap ++ part) left c (group-fixed gap part left g)
        (subst (λ t. IsCall es t (moved_call (length (gap ++ part)) c))
        (sym (append_assoc gap part left))
        (subst (λ d. IsCall es (gap ++ (part ++ left)) d) (sym (joined c)) k))

-- The tokens after the gap: none, or the last one or the last two that were read.
abbrev pub window : Option Leaf → Option Leaf → List Leaf
window None None = []
window None (Some m) = m ∷ []
window (Some n) None = n ∷ []
window (Some n) (Some m) = n ∷ m ∷ []

-- The facts about the gap in front of a window, whatever is left.
pub record IsGap (es : List Entry) (gap : List Leaf) (w : Window) : Type 0 where
  pub before : (left : List Leaf) (c : Call) → IsCall es (gap ++ (window w.name w.bang ++ left)) c
      → length gap ≤ c.name
  pub fixed : (left : List Leaf)
      → is_after (code "$") (gap ++ (window w.name w.bang ++ left)) (length gap) ≡ w.is_after_dollar
  pub starts : w.name ≡ None → gap ≡ []
  pub follows : w.bang ≡ None → w.name ≡ None

strictly : (a b : ℕ) → a ≤ b → (b ≡ a → ⊥) → a < b
strictly a b l d = by_order (cases_lt a b)
  where
    by_order : (a < b) ⊎ (b ≤ a) → a < b
    by_order (inl h) = h
    by_order (inr h) = absurd (d (omega (arith, l, h)))

-- The first token of a pair opens.
pair-opening : (xs : List Leaf) (i j : ℕ) (p : IsPair xs i j) → slice_get xs i ≡ Some p.opening
pair-opening xs i j p =
    let e : i ≡ length p.before + 0 = omega (arith, p.starts) in
    ap (λ t. slice_get t i) p.joins
    ∙ (ap (λ n. slice_get (p.before ++ p.opening ∷ (p.inside ++ p.closing ∷ p.after)) n) e
    ∙ get-shift p.before (p.opening ∷ (p.inside ++ p.closing ∷ p.after)) 0)

-- Where the three tokens after a gap begin no call, none has the first of them as its name.
no-call : (es : List Entry) (gap left : List Leaf) (n m t : Leaf) (b : Bool) (c : Call)
    → is_after (code "$") (gap ++ (n ∷ m ∷ t ∷ left)) (length gap) ≡ b
    → front_of_tokens es b (Some n) (Some m) t ≡ None
    → IsCall es (gap ++ (n ∷ m ∷ t ∷ left)) c → c.name ≡ length gap → ⊥
no-call es gap left n m t true c f h k e =
    false≢true (sym k.is_fixed ∙ (ap (λ i. is_after (code "$") (gap ++ (n ∷ m ∷ t ∷ left)) i) e
    ∙ f))
no-call es gap left n m t false c f h k e =
    let xs = gap ++ (n ∷ m ∷ t ∷ left) in
    let i : c.name ≡ length gap + 0 = omega (arith, e) in
    let j : c.name + 1 ≡ length gap + 1 = omega (arith, e) in
    let l : c.name + 2 ≡ length gap + 2 = omega (arith, e) in
    let first : slice_get xs c.name ≡ Some n =
    ap (λ i. slice_get xs i) i ∙ get-shift gap (n ∷ m ∷ t ∷ left) 0 in
    let second : slice_get xs (c.name + 1) ≡ Some m =
    ap (λ i. slice_get xs i) j ∙ get-shift gap (n ∷ m ∷ t ∷ left) 1 in
    let third : slice_get xs (c.name + 2) ≡ Some t =
    ap (λ i. slice_get xs i) l ∙ get-shift gap (n ∷ m ∷ t ∷ left) 2 in
    let opening : t ≡ k.is_pair.opening =
    same_Some t k.is_pair.opening (sym third ∙ pair-opening xs (c.name + 2) c.close k.is_pair) in
    let a : is_mark_of (code "!") (Some m) ≡ true =
    ap (λ o. is_mark_of (code "!") o) (sym second) ∙ k.is_macro in
    let o : is_opening (side t) ≡ true =
    ap (λ x. is_opening (side x)) opening ∙ ap (λ s. is_opening s) k.is_pair.pairs.1 in
    let r : is_some (rule_of_leaf es (Some n)) ≡ true =
    ap (λ q. is_some q) (ap (λ q. rule_of_leaf es q) (sym first) ∙ k.is_listed) in
    let all : opens_call es n m t ≡ true =
    ap (λ q. q && (is_opening (side t) && is_some (rule_of_leaf es (Some n)))) a
    ∙ (ap (λ q. q && is_some (rule_of_leaf es (Some n))) o ∙ r) in
    none-some (n ∷ m ∷ t ∷ [])
    (sym h ∙ ap (λ q. if q then Some (n ∷ m ∷ t ∷ []) else None) all)

abbrev pub gap_next : List Leaf → Option Leaf → List Leaf
gap_next gap None = gap
gap_next gap (Some n) = gap ++ n ∷ []

-- The gap in front of the next window.
pub gap-more : (es : List Entry) (gap : List Leaf) (w : Window) (t : Leaf)
    → front_of es w t ≡ None → IsGap es gap w
    → IsGap es (gap_next gap w.name) (next_window w t)
    × ((left : List Leaf) → gap ++ (window w.name w.bang ++ t ∷ left)
    ≡ gap_next gap w.name ++ (window w.bang (Some t) ++ left))
gap-more es gap w t f h = by_window w.is_after_dollar w.name w.bang f h
  where
    by_window : (b : Bool) (n m : Option Leaf) → front_of_tokens es b n m t ≡ None
        → IsGap es gap (record { is_after_dollar = b; name = n; bang = m })
        → IsGap es (gap_next gap n)
        (record { is_after_dollar = after_next b n; name = m; bang = Some t })
        × ((left : List Leaf) → gap ++ (window n m ++ t ∷ left)
        ≡ gap_next gap n ++ (window m (Some t) ++ left))
    by_window b None None f h = (
      record {
        before = λ left c k. h.before (t ∷ left) c k;
        fixed = λ left. h.fixed (t ∷ left);
        starts = λ e. h.starts refl;
        follows = λ e. absurd (none-some t (sym e));
      },
      λ left. refl,
    )
    by_window b None (Some m) f h = (
      record {
        before = λ left c k. h.before (t ∷ left) c k;
        fixed = λ left. h.fixed (t ∷ left);
        starts = λ e. absurd (none-some m (sym e));
        follows = λ e. absurd (none-some t (sym e));
      },
      λ left. refl,
    )
    by_window b (Some n) None f h = absurd (none-some n (sym (h.follows refl)))
    by_window b (Some n) (Some m) f h = (
      record {
        before = λ left c k. later left c (subst (λ xs. IsCall es xs c)
            (append_assoc gap (n ∷ []) (m ∷ t ∷ left)) k);
        fixed = λ left. shown left;
        starts = λ e. absurd (none-some m (sym e));
        follows = λ e. absurd (none-some t (sym e));
      },
      λ left. sym (append_assoc gap (n ∷ []) (m ∷ t ∷ left)),
    )
      where
        by_name : (left : List Leaf) (c : Call) → IsCall es (gap ++ (n ∷ m ∷ t ∷ left)) c
            → (c.name ≡ length gap) ⊎ (c.name ≡ length gap → ⊥) → length (gap ++ n ∷ []) ≤ c.name
        by_name left c k (inl e) = absurd (no-call es gap left n m t b c (h.fixed (t ∷ left)) f k e)
        by_name left c k (inr d) =
            let l = h.before (t ∷ left) c k in
            let a = length-append gap (n ∷ []) in
            let s : length gap < c.name = strictly (length gap) c.name l d in
            omega (arith, a, s)

        later : (left : List Leaf) (c : Call) → IsCall es (gap ++ (n ∷ m ∷ t ∷ left)) c
            → length (gap ++ n ∷ []) ≤ c.name
        later left c k = by_name left c k (cases_eq c.name (length gap))

        shown : (left : List Leaf) → is_after (code "$") ((gap ++ n ∷ []) ++ (m ∷ t ∷ left))
            (length (gap ++ n ∷ [])) ≡ is_mark_of (code "$") (Some n)
        shown left =
            let a = length-append gap (n ∷ []) in
            let e : length (gap ++ n ∷ []) ≡ suc (length gap + 0) = omega (arith, a) in
            ap (λ i. is_after (code "$") ((gap ++ n ∷ []) ++ (m ∷ t ∷ left)) i) e
            ∙ ap (λ o. is_mark_of (code "$") o)
            (ap (λ xs. slice_get xs (length gap + 0)) (append_assoc gap (n ∷ []) (m ∷ t ∷ left))
            ∙ get-shift gap (n ∷ m ∷ t ∷ left) 0)

-- The tokens of the next window, after those that were read, and those of a part.
pub window-more : (before gap : List Leaf) (n m : Option Leaf) (next : List Leaf) (t : Leaf)
    → gap ++ (window n m ++ t ∷ []) ≡ next ++ (window m (Some t) ++ [])
    → (before ++ (gap ++ window n m)) ++ t ∷ [] ≡ before ++ (next ++ window m (Some t))
window-more before gap n m next t e =
    append_assoc before (gap ++ window n m) (t ∷ [])
    ∙ ap (λ x. before ++ x) (append_assoc gap (window n m) (t ∷ [])
    ∙ (e ∙ ap (λ x. next ++ x) (append-nil (window m (Some t)))))

pub part-more : (before gap : List Leaf) (n m : Option Leaf) (part more : List Leaf) (t : Leaf)
    → gap ++ (window n m ++ t ∷ (more ++ [])) ≡ gap ++ (part ++ [])
    → ((before ++ (gap ++ window n m)) ++ t ∷ []) ++ more ≡ before ++ (gap ++ part)
part-more before gap n m part more t e =
    append_assoc (before ++ (gap ++ window n m)) (t ∷ []) more
    ∙ (append_assoc before (gap ++ window n m) (t ∷ more)
    ∙ ap (λ x. before ++ x) (append_assoc gap (window n m) (t ∷ more)
    ∙ (ap (λ x. gap ++ (window n m ++ t ∷ x)) (sym (append-nil more))
    ∙ (e ∙ ap (λ x. gap ++ x) (append-nil part)))))

-- After the front of a part.
pub part-long : (n m t : Leaf) (part more : List Leaf) → part ≡ n ∷ m ∷ t ∷ more → 3 ≤ length part
part-long n m t part more e = let l = ap (λ v. length v) e in omega (arith, l)

-- The first window, with nothing in front of it.
pub gap-none : (es : List Entry)
    → IsGap es [] (record { is_after_dollar = false; name = None; bang = None })
gap-none es = record {
  before = λ left c k. omega arith;
  fixed = λ left. refl;
  starts = λ e. refl;
  follows = λ e. refl;
}

-- There is one list of the tokens that are left.
pub left-once : (u : Remainder) (xs ys : List Leaf) → AreLeft u xs → AreLeft u ys → xs ≡ ys
left-once u xs ys a b =
    a.2 ∙ (ap (λ t. leaves (length u.whole - length u.rest) t) (reads-once _ _ _ a.1 b.1)
    ∙ sym b.2)

-- The facts where the three tokens after a gap begin a call.
pub gap-part : (es : List Entry) (gap part left f more : List Leaf) (w : Window) (t : Leaf)
    → front_of es w t ≡ Some f → IsGap es gap w → part ≡ f ++ more
    → (left ≡ []) ⊎ IsGroup part
    → (gap ++ (window w.name w.bang ++ t ∷ (more ++ left)) ≡ gap ++ (part ++ left))
    × IsPart es gap part left
gap-part es gap part left f more w t s h e end = by_window w.is_after_dollar w.name w.bang s h
  where
    by_window : (b : Bool) (n m : Option Leaf) → front_of_tokens es b n m t ≡ Some f
        → IsGap es gap (record { is_after_dollar = b; name = n; bang = m })
        → (gap ++ (window n m ++ t ∷ (more ++ left)) ≡ gap ++ (part ++ left))
        × IsPart es gap part left
    by_window true None None s h = absurd (none-some f s)
    by_window true None (Some m) s h = absurd (none-some f s)
    by_window true (Some n) None s h = absurd (none-some f s)
    by_window true (Some n) (Some m) s h = absurd (none-some f s)
    by_window false None None s h = absurd (none-some f s)
    by_window false None (Some m) s h = absurd (none-some f s)
    by_window false (Some n) None s h = absurd (none-some f s)
    by_window false (Some n) (Some m) s h = by_test (opens_call es n m t) s
      where
        by_test : (q : Bool) → (if q then Some (n ∷ m ∷ t ∷ []) else None) ≡ Some f
            → (gap ++ (n ∷ m ∷ t ∷ (more ++ left)) ≡ gap ++ (part ++ left))
            × IsPart es gap part left
        by_test false s = absurd (none-some f s)
        by_test true s =
            let g : n ∷ m ∷ t ∷ (more ++ left) ≡ part ++ left =
            ap (λ x. x ++ (more ++ left)) (same_Some (n ∷ m ∷ t ∷ []) f s)
            ∙ (sym (append_assoc f more left) ∙ ap (λ x. x ++ left) (sym e)) in (
              ap (λ x. gap ++ x) g,
              part-of es gap part left
                  (λ c k. h.before (t ∷ (more ++ left)) c
                  (subst (λ x. IsCall es (gap ++ x) c) (sym g) k))
                  (ap (λ x. is_after (code "$") (gap ++ x) (length gap)) (sym g)
                  ∙ h.fixed (t ∷ (more ++ left)))
                  end,
            )

-- No call begins in a gap and the window after it, where nothing is left.
pub gap-end : (es : List Entry) (gap : List Leaf) (w : Window) (c : Call) → IsGap es gap w
    → IsCall es (gap ++ (window w.name w.bang ++ [])) c → ⊥
gap-end es gap w c h k =
    let l = h.before [] c k in
    let p = (pair-within (gap ++ (window w.name w.bang ++ [])) (c.name + 2) c.close k.is_pair).0 in
    let a = length-append gap (window w.name w.bang ++ []) in
    let b = short w.name w.bang in omega (arith, l, p, a, b)
  where
    short : (n m : Option Leaf) → length (window n m ++ []) ≤ 2
    short None None = omega arith
    short None (Some m) = omega arith
    short (Some n) None = omega arith
    short (Some n) (Some m) = omega arith

-- Nothing is left where no token is, or the part is a group.
pub end-of : (u : Remainder) (part left : List Leaf) → AreLeft u left → AreLeft u [] ⊎ IsGroup part
    → (left ≡ []) ⊎ IsGroup part
end-of u part left l (inl e) = inl (left-once u left [] l e)
end-of u part left l (inr g) = inr g

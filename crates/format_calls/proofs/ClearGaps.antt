-- A part after tokens that begin no call, wherever these stand.
use Prim.Native.Char.{code}
use Rattle.std.proofs.Common.{◌≡◌, ◌++◌, ◌⊎◌, ℕ, Bool, true, false, List, [], ◌∷◌, Option, Some}
use Rattle.std.proofs.Common.{None, refl, ap, sym, ◌∙◌, subst, map}
use Rattle.std.specs.Prelude.{◌&&◌, if◌then◌else◌, is_some, option_map, slice_index}
use Rattle.std.proofs.lemmas.Bool.{and_parts, false≢true}
use Rattle.std.proofs.lemmas.List.{append_cancel_right, append-nil}
use Rattle.std.proofs.lemmas.Option.{none-some, same_Some}
use Rattle.rust_tokens.specs.Tokens.{Lexeme}
use Rattle.rust_tokens.specs.Spans.{end_of}
use Rattle.rust_trees.specs.Forests.{IsGroup}
use Rattle.rust_trees.specs.Leaves.{Leaf, is_leaf, leaf_at, leaves, side}
use Rattle.rust_trees.specs.Sides.{is_opening, is_punct, side_of_mark}
use Rattle.rust_trees.specs.declared.sides.Side.TheVariants.{Neither}
use Rattle.format_calls.specs.declared.listing.Call.{Call}
use Rattle.format_calls.specs.Calls.{IsCall, rule_of_leaf}
use Rattle.format_calls.specs.Gaps.{BeginsCall, IsClear, LacksFronts, first_window, unplaced}
use Rattle.format_calls.specs.Gaps.{window_after}
use Rattle.format_calls.specs.Marks.{is_mark_of, is_word, word}
use Rattle.format_calls.specs.Parts.{IsPart, Window, after_next, front_of, front_of_tokens}
use Rattle.format_calls.specs.Parts.{next_window}
use Rattle.format_calls.specs.Rows.{Entry, rule_of}
use Rattle.format_calls.proofs.Parting.{IsGap, byte-is, gap-end, gap-more, gap-none, gap-part}
use Rattle.format_calls.proofs.Parting.{gap_next, punct-no-word, window}
use Rattle.format_calls.proofs.Windows.{no-front, same-front, same-moved, unplaced_window}

-- Tokens without their places do not depend on where they begin.
pub unplaced-leaves : (a b : ℕ) (xs : List Lexeme)
    → map unplaced (leaves a xs) ≡ map unplaced (leaves b xs)
unplaced-leaves a b [] = refl
unplaced-leaves a b (x ∷ xs) =
    by_test (is_leaf x.kind x.is_ended) (unplaced-leaves (end_of a x) (end_of b x) xs)
  where
    by_test : (q : Bool)
        → map unplaced (leaves (end_of a x) xs) ≡ map unplaced (leaves (end_of b x) xs)
        → map unplaced (if q then leaf_at a x ∷ leaves (end_of a x) xs
        else leaves (end_of a x) xs)
        ≡ map unplaced (if q then leaf_at b x ∷ leaves (end_of b x) xs
        else leaves (end_of b x) xs)
    by_test true e = ap (λ t. unplaced (leaf_at b x) ∷ t) e
    by_test false e = e

pub lacks-elsewhere : (es : List Entry) (a b : ℕ) (xs : List Lexeme) (w : Window)
    → LacksFronts es (leaves a xs) w → LacksFronts es (leaves b xs) w
lacks-elsewhere es a b xs w h =
    ap (λ t. window_after es first_window t) (unplaced-leaves b a xs) ∙ h

pub clear-elsewhere : (es : List Entry) (a b : ℕ) (xs : List Lexeme) → IsClear es (leaves a xs)
    → IsClear es (leaves b xs)
clear-elsewhere es a b xs c = record {
  window = c.window;
  lacks = lacks-elsewhere es a b xs c.window c.lacks;
  fixed = c.fixed;
}

-- The facts about the gap in front of the window after further tokens.
abbrev Walked : List Entry → List Leaf → Window → List Leaf → Window → Type 0
Walked es g w xs v = (h : List Leaf) × (u : Window) × IsGap es h u
    × (◌≡◌ {A = Window} (unplaced_window u) v)
    × ((left : List Leaf) → g ++ (window w.name w.bang ++ (xs ++ left))
    ≡ h ++ (window u.name u.bang ++ left))

walk : (es : List Entry) (xs g : List Leaf) (w v : Window) → IsGap es g w
    → window_after es (unplaced_window w) (map unplaced xs) ≡ Some v → Walked es g w xs v
walk es [] g w v k e = (g, w, k, same_Some (unplaced_window w) v e, λ left. refl)
walk es (t ∷ ts) g w v k e =
    by_test (is_some (front_of es (unplaced_window w) (unplaced t))) refl
    (λ n f. walk es ts (gap_next g w.name) (next_window w t) v (gap-more es g w t n k).0 f) e
  where
    by_test : (b : Bool) → is_some (front_of es (unplaced_window w) (unplaced t)) ≡ b
        → ((n : front_of es w t ≡ None)
        → window_after es (unplaced_window (next_window w t)) (map unplaced ts) ≡ Some v
        → Walked es (gap_next g w.name) (next_window w t) ts v)
        → (if b then None
        else window_after es (next_window (unplaced_window w) (unplaced t)) (map unplaced ts))
        ≡ Some v
        → Walked es g w (t ∷ ts) v
    by_test true q more f = absurd (none-some v f)
    by_test false q more f =
        let n = no-front (front_of es w t) (sym (same-front es w t) ∙ q) in
        let e = ap (λ u. window_after es u (map unplaced ts)) (sym (same-moved w t)) ∙ f in
        let z = more n e in (
          z.0,
          z.1,
          z.2,
          z.3,
          λ left. (gap-more es g w t n k).1 (ts ++ left) ∙ z.4 left,
        )

-- A token that opens nothing ends no beginning of a call.
no-opening : (es : List Entry) (w : Window) (t : Leaf) → is_opening (side t) ≡ false
    → front_of es w t ≡ None
no-opening es w t e = by_window w.is_after_dollar w.name w.bang
  where
    none : (n m : Leaf) → (is_mark_of (code "!") (Some m)
        && (is_opening (side t) && is_some (rule_of_leaf es (Some n)))) ≡ false
    none n m = no_and (is_mark_of (code "!") (Some m)) _
        (ap (λ b. b && is_some (rule_of_leaf es (Some n))) e)
      where
        no_and : (a b : Bool) → b ≡ false → (a && b) ≡ false
        no_and true b f = f
        no_and false b f = refl

    by_window : (b : Bool) (n m : Option Leaf) → front_of_tokens es b n m t ≡ None
    by_window true None None = refl
    by_window true None (Some m) = refl
    by_window true (Some n) None = refl
    by_window true (Some n) (Some m) = refl
    by_window false None None = refl
    by_window false None (Some m) = refl
    by_window false (Some n) None = refl
    by_window false (Some n) (Some m) =
        ap (λ b. if b then Some (n ∷ m ∷ t ∷ []) else None) (none n m)

-- A word opens nothing, and nor does `!`.
word-no_opening : (x : Leaf) → is_word x ≡ true → is_opening (side x) ≡ false
word-no_opening x e = by_kind (is_punct x.kind) refl
  where
    by_kind : (b : Bool) → is_punct x.kind ≡ b → is_opening (side x) ≡ false
    by_kind true h = absurd (false≢true (sym (punct-no-word x.kind h) ∙ e))
    by_kind false h = ap (λ b. is_opening (if b then side_of_mark (slice_index x.text 0)
        else Neither)) h

bang-no_opening : (x : Leaf) → is_mark_of (code "!") (Some x) ≡ true
    → is_opening (side x) ≡ false
bang-no_opening x e =
    let p = and_parts (is_punct x.kind) _ e in
    ap (λ b. is_opening (if b then side_of_mark (slice_index x.text 0) else Neither)) p.0
    ∙ ap (λ c. is_opening (side_of_mark c)) (byte-is (code "!") x.text p.1)

-- The name of a call is a word.
pub listed-word : (es : List Entry) (x : Leaf) → is_some (rule_of_leaf es (Some x)) ≡ true
    → is_word x ≡ true
listed-word es x e = by_word (is_word x) e
  where
    by_word : (b : Bool) → is_some (if b then rule_of es (word x) else None) ≡ true → b ≡ true
    by_word true f = refl
    by_word false f = absurd (false≢true f)

same-after : (b : Bool) (o : Option Leaf)
    → after_next b (option_map unplaced o) ≡ after_next b o
same-after b None = refl
same-after b (Some n) = refl

-- Tokens that begin no call are a gap in front of a part.
pub clear-part : (es : List Entry) (gap part left : List Leaf) → IsClear es gap
    → BeginsCall es part → (left ≡ []) ⊎ IsGroup part → IsPart es gap part left
clear-part es gap part left c b end =
    let z = walk es gap [] first_window c.window (gap-none es) c.lacks in
    let h : List Leaf = z.0 in
    let u : Window = z.1 in
    let n : Leaf = b.name in
    let m : Leaf = b.bang in
    let t : Leaf = b.opening in
    let p = and_parts (is_mark_of (code "!") (Some m)) _ b.opens in
    let q = and_parts (is_opening (side t)) _ p.1 in
    let first = gap-more es h u n
    (no-opening es u n (word-no_opening n (listed-word es n q.1))) z.2 in
    let second = gap-more es (gap_next h u.name) (next_window u n) m
    (no-opening es (next_window u n) m (bang-no_opening m p.0)) first.0 in
    let w : Window = next_window (next_window u n) m in
    let g : List Leaf = gap_next (gap_next h u.name) u.bang in
    let same : g ≡ gap = append_cancel_right g gap (n ∷ m ∷ [])
    (sym (z.4 (n ∷ m ∷ []) ∙ (first.1 (m ∷ []) ∙ second.1 []))) in
    let after : w.is_after_dollar ≡ false =
    sym (ap (λ d. after_next d (option_map unplaced u.bang)) (same-after u.is_after_dollar u.name)
    ∙ same-after (after_next u.is_after_dollar u.name) u.bang)
    ∙ (ap (λ v. after_next (after_next v.is_after_dollar v.name) v.bang) z.3 ∙ c.fixed) in
    let front : front_of es w t ≡ Some (n ∷ m ∷ t ∷ []) =
    ap (λ d. front_of_tokens es d (Some n) (Some m) t) after
    ∙ ap (λ d. if d then Some (n ∷ m ∷ t ∷ []) else None) b.opens in
    subst (λ v. IsPart es v part left) same
    (gap-part es g part left (n ∷ m ∷ t ∷ []) b.more w t front second.0 b.joins end).1

-- No call begins in tokens that begin none.
pub clear-end : (es : List Entry) (xs : List Leaf) (w : Window) (c : Call) → LacksFronts es xs w
    → IsCall es xs c → ⊥
clear-end es xs w c l k =
    let z = walk es xs [] first_window w (gap-none es) l in
    gap-end es z.0 z.1 c z.2
    (subst (λ v. IsCall es v c) (sym (append-nil xs) ∙ z.4 []) k)

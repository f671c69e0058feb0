-- A call that is given all that a variable takes, by the indexes of its tokens.
use Rattle.std.proofs.Common.{◌≡◌, ◌<◌, ◌+◌, ◌-◌, ◌++◌, ◌⊎◌, ℕ, zero, suc, List, [], ◌∷◌}
use Rattle.std.proofs.Common.{Option, Some, None, Bool, true, false, inl, inr, refl, ap, sym, ◌∙◌}
use Rattle.std.proofs.Common.{arith, drop, length, subst, take}
use Rattle.std.specs.Prelude.{◌&&◌, ◌||◌, Contains, slice_get}
use Rattle.std.proofs.lemmas.Bool.{cases_Bool, false≢true}
use Rattle.std.proofs.lemmas.List.{take-append-drop}
use Rattle.rust_trees.specs.Leaves.{Leaf}
use Rattle.rust_trees.specs.declared.sides.Delimiter.{Delimiter}
use Rattle.rust_trees.specs.declared.sides.Side.{Side}
use Rattle.rust_trees.specs.declared.sides.Side.TheVariants.{Opens, Closes, Neither}
use Rattle.rust_trees.specs.Forests.{IsPair, Pairs}
use Rattle.format_calls.specs.declared.listing.Call.{Call}
use Rattle.format_calls.specs.declared.table.Rule.{Rule}
use Rattle.format_calls.specs.Rows.{Entry}
use Rattle.format_calls.specs.Calls.{IsCall, rule_of_leaf}
use Rattle.format_calls.specs.Marks.{is_mark_of, is_word}
use Rattle.macro_owners.specs.declared.rights.Right.{Right}
use Rattle.macro_owners.specs.Arms.{IsEmpty, IsReadAs, right_of}
use Rattle.macro_owners.specs.declared.arms.Arm.{Arm}
use Rattle.macro_owners.specs.Expansions.{ForwardsAll, HasCall, IsForwarded, expand, tokens_of}
use Rattle.macro_owners.specs.Rights.{IsHanded, variable_of}
use Rattle.macro_owners.specs.Words.{is_copy, is_same_word}
use Rattle.macro_owners.proofs.Expanding.{expand-call}
use Rattle.macro_owners.proofs.Marks.{drop-step, get-drop, get-part, get-take, side-other}

record Listed (es : List Entry) (o : Option Leaf) (r : Rule) : Type 0 where
  leaf : Leaf
  is : o ≡ Some leaf
  word : is_word leaf ≡ true
  listed : rule_of_leaf es (Some leaf) ≡ Some r

listed : (es : List Entry) (o : Option Leaf) (r : Rule) → rule_of_leaf es o ≡ Some r
    → Listed es o r
listed es None r e = absurd cc
listed es (Some x) r e = by_word (cases_Bool (is_word x))
  where
    by_word : (is_word x ≡ true) ⊎ (is_word x ≡ false) → Listed es (Some x) r
    by_word (inl f) = record { leaf = x; is = refl; word = f; listed = e }
    by_word (inr f) =
        let g : ◌≡◌ {A = Option Rule} None (Some r) = rw f at e in absurd cc

marked : (m : ℕ) (o : Option Leaf) → is_mark_of m o ≡ true
    → (x : Leaf) × (o ≡ Some x) × (is_mark_of m (Some x) ≡ true)
marked m None e = absurd (false≢true e)
marked m (Some x) e = (x, refl, e)

get-at : (u v : List Leaf) (a : Leaf) (n : ℕ) → n ≡ length u → slice_get (u ++ a ∷ v) n ≡ Some a
get-at [] v a zero e = refl
get-at [] v a (suc n) e = absurd (omega (arith, e))
get-at (x ∷ u) v a zero e = absurd (omega (arith, e))
get-at (x ∷ u) v a (suc n) e = get-at u v a n (omega (arith, e))

get-past : (u w : List Leaf) (a : Leaf) (m n : ℕ) → n ≡ length u + (1 + m)
    → slice_get (u ++ a ∷ w) n ≡ slice_get w m
get-past [] w a m zero e = absurd (omega (arith, e))
get-past [] w a m (suc n) e = ap (λ k. slice_get w k) (omega (arith, e))
get-past (x ∷ u) w a m zero e = absurd (omega (arith, e))
get-past (x ∷ u) w a m (suc n) e = get-past u w a m n (omega (arith, e))

record Ends (xs : List Leaf) (i j : ℕ) : Type 0 where
  opening : Leaf
  closing : Leaf
  starts : slice_get xs i ≡ Some opening
  ends : slice_get xs j ≡ Some closing
  pairs : Pairs opening closing

ends-of : (xs : List Leaf) (i j : ℕ) → IsPair xs i j → Ends xs i j
ends-of xs i j p = record {
  opening = p.opening;
  closing = p.closing;
  starts = ap (λ l. slice_get l i) p.joins
      ∙ get-at p.before (p.inside ++ p.closing ∷ p.after) p.opening i p.starts;
  ends = ap (λ l. slice_get l j) p.joins
      ∙ get-past p.before (p.inside ++ p.closing ∷ p.after) p.opening (length p.inside) j
      (let a = p.starts in let b = p.ends in omega (arith, a, b))
      ∙ get-at p.inside p.after p.closing (length p.inside) refl;
  pairs = p.pairs;
}

copy_of : Option Leaf → Option Leaf → Option Leaf → Option Leaf → Option Leaf → Option Leaf
    → Option Leaf → Bool
copy_of a b c d e f v = is_mark_of 36 a && (is_mark_of 40 b
    && ((is_mark_of 36 c && is_same_word d v)
    && (is_mark_of 41 e && (is_mark_of 42 f || is_mark_of 43 f))))

copy-moved : (ys xs : List Leaf) (v : Option Leaf) (i : ℕ)
    → ((m n : ℕ) → m < 7 → n ≡ i + m → slice_get ys m ≡ slice_get xs n)
    → is_copy xs v i ≡ true → is_copy ys v 0 ≡ true
copy-moved ys xs v i h e =
    let h0 = h 0 i (omega arith) (omega arith) in
    let h1 = h 1 (i + 1) (omega arith) (omega arith) in
    let h2 = h 2 (i + 2) (omega arith) (omega arith) in
    let h3 = h 3 (i + 2 + 1) (omega arith) (omega arith) in
    let h4 = h 4 (i + 4) (omega arith) (omega arith) in
    let h5 = h 5 (i + 5) (omega arith) (omega arith) in
    rw (h0, h1, h2, h3, h4, h5) e

-- No side is two of these.
abbrev is_neither : Side → ℕ
is_neither Neither = 0
is_neither (Opens d) = 1
is_neither (Closes d) = 1

opens-neither : (d : Delimiter) → ◌≡◌ {A = Side} (Opens d) Neither → ⊥
opens-neither d e = let h : 1 ≡ 0 = ap (λ s. is_neither s) e in omega (arith, h)

closes-neither : (d : Delimiter) → ◌≡◌ {A = Side} (Closes d) Neither → ⊥
closes-neither d e = let h : 1 ≡ 0 = ap (λ s. is_neither s) e in omega (arith, h)

opens-other : (o z : Leaf) → Pairs o z
    → (is_mark_of 36 (Some o) ≡ false) × (is_mark_of 36 (Some z) ≡ false)
opens-other o z p = (
  side-other o (λ e. absurd (opens-neither p.0 (sym p.1 ∙ e))),
  side-other z (λ e. absurd (closes-neither p.0 (sym p.2 ∙ e))),
)

three-at : (ys : List Leaf) (j : ℕ) (a b c : Leaf) → slice_get ys j ≡ Some a
    → slice_get ys (suc j) ≡ Some b → slice_get ys (suc (suc j)) ≡ Some c
    → drop j ys ≡ a ∷ b ∷ c ∷ drop (suc (suc (suc j))) ys
three-at ys j a b c e f g =
    drop-step ys j a e
    ∙ ap (λ q. a ∷ q) (drop-step ys (suc j) b f
    ∙ ap (λ q. b ∷ q) (drop-step ys (suc (suc j)) c g))

-- The tokens that a right side hands on are, in its expansion, all tokens of a call.
pub handed-call : (es : List Entry) (xs : List Leaf) (cs : List Call) (t : Right) (i : ℕ) (r : Rule)
    → ((c : Call) → Contains cs c → IsCall es xs c) → IsHanded cs xs t i r → (ts : List Leaf)
    → HasCall es r ts (expand (variable_of xs t) ts 0 (tokens_of xs t))
handed-call es xs cs t i r calls h ts =
    let c = h.call in
    let k = calls c h.is_known in
    let a = h.starts in
    let b = h.ends in
    let l = h.length in
    let j : ℕ = c.name - t.start in
    let n : ℕ = t.end - t.start in
    let name = listed es (slice_get xs c.name) c.rule k.is_listed in
    let bang = marked 33 (slice_get xs (c.name + 1)) k.is_macro in
    let pair = ends-of xs (c.name + 2) c.close k.is_pair in
    let others = opens-other pair.opening pair.closing pair.pairs in
    let ys = tokens_of xs t in
    let at : (q k : ℕ) → k ≡ t.start + q → q < n → slice_get ys q ≡ slice_get xs k
    = λ q k e f. get-take (drop t.start xs) n q f ∙ get-drop xs t.start q
    ∙ ap (λ p. slice_get xs p) (sym e) in
    let cs = drop (suc (suc (suc j))) ys in
    let past : (m k : ℕ) → m < 7 → k ≡ c.name + 3 + m → slice_get cs m ≡ slice_get xs k
    = λ m k f e. get-part xs t.start n (suc (suc (suc j))) m k (omega (arith, a, b, l, f))
    (omega (arith, a, e)) in
    let front = three-at ys j name.leaf bang.0 pair.opening
    (at j c.name (omega (arith, a)) (omega (arith, a, b, l)) ∙ name.is)
    (at (suc j) (c.name + 1) (omega (arith, a)) (omega (arith, a, b, l)) ∙ bang.1)
    (at (suc (suc j)) (c.name + 2) (omega (arith, a)) (omega (arith, a, b, l)) ∙ pair.starts) in
    let e = expand-call (variable_of xs t) ts (take j ys) cs name.leaf bang.0 pair.opening
    pair.closing name.word bang.2 others.0
    (copy-moved cs xs (variable_of xs t) (c.name + 3) (λ m k f e. past m k f e) h.copies)
    (past 6 c.close (omega arith) (omega (arith, l)) ∙ pair.ends) others.1 in
    record {
      before = e.0;
      name = name.leaf;
      bang = bang.0;
      opening = pair.opening;
      closing = pair.closing;
      after = e.1;
      joins = ap (λ q. expand (variable_of xs t) ts 0 q)
          (sym (take-append-drop j ys) ∙ ap (λ q. take j ys ++ q) front) ∙ e.2;
      is_listed = subst (λ q. rule_of_leaf es (Some name.leaf) ≡ Some q) h.rule name.listed;
      is_macro = bang.2;
      pairs = pair.pairs;
    }

forwarded : (es : List Entry) (xs : List Leaf) (cs : List Call) (a : Arm) (r : Rule)
    → ((c : Call) → Contains cs c → IsCall es xs c) → IsReadAs cs xs a r → IsForwarded es xs a r
forwarded es xs cs a r calls s =
    let h = s.hands_on in record {
      count = s.count;
      rule = s.rule;
      takes = s.takes;
      is = s.is;
      calls = λ ts. handed-call es xs cs (right_of a) h.use_index s.rule calls
          (h.each h.use_index h.starts h.ends h.is_used) ts;
    }

by-arm : (es : List Entry) (xs : List Leaf) (cs : List Call) (a : Arm) (r : Rule)
    → ((c : Call) → Contains cs c → IsCall es xs c) → IsEmpty a ⊎ IsReadAs cs xs a r
    → IsEmpty a ⊎ IsForwarded es xs a r
by-arm es xs cs a r calls (inl e) = inl e
by-arm es xs cs a r calls (inr s) = inr (forwarded es xs cs a r calls s)

pub forwards-all : (es : List Entry) → ForwardsAll es
forwards-all es = λ xs cs calls opening close r s a h. by-arm es xs cs a r calls (s.each a h)

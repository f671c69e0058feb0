-- The arguments of a call among other tokens.
use Prim.Native.Char.{code}
use Rattle.std.proofs.Common.{◌≡◌, ◌<◌, ◌≤◌, ◌+◌, ◌++◌, ◌⊎◌, ℕ, Bool, true, false, List, [], ◌∷◌}
use Rattle.std.proofs.Common.{Option, Some, inl, inr, refl, ap, sym, subst, ◌∙◌, length}
use Rattle.std.proofs.Common.{length-append, arith, map}
use Rattle.std.specs.Prelude.{◌&&◌, ◌||◌, IsTrue, min, nat_lt, not, slice_get, if◌then◌else◌}
use Rattle.std.specs.List.{AllByRecursion, list_any}
use Rattle.std.proofs.lemmas.Bool.{cases_lt, le-ltb, lt-ltb}
use Rattle.std.proofs.lemmas.Bool.Decides.{nat_tests}
use Rattle.std.proofs.lemmas.List.{append_assoc}
use Rattle.rust_trees.specs.Leaves.{Leaf}
use Rattle.rust_trees.specs.Forests.{IsPair}
use Rattle.rust_trees.proofs.Growing.{pair-within}
use Rattle.format_calls.specs.declared.split.Argument.{Argument}
use Rattle.format_calls.specs.Arguments.{AreArguments, IsArgument, is_end, is_named}
use Rattle.format_calls.specs.Arguments.{is_word_at}
use Rattle.format_calls.specs.Extents.{AreTrees, AreUpTo, is_stop, is_uncounted, opens}
use Rattle.format_calls.specs.Marks.{is_mark, is_mark_of}
use Rattle.format_calls.specs.Modes.{are_joint, is_followed}
use Rattle.format_calls.proofs.Parting.{closing-no-mark, closing-punct, get-shift, punct-no-word}
use Rattle.call_forms.proofs.Embedding.{Embeds, end-at, get-at, mark-at, tree-at, tree-forward}
use Rattle.call_forms.proofs.Embedding.{walks-at, walks-forward}

-- An argument whose tokens stand g tokens further on.
abbrev pub shifted : ℕ → Argument → Argument
shifted g a = record { start = g + a.start; end = g + a.end; is_named = a.is_named }

-- The token that closes a pair.
pub pair-closing : (xs : List Leaf) (o c : ℕ) (p : IsPair xs o c) → slice_get xs c ≡ Some p.closing
pair-closing xs o c p =
    let front = p.before ++ p.opening ∷ p.inside in
    let n = length-append p.before (p.opening ∷ p.inside) in
    let e : c ≡ length front + 0 = omega (arith, n, p.starts, p.ends) in
    ap (λ t. slice_get t c) (p.joins ∙ sym (append_assoc p.before (p.opening ∷ p.inside)
    (p.closing ∷ p.after)))
    ∙ (ap (λ i. slice_get (front ++ p.closing ∷ p.after) i) e
    ∙ get-shift front (p.closing ∷ p.after) 0)

-- A closing delimiter is no `=`, and no name.
no-equals : (xs : List Leaf) (o c : ℕ) → IsPair xs o c → is_mark (code "=") xs c ≡ false
no-equals xs o c p =
    ap (λ t. is_mark_of (code "=") t) (pair-closing xs o c p)
    ∙ closing-no-mark (code "=") p.closing p.pairs.0 refl p.pairs.2

no-word : (xs : List Leaf) (o c : ℕ) → IsPair xs o c → is_word_at (slice_get xs c) ≡ false
no-word xs o c p =
    ap (λ t. is_word_at t) (pair-closing xs o c p)
    ∙ punct-no-word p.closing.kind (closing-punct p.closing p.pairs.0 p.pairs.2)

-- Whether an argument has a name, by its first three tokens.
abbrev named_by : Option Leaf → Option Leaf → Option Leaf → Bool
named_by a b d = is_word_at a && (is_mark_of (code "=") b
    && (not (are_joint b d && is_mark_of (code "=") d)
    && not (are_joint b d && is_mark_of (code ">") d)))

named-of : (a b d s t u : Option Leaf) → a ≡ s → b ≡ t → d ≡ u → named_by a b d ≡ named_by s t u
named-of a b d s t u e f h =
    ap (λ v. named_by v b d) e ∙ (ap (λ v. named_by s v d) f ∙ ap (λ v. named_by s t v) h)

and-false : (a : Bool) → (a && false) ≡ false
and-false true = refl
and-false false = refl

no-name : (a b d : Option Leaf) → is_mark_of (code "=") b ≡ false → named_by a b d ≡ false
no-name a b d e =
    ap (λ v. is_word_at a && (v && (not (are_joint b d && is_mark_of (code "=") d)
    && not (are_joint b d && is_mark_of (code ">") d)))) e ∙ and-false (is_word_at a)

pub named-at : (xs ys : List Leaf) (g o c i : ℕ) → Embeds xs ys g → IsPair xs o c → i ≤ c
    → is_named ys (g + i) ≡ is_named xs i
named-at xs ys g o c i e p h = by_place (cases_lt (i + 1) c) (cases_lt i c)
  where
    w : c < length xs
    w = (pair-within xs o c p).1

    by_place : (i + 1 < c) ⊎ (c ≤ i + 1) → (i < c) ⊎ (c ≤ i)
        → is_named ys (g + i) ≡ is_named xs i
    by_place (inl l) m = named-of _ _ _ _ _ _
        (e.same i (omega (arith, h, w)))
        (get-at xs ys g (i + 1) (g + i + 1) e (omega arith) (omega (arith, l, w)))
        (get-at xs ys g (i + 1 + 1) (g + i + 1 + 1) e (omega arith) (omega (arith, l, w)))
    by_place (inr l) (inl m) =
        let k : i + 1 ≡ c = omega (arith, l, m) in
        let n : g + i + 1 ≡ g + c = omega (arith, k) in
        no-name (slice_get ys (g + i)) (slice_get ys (g + i + 1)) (slice_get ys (g + i + 1 + 1))
        (ap (λ v. is_mark (code "=") ys v) n ∙ no-equals ys (g + o) (g + c) (e.pair o c p))
        ∙ sym (no-name (slice_get xs i) (slice_get xs (i + 1)) (slice_get xs (i + 1 + 1))
        (ap (λ v. is_mark (code "=") xs v) k ∙ no-equals xs o c p))
    by_place (inr l) (inr m) =
        let k : i ≡ c = omega (arith, h, m) in
        let n : g + i ≡ g + c = omega (arith, k) in
        ap (λ v. v && (is_mark (code "=") ys (g + i + 1)
        && (not (is_followed (code "=") ys (g + i + 1))
        && not (is_followed (code ">") ys (g + i + 1)))))
        (ap (λ v. is_word_at (slice_get ys v)) n ∙ no-word ys (g + o) (g + c) (e.pair o c p))
        ∙ sym (ap (λ v. v && (is_mark (code "=") xs (i + 1)
        && (not (is_followed (code "=") xs (i + 1))
        && not (is_followed (code ">") xs (i + 1)))))
        (ap (λ v. is_word_at (slice_get xs v)) k ∙ no-word xs o c p))

-- An argument that lies between these two tokens.
pub record LiesIn (from to : ℕ) (a : Argument) : Type 0 where
  pub starts : from ≤ a.start
  pub stops : a.start < to
  pub rises : a.start ≤ a.end
  pub ends : a.end ≤ to

lies-on : (from more to : ℕ) (bs : List Argument) → from ≤ more
    → AllByRecursion (λ a. LiesIn more to a) bs → AllByRecursion (λ a. LiesIn from to a) bs
lies-on from more to [] h l = tt
lies-on from more to (a ∷ bs) h l = (
  record {
    starts = let s = l.0.starts in omega (arith, h, s);
    stops = l.0.stops;
    rises = l.0.rises;
    ends = l.0.ends;
  },
  lies-on from more to bs h l.1,
)

argument-end : (xs : List Leaf) (from end to : ℕ) → IsArgument xs from end to → from ≤ end
argument-end xs from end to a = walks-forward xs from end _ a.mode a.trees a.walks

reaches : (xs : List Leaf) (at to : ℕ) (bs : List Argument) → AreArguments xs at bs to → at ≤ to
reaches xs at to [] h = omega (arith, h)
reaches xs at to (a ∷ bs) h = omega (arith, h.1)

pub arguments-lie : (xs : List Leaf) (at to : ℕ) (bs : List Argument) → AreArguments xs at bs to
    → AllByRecursion (λ a. LiesIn at to a) bs
arguments-lie xs at to [] h = tt
arguments-lie xs at to (a ∷ bs) h = by_more h.4 (λ k. arguments-lie xs (a.end + 1) to bs k)
  where
    rises : at ≤ a.end
    rises = argument-end xs at a.end to h.2

    lies : a.end ≤ to → LiesIn at to a
    lies l = record {
      starts = omega (arith, h.0);
      stops = omega (arith, h.0, h.1);
      rises = omega (arith, h.0, rises);
      ends = l;
    }

    by_more : ((a.end ≡ to) × (bs ≡ [])) ⊎ (IsTrue (is_mark (code ",") xs a.end)
        × AreArguments xs (a.end + 1) bs to)
        → (AreArguments xs (a.end + 1) bs to → AllByRecursion (λ b. LiesIn (a.end + 1) to b) bs)
        → AllByRecursion (λ b. LiesIn at to b) (a ∷ bs)
    by_more (inl e) again = (
      lies (omega (arith, e.0)),
      subst (λ v. AllByRecursion (λ a. LiesIn at to a) v) (sym e.1) tt,
    )
    by_more (inr m) again =
        let r = reaches xs (a.end + 1) to bs m.1 in (
          lies (omega (arith, r)),
          lies-on at (a.end + 1) to bs (omega (arith, rises)) (again m.1),
        )

argument-at : (xs ys : List Leaf) (g o c at end : ℕ) → Embeds xs ys g → IsPair xs o c → o < at
    → end ≤ c → IsArgument xs at end c → IsArgument ys (g + at) (g + end) (g + c)
argument-at xs ys g o c at end e p h l a = record {
  trees = map (λ j. g + j) a.trees;
  mode = a.mode;
  walks = walks-at xs ys g o c at end _ a.mode a.trees e p h l a.walks;
  ends = by_end a.ends;
}
  where
    by_end : IsTrue (is_end xs end a.mode) ⊎ (end ≡ c)
        → IsTrue (is_end ys (g + end) a.mode) ⊎ (g + end ≡ g + c)
    by_end (inl t) =
        let w = (pair-within xs o c p).1 in
        inl (end-at xs ys g end a.mode e (omega (arith, l, w)) ∙ t)
    by_end (inr t) = inr (ap (λ v. g + v) t)

pub arguments-at : (xs ys : List Leaf) (g o c at : ℕ) (bs : List Argument) → Embeds xs ys g
    → IsPair xs o c → o < at → AreArguments xs at bs c
    → AreArguments ys (g + at) (map (shifted g) bs) (g + c)
arguments-at xs ys g o c at [] e p h k = ap (λ v. g + v) k
arguments-at xs ys g o c at (a ∷ bs) e p h k = (
  ap (λ v. g + v) k.0,
  omega (arith, k.1),
  argument-at xs ys g o c at a.end e p h lies.ends k.2,
  k.3 ∙ sym (named-at xs ys g o c at e p (omega (arith, k.1))),
  by_more k.4 (λ h m. arguments-at xs ys g o c (a.end + 1) bs e p h m),
)
  where
    lies : LiesIn at c a
    lies = (arguments-lie xs at c (a ∷ bs) k).0

    by_more : ((a.end ≡ c) × (bs ≡ [])) ⊎ (IsTrue (is_mark (code ",") xs a.end)
        × AreArguments xs (a.end + 1) bs c)
        → (o < a.end + 1 → AreArguments xs (a.end + 1) bs c
        → AreArguments ys (g + (a.end + 1)) (map (shifted g) bs) (g + c))
        → ((g + a.end ≡ g + c) × (map (shifted g) bs ≡ []))
        ⊎ (IsTrue (is_mark (code ",") ys (g + a.end))
        × AreArguments ys (g + a.end + 1) (map (shifted g) bs) (g + c))
    by_more (inl m) again = inl (ap (λ v. g + v) m.0, ap (λ v. map (shifted g) v) m.1)
    by_more (inr m) again =
        let r = reaches xs (a.end + 1) c bs m.1 in
        let w = (pair-within xs o c p).1 in
        let s = lies.rises in
        let t = lies.starts in
        let n : g + (a.end + 1) ≡ g + a.end + 1 = omega arith in
        inr (
          mark-at (code ",") xs ys g a.end (g + a.end) e refl (omega (arith, r, w)) ∙ m.0,
          subst (λ v. AreArguments ys v (map (shifted g) bs) (g + c)) n
              (again (omega (arith, h, s, t)) m.1),
        )

-- Whether a token leaves the number of arguments open, by what stands there and after it.
abbrev uncounted_by : Bool → Bool → Bool → Bool → Bool → Bool → Bool → Bool
uncounted_by a b d f k m n = if a then b || d else (if f then not k && not m else n)

uncounted-of : (a b d f k m n r s t u v w x : Bool) → a ≡ r → b ≡ s → d ≡ t → f ≡ u → k ≡ v → m ≡ w
    → n ≡ x → uncounted_by a b d f k m n ≡ uncounted_by r s t u v w x
uncounted-of a b d f k m n r s t u v w x p q y z e h l =
    ap (λ o. uncounted_by o b d f k m n) p ∙ (ap (λ o. uncounted_by r o d f k m n) q
    ∙ (ap (λ o. uncounted_by r s o f k m n) y ∙ (ap (λ o. uncounted_by r s t o k m n) z
    ∙ (ap (λ o. uncounted_by r s t u o m n) e ∙ (ap (λ o. uncounted_by r s t u v o n) h
    ∙ ap (λ o. uncounted_by r s t u v w o) l)))))

uncounted-at : (xs ys : List Leaf) (g o c i : ℕ) → Embeds xs ys g → IsPair xs o c → i < c
    → is_uncounted ys (g + i) ≡ is_uncounted xs i
uncounted-at xs ys g o c i e p h =
    let w = (pair-within xs o c p).1 in
    let n : g + i + 1 ≡ g + (i + 1) = omega arith in
    uncounted-of _ _ _ _ _ _ _ _ _ _ _ _ _ _
    (mark-at (code "$") xs ys g i (g + i) e refl (omega (arith, h, w)))
    (ap (λ v. opens v) (get-at xs ys g (i + 1) (g + i + 1) e n (omega (arith, h, w))))
    (ap (λ v. is_named ys v) n ∙ named-at xs ys g o c (i + 1) e p (omega (arith, h)))
    (mark-at (code "#") xs ys g i (g + i) e refl (omega (arith, h, w)))
    (mark-at (code "[") xs ys g (i + 1) (g + i + 1) e n (omega (arith, h, w)))
    (mark-at (code "!") xs ys g (i + 1) (g + i + 1) e n (omega (arith, h, w)))
    (mark-at (code ";") xs ys g i (g + i) e refl (omega (arith, h, w)))

trees-forward : (xs : List Leaf) (from to : ℕ) (ts : List ℕ) → AreTrees xs from ts to → from ≤ to
trees-forward xs from to [] t = omega (arith, t)
trees-forward xs from to (k ∷ ts) t =
    let a = tree-forward xs from t.1 t.2 in
    let b = trees-forward xs t.1 to ts t.3 in
    omega (arith, a, b)

pub trees-at : (xs ys : List Leaf) (g o c from to : ℕ) (ts : List ℕ) → Embeds xs ys g
    → IsPair xs o c → o < from → to ≤ c → AreTrees xs from ts to
    → AreTrees ys (g + from) (map (λ t. g + t) ts) (g + to)
trees-at xs ys g o c from to [] e p h w t = ap (λ v. g + v) t
trees-at xs ys g o c from to (k ∷ ts) e p h w t =
    let a = tree-forward xs from t.1 t.2 in
    let b = trees-forward xs t.1 to ts t.3 in (
      ap (λ v. g + v) t.0,
      g + t.1,
      tree-at xs ys g o c from t.1 e p h (omega (arith, a, b, w)) t.2,
      trees-at xs ys g o c t.1 to ts e p (omega (arith, h, a)) w t.3,
    )

-- The same is said of trees there.
trees-any : (f k : ℕ → Bool) (xs : List Leaf) (g c from to : ℕ) (ts : List ℕ) → to ≤ c
    → ((i : ℕ) → i < c → f (g + i) ≡ k i) → AreTrees xs from ts to
    → list_any f (map (λ t. g + t) ts) ≡ list_any k ts
trees-any f k xs g c from to [] w h t = refl
trees-any f k xs g c from to (i ∷ ts) w h t =
    let a = tree-forward xs from t.1 t.2 in
    let b = trees-forward xs t.1 to ts t.3 in
    ap (λ v. v || list_any f (map (λ t. g + t) ts)) (h i (omega (arith, a, b, t.0, w)))
    ∙ ap (λ v. k i || v) (trees-any f k xs g c t.1 to ts w h t.3)

pub counted-at : (xs ys : List Leaf) (g o c from to : ℕ) (ts : List ℕ) → Embeds xs ys g
    → IsPair xs o c → to ≤ c → AreTrees xs from ts to
    → list_any (is_uncounted ys) (map (λ t. g + t) ts) ≡ list_any (is_uncounted xs) ts
counted-at xs ys g o c from to ts e p w t =
    trees-any (is_uncounted ys) (is_uncounted xs) xs g c from to ts w
    (λ i h. uncounted-at xs ys g o c i e p h) t

stop-at : (b : Bool) (xs ys : List Leaf) (g i : ℕ) → Embeds xs ys g → i < length xs
    → is_stop b ys (g + i) ≡ is_stop b xs i
stop-at b xs ys g i e h = ap (λ v. b && v) (mark-at (code ";") xs ys g i (g + i) e refl h)

-- Arguments end at the same token.
pub up-to-at : (b : Bool) (xs ys : List Leaf) (g o c from end : ℕ) (ts : List ℕ) → Embeds xs ys g
    → IsPair xs o c → o < from → AreUpTo b xs from ts end c
    → AreUpTo b ys (g + from) (map (λ t. g + t) ts) (g + end) (g + c)
up-to-at b xs ys g o c from end ts e p h u = record {
  are_trees = trees-at xs ys g o c from end ts e p h u.within u.are_trees;
  go_on = trees-any (is_stop b ys) (is_stop b xs) xs g c from end ts u.within
      (λ i l. stop-at b xs ys g i e (omega (arith, l, w))) u.are_trees ∙ u.go_on;
  within = let l = u.within in omega (arith, l);
  ends = by_end u.ends;
}
  where
    w : c < length xs
    w = (pair-within xs o c p).1

    by_end : (end ≡ c) ⊎ IsTrue (is_stop b xs end)
        → (g + end ≡ g + c) ⊎ IsTrue (is_stop b ys (g + end))
    by_end (inl t) = inl (ap (λ v. g + v) t)
    by_end (inr t) =
        let l = u.within in inr (stop-at b xs ys g end e (omega (arith, l, w)) ∙ t)

-- Both offsets are further on.
pub less-same : (g s e : ℕ) → nat_lt (g + s) (g + e) ≡ nat_lt s e
less-same g s e = by_order (cases_lt s e)
  where
    by_order : (s < e) ⊎ (e ≤ s) → nat_lt (g + s) (g + e) ≡ nat_lt s e
    by_order (inl h) =
        let l : g + s < g + e = omega (arith, h) in
        let a : nat_lt (g + s) (g + e) ≡ true = grind (arith, nat_tests) in
        let b : nat_lt s e ≡ true = grind (arith, nat_tests) in
        a ∙ sym b
    by_order (inr h) =
        let l : g + e ≤ g + s = omega (arith, h) in
        let a : nat_lt (g + s) (g + e) ≡ false = grind (arith, nat_tests) in
        let b : nat_lt s e ≡ false = grind (arith, nat_tests) in
        a ∙ sym b

-- The tokens between the parts of a file, and the forests in which they stand.
use Rattle.std.proofs.Common.{◌≡◌, ◌++◌, ◌+◌, ◌-◌, ◌<◌, ◌≤◌, ℕ, Bool, true, false, List, [], ◌∷◌}
use Rattle.std.proofs.Common.{Bor, Option, Some, None, drop, get_or, map}
use Rattle.std.proofs.Common.{refl, ap, sym, ◌∙◌, subst, length, chars}
use Rattle.std.specs.Prelude.{IsTrue, if◌then◌else◌}
use Rattle.std.specs.List.{list_all}
use Rattle.std.proofs.lemmas.Bool.{and_from, and_parts}
use Rattle.std.proofs.lemmas.List.{append_assoc, append-nil, drop-map, drop_all, drop_more}
use Rattle.rust_tokens.specs.Tokens.{Lexeme, Reads}
use Rattle.rust_tokens.specs.Spans.{end_of}
use Rattle.rust_tokens.proofs.Readings.{reads-some}
use Rattle.rust_trees.specs.Balances.{AreEnded}
use Rattle.rust_trees.specs.Forests.{IsForest}
use Rattle.rust_trees.specs.Leaves.{AreLeft, Leaf, Remainder, is_leaf, leaf_at, leaves, side}
use Rattle.rust_trees.specs.Scans.{open_after, scan}
use Rattle.rust_trees.specs.declared.sides.Delimiter.{Delimiter}
use Rattle.rust_trees.proofs.Scanning.{forest-scan, over-forest, scan-append, scan-forest}
use Rattle.rust_trees.proofs.Scanning.{scan-none}
use Rattle.format_calls.specs.Calls.{IsCall}
use Rattle.format_calls.specs.Gaps.{IsGapText, LacksFronts}
use Rattle.format_calls.specs.Parts.{Window}
use Rattle.format_calls.specs.Rows.{Entry}
use Rattle.format_calls.specs.declared.listing.Call.{Call}
use Rattle.format_calls.proofs.ClearGaps.{clear-end, lacks-elsewhere}
use Rattle.format_calls.specs.GapTexts.{AreGapTexts, AreGaps, GapsBefore, IsLastText}
use Rattle.format_calls.specs.GapTexts.{leaves_of_all, texts}
use Rattle.format_calls.specs.declared.gap_texts.Gaps.{Gaps}

-- The delimiters that are open do not depend on where tokens begin.
pub scan-elsewhere : (a b : ℕ) (xs : List Lexeme) (o : Option (List Delimiter))
    → scan o (leaves a xs) ≡ scan o (leaves b xs)
scan-elsewhere a b [] o = refl
scan-elsewhere a b (x ∷ xs) o =
    by_test (is_leaf x.kind x.is_ended) (scan-elsewhere (end_of a x) (end_of b x) xs)
  where
    by_test : (q : Bool) → ((p : Option (List Delimiter))
        → scan p (leaves (end_of a x) xs) ≡ scan p (leaves (end_of b x) xs))
        → scan o (if q then leaf_at a x ∷ leaves (end_of a x) xs else leaves (end_of a x) xs)
        ≡ scan o (if q then leaf_at b x ∷ leaves (end_of b x) xs else leaves (end_of b x) xs)
    by_test true more = more (open_after (side (leaf_at b x)) o)
    by_test false more = more o

-- A forest leaves open what was open.
scan-over : (xs : List Leaf) (o : Option (List Delimiter)) → IsForest xs → scan o xs ≡ o
scan-over xs None f = scan-none xs
scan-over xs (Some ds) f =
    subst (λ ys. scan (Some ds) ys ≡ Some ds) f.spells (over-forest f.forest f.is_well ds)

scan-gap : (a : ℕ) (xs : List Lexeme) (gap part : List Leaf) (o : Option (List Delimiter))
    → leaves a xs ≡ gap → IsForest part → scan o (gap ++ part) ≡ scan o (leaves 0 xs)
scan-gap a xs gap part o e f =
    scan-append o gap part ∙ (scan-over part (scan o gap) f
    ∙ (ap (λ v. scan o v) (sym e) ∙ scan-elsewhere a 0 xs o))

-- Tokens that have their ends.
pub ended-join : (xs ys : List Leaf) → AreEnded xs → AreEnded ys → AreEnded (xs ++ ys)
ended-join [] ys e f = f
ended-join (x ∷ xs) ys e f =
    let p = and_parts x.is_ended _ e in and_from _ _ p.0 (ended-join xs ys p.1 f)

pub ended-parts : (xs ys : List Leaf) → AreEnded (xs ++ ys) → AreEnded xs × AreEnded ys
ended-parts [] ys e = (refl, e)
ended-parts (x ∷ xs) ys e =
    let p = and_parts x.is_ended _ e in
    let q = ended-parts xs ys p.1 in (and_from _ _ p.0 q.0, q.1)

pub ended-leaves : (a : ℕ) (xs : List Lexeme) → IsTrue (list_all (λ x. x.is_ended) xs)
    → AreEnded (leaves a xs)
ended-leaves a [] e = refl
ended-leaves a (x ∷ xs) e =
    let p = and_parts x.is_ended _ e in
    by_test (is_leaf x.kind x.is_ended) p.0 (ended-leaves (end_of a x) xs p.1)
  where
    by_test : (q : Bool) → x.is_ended ≡ true → AreEnded (leaves (end_of a x) xs)
        → AreEnded (if q then leaf_at a x ∷ leaves (end_of a x) xs else leaves (end_of a x) xs)
    by_test true f more = and_from _ _ f more
    by_test false f more = more

ended-elsewhere : (a b : ℕ) (xs : List Lexeme) → AreEnded (leaves a xs) → AreEnded (leaves b xs)
ended-elsewhere a b [] e = refl
ended-elsewhere a b (x ∷ xs) e =
    by_test (is_leaf x.kind x.is_ended) (ended-elsewhere (end_of a x) (end_of b x) xs) e
  where
    by_test : (q : Bool) → (AreEnded (leaves (end_of a x) xs) → AreEnded (leaves (end_of b x) xs))
        → AreEnded (if q then leaf_at a x ∷ leaves (end_of a x) xs else leaves (end_of a x) xs)
        → AreEnded (if q then leaf_at b x ∷ leaves (end_of b x) xs else leaves (end_of b x) xs)
    by_test true more f =
        let p = and_parts x.is_ended _ f in and_from _ _ p.0 (more p.1)
    by_test false more f = more f

-- The texts so far, with one more.
texts-more : (es : List Entry) (gs : List (List ℕ)) (xss : List (List Lexeme)) (g : List ℕ)
    (ys : List Lexeme) → AreGapTexts es gs xss → IsGapText es g ys
    → AreGapTexts es (gs ++ g ∷ []) (xss ++ ys ∷ [])
texts-more es [] xss g ys h k =
    (ys, [], ap (λ v. v ++ ys ∷ []) h, k, refl)
texts-more es (f ∷ gs) xss g ys h k = (
  h.0,
  h.1 ++ ys ∷ [],
  ap (λ v. v ++ ys ∷ []) h.2,
  h.3,
  texts-more es gs h.1 g ys h.4 k,
)

all-more : (xss : List (List Lexeme)) (ys : List Lexeme)
    → leaves_of_all (xss ++ ys ∷ []) ≡ leaves_of_all xss ++ leaves 0 ys
all-more [] ys = append-nil (leaves 0 ys)
all-more (xs ∷ xss) ys =
    ap (λ v. leaves 0 xs ++ v) (all-more xss ys)
    ∙ sym (append_assoc (leaves 0 xs) (leaves_of_all xss) (leaves 0 ys))

pub before-none : (es : List Entry) → GapsBefore es [] []
before-none es = record { tokens = []; are_texts = refl; scanned = λ o. refl }

pub before-more : (es : List Entry) (gs : List (List ℕ)) (front gap part : List Leaf) (g : List ℕ)
    (ys : List Lexeme) (a : ℕ) → GapsBefore es gs front → IsGapText es g ys → leaves a ys ≡ gap
    → IsForest part → GapsBefore es (gs ++ g ∷ []) (front ++ (gap ++ part))
before-more es gs front gap part g ys a b k e f = record {
  tokens = b.tokens ++ ys ∷ [];
  are_texts = texts-more es gs b.tokens g ys b.are_texts k;
  scanned = λ o.
      scan-append o front (gap ++ part)
      ∙ (scan-gap a ys gap part (scan o front) e f
      ∙ (ap (λ p. scan p (leaves 0 ys)) (b.scanned o)
      ∙ (sym (scan-append o (leaves_of_all b.tokens) (leaves 0 ys))
      ∙ ap (λ v. scan o v) (sym (all-more b.tokens ys)))));
}

-- All texts of a file that is a forest.
pub gaps-all : (es : List Entry) (gs : List (List ℕ)) (front left : List Leaf) (u : Remainder)
    (w : Window) → GapsBefore es gs front → AreLeft u left → LacksFronts es left w
    → IsForest (front ++ left) → AreEnded left → AreGaps es gs u.rest
gaps-all es gs front left u w b l k f e =
    let at : ℕ = length u.whole - length u.rest in
    record {
      tokens = b.tokens;
      are_texts = b.are_texts;
      rest = l.0;
      is_last = record {
        reads = l.1;
        are_ended = ended-elsewhere at 0 l.0 (subst (λ v. AreEnded v) l.2 e);
        window = w;
        lacks = lacks-elsewhere es at 0 l.0 w (subst (λ v. LacksFronts es v w) l.2 k);
      };
      is_forest = forest-scan (leaves_of_all b.tokens ++ leaves 0 l.0)
          (scan-append (Some []) (leaves_of_all b.tokens) (leaves 0 l.0)
          ∙ (ap (λ p. scan p (leaves 0 l.0)) (sym (b.scanned (Some [])))
          ∙ (scan-elsewhere 0 at l.0 (scan (Some []) front)
          ∙ (ap (λ v. scan (scan (Some []) front) v) (sym l.2)
          ∙ (sym (scan-append (Some []) front left)
          ∙ scan-forest (front ++ left) f)))));
    }

-- Between these texts and the last one the rest of a file is a forest with the tokens before it.
pub record GapsLeft (es : List Entry) (gs : List (List ℕ)) (last : List ℕ) (front : List Leaf)
    : Type 0 where
  pub tokens : List (List Lexeme)
  pub are_texts : AreGapTexts es gs tokens
  pub rest : List Lexeme
  pub is_last : IsLastText es last rest
  pub are_ended : AreEnded front
  pub scanned : scan (scan (Some []) front) (leaves_of_all tokens ++ leaves 0 rest) ≡ Some []

pub left-all : (es : List Entry) (gs : List (List ℕ)) (last : List ℕ) → AreGaps es gs last
    → GapsLeft es gs last []
left-all es gs last a = record {
  tokens = a.tokens;
  are_texts = a.are_texts;
  rest = a.rest;
  is_last = a.is_last;
  are_ended = refl;
  scanned = scan-forest (leaves_of_all a.tokens ++ leaves 0 a.rest) a.is_forest;
}

-- The first of these texts, and the others after its part.
pub record NextGap (es : List Entry) (g : List ℕ) (gs : List (List ℕ)) (last : List ℕ)
    (front : List Leaf) : Type 0 where
  pub tokens : List Lexeme
  pub is_text : IsGapText es g tokens
  pub goes_on : (a : ℕ) (part : List Leaf) → IsForest part → AreEnded part
      → GapsLeft es gs last (front ++ (leaves a tokens ++ part))

pub next-gap : (es : List Entry) (g : List ℕ) (gs hs : List (List ℕ)) (last : List ℕ)
    (front : List Leaf) → hs ≡ g ∷ gs → GapsLeft es hs last front → NextGap es g gs last front
next-gap es g gs hs last front e l =
    let h : AreGapTexts es (g ∷ gs) l.tokens =
    subst (λ v. AreGapTexts es v l.tokens) e l.are_texts in
    let xs : List Lexeme = h.0 in
    let more : List Leaf = leaves_of_all h.1 ++ leaves 0 l.rest in
    let all : leaves_of_all l.tokens ++ leaves 0 l.rest ≡ leaves 0 xs ++ more =
    ap (λ v. leaves_of_all v ++ leaves 0 l.rest) h.2
    ∙ append_assoc (leaves 0 xs) (leaves_of_all h.1) (leaves 0 l.rest) in
    record {
      tokens = xs;
      is_text = h.3;
      goes_on = λ a part f k. record {
        tokens = h.1;
        are_texts = h.4;
        rest = l.rest;
        is_last = l.is_last;
        are_ended = ended-join front (leaves a xs ++ part) l.are_ended
            (ended-join (leaves a xs) part (ended-leaves a xs h.3.are_ended) k);
        scanned = ap (λ p. scan p more) (scan-append (Some []) front (leaves a xs ++ part)
            ∙ scan-gap a xs (leaves a xs) part (scan (Some []) front) refl f)
            ∙ (sym (scan-append (scan (Some []) front) (leaves 0 xs) more)
            ∙ (ap (λ v. scan (scan (Some []) front) v) (sym all) ∙ l.scanned));
      };
    }

-- The end of a file, where no call is left.
abbrev pub NoPart : List Entry → Remainder → Type 0
NoPart es u = (left : List Leaf) × AreLeft u left × ((c : Call) → IsCall es left c → ⊥)

-- The last text ends a forest.
abbrev pub Ends : List Entry → Remainder → List Leaf → Type 0
Ends es u front = (n : NoPart es u) × (IsForest (front ++ n.0) × AreEnded (front ++ n.0))

pub last-gap : (es : List Entry) (hs : List (List ℕ)) (last : List ℕ) (front : List Leaf)
    (u : Remainder) → hs ≡ [] → u.rest ≡ last → GapsLeft es hs last front → Ends es u front
last-gap es hs last front u e f l =
    let at : ℕ = length u.whole - length u.rest in
    let xs : List Lexeme = l.rest in
    let none : l.tokens ≡ [] = subst (λ v. AreGapTexts es v l.tokens) e l.are_texts in
    let lacks : LacksFronts es (leaves at xs) l.is_last.window =
    lacks-elsewhere es 0 at xs l.is_last.window l.is_last.lacks in (
      (
        leaves at xs,
        (xs, subst (λ v. Reads (chars v) xs) (sym f) l.is_last.reads, refl),
        λ c k. clear-end es (leaves at xs) l.is_last.window c lacks k,
      ),
      (
        forest-scan (front ++ leaves at xs) (scan-append (Some []) front (leaves at xs)
            ∙ (scan-elsewhere at 0 xs (scan (Some []) front)
            ∙ (ap (λ v. scan (scan (Some []) front) (leaves_of_all v ++ leaves 0 xs)) (sym none)
            ∙ l.scanned))),
        ended-join front (leaves at xs) l.are_ended
            (ended-elsewhere 0 at xs l.is_last.are_ended),
      ),
    )

-- The texts from one on, and after the last one.
pub text-at : (xs ys : List (Bor (List ℕ))) (i : ℕ) (d : Bor (List ℕ)) → ys ≡ xs → i < length ys
    → drop i (map (λ t. t.now) xs)
    ≡ (get_or ys i d).now ∷ drop (i + 1) (map (λ t. t.now) xs)
text-at xs ys i d e l =
    drop-map (λ t. t.now) i xs
    ∙ (ap (λ v. map (λ t. t.now) (drop i v)) (sym e)
    ∙ (ap (λ v. map (λ t. t.now) v) (drop_more ys i d l)
    ∙ ap (λ v. (get_or ys i d).now ∷ v) (ap (λ v. map (λ t. t.now) (drop (i + 1) v)) e
    ∙ sym (drop-map (λ t. t.now) (i + 1) xs))))

pub text-end : (xs ys : List (Bor (List ℕ))) (i : ℕ) → ys ≡ xs → length ys ≤ i
    → drop i (map (λ t. t.now) xs) ≡ []
text-end xs ys i e l =
    drop-map (λ t. t.now) i xs
    ∙ ap (λ v. map (λ t. t.now) v) (ap (λ v. drop i v) (sym e) ∙ drop_all i ys l)

-- Some tokens are left.
pub some-left : (u : Remainder) → (left : List Leaf) × AreLeft u left
some-left u =
    let x = reads-some (chars u.rest) in
    (leaves (length u.whole - length u.rest) x.0, (x.0, x.1, refl))

-- The texts of gaps that are the same.
pub same-gaps : (es : List Entry) (g h : Gaps) → h.fronts ≡ g.fronts
    → AreGaps es (texts g) h.last.now → AreGaps es (texts h) h.last.now
same-gaps es g h e a =
    subst (λ v. AreGaps es (map (λ t. t.now) v.items) h.last.now) (sym e) a

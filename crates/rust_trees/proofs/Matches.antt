-- The pairs of the tokens so far, as tokens are added.
use Rattle.std.proofs.Common.{◌≡◌, ◌++◌, ℕ, false, List, [], ◌∷◌, Option, Some, None}
use Rattle.std.proofs.Common.{refl, ap, sym, ◌∙◌, subst, length, length-append, set, map}
use Rattle.std.specs.Prelude.{reverse, slice_index_or, true, ◌+◌}
use Rattle.rust_trees.specs.Sides.{is_same}
use Rattle.rust_trees.proofs.Growing.{no-pair-in-none, no-place}
use Rattle.std.specs.Option.{option_or}
use Rattle.std.proofs.lemmas.List.{append_assoc, reverse-append, length-set}
use Rattle.std.proofs.lemmas.Option.{none-some}
use Rattle.rust_trees.specs.declared.sides.Delimiter.{Delimiter}
use Rattle.rust_trees.specs.declared.sides.Delimiter.TheVariants.{Parenthesis, Bracket, Brace}
use Rattle.rust_trees.specs.declared.sides.Side.TheVariants.{Opens, Closes, Neither}
use Rattle.rust_trees.specs.declared.matching.Opening.{Opening}
use Rattle.rust_trees.specs.declared.matching.Matching.{Matching}
use Rattle.rust_tokens.specs.declared.kinds.Kind.TheVariants.{Punct}
use Rattle.rust_trees.specs.Leaves.{Leaf, side}
use Rattle.rust_trees.specs.Scans.{open_after, scan}
use Rattle.rust_trees.specs.Forests.{IsForest}
use Rattle.rust_trees.specs.Breaks.{IsFront, IsUnexpected, IsUnclosed}
use Rattle.rust_trees.specs.Matching.{Alive, IsFirst, HasOpen, IsMatched}
use Rattle.rust_trees.proofs.Scanning.{scan-append, scan-none, scan-forest, forest-scan, closes-top}
use Rattle.rust_trees.proofs.Stacks.{alive-token, alive-open, alive-close, alive-break, Mismatches}
use Rattle.rust_trees.proofs.Stacks.{breaks-top, no-open-close, no-close-neither}
use Rattle.rust_trees.proofs.Partners.{sound-none, complete-none, ends-none, with_pair, sound-pair}
use Rattle.rust_trees.proofs.Partners.{complete-pair}

-- A token that closes delimiters of this kind.
abbrev closer : Delimiter → Leaf
closer Parenthesis =
    record { kind = Punct; is_ended = true; has_suffix = false; text = 41 ∷ []; start = 0 }
closer Bracket =
    record { kind = Punct; is_ended = true; has_suffix = false; text = 93 ∷ []; start = 0 }
closer Brace =
    record { kind = Punct; is_ended = true; has_suffix = false; text = 125 ∷ []; start = 0 }

closer-closes : (d : Delimiter) → side (closer d) ≡ Closes d
closer-closes Parenthesis = refl
closer-closes Bracket = refl
closer-closes Brace = refl

closers-close : (ds : List Delimiter)
    → scan (Some ds) (map (λ d. closer d) ds) ≡ Some []
closers-close [] = refl
closers-close (d ∷ ds) =
    ap (λ o. scan o (map (λ e. closer e) ds)) (closes-top (side (closer d)) d ds (closer-closes d))
    ∙ closers-close ds

-- Tokens that do not break are the front of a forest, and those that do are none.
pub front-of : (w : List Leaf) (ds : List Delimiter) → scan (Some []) w ≡ Some ds → IsFront w
front-of w ds h =
    let cs : List Leaf = map (λ d. closer d) ds in (
      cs,
      forest-scan (w ++ cs) (scan-append (Some []) w cs
          ∙ (ap (λ o. scan o cs) h ∙ closers-close ds)),
    )

pub no-front : (w : List Leaf) → scan (Some []) w ≡ None → IsFront w → ⊥
no-front w h f = none-some [] (sym (scan-append (Some []) w f.0
    ∙ (ap (λ o. scan o f.0) h ∙ scan-none f.0)) ∙ scan-forest (w ++ f.0) f.1)

pub one-more : (w : List Leaf) (x : Leaf) (o : Option (List Delimiter)) → scan (Some []) w ≡ o
    → scan (Some []) (w ++ x ∷ []) ≡ open_after (side x) o
one-more w x o h = scan-append (Some []) w (x ∷ []) ∙ ap (λ t. open_after (side x) t) h

unexpected-more : (w : List Leaf) (x : Leaf) (k : ℕ) → IsUnexpected w k
    → IsUnexpected (w ++ x ∷ []) k
unexpected-more w x k u = record {
  before = u.before;
  closing = u.closing;
  after = u.after ++ x ∷ [];
  joins = ap (λ t. t ++ x ∷ []) u.joins
      ∙ append_assoc u.before (u.closing ∷ u.after) (x ∷ []);
  place = u.place;
  is_front = u.is_front;
  breaks = u.breaks;
}

abbrev pub kinds : List Opening → List Delimiter
kinds os = map (λ o. o.delimiter) os

first-more : (w : List Leaf) (x : Leaf) (os ns : List Opening) (u : Option ℕ) → IsFirst w os u
    → open_after (side x) (Some (kinds os)) ≡ Some (kinds ns) → IsFirst (w ++ x ∷ []) ns u
first-more w x os ns None f e = one-more w x (Some (kinds os)) f ∙ e
first-more w x os ns (Some k) f e = unexpected-more w x k f

first-break : (w : List Leaf) (x : Leaf) (os ns : List Opening) (u : Option ℕ) → IsFirst w os u
    → open_after (side x) (Some (kinds os)) ≡ None
    → IsFirst (w ++ x ∷ []) ns (option_or u (Some (length w)))
first-break w x os ns None f e = record {
  before = w;
  closing = x;
  after = [];
  joins = refl;
  place = refl;
  is_front = front-of w (kinds os) f;
  breaks = λ g. no-front (w ++ x ∷ []) (one-more w x (Some (kinds os)) f ∙ e) g;
}
first-break w x os ns (Some k) f e = unexpected-more w x k f

counted-more : (w : List Leaf) (x : Leaf) (ps qs : List (Option ℕ)) (p : Option ℕ)
    → length ps ≡ length w → qs ≡ ps ++ p ∷ [] → length qs ≡ length (w ++ x ∷ [])
counted-more w x ps qs p c e =
    ap (λ t. length t) e ∙ (length-append ps (p ∷ []) ∙ (ap (λ n. n + 1) c
    ∙ sym (length-append w (x ∷ []))))

pub reverse-last : (os : List Opening) (o : Opening) → reverse (os ++ o ∷ []) ≡ o ∷ reverse os
reverse-last os o = reverse-append os (o ∷ [])

-- A token that is no delimiter.
pub matched-token : (w : List Leaf) (x : Leaf) (m n : Matching) → side x ≡ Neither → IsMatched w m
    → n.partners.items ≡ m.partners.items ++ None ∷ []
    → n.openings.items ≡ m.openings.items → n.unexpected_index ≡ m.unexpected_index
    → IsMatched (w ++ x ∷ []) n
matched-token w x m n s h e f g = record {
  counted = counted-more w x m.partners.items n.partners.items None h.counted e;
  is_sound = rw e (sound-none w x m.partners.items h.is_sound);
  is_complete = rw e (complete-none w x m.partners.items
      (λ i j p. no-close-neither p.pairs.0 (sym p.pairs.2 ∙ s)) h.is_complete);
  has_open = rw (f, g) (record {
    alive = alive-token (reverse m.openings.items) w x s h.has_open.alive;
    is_first = first-more w x (reverse m.openings.items) (reverse m.openings.items)
        m.unexpected_index
        h.has_open.is_first
        (ap (λ t. open_after t (Some (kinds (reverse m.openings.items)))) s);
  });
}

-- A delimiter that opens a pair.
pub matched-open : (w : List Leaf) (x : Leaf) (m n : Matching) (o : Opening)
    → side x ≡ Opens o.delimiter → IsMatched w m → o.position ≡ length m.partners.items
    → n.partners.items ≡ m.partners.items ++ None ∷ []
    → n.openings.items ≡ m.openings.items ++ o ∷ [] → n.unexpected_index ≡ m.unexpected_index
    → IsMatched (w ++ x ∷ []) n
matched-open w x m n o s h a e f g =
    let r : reverse n.openings.items ≡ o ∷ reverse m.openings.items =
    ap (λ t. reverse t) f ∙ reverse-last m.openings.items o in record {
      counted = counted-more w x m.partners.items n.partners.items None h.counted e;
      is_sound = rw e (sound-none w x m.partners.items h.is_sound);
      is_complete = rw e (complete-none w x m.partners.items
          (λ i j p. no-open-close o.delimiter p.pairs.0 (sym s ∙ p.pairs.2)) h.is_complete);
      has_open = record {
        alive = subst (λ t. Alive t (w ++ x ∷ [])) (sym r)
            (alive-open (reverse m.openings.items) o w x s (a ∙ h.counted) h.has_open.alive);
        is_first = subst (λ t. IsFirst (w ++ x ∷ []) t n.unexpected_index) (sym r)
            (subst (λ t. IsFirst (w ++ x ∷ []) (o ∷ reverse m.openings.items) t) (sym g)
            (first-more w x (reverse m.openings.items) (o ∷ reverse m.openings.items)
            m.unexpected_index h.has_open.is_first
            (ap (λ t. open_after t (Some (kinds (reverse m.openings.items)))) s)));
      };
    }

-- A delimiter that closes the last one that is open.
pub matched-close : (w : List Leaf) (x : Leaf) (m n : Matching) (os : List Opening) (o : Opening)
    → side x ≡ Closes o.delimiter → IsMatched w m → m.openings.items ≡ os ++ o ∷ []
    → n.partners.items ≡ with_pair m.partners.items o.position (length m.partners.items)
    → n.openings.items ≡ os → n.unexpected_index ≡ m.unexpected_index → IsMatched (w ++ x ∷ []) n
matched-close w x m n os o s h b e f g =
    let r : reverse m.openings.items ≡ o ∷ reverse os =
    ap (λ t. reverse t) b ∙ reverse-last os o in
    let l : Alive (o ∷ reverse os) w = subst (λ t. Alive t w) r h.has_open.alive in
    record {
      counted = counted-more w x (set m.partners.items o.position (Some (length m.partners.items)))
          n.partners.items (Some o.position)
          (length-set m.partners.items o.position (Some (length m.partners.items)) ∙ h.counted) e;
      is_sound = rw e (sound-pair (reverse os) o w x m.partners.items (length m.partners.items) s l
          refl (sym h.counted) h.is_sound);
      is_complete = rw e (complete-pair (reverse os) o w x m.partners.items
          (length m.partners.items) s l refl (sym h.counted) h.is_complete);
      has_open = rw (f, g) (record {
        alive = alive-close (reverse os) o w x s l;
        is_first = first-more w x (reverse m.openings.items) (reverse os) m.unexpected_index
            h.has_open.is_first (ap (λ t. open_after (side x) (Some (kinds t))) r
            ∙ closes-top (side x) o.delimiter (kinds (reverse os)) s);
      });
    }

-- A delimiter that closes none.
pub breaks-after : (os : List Opening) (x : Leaf) (d : Delimiter) → side x ≡ Closes d
    → Mismatches os d → open_after (side x) (Some (kinds os)) ≡ None
breaks-after [] x d s m = ap (λ t. open_after t (Some [])) s
breaks-after (o ∷ os) x d s m = breaks-top (side x) o.delimiter d (kinds os) s m

pub matched-break : (w : List Leaf) (x : Leaf) (m n : Matching) (d : Delimiter)
    → side x ≡ Closes d → IsMatched w m → Mismatches (reverse m.openings.items) d
    → n.partners.items ≡ m.partners.items ++ None ∷ [] → n.openings.items ≡ []
    → n.unexpected_index ≡ option_or m.unexpected_index (Some (length m.partners.items))
    → IsMatched (w ++ x ∷ []) n
matched-break w x m n d s h z e f g = record {
  counted = counted-more w x m.partners.items n.partners.items None h.counted e;
  is_sound = rw e (sound-none w x m.partners.items h.is_sound);
  is_complete = rw e (complete-none w x m.partners.items
      (ends-none (reverse m.openings.items) w x d s z h.has_open.alive) h.is_complete);
  has_open = rw (f, g, h.counted) (record {
    alive = alive-break (reverse m.openings.items) w x d s z h.has_open.alive;
    is_first = first-break w x (reverse m.openings.items) [] m.unexpected_index h.has_open.is_first
        (breaks-after (reverse m.openings.items) x d s z);
  });
}

-- The last that is open does not fit, or none is open.
pub mismatch-last : (os rest : List Opening) (o : Opening) (d : Delimiter) → os ≡ rest ++ o ∷ []
    → is_same o.delimiter d ≡ false → Mismatches (reverse os) d
mismatch-last os rest o d e h =
    subst (λ t. Mismatches t d) (sym (ap (λ t. reverse t) e ∙ reverse-last rest o)) h

pub mismatch-none : (os : List Opening) (d : Delimiter) → os ≡ [] → Mismatches (reverse os) d
mismatch-none os d e = subst (λ t. Mismatches (reverse t) d) (sym e) tt

-- Before the first token.
pub matched-nothing : (m : Matching) → m.partners.items ≡ [] → m.openings.items ≡ []
    → m.unexpected_index ≡ None → IsMatched [] m
matched-nothing m e f g = record {
  counted = ap (λ t. length t) e;
  is_sound = rw e (λ i j h. absurd (none-some j (sym (nothing i) ∙ h)));
  is_complete = λ i j p. no-pair-in-none i j p;
  has_open = rw (f, g) (record {
    alive = λ u v a d h s. no-place u v a h;
    is_first = refl;
  });
}
  where
    nothing : (i : ℕ) → slice_index_or {A = Option ℕ} [] i None ≡ None
    nothing i = refl

-- All that is open at the end.
pub unclosed : (w : List Leaf) (os : List Opening) (o : Opening) (u : Option ℕ)
    → HasOpen w (os ++ o ∷ []) u → u ≡ None → IsUnclosed w o.position
unclosed w os o u h e =
    let l : Alive (o ∷ reverse os) w =
    subst (λ t. Alive t w) (reverse-last os o) h.alive in
    let f : IsFirst w (reverse (os ++ o ∷ [])) None =
    subst (λ t. IsFirst w (reverse (os ++ o ∷ [])) t) e h.is_first in record {
      before = l.0;
      opening = l.2;
      after = l.1;
      delimiter = o.delimiter;
      joins = l.3;
      place = l.4;
      opens = l.5;
      is_front = front-of w (kinds (reverse (os ++ o ∷ []))) f;
      is_forest = forest-scan l.1 l.6;
    }

-- Nothing is open at the end.
pub all-closed : (w : List Leaf) (os : List Opening) (u : Option ℕ) → HasOpen w os u → u ≡ None
    → os ≡ [] → IsForest w
all-closed w os u h e f =
    let g : IsFirst w (reverse os) None = subst (λ t. IsFirst w (reverse os) t) e h.is_first in
    forest-scan w (g ∙ ap (λ t. Some (kinds (reverse t))) f)

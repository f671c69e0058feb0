-- Whether tokens break, as they are added.
use Rattle.std.proofs.Common.{◌≡◌, ◌++◌, true, false, List, [], ◌∷◌, Option, Some, None}
use Rattle.std.proofs.Common.{refl, ap, sym, ◌∙◌, subst}
use Rattle.std.specs.Prelude.{◌&&◌, is_some, reverse}
use Rattle.std.specs.List.{list_all}
use Rattle.std.proofs.lemmas.Bool.{and_parts}
use Rattle.std.proofs.lemmas.List.{append_assoc, append-nil}
use Rattle.rust_trees.specs.declared.balance.FileBreak.{FileBreak}
use Rattle.rust_trees.specs.declared.balance.BreakKind.TheVariants.{UnclosedDelimiter}
use Rattle.rust_trees.specs.declared.balance.BreakKind.TheVariants.{UnexpectedDelimiter}
use Rattle.rust_trees.specs.declared.balance.BreakKind.TheVariants.{UnterminatedToken}
use Rattle.rust_trees.specs.declared.matching.Opening.{Opening}
use Rattle.rust_trees.specs.declared.sides.Delimiter.{Delimiter}
use Rattle.rust_trees.specs.declared.sides.Side.TheVariants.{Opens, Closes, Neither}
use Rattle.rust_trees.specs.Balances.{AreEnded, AreOpen, BreaksAt, BreaksIn, GoesOn}
use Rattle.rust_trees.specs.Balances.{IsKnownTo}
use Rattle.rust_trees.specs.Forests.{IsForest}
use Rattle.rust_trees.specs.Leaves.{Leaf, side}
use Rattle.rust_trees.specs.Scans.{open_after, scan}
use Rattle.rust_trees.proofs.Matches.{breaks-after, front-of, kinds, no-front, one-more}
use Rattle.rust_trees.proofs.Matches.{reverse-last}
use Rattle.rust_trees.proofs.Scanning.{below, closes-top, forest-scan, scan-append}
use Rattle.rust_trees.proofs.Stacks.{Mismatches, joins-more, last-token}

-- Tokens that do not break.
pub goes-on : (w : List Leaf) (os : List Opening) (o : Option FileBreak) → false ≡ is_some o
    → IsKnownTo w os o → GoesOn w os
goes-on w os None e h = h
goes-on w os (Some b) e h = absurd cc

pub still-on : (w : List Leaf) (os : List Opening) (o : Option FileBreak) → false ≡ is_some o
    → GoesOn w os → IsKnownTo w os o
still-on w os None e h = h
still-on w os (Some b) e h = absurd cc

pub none-is : (o : Option FileBreak) → false ≡ is_some o → o ≡ None
none-is None e = refl
none-is (Some b) e = absurd cc

-- Tokens that break do so with more after them.
pub known-first_break : (w : List Leaf) (x : Leaf) (os : List Opening) (o : Option FileBreak)
    → true ≡ is_some o → IsKnownTo w os o → IsKnownTo (w ++ x ∷ []) os o
known-first_break w x os None e h = absurd cc
known-first_break w x os (Some b) e h = λ ys.
    subst (λ t. BreaksIn t b.kind b.start) (sym (append_assoc w (x ∷ []) ys)) (h (x ∷ ys))

pub known-unended : (w : List Leaf) (x : Leaf) (os : List Opening) → GoesOn w os
    → x.is_ended ≡ false → (ys : List Leaf)
    → BreaksIn ((w ++ x ∷ []) ++ ys) UnterminatedToken x.start
known-unended w x os g e ys = record {
  before = w;
  token = x;
  after = ys;
  joins = append_assoc w (x ∷ []) ys;
  lacks = e;
  are_ended = g.are_ended;
  is_front = front-of w (kinds (reverse os)) g.scanned;
  place = refl;
}

pub known-unexpected : (w : List Leaf) (x : Leaf) (os : List Opening) (d : Delimiter)
    → GoesOn w os → side x ≡ Closes d → Mismatches (reverse os) d
    → (ys : List Leaf) → BreaksIn ((w ++ x ∷ []) ++ ys) UnexpectedDelimiter x.start
known-unexpected w x os d g s m ys = record {
  before = w;
  closing = x;
  after = ys;
  joins = append_assoc w (x ∷ []) ys;
  are_ended = g.are_ended;
  is_front = front-of w (kinds (reverse os)) g.scanned;
  breaks = λ f. no-front (w ++ x ∷ [])
      (one-more w x (Some (kinds (reverse os))) g.scanned ∙ breaks-after (reverse os) x d s m) f;
  place = refl;
}

ended-more : (w : List Leaf) (x : Leaf) → AreEnded w → x.is_ended ≡ true → AreEnded (w ++ x ∷ [])
ended-more [] x h e = ap (λ b. b && true) e
ended-more (y ∷ w) x h e =
    let p = and_parts y.is_ended (list_all (λ z. z.is_ended) w) h in
    ap (λ b. b && list_all (λ z. z.is_ended) (w ++ x ∷ [])) p.0 ∙ ended-more w x p.1 e

open-token : (os : List Opening) (w : List Leaf) (x : Leaf) → side x ≡ Neither → AreOpen os w
    → AreOpen os (w ++ x ∷ [])
open-token [] w x s l = tt
open-token (o ∷ os) w x s l = (
  l.0,
  l.1 ++ x ∷ [],
  l.2,
  joins-more w l.0 l.1 l.2 x l.3,
  l.4,
  l.5,
  last-token (l.1 ++ x ∷ []) l.1 x (Some []) refl l.6 ∙ ap (λ t. open_after t (Some [])) s,
  l.7,
)

open-close : (os : List Opening) (o : Opening) (w : List Leaf) (x : Leaf)
    → side x ≡ Closes o.delimiter → AreOpen (o ∷ os) w → AreOpen os (w ++ x ∷ [])
open-close [] o w x s l = tt
open-close (n ∷ os) o w x s l =
    let m = l.7 in (
      m.0,
      m.1 ++ l.2 ∷ (l.1 ++ x ∷ []),
      m.2,
      joins-more w l.0 l.1 l.2 x l.3 ∙ (ap (λ t. t ++ l.2 ∷ (l.1 ++ x ∷ [])) m.3
          ∙ append_assoc m.0 (m.2 ∷ m.1) (l.2 ∷ (l.1 ++ x ∷ []))),
      m.4,
      m.5,
      scan-append (Some []) m.1 (l.2 ∷ (l.1 ++ x ∷ []))
          ∙ (ap (λ t. scan (open_after (side l.2) t) (l.1 ++ x ∷ [])) m.6
          ∙ (ap (λ t. scan (open_after t (Some [])) (l.1 ++ x ∷ [])) l.5
          ∙ (scan-append (Some (o.delimiter ∷ [])) l.1 (x ∷ [])
          ∙ (ap (λ t. open_after (side x) t) (below l.1 [] [] (o.delimiter ∷ []) l.6)
          ∙ closes-top (side x) o.delimiter [] s)))),
      m.7,
    )

pub known-token : (w : List Leaf) (x : Leaf) (os : List Opening) → GoesOn w os
    → x.is_ended ≡ true → side x ≡ Neither → GoesOn (w ++ x ∷ []) os
known-token w x os g e s = record {
  are_ended = ended-more w x g.are_ended e;
  scanned = one-more w x (Some (kinds (reverse os))) g.scanned
      ∙ ap (λ t. open_after t (Some (kinds (reverse os)))) s;
  are_open = open-token (reverse os) w x s g.are_open;
}

pub known-open : (w : List Leaf) (x : Leaf) (os ns : List Opening) (o : Opening) → GoesOn w os
    → x.is_ended ≡ true → side x ≡ Opens o.delimiter → o.position ≡ x.start → ns ≡ os ++ o ∷ []
    → GoesOn (w ++ x ∷ []) ns
known-open w x os ns o g e s n f =
    let r : reverse ns ≡ o ∷ reverse os = ap (λ t. reverse t) f ∙ reverse-last os o in record {
      are_ended = ended-more w x g.are_ended e;
      scanned = one-more w x (Some (kinds (reverse os))) g.scanned
          ∙ (ap (λ t. open_after t (Some (kinds (reverse os)))) s
          ∙ ap (λ t. Some (kinds t)) (sym r));
      are_open = subst (λ t. AreOpen t (w ++ x ∷ [])) (sym r)
          (w, [], x, refl, n, s, refl, g.are_open);
    }

pub known-close : (w : List Leaf) (x : Leaf) (os ns : List Opening) (o : Opening) → GoesOn w os
    → x.is_ended ≡ true → side x ≡ Closes o.delimiter → os ≡ ns ++ o ∷ []
    → GoesOn (w ++ x ∷ []) ns
known-close w x os ns o g e s f =
    let r : reverse os ≡ o ∷ reverse ns = ap (λ t. reverse t) f ∙ reverse-last ns o in record {
      are_ended = ended-more w x g.are_ended e;
      scanned = one-more w x (Some (kinds (reverse os))) g.scanned
          ∙ (ap (λ t. open_after (side x) (Some (kinds t))) r
          ∙ closes-top (side x) o.delimiter (kinds (reverse ns)) s);
      are_open = open-close (reverse ns) o w x s
          (subst (λ t. AreOpen t w) r g.are_open);
    }

-- The break that is known where no token is left.
pub all-known : (w : List Leaf) (os : List Opening) (o : Option FileBreak) → true ≡ is_some o
    → IsKnownTo w os o → BreaksAt w o
all-known w os None e h = absurd cc
all-known w os (Some b) e h = subst (λ t. BreaksIn t b.kind b.start) (append-nil w) (h [])

pub all-unclosed : (w : List Leaf) (os ns : List Opening) (o : Opening) → GoesOn w os
    → os ≡ ns ++ o ∷ [] → BreaksIn w UnclosedDelimiter o.position
all-unclosed w os ns o g f =
    let r : reverse os ≡ o ∷ reverse ns = ap (λ t. reverse t) f ∙ reverse-last ns o in
    let l : AreOpen (o ∷ reverse ns) w = subst (λ t. AreOpen t w) r g.are_open in record {
      before = l.0;
      opening = l.2;
      after = l.1;
      delimiter = o.delimiter;
      joins = l.3;
      opens = l.5;
      are_ended = g.are_ended;
      is_front = front-of w (kinds (reverse os)) g.scanned;
      is_forest = forest-scan l.1 l.6;
      place = l.4;
    }

pub all-closed-at-end : (w : List Leaf) (os : List Opening) → GoesOn w os → os ≡ []
    → IsForest w × AreEnded w
all-closed-at-end w os g f = (
  forest-scan w (g.scanned ∙ ap (λ t. Some (kinds (reverse t))) f),
  g.are_ended,
)

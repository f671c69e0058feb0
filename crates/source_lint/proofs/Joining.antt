-- What comes from calls, one after the other, and from parts of a file.
use Rattle.std.proofs.Common.{◌≡◌, ◌++◌, List, [], ◌∷◌, refl, ap, sym, subst, ◌∙◌, length}
use Rattle.std.specs.Prelude.{◌↔◌, Contains}
use Rattle.std.proofs.lemmas.List.{append_assoc, append-nil}
use Rattle.rust_trees.specs.Balances.{IsBalanced}
use Rattle.rust_trees.specs.Leaves.{AreLeft, Leaf, Remainder}
use Rattle.rust_trees.specs.declared.balance.Balance.{Balance}
use Rattle.format_calls.specs.Calls.{IsCall, Rises}
use Rattle.format_calls.specs.Parts.{IsPart}
use Rattle.format_calls.specs.Rows.{Entry}
use Rattle.format_calls.specs.declared.listing.Call.{Call}
use Rattle.format_calls.proofs.GapForests.{NoPart}
use Rattle.source_lint.specs.CallLists.{Gives, OfCalls}
use Rattle.source_lint.proofs.Merging.{Moves, OfParts, merged}

-- What came from calls so far, where all are the calls and the last ones are left.
pub record Giving {R F : Type 0} (P : Call → R → List F → Type 0) (all left : List Call)
    (rs ss : List R) (fs gs : List F) : Type 0 where
  pub values : List R
  pub items : List F
  pub are_values : ss ≡ rs ++ values
  pub are_items : gs ≡ fs ++ items
  pub goes_on : (more : List R) (others : List F) → Gives P left more others
      → Gives P all (values ++ more) (items ++ others)

pub giving-none : {R F : Type 0} (P : Call → R → List F → Type 0) (all : List Call) (rs : List R)
    (fs : List F) → Giving P all all rs rs fs fs
giving-none P all rs fs = record {
  values = [];
  items = [];
  are_values = sym (append-nil rs);
  are_items = sym (append-nil fs);
  goes_on = λ more others h. h;
}

pub giving-more : {R F : Type 0} (P : Call → R → List F → Type 0) (all left rest : List Call)
    (c : Call) (r : R) (rs ss ts : List R) (fs gs hs : List F) → left ≡ c ∷ rest
    → Giving P all left rs ss fs gs → ts ≡ ss ++ r ∷ []
    → (zs : List F) × (hs ≡ gs ++ zs) × P c r zs → Giving P all rest rs ts fs hs
giving-more P all left rest c r rs ss ts fs gs hs e w f z = record {
  values = w.values ++ r ∷ [];
  items = w.items ++ z.0;
  are_values = f ∙ (ap (λ v. v ++ r ∷ []) w.are_values ∙ append_assoc rs w.values (r ∷ []));
  are_items = z.1 ∙ (ap (λ v. v ++ z.0) w.are_items ∙ append_assoc fs w.items z.0);
  goes_on = λ more others h.
      subst (λ v. Gives P all v ((w.items ++ z.0) ++ others))
      (sym (append_assoc w.values (r ∷ []) more))
      (subst (λ v. Gives P all (w.values ++ r ∷ more) v) (sym (append_assoc w.items z.0 others))
      (w.goes_on (r ∷ more) (z.0 ++ others)
      (subst (λ v. Gives P v (r ∷ more) (z.0 ++ others)) (sym e)
      (r, more, z.0, others, refl, refl, z.2, h))));
}

pub giving-all : {R F : Type 0} (P : Call → R → List F → Type 0) (all left : List Call)
    (rs ss : List R) (fs gs : List F) → left ≡ [] → Giving P all left rs ss fs gs
    → (us : List R) × (zs : List F) × (ss ≡ rs ++ us) × (gs ≡ fs ++ zs) × Gives P all us zs
giving-all P all left rs ss fs gs e w = (
  w.values,
  w.items,
  w.are_values,
  w.are_items,
  subst (λ v. Gives P all v w.items) (append-nil w.values)
      (subst (λ v. Gives P all (w.values ++ []) v) (append-nil w.items)
      (w.goes_on [] [] (subst (λ v. Gives P v [] []) (sym e) (refl, refl)))),
)

-- What comes from calls comes from those among these tokens.
pub of-calls : {R F : Type 0} (P : List Leaf → Call → R → List F → Type 0) (es : List Entry)
    (xs : List Leaf) (cs : List Call) (rs ss : List R) (fs gs : List F)
    → ((c : Call) → Contains cs c ↔ IsCall es xs c) → Rises 0 cs (length xs)
    → (us : List R) × (zs : List F) × (ss ≡ rs ++ us) × (gs ≡ fs ++ zs) × Gives (P xs) cs us zs
    → (us : List R) × (zs : List F) × (ss ≡ rs ++ us) × (gs ≡ fs ++ zs) × OfCalls P es xs us zs
of-calls P es xs cs rs ss fs gs e o h = (
  h.0,
  h.1,
  h.2,
  h.3,
  record {
    calls = cs;
    are_calls = record { each = e; in_order = o };
    gives = h.4;
  },
)

-- What came from the calls of a file so far, where the tokens of u are left. Those of the front
-- were read, of which K is known.
pub record FileGiving {R F : Type 0} (P : List Leaf → Call → R → List F → Type 0)
    (es : List Entry) (start u : Remainder) (rs : List R) (fs : List F) (K : List Leaf → Type 0)
    : Type 0 where
  pub front : List Leaf
  pub follows : (left : List Leaf) → AreLeft u left → AreLeft start (front ++ left)
  pub known : K front
  pub goes_on : (left : List Leaf) (ps : List (List Leaf)) (more : List R) (others : List F)
      → AreLeft u left → OfParts P es left ps more others → (qs : List (List Leaf))
      × OfParts P es (front ++ left) qs (rs ++ more) (fs ++ others)

pub file-none : {R F : Type 0} (P : List Leaf → Call → R → List F → Type 0) (es : List Entry)
    (u : Remainder) (rs : List R) (fs : List F) (K : List Leaf → Type 0) → rs ≡ [] → fs ≡ [] → K []
    → FileGiving P es u u rs fs K
file-none P es u rs fs K e f k = record {
  front = [];
  follows = λ left l. l;
  known = k;
  goes_on = λ left ps more others l h. (
    ps,
    subst (λ v. OfParts P es left ps v (fs ++ others)) (sym (ap (λ v. v ++ more) e))
        (subst (λ v. OfParts P es left ps more v) (sym (ap (λ v. v ++ others) f)) h),
  );
}

-- A part that was read after them, with the gap before it.
abbrev pub NextPart : List Entry → Remainder → Remainder → List Leaf → Type 0
NextPart es u next part = (gap : List Leaf) × ((left : List Leaf) → AreLeft next left
    → AreLeft u (gap ++ (part ++ left)) × IsPart es gap part left)

pub file-more : {R F : Type 0} (P : List Leaf → Call → R → List F → Type 0) (es : List Entry)
    (start u next : Remainder) (part : List Leaf) (rs ss : List R) (fs gs : List F)
    (K L : List Leaf → Type 0) (w : FileGiving P es start u rs fs K) (p : NextPart es u next part)
    → L (w.front ++ (p.0 ++ part))
    → (us : List R) × (zs : List F) × (ss ≡ rs ++ us) × (gs ≡ fs ++ zs) × OfCalls P es part us zs
    → FileGiving P es start next ss gs L
file-more P es start u next part rs ss fs gs K L w p k r = record {
  front = w.front ++ (p.0 ++ part);
  follows = λ left l. subst (λ v. AreLeft start v) (sym (joined left))
      (w.follows (p.0 ++ (part ++ left)) (p.1 left l).0);
  known = k;
  goes_on = λ left ps more others l h.
      let k = p.1 left l in
      let z = w.goes_on (p.0 ++ (part ++ left)) (part ∷ ps) (r.0 ++ more) (r.1 ++ others) k.0
      (p.0, left, r.0, more, r.1, others, refl, k.1, refl, refl, r.4, h) in (
        z.0,
        subst (λ v. OfParts P es v z.0 (ss ++ more) (gs ++ others)) (sym (joined left))
            (subst (λ v. OfParts P es (w.front ++ (p.0 ++ (part ++ left))) z.0 v (gs ++ others))
            (sym (ap (λ v. v ++ more) r.2 ∙ append_assoc rs r.0 more))
            (subst (λ v. OfParts P es (w.front ++ (p.0 ++ (part ++ left))) z.0
            (rs ++ (r.0 ++ more)) v)
            (sym (ap (λ v. v ++ others) r.3 ∙ append_assoc fs r.1 others)) z.1)),
      );
}
  where
    joined : (left : List Leaf)
        → (w.front ++ (p.0 ++ part)) ++ left ≡ w.front ++ (p.0 ++ (part ++ left))
    joined left = append_assoc w.front (p.0 ++ part) left
        ∙ ap (λ v. w.front ++ v) (append_assoc p.0 part left)

pub file-all : {R F : Type 0} (P : List Leaf → Call → R → List F → Type 0) (es : List Entry)
    (start u : Remainder) (rs : List R) (fs : List F) (K L : List Leaf → Type 0) → Moves P
    → (w : FileGiving P es start u rs fs K) (n : NoPart es u) → L (w.front ++ n.0)
    → (all : List Leaf) × AreLeft start all × OfCalls P es all rs fs × L all
file-all P es start u rs fs K L m w n k =
    let z = w.goes_on n.0 [] [] [] n.1 (n.2, refl, refl) in (
      w.front ++ n.0,
      w.follows n.0 n.1,
      merged P es (w.front ++ n.0) z.0 rs fs m
          (subst (λ v. OfParts P es (w.front ++ n.0) z.0 v fs) (append-nil rs)
          (subst (λ v. OfParts P es (w.front ++ n.0) z.0 (rs ++ []) v) (append-nil fs) z.1)),
      k,
    )

-- The tokens were added to what is known of those before them.
abbrev pub Balanced : Balance → Balance → List Leaf → Type 0
Balanced old now xs = (w : List Leaf) → IsBalanced w old → IsBalanced (w ++ xs) now

pub balanced-none : (b : Balance) → Balanced b b []
balanced-none b w h = subst (λ v. IsBalanced v b) (sym (append-nil w)) h

pub balanced-more : (old now after : Balance) (ys : List Leaf) → Balanced now after ys
    → (xs : List Leaf) → Balanced old now xs → Balanced old after (xs ++ ys)
balanced-more old now after ys h xs k w b =
    subst (λ v. IsBalanced v after) (append_assoc w xs ys) (h (w ++ xs) (k w b))

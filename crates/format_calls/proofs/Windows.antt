-- Tokens that begin no call, wherever they stand.
use Rattle.std.proofs.Common.{◌≡◌, ◌++◌, Bool, true, false, List, [], ◌∷◌, Option, Some, None}
use Rattle.std.proofs.Common.{refl, ap, sym, ◌∙◌, map}
use Rattle.std.specs.Prelude.{if◌then◌else◌, is_some, option_map}
use Rattle.std.proofs.lemmas.Bool.{false≢true}
use Rattle.std.proofs.lemmas.List.{map-append}
use Rattle.std.proofs.lemmas.Option.{none-some, same_Some}
use Rattle.rust_trees.specs.Leaves.{Leaf}
use Rattle.format_calls.specs.Gaps.{BeginsCall, IsClear, LacksFronts, first_window, unplaced}
use Rattle.format_calls.specs.Gaps.{window_after}
use Rattle.format_calls.specs.Parts.{Window, after_next, front_of, front_of_tokens, next_window}
use Rattle.format_calls.specs.Parts.{opens_call}
use Rattle.format_calls.specs.Rows.{Entry}
use Rattle.format_calls.proofs.Parting.{window}

-- A window whose tokens have no places.
abbrev pub unplaced_window : Window → Window
unplaced_window w = record {
  is_after_dollar = w.is_after_dollar;
  name = option_map unplaced w.name;
  bang = option_map unplaced w.bang;
}

-- Whether a call begins does not depend on places.
pub same-front : (es : List Entry) (w : Window) (t : Leaf)
    → is_some (front_of es (unplaced_window w) (unplaced t)) ≡ is_some (front_of es w t)
same-front es w t = by_window w.is_after_dollar w.name w.bang
  where
    test : (n m : Leaf) (q : Bool)
        → is_some (if q then Some (unplaced n ∷ unplaced m ∷ unplaced t ∷ []) else None)
        ≡ is_some (if q then Some (n ∷ m ∷ t ∷ []) else None)
    test n m true = refl
    test n m false = refl

    by_window : (b : Bool) (n m : Option Leaf)
        → is_some (front_of_tokens es b (option_map unplaced n) (option_map unplaced m)
        (unplaced t)) ≡ is_some (front_of_tokens es b n m t)
    by_window true None None = refl
    by_window true None (Some m) = refl
    by_window true (Some n) None = refl
    by_window true (Some n) (Some m) = refl
    by_window false None None = refl
    by_window false None (Some m) = refl
    by_window false (Some n) None = refl
    by_window false (Some n) (Some m) = test n m (opens_call es n m t)

pub same-moved : (w : Window) (t : Leaf)
    → ◌≡◌ {A = Window} (next_window (unplaced_window w) (unplaced t))
    (unplaced_window (next_window w t))
same-moved w t = by_name w.name
  where
    by_name : (n : Option Leaf) → ◌≡◌ {A = Window} (record {
      is_after_dollar = after_next w.is_after_dollar (option_map unplaced n);
      name = option_map unplaced w.bang;
      bang = Some (unplaced t);
    }) (record {
      is_after_dollar = after_next w.is_after_dollar n;
      name = option_map unplaced w.bang;
      bang = Some (unplaced t);
    })
    by_name None = refl
    by_name (Some n) = refl

pub no-front : (o : Option (List Leaf)) → is_some o ≡ false → o ≡ None
no-front None e = refl
no-front (Some x) e = absurd (false≢true (sym e))

-- The windows of tokens one after the other.
pub after-both : (es : List Entry) (w u : Window) (xs ys : List Leaf)
    → window_after es w xs ≡ Some u
    → window_after es w (xs ++ ys) ≡ window_after es u ys
after-both es w u [] ys e = ap (λ v. window_after es v ys) (same_Some w u e)
after-both es w u (x ∷ xs) ys e =
    by_test (is_some (front_of es w x)) (λ f. after-both es (next_window w x) u xs ys f) e
  where
    by_test : (b : Bool) → (window_after es (next_window w x) xs ≡ Some u
        → window_after es (next_window w x) (xs ++ ys) ≡ window_after es u ys)
        → (if b then None else window_after es (next_window w x) xs) ≡ Some u
        → (if b then None else window_after es (next_window w x) (xs ++ ys))
        ≡ window_after es u ys
    by_test true more f = absurd (none-some u f)
    by_test false more f = more f

pub after-split : (es : List Entry) (w v : Window) (xs ys : List Leaf)
    → window_after es w (xs ++ ys) ≡ Some v
    → (u : Window) × (window_after es w xs ≡ Some u) × (window_after es u ys ≡ Some v)
after-split es w v [] ys e = (w, refl, e)
after-split es w v (x ∷ xs) ys e =
    by_test (is_some (front_of es w x)) (λ f. after-split es (next_window w x) v xs ys f) e
  where
    by_test : (b : Bool) → (window_after es (next_window w x) (xs ++ ys) ≡ Some v
        → (u : Window) × (window_after es (next_window w x) xs ≡ Some u)
        × (window_after es u ys ≡ Some v))
        → (if b then None else window_after es (next_window w x) (xs ++ ys)) ≡ Some v
        → (u : Window)
        × ((if b then None else window_after es (next_window w x) xs) ≡ Some u)
        × (window_after es u ys ≡ Some v)
    by_test true more f = absurd (none-some v f)
    by_test false more f = more f

-- One more token that begins no call.
pub after-one : (es : List Entry) (w : Window) (t : Leaf) → front_of es w t ≡ None
    → window_after es (unplaced_window w) (unplaced t ∷ [])
    ≡ Some (unplaced_window (next_window w t))
after-one es w t e =
    ap (λ q. if q then None else Some (next_window (unplaced_window w) (unplaced t)))
    (same-front es w t ∙ ap (λ o. is_some o) e) ∙ ap (λ v. Some v) (same-moved w t)

-- The tokens so far, with one more.
pub lacks-more : (es : List Entry) (xs ys : List Leaf) (w : Window) (t : Leaf)
    → front_of es w t ≡ None → ys ≡ xs ++ t ∷ [] → LacksFronts es xs (unplaced_window w)
    → LacksFronts es ys (unplaced_window (next_window w t))
lacks-more es xs ys w t e f h =
    ap (λ v. window_after es first_window (map unplaced v)) f
    ∙ (ap (λ v. window_after es first_window v) (map-append unplaced xs (t ∷ []))
    ∙ (after-both es first_window (unplaced_window w) (map unplaced xs) (unplaced t ∷ []) h
    ∙ after-one es w t e))

-- The window two tokens later shows whether `$` stands before them.
two-later : (es : List Entry) (u v : Window) (n m : Leaf)
    → window_after es u (n ∷ m ∷ []) ≡ Some v
    → after_next (after_next u.is_after_dollar u.name) u.bang ≡ v.is_after_dollar
two-later es u v n m e =
    by_tests (is_some (front_of es u n)) (is_some (front_of es (next_window u n) m)) e
  where
    by_tests : (b d : Bool)
        → (if b then None else (if d then None else Some (next_window (next_window u n) m)))
        ≡ Some v
        → after_next (after_next u.is_after_dollar u.name) u.bang ≡ v.is_after_dollar
    by_tests true d f = absurd (none-some v f)
    by_tests false true f = absurd (none-some v f)
    by_tests false false f = ap (λ w. w.is_after_dollar)
        (same_Some (next_window (next_window u n) m) v f)

-- A gap in front of the tokens that begin a call.
pub clear-front : (es : List Entry) (gap f : List Leaf) (w : Window) (t : Leaf)
    → front_of es w t ≡ Some f
    → LacksFronts es (gap ++ window w.name w.bang) (unplaced_window w) → IsClear es gap
clear-front es gap f w t s h = by_window w.is_after_dollar w.name w.bang s h
  where
    by_window : (b : Bool) (n m : Option Leaf) → front_of_tokens es b n m t ≡ Some f
        → LacksFronts es (gap ++ window n m)
        (unplaced_window (record { is_after_dollar = b; name = n; bang = m })) → IsClear es gap
    by_window true None None s h = absurd (none-some f s)
    by_window true None (Some m) s h = absurd (none-some f s)
    by_window true (Some n) None s h = absurd (none-some f s)
    by_window true (Some n) (Some m) s h = absurd (none-some f s)
    by_window false None None s h = absurd (none-some f s)
    by_window false None (Some m) s h = absurd (none-some f s)
    by_window false (Some n) None s h = absurd (none-some f s)
    by_window false (Some n) (Some m) s h =
        let v : Window = record {
          is_after_dollar = false;
          name = Some (unplaced n);
          bang = Some (unplaced m);
        } in
        let z = after-split es first_window v (map unplaced gap) (unplaced n ∷ unplaced m ∷ [])
        (sym (ap (λ x. window_after es first_window x) (map-append unplaced gap (n ∷ m ∷ []))) ∙ h)
        in record {
          window = z.0;
          lacks = z.1;
          fixed = two-later es z.0 v (unplaced n) (unplaced m) z.2;
        }

-- The part begins with them.
pub begins-front : (es : List Entry) (f part more : List Leaf) (w : Window) (t : Leaf)
    → front_of es w t ≡ Some f → part ≡ f ++ more → BeginsCall es part
begins-front es f part more w t s e = by_window w.is_after_dollar w.name w.bang s
  where
    by_window : (b : Bool) (n m : Option Leaf) → front_of_tokens es b n m t ≡ Some f
        → BeginsCall es part
    by_window true None None s = absurd (none-some f s)
    by_window true None (Some m) s = absurd (none-some f s)
    by_window true (Some n) None s = absurd (none-some f s)
    by_window true (Some n) (Some m) s = absurd (none-some f s)
    by_window false None None s = absurd (none-some f s)
    by_window false None (Some m) s = absurd (none-some f s)
    by_window false (Some n) None s = absurd (none-some f s)
    by_window false (Some n) (Some m) s = by_test (opens_call es n m t) refl
      where
        by_test : (q : Bool) → opens_call es n m t ≡ q → BeginsCall es part
        by_test false g = absurd (none-some f
            (sym (ap (λ q. if q then Some (n ∷ m ∷ t ∷ []) else None) g) ∙ s))
        by_test true g = record {
          name = n;
          bang = m;
          opening = t;
          more = more;
          joins = e ∙ ap (λ x. x ++ more) (sym (same_Some (n ∷ m ∷ t ∷ []) f
              (sym (ap (λ q. if q then Some (n ∷ m ∷ t ∷ []) else None) g) ∙ s)));
          opens = g;
        }

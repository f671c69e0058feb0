-- The texts of rows and lines, one after the other.
use denote.Ref.{Bor}
use Rattle.std.proofs.Common.{◌≡◌, ◌++◌, ◌∙◌, ◌<◌, ◌+◌, ◌-◌, List, [], ◌∷◌, ℕ, refl, sym, ap, map}
use Rattle.std.proofs.Common.{take}
use Rattle.std.proofs.Common.{drop, length}
use Rattle.std.proofs.lemmas.List.{append-nil, append_assoc, map-append, take-append-drop}
use Rattle.std.proofs.lemmas.List.Folds.{concat-append}
use Rattle.std.proofs.Common.{arith, get_or}
use Rattle.std.proofs.lemmas.List.{drop_more, get_or_default, take_more}
use Rattle.std.specs.List.{concat}
use Rattle.unified_diff.specs.Rows.{in_new, in_old, joined_text, new_text, old_text}
use Rattle.unified_diff.specs.declared.rows.Row.{Row}
use Rattle.unified_diff.specs.declared.rows.Side.{Side}
use Rattle.unified_diff.specs.declared.rows.Side.TheVariants.{Both, Old, New}

pub old_text-append : (rs ss : List Row) → old_text (rs ++ ss) ≡ old_text rs ++ old_text ss
unfolding old_text
old_text-append [] ss = refl
old_text-append (r ∷ rs) ss = ap (λ t. in_old r.side r.line.now ++ t) (old_text-append rs ss)
    ∙ sym (append_assoc (in_old r.side r.line.now) (old_text rs) (old_text ss))

pub new_text-append : (rs ss : List Row) → new_text (rs ++ ss) ≡ new_text rs ++ new_text ss
unfolding new_text
new_text-append [] ss = refl
new_text-append (r ∷ rs) ss = ap (λ t. in_new r.side r.line.now ++ t) (new_text-append rs ss)
    ∙ sym (append_assoc (in_new r.side r.line.now) (new_text rs) (new_text ss))

pub in_old-append : (s : Side) (t u : List ℕ) → in_old s (t ++ u) ≡ in_old s t ++ in_old s u
in_old-append Both t u = refl
in_old-append Old t u = refl
in_old-append New t u = refl

pub in_new-append : (s : Side) (t u : List ℕ) → in_new s (t ++ u) ≡ in_new s t ++ in_new s u
in_new-append Both t u = refl
in_new-append Old t u = refl
in_new-append New t u = refl

pub old_text-none : old_text [] ≡ []
unfolding old_text
old_text-none = refl

pub new_text-none : new_text [] ≡ []
unfolding new_text
new_text-none = refl

pub old_text-more : (rs : List Row) (r : Row) → old_text (rs ++ (r ∷ []))
    ≡ old_text rs ++ in_old r.side r.line.now
unfolding old_text
old_text-more rs r = old_text-append rs (r ∷ [])
    ∙ ap (λ t. old_text rs ++ t) (append-nil (in_old r.side r.line.now))

pub new_text-more : (rs : List Row) (r : Row) → new_text (rs ++ (r ∷ []))
    ≡ new_text rs ++ in_new r.side r.line.now
unfolding new_text
new_text-more rs r = new_text-append rs (r ∷ [])
    ∙ ap (λ t. new_text rs ++ t) (append-nil (in_new r.side r.line.now))

joined-append : (ls ms : List (Bor (List ℕ))) → joined_text (ls ++ ms) ≡ joined_text ls
    ++ joined_text ms
joined-append ls ms = ap concat (map-append (λ l. l.now) ls ms)
    ∙ concat-append (map (λ l. l.now) ls) (map (λ l. l.now) ms)

pub joined-split : (n : ℕ) (ls : List (Bor (List ℕ))) → joined_text (take n ls)
    ++ joined_text (drop n ls)
    ≡ joined_text ls
joined-split n ls = sym (joined-append (take n ls) (drop n ls))
    ∙ ap (λ xs. joined_text xs) (take-append-drop n ls)

pub joined-more : (n : ℕ) (ls : List (Bor (List ℕ))) (l : Bor (List ℕ)) → 0 < n
    → n - 1 < length ls → l ≡ get_or ls (n - 1) l
    → joined_text (take n ls) ≡ joined_text (take (n - 1) ls) ++ l.now
joined-more n ls l some within e =
    let more : n ≡ n - 1 + 1 = omega arith in
    ap (λ k. joined_text (take k ls)) more
    ∙ ap (λ xs. joined_text xs) (take_more ls (n - 1) l within
    ∙ ap (λ x. take (n - 1) ls ++ (x ∷ [])) (sym e))
    ∙ joined-append (take (n - 1) ls) (l ∷ [])
    ∙ ap (λ t. joined_text (take (n - 1) ls) ++ t) (append-nil l.now)

pub the_line : (ls : List (Bor (List ℕ))) (n : ℕ) (l m : Bor (List ℕ)) → n < length ls
    → l ≡ get_or ls n l → m ≡ get_or ls n m → l ≡ m
the_line ls n l m within e f = e ∙ get_or_default ls n l m within ∙ sym f

pub ruleset more_texts = (joined-split)

pub ruleset row_texts = (old_text-more, new_text-more)

pub ruleset line_texts = (in_old-append, in_new-append)

pub ruleset split_texts = (joined-split, old_text-none, new_text-none)

pub joined-last : (ls : List (Bor (List ℕ))) (n : ℕ) (d : Bor (List ℕ)) → n < length ls
    → joined_text (drop (length ls - (n + 1)) ls)
    ≡ (get_or ls (length ls - 1 - n) d).now ++ joined_text (drop (length ls - n) ls)
joined-last ls n d small =
    let at : length ls - (n + 1) ≡ length ls - 1 - n = omega arith in
    let next : length ls - 1 - n + 1 ≡ length ls - n = omega arith in
    ap (λ i. joined_text (drop i ls)) at ∙ ap (λ xs. joined_text xs)
    (drop_more ls (length ls - 1 - n) d (omega arith))
    ∙ ap (λ i. (get_or ls (length ls - 1 - n) d).now ++ joined_text (drop i ls)) next

-- The facts of a file, one token after the other.
use Rattle.std.proofs.Common.{◌≡◌, ◌||◌, ℕ, List, [], ◌∷◌, Bool, true, false}
use Rattle.std.proofs.Common.{ap, cond, map, refl, subst, sym, ◌∙◌}
use Rattle.std.specs.BTreeMap.{is_at}
use Rattle.std.specs.BTreeSet.{BTreeSet, UpdatesBy}
use Rattle.std.specs.Cmp.Lexicographic.{nat_list_eq_equiv, slice_cmp}
use Rattle.std.specs.List.{list_any}
use Rattle.std.specs.Ordering.{is_eq, nat_cmp}
use Rattle.std.specs.Prelude.{if◌then◌else◌}
use Rattle.std.specs.Str.{bytes_eq}
use denote.Ref.{Bor}
use Rattle.std.proofs.Math.Bool.{or_assoc}
use Rattle.std.proofs.lemmas.List.Folds.{list_any-append}
use Rattle.std.proofs.lemmas.Map.Text.{is_eq-slice_cmp}
use Rattle.rust_trees.specs.Leaves.{AreLeft, Leaf, Remainder}
use Rattle.macro_owners.specs.declared.facts.Facts.{Facts}
use Rattle.macro_owners.specs.Contexts.{Context, after, first}
use Rattle.macro_owners.specs.Facts.{Adds, AddsToken, HasMore, found, found_after, given_name}
use Rattle.macro_owners.specs.Facts.{imported_name, names_in, spoiled_name, used_name}
use Rattle.macro_owners.specs.Files.{AreLeaves}
use Rattle.macro_owners.specs.Names.{has, kept, kept_names}

keys-have : (n : List ℕ) (ks : List (Bor (List ℕ)))
    → list_any (is_at (λ k. slice_cmp nat_cmp n k.now)) ks ≡ has (map (λ k. k.now) ks) n
keys-have n [] = refl
keys-have n (k ∷ ks) =
    ap (λ b. b || list_any (is_at (λ j. slice_cmp nat_cmp n j.now)) ks) (is_eq-slice_cmp n k.now)
    ∙ ap (λ b. bytes_eq n k.now || b) (keys-have n ks)

-- Whether a set has a name.
pub set-has : (s : BTreeSet (Bor (List ℕ))) (n : List ℕ)
    → list_any (is_at (λ k. slice_cmp nat_cmp n k.now)) s.keys ≡ has (names_in s) n
set-has s n = keys-have n s.keys

cond-or : (a b : Bool) → cond a true b ≡ (b || (a || false))
cond-or true true = refl
cond-or true false = refl
cond-or false true = refl
cond-or false false = refl

-- A set with a name more.
pub has-added : (old new : BTreeSet (Bor (List ℕ))) (w : Bor (List ℕ)) →
    UpdatesBy (λ x y. slice_cmp nat_cmp x.now y.now)
    (λ k. slice_cmp nat_cmp w.now k.now) old new true → HasMore old (w.now ∷ []) new
has-added old new w h = λ n. sym (set-has new n)
    ∙ h.0 (record { ref_ptr = (0, 0); now = n })
    ∙ cond-or (is_eq (slice_cmp nat_cmp w.now n)) _
    ∙ ap (λ b. b || (is_eq (slice_cmp nat_cmp w.now n) || false)) (set-has old n)
    ∙ ap (λ b. has (names_in old) n || (b || false))
    (is_eq-slice_cmp w.now n ∙ nat_list_eq_equiv.symm w.now n)

or-none : (b : Bool) → (b || false) ≡ b
or-none true = refl
or-none false = refl

kept-by : (b : Bool) (w v : List ℕ) → v ≡ w → b ≡ true → (if b then w ∷ [] else []) ≡ v ∷ []
kept-by b w v e f = rw f (ap (λ u. u ∷ []) (sym e))

kept-none : (b : Bool) (w : List ℕ) → b ≡ false → (if b then w ∷ [] else []) ≡ []
kept-none b w f = rw f refl

-- A set with a name that is kept.
pub more-kept : (old new : BTreeSet (Bor (List ℕ))) (w : List ℕ) (v : List ℕ) → v ≡ w
    → has kept_names w ≡ true → HasMore old (v ∷ []) new → HasMore old (kept w) new
more-kept old new w v e f h = λ n.
    h n ∙ ap (λ ws. has (names_in old) n || has ws n) (sym (kept-by (has kept_names w) w v e f))

-- A set without a name that is not kept.
pub none-kept : (old : BTreeSet (Bor (List ℕ))) (w : List ℕ) → has kept_names w ≡ false
    → HasMore old (kept w) old
none-kept old w f = λ n. sym (ap (λ ws. has (names_in old) n || has ws n)
    (kept-none (has kept_names w) w f) ∙ or-none (has (names_in old) n))

-- The names that a question finds among all tokens are those of a set, and those that it finds
-- among the tokens that are left.
abbrev pub Same : (Context → Leaf → List ℕ) → BTreeSet (Bor (List ℕ)) → BTreeSet (Bor (List ℕ))
    → Context → List Leaf → List Leaf → Type 0
Same q old now c all left = (n : List ℕ) → (has (names_in old) n || has (found q all) n)
    ≡ (has (names_in now) n || has (found_after q c left) n)

same-more : (q : Context → Leaf → List ℕ) (old now next : BTreeSet (Bor (List ℕ))) (c : Context)
    (x : Leaf) (all left : List Leaf) → Same q old now c all (x ∷ left)
    → HasMore now (kept (q c x)) next → Same q old next (after c x) all left
same-more q old now next c x all left h e = λ n. h n
    ∙ ap (λ b. has (names_in now) n || b)
    (list_any-append (bytes_eq n) (kept (q c x)) (found_after q (after c x) left))
    ∙ sym (or_assoc (has (names_in now) n) (has (kept (q c x)) n)
    (has (found_after q (after c x) left) n))
    ∙ ap (λ b. b || has (found_after q (after c x) left) n) (sym (e n))

same-all : (q : Context → Leaf → List ℕ) (old now : BTreeSet (Bor (List ℕ))) (c : Context)
    (all : List Leaf) → Same q old now c all [] → HasMore old (found q all) now
same-all q old now c all h = λ n. sym (h n ∙ or-none (has (names_in now) n))

pub record AreSame (old now : Facts) (c : Context) (all left : List Leaf) : Type 0 where
  pub given : Same given_name old.given now.given c all left
  pub imported : Same imported_name old.imported now.imported c all left
  pub used : Same used_name old.used now.used c all left
  pub spoiled : Same spoiled_name old.spoiled now.spoiled c all left

-- The facts of a file so far, where the tokens of u are left.
abbrev pub Collects : Remainder → Remainder → Facts → Facts → Context → Type 0
Collects start u old now c = (left : List Leaf) → AreLeft u left → (all : List Leaf)
    × AreLeft start all × AreSame old now c all left

pub collects-none : (u : Remainder) (old : Facts) → Collects u u old old first
collects-none u old = λ left l. (
  left,
  l,
  record { given = λ n. refl; imported = λ n. refl; used = λ n. refl; spoiled = λ n. refl },
)

collects-more : (start u next : Remainder) (old now more : Facts) (c : Context) (x : Leaf)
    → Collects start u old now c → ((ls : List Leaf) → AreLeft next ls → AreLeft u (x ∷ ls))
    → AddsToken c x now more → Collects start next old more (after c x)
collects-more start u next old now more c x h step a = λ left l.
    let t = h (x ∷ left) (step left l) in
    let s = t.2 in (
      t.0,
      t.1,
      record {
        given = same-more given_name old.given now.given more.given c x t.0 left s.given a.given;
        imported = same-more imported_name old.imported now.imported more.imported c x t.0 left
            s.imported a.imported;
        used = same-more used_name old.used now.used more.used c x t.0 left s.used a.used;
        spoiled = same-more spoiled_name old.spoiled now.spoiled more.spoiled c x t.0 left s.spoiled
            a.spoiled;
      },
    )

pub collects-next : (start u next : Remainder) (old now more : Facts) (c d : Context) (x : Leaf)
    → Collects start u old now c → ((ls : List Leaf) → AreLeft next ls → AreLeft u (x ∷ ls))
    → AddsToken c x now more → d ≡ after c x → Collects start next old more d
collects-next start u next old now more c d x h step a e =
    subst (λ v. Collects start next old more v) (sym e)
    (collects-more start u next old now more c x h step a)

pub collects-all : (bs : List ℕ) (start u : Remainder) (old now : Facts) (c : Context)
    → Collects start u old now c → AreLeft u []
    → ((ls : List Leaf) → AreLeft start ls → AreLeaves bs ls) → Adds bs old now
collects-all bs start u old now c h l reads =
    let t = h [] l in
    let s = t.2 in record {
      tokens = t.0;
      are_tokens = reads t.0 t.1;
      given = same-all given_name old.given now.given c t.0 s.given;
      imported = same-all imported_name old.imported now.imported c t.0 s.imported;
      used = same-all used_name old.used now.used c t.0 s.used;
      spoiled = same-all spoiled_name old.spoiled now.spoiled c t.0 s.spoiled;
    }

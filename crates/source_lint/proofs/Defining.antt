-- The macros that a file defines, one token after the other.
use Rattle.std.proofs.Common.{◌≡◌, ◌||◌, ℕ, List, [], ◌∷◌, Bool, true, false, Option, None, Some}
use Rattle.std.proofs.Common.{ap, cond, map, refl, subst, sym, ◌∙◌}
use Rattle.std.specs.BTreeMap.{is_at}
use Rattle.std.specs.BTreeSet.{BTreeSet, UpdatesBy}
use Rattle.std.specs.Cmp.Lexicographic.{nat_list_eq_equiv, slice_cmp}
use Rattle.std.specs.List.{list_any}
use Rattle.std.specs.Prelude.{◌&&◌, is_some, not, slice_get}
use Rattle.std.specs.Ordering.{is_eq, nat_cmp}
use Rattle.std.specs.Str.{bytes_eq}
use denote.Ref.{Bor}
use Rattle.std.proofs.Math.Bool.{or_assoc}
use Rattle.std.proofs.lemmas.List.Folds.{list_any-append}
use Rattle.std.proofs.lemmas.Map.Text.{is_eq-slice_cmp}
use Rattle.rust_trees.specs.Leaves.{AreLeft, Leaf, Remainder}
use Rattle.format_calls.specs.declared.listing.Call.{Call}
use Rattle.format_calls.specs.declared.table.Rule.{Rule}
use Rattle.source_report.specs.declared.report.CallReading.{CallReading}
use Rattle.source_report.specs.declared.report.Finding.{Finding}
use Rattle.source_lint.specs.Macros.{Own, begins_definition, definition, macro_names, names_after}
use Rattle.source_lint.specs.Macros.{names_in, newline_by}
use Rattle.format_calls.specs.Marks.{is_word, word}
use Rattle.call_forms.specs.Paths.{is_foreign}
use Rattle.source_lint.specs.CallLists.{Gives}
use Rattle.source_lint.specs.Readings.{Reads, ReadsUnless, Scope, is_log, name_of_leaf}
use Rattle.source_lint.specs.Readings.{is_own, name_at, newline_of, newline_or, offset_of_leaf}
use Rattle.source_lint.specs.Readings.{skipped_if, skipped_reading}
use Rattle.source_lint.specs.Files.{AreLeaves}
use Rattle.source_lint.specs.Reports.{ReadsCalls}
use Rattle.source_lint.proofs.Reporting.{same-leaves}
use Rattle.format_calls.specs.Rows.{Entry}

-- These names are those that a set has.
abbrev pub has : List (List ℕ) → List ℕ → Bool
has ds n = list_any (bytes_eq n) ds

keys-have : (n : List ℕ) (ks : List (Bor (List ℕ)))
    → list_any (is_at (λ k. slice_cmp nat_cmp n k.now)) ks ≡ has (map (λ k. k.now) ks) n
keys-have n [] = refl
keys-have n (k ∷ ks) =
    ap (λ b. b || list_any (is_at (λ j. slice_cmp nat_cmp n j.now)) ks) (is_eq-slice_cmp n k.now)
    ∙ ap (λ b. bytes_eq n k.now || b) (keys-have n ks)

-- whether a set has a name
pub set-has : (s : BTreeSet (Bor (List ℕ))) (n : List ℕ)
    → list_any (is_at (λ k. slice_cmp nat_cmp n k.now)) s.keys ≡ has (names_in s) n
set-has s n = keys-have n s.keys

cond-or : (a b : Bool) → cond a true b ≡ (b || (a || false))
cond-or true true = refl
cond-or true false = refl
cond-or false true = refl
cond-or false false = refl

-- a set with a name more
pub has-added : (old new : BTreeSet (Bor (List ℕ))) (w : Bor (List ℕ)) →
    UpdatesBy (λ x y. slice_cmp nat_cmp x.now y.now)
    (λ k. slice_cmp nat_cmp w.now k.now) old new true →
    (n : List ℕ) → has (names_in new) n ≡ (has (names_in old) n || has (w.now ∷ []) n)
has-added old new w h n = sym (set-has new n)
    ∙ h.0 (record { ref_ptr = (0, 0); now = n })
    ∙ cond-or (is_eq (slice_cmp nat_cmp w.now n)) _
    ∙ ap (λ b. b || (is_eq (slice_cmp nat_cmp w.now n) || false)) (set-has old n)
    ∙ ap (λ b. has (names_in old) n || (b || false))
    (is_eq-slice_cmp w.now n ∙ nat_list_eq_equiv.symm w.now n)

pub defined-here : (w m : Option Leaf) (x : Leaf) → begins_definition w m ≡ true
    → is_word x ≡ true → definition w m x ≡ word x ∷ []
defined-here w m x e f = rw (e, f) refl

-- The names that were found of a file, where the tokens of u are left, and two stand before them.
abbrev pub Defines : Remainder → Remainder → List (List ℕ) → Option Leaf → Option Leaf → Type 0
Defines start u found w m = (left : List Leaf) → AreLeft u left → (all : List Leaf)
    × AreLeft start all
    × ((n : List ℕ) → has (macro_names all) n ≡ (has found n || has (names_after w m left) n))

pub defines-none : (u : Remainder) (found : List (List ℕ)) → found ≡ []
    → Defines u u found None None
defines-none u found e = λ left l. (
  left,
  l,
  λ n. ap (λ v. has v n || has (names_after None None left) n) (sym e),
)

pub defines-more : (start u next : Remainder) (found more : List (List ℕ)) (w m : Option Leaf)
    (x : Leaf) → Defines start u found w m
    → ((ls : List Leaf) → AreLeft next ls → AreLeft u (x ∷ ls))
    → ((n : List ℕ) → has more n ≡ (has found n || has (definition w m x) n))
    → Defines start next more m (Some x)
defines-more start u next found more w m x h step e = λ left l.
    let t = h (x ∷ left) (step left l) in (
      t.0,
      t.1,
      λ n. t.2 n
          ∙ ap (λ b. has found n || b)
          (list_any-append (bytes_eq n) (definition w m x) (names_after m (Some x) left))
          ∙ sym (or_assoc (has found n) (has (definition w m x) n)
          (has (names_after m (Some x) left) n))
          ∙ ap (λ b. b || has (names_after m (Some x) left) n) (sym (e n)),
    )

or-none : (b : Bool) → (b || false) ≡ b
or-none true = refl
or-none false = refl

pub defines-all : (start u : Remainder) (found : List (List ℕ)) (w m : Option Leaf)
    → Defines start u found w m → AreLeft u []
    → (all : List Leaf) × AreLeft start all
    × ((n : List ℕ) → has found n ≡ has (macro_names all) n)
defines-all start u found w m h l =
    let t = h [] l in (t.0, t.1, λ n. sym (t.2 n ∙ or-none (has found n)))

pub skipped-same : (s t : Scope) (r : Rule) (o : Option Leaf) → s.text ≡ t.text → s.own ≡ t.own
    → ((n : List ℕ) → has s.defined n ≡ has t.defined n) → skipped_reading s r o
    ≡ skipped_reading t r o
skipped-same s t r o w k e =
    let n = name_of_leaf o in
    ap (λ b. skipped_if (b && not (is_own s n))
    (is_log r n && is_foreign s.text (offset_of_leaf o))) (e n)
    ∙ (ap (λ v. skipped_if (has t.defined n && not (is_some (newline_by v n)))
    (is_log r n && is_foreign s.text (offset_of_leaf o))) k
    ∙ ap (λ v. skipped_if (has t.defined n && not (is_own t n))
    (is_log r n && is_foreign v (offset_of_leaf o))) w)

newline-same : (s t : Scope) (w : List ℕ) → s.own ≡ t.own → newline_of s w ≡ newline_of t w
newline-same s t w k = ap (λ v. newline_or (newline_by v w) w) k

-- the calls of a file are read in the same way by names that are the same
all-same : (s t : Scope) (is_new : Bool) (xs : List Leaf) → s.text ≡ t.text → s.own ≡ t.own
    → ((n : List ℕ) → has s.defined n ≡ has t.defined n) → (cs : List Call)
    (rs : List CallReading) (fs : List Finding) → Gives (Reads s is_new xs) cs rs fs
    → Gives (Reads t is_new xs) cs rs fs
all-same s t is_new xs w k e [] rs fs h = h
all-same s t is_new xs w k e (c ∷ cs) rs fs h = (
  h.0,
  h.1,
  h.2,
  h.3,
  h.4,
  h.5,
  subst (λ o. ReadsUnless o is_new (newline_of t (name_at xs c.name)) xs c h.0 h.2)
      (skipped-same s t c.rule (slice_get xs c.name) w k e)
      (subst (λ b. ReadsUnless (skipped_reading s c.rule (slice_get xs c.name)) is_new b xs c h.0
      h.2) (newline-same s t (name_at xs c.name) k) h.6),
  all-same s t is_new xs w k e cs h.1 h.3 h.7,
)

calls-same : (entries : List Entry) (s t : Scope) (is_new : Bool) (xs : List Leaf)
    (rs : List CallReading) (fs : List Finding) → s.text ≡ t.text → s.own ≡ t.own
    → ((n : List ℕ) → has s.defined n ≡ has t.defined n)
    → ReadsCalls entries s is_new xs rs fs → ReadsCalls entries t is_new xs rs fs
calls-same entries s t is_new xs rs fs w k e h = record {
  calls = h.calls;
  are_calls = h.are_calls;
  gives = all-same s t is_new xs w k e h.calls rs fs h.gives;
}

-- The names that a file defines are those of its tokens.
abbrev pub NamesOf : List ℕ → List (List ℕ) → Type 0
NamesOf bs ds = (ls : List Leaf) × AreLeaves bs ls
    × ((n : List ℕ) → has ds n ≡ has (macro_names ls) n)

pub names-there : (bs : List ℕ) (ds : List (List ℕ)) (ls : List Leaf) → NamesOf bs ds
    → AreLeaves bs ls → (n : List ℕ) → has ds n ≡ has (macro_names ls) n
names-there bs ds ls d l n =
    d.2 n ∙ ap (λ v. has (macro_names v) n) (same-leaves bs d.0 ls d.1 l)

pub calls-of-file : (entries : List Entry) (bs : List ℕ) (ms : List Own) (ds : List (List ℕ))
    (is_new : Bool) (ls : List Leaf) (rs : List CallReading) (fs : List Finding) → NamesOf bs ds
    → AreLeaves bs ls
    → ReadsCalls entries (record { text = bs; own = ms; defined = ds }) is_new ls rs fs
    → ReadsCalls entries (record { text = bs; own = ms; defined = macro_names ls }) is_new ls rs fs
calls-of-file entries bs ms ds is_new ls rs fs d l h =
    calls-same entries (record { text = bs; own = ms; defined = ds })
    (record { text = bs; own = ms; defined = macro_names ls }) is_new ls rs fs refl refl
    (names-there bs ds ls d l) h

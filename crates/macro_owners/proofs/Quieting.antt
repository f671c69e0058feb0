-- What does not come from plain tokens, and what stands before the tokens after them.
use Prim.Native.Char.{code}
use Rattle.std.proofs.Common.{◌≡◌, ◌||◌, ◌⊎◌, ◌-◌, ℕ, List, [], Bool, true, false, inl, inr}
use Rattle.std.proofs.Common.{Option, Some, None}
use Rattle.std.proofs.Common.{ap, refl, sym, ◌∙◌}
use Rattle.std.specs.BTreeSet.{BTreeSet}
use Rattle.std.specs.Prelude.{◌&&◌, codes, if◌then◌else◌, is_some, nat_lt, not}
use denote.Ref.{Bor}
use Rattle.std.proofs.lemmas.Bool.{and_left, and_right, cases_Bool, false≢true}
use Rattle.std.proofs.lemmas.Bool.{not_from_false, or_from, or_parts, true≢false}
use Rattle.rust_trees.specs.Leaves.{Leaf, side}
use Rattle.rust_trees.specs.declared.sides.Side.{Side}
use Rattle.rust_trees.specs.declared.sides.Side.TheVariants.{Opens, Closes, Neither}
use Rattle.format_calls.specs.Marks.{is_mark_of}
use Rattle.macro_owners.specs.declared.facts.Facts.{Facts}
use Rattle.macro_owners.specs.Contexts.{Context, after, defines, depth_by, exports, goes_on}
use Rattle.macro_owners.specs.Contexts.{import_after, is_named, opens_macro, path_after}
use Rattle.macro_owners.specs.Contexts.{starts_import, uses_macros, word_of}
use Rattle.macro_owners.specs.Facts.{AddsToken, HasMore, attribute_mark, given_by_import}
use Rattle.macro_owners.specs.Facts.{given_by_item, given_name, given_outside, has_owner_path}
use Rattle.macro_owners.specs.Facts.{imported_name, is_bare, is_end, is_import, is_owned_import}
use Rattle.macro_owners.specs.Facts.{is_plain_import, is_renamed, spoiled_name, used_name}
use Rattle.macro_owners.specs.Facts.{uses_crate}
use Rattle.macro_owners.specs.Names.{has, kept, kept_names}
use Rattle.macro_owners.specs.Quiet.{is_notable, is_plain, is_quiet, may_end_name, notable_words}
use Rattle.macro_owners.proofs.Collecting.{none-kept}

-- Which words and marks a token is not that is not notable.
record IsPlain (o : Option Leaf) : Type 0 where
  is_no_bang : is_mark_of (code "!") o ≡ false
  is_no_use : is_named (codes "use") o ≡ false
  is_no_as : is_named (codes "as") o ≡ false
  is_no_mod : is_named (codes "mod") o ≡ false
  is_no_macro : is_named (codes "macro") o ≡ false
  is_no_macro_use : is_named (codes "macro_use") o ≡ false
  is_no_macro_export : is_named (codes "macro_export") o ≡ false
  is_no_std : is_named (codes "no_std") o ≡ false
  is_no_core : is_named (codes "no_core") o ≡ false
  is_no_prelude : is_named (codes "no_implicit_prelude") o ≡ false

plain : (o : Option Leaf) → is_notable o ≡ false → IsPlain o
plain o e =
    let w = or_parts (is_mark_of (code "!") o) (has notable_words (word_of o)) e in
    let a = or_parts (is_named (codes "use") o) _ w.1 in
    let b = or_parts (is_named (codes "as") o) _ a.1 in
    let d = or_parts (is_named (codes "mod") o) _ b.1 in
    let f = or_parts (is_named (codes "macro") o) _ d.1 in
    let g = or_parts (is_named (codes "macro_use") o) _ f.1 in
    let h = or_parts (is_named (codes "macro_export") o) _ g.1 in
    let i = or_parts (is_named (codes "no_std") o) _ h.1 in
    let j = or_parts (is_named (codes "no_core") o) _ i.1 in
    let k = or_parts (is_named (codes "no_implicit_prelude") o) _ j.1 in record {
      is_no_bang = w.0;
      is_no_use = a.0;
      is_no_as = b.0;
      is_no_mod = d.0;
      is_no_macro = f.0;
      is_no_macro_use = g.0;
      is_no_macro_export = h.0;
      is_no_std = i.0;
      is_no_core = j.0;
      is_no_prelude = k.0;
    }

record IsQuiet (c : Context) : Type 0 where
  previous : is_named (codes "as") c.previous ≡ false
  last : is_notable c.last ≡ false
  starts_import : c.starts_import ≡ false
  uses_macros : c.uses_macros ≡ false
  defines : c.defines ≡ false

nor : (a b : Bool) → not (a || b) ≡ true → (a ≡ false) × (not b ≡ true)
nor true b e = absurd (false≢true e)
nor false b e = (refl, e)

none : (a : Bool) → not a ≡ true → a ≡ false
none true e = absurd (false≢true e)
none false e = refl

quiet : (c : Context) → is_quiet c ≡ true → IsQuiet c
quiet c e =
    let a = nor (is_named (codes "as") c.previous) _ e in
    let b = nor (is_notable c.last) _ a.1 in
    let d = nor c.starts_import _ b.1 in
    let f = nor c.uses_macros _ d.1 in record {
      previous = a.0;
      last = b.0;
      starts_import = d.0;
      uses_macros = f.0;
      defines = none c.defines f.1;
    }

-- What a plain token is not.
ends-none : (c : Context) (x : Leaf) → is_plain c x ≡ true → may_end_name c x ≡ false
ends-none c x e = none (may_end_name c x) (nor (is_notable (Some x)) (may_end_name c x) e).1

is-plain : (c : Context) (x : Leaf) → is_plain c x ≡ true → IsPlain (Some x)
is-plain c x e = plain (Some x) (nor (is_notable (Some x)) (may_end_name c x) e).0

-- The second of two values, if the test is false.
no : {A : Type 0} (b : Bool) (v w : A) → b ≡ false → (if b then v else w) ≡ w
no b v w e = ap (λ t. if t then v else w) e

-- The first one, if it is true.
yes : {A : Type 0} (b : Bool) (v w : A) → b ≡ true → (if b then v else w) ≡ v
yes b v w e = ap (λ t. if t then v else w) e

no-mark : (x : Leaf) → IsPlain (Some x) → attribute_mark (word_of (Some x)) ≡ []
no-mark x p =
    no (is_named (codes "no_std") (Some x) || is_named (codes "no_core") (Some x)) _ _
    (or_from _ _ p.is_no_std p.is_no_core)
    ∙ no (is_named (codes "no_implicit_prelude") (Some x)) _ _ p.is_no_prelude

no-item : (c : Context) (x : Leaf) → IsQuiet c → IsPlain (Some x) → given_by_item c x ≡ []
no-item c x q p =
    no (is_end x && is_renamed c) _ _ (and_right (is_end x) (is_renamed c) q.previous)
    ∙ (yes (not (uses_crate c)) _ _ (not_from_false (uses_crate c) (and_left _ _ q.uses_macros))
    ∙ no-mark x p)

and-open : (a b : Bool) → (a && b) ≡ false → a ≡ true → b ≡ false
and-open true b e f = e
and-open false b e f = absurd (false≢true f)

-- The token of an open import is none of these.
no-import-name : (c : Context) (x : Leaf) → (is_end x || (is_mark_of (code "*") (Some x)
    || is_mark_of (code "$") c.last)) ≡ false → given_by_import c x ≡ []
no-import-name c x h =
    let e = or_parts (is_end x) _ h in
    let s = or_parts (is_mark_of (code "*") (Some x)) _ e.1 in
    no (is_mark_of (code "$") c.last && not (is_named (codes "crate") (Some x))) _ _
    (and_left _ _ s.1)
    ∙ (no (is_mark_of (code "*") (Some x)) _ _ s.0
    ∙ no (is_end x && not (is_plain_import c)) _ _ (and_left _ _ e.0))

no-outside : (c : Context) (x : Leaf) → IsQuiet c → is_plain c x ≡ true → given_outside c x ≡ []
no-outside c x q n = by_import (cases_Bool (is_import c))
  where
    by_import : (is_import c ≡ true) ⊎ (is_import c ≡ false) → given_outside c x ≡ []
    by_import (inl i) =
        yes (is_import c) _ _ i
        ∙ no-import-name c x (and-open (is_import c) _ (ends-none c x n) i)
    by_import (inr i) = no (is_import c) _ _ i ∙ no-item c x q (is-plain c x n)

no-given : (c : Context) (x : Leaf) → IsQuiet c → is_plain c x ≡ true → given_name c x ≡ []
no-given c x q n =
    let l = plain c.last q.last in
    no (defines c) _ _ (ap (λ b. b && is_named (codes "macro_rules") c.previous) l.is_no_bang)
    ∙ (no (is_named (codes "macro") c.last) _ _ l.is_no_macro
    ∙ (no (is_named (codes "mod") c.last) _ _ l.is_no_mod ∙ no-outside c x q n))

fewer : (i e r s : Bool) → (i && (e || r)) ≡ false → (i && (e && s)) ≡ false
fewer true true r s h = absurd (true≢false h)
fewer true false r s h = refl
fewer false e r s h = refl

no-imported : (c : Context) (x : Leaf) → is_plain c x ≡ true → imported_name c x ≡ []
no-imported c x n =
    no (is_owned_import c x) _ _ (fewer (is_import c) (is_end x) _ _ (ends-none c x n))
    ∙ no (is_mark_of (code "!") (Some x) && has_owner_path c) _ _
    (and_left _ _ (is-plain c x n).is_no_bang)

no-used : (c : Context) (x : Leaf) → IsQuiet c → used_name c x ≡ []
no-used c x q = rw q.uses_macros refl

pub no-spoiled : (c : Context) (x : Leaf) → c.depth ≡ 0 → is_plain c x ≡ true
    → spoiled_name c x ≡ []
no-spoiled c x z n =
    no (is_mark_of (code "!") (Some x)) _ _ (is-plain c x n).is_no_bang
    ∙ no (nat_lt 0 c.depth && is_bare c x) _ _ (and_left _ _ (ap (λ d. nat_lt 0 d) z))

-- A set without a name more.
pub same-set : (s : BTreeSet (Bor (List ℕ))) (w : List ℕ) → w ≡ [] → HasMore s (kept w) s
same-set s w e = none-kept s w (ap (λ v. has kept_names v) e)

pub adds-spoiled : (c : Context) (x : Leaf) (f : Facts) (s : BTreeSet (Bor (List ℕ)))
    → is_quiet c ≡ true → is_plain c x ≡ true → HasMore f.spoiled (kept (spoiled_name c x)) s
    → AddsToken c x f (record f { spoiled = s })
adds-spoiled c x f s e n h =
    let q = quiet c e in record {
      given = same-set f.given _ (no-given c x q n);
      imported = same-set f.imported _ (no-imported c x n);
      used = same-set f.used _ (no-used c x q);
      spoiled = h;
    }

-- What stands before a token, part by part.
abbrev made : (p l : Option Leaf) → Bool → (i r : Option Leaf) → (g u e d : Bool) → ℕ → Context
made p l s i r g u e d n = record {
  previous = p;
  last = l;
  starts_import = s;
  import_root = i;
  path_root = r;
  goes_on = g;
  uses_macros = u;
  exports = e;
  defines = d;
  depth = n;
}

same-parts : (p l : Option Leaf) (s t : Bool) (i j r q : Option Leaf) (g h u v e f d k : Bool)
    (n m : ℕ) → s ≡ t → i ≡ j → r ≡ q → g ≡ h → u ≡ v → e ≡ f → d ≡ k → n ≡ m
    → made p l s i r g u e d n ≡ made p l t j q h v f k m
same-parts p l s t i j r q g h u v e f d k n m a b o w x y z c =
    rw (a, b, o, w, x, y, z, c) refl

-- What stands before the next token where only the last two, their path and the depth change.
abbrev pub passed : Context → Leaf → Option Leaf → Bool → ℕ → Context
passed c x r g n = made c.last (Some x) c.starts_import c.import_root r g c.uses_macros c.exports
    c.defines n

-- The same with the path and the depth that are known.
abbrev pub passed_by : Leaf → Context → Context
passed_by x c = passed c x c.path_root c.goes_on c.depth

-- With the path after this token.
abbrev pub followed : Leaf → Context → Context
followed x c = record c { path_root = path_after c x; goes_on = goes_on c x }

none-of : (o : Option Leaf) → is_some o ≡ false → o ≡ None
none-of None e = refl
none-of (Some x) e = absurd (true≢false e)

either-none : (b : Bool) (o : Option Leaf) → o ≡ None → (if b then None else o) ≡ o
either-none true o e = sym e
either-none false o e = refl

no-semicolon : (x : Leaf) → is_end x ≡ false → is_mark_of (code ";") (Some x) ≡ false
no-semicolon x e =
    let h = or_parts (is_mark_of (code ",") (Some x)) _ e in
    (or_parts (is_mark_of (code ";") (Some x)) _ h.1).0

no-import : (c : Context) (x : Leaf) → IsQuiet c → is_plain c x ≡ true
    → import_after c x ≡ c.import_root
no-import c x q n =
    let is_none = is_mark_of (code ":") (Some x) || is_mark_of (code "<") (Some x) in
    ap (λ b. if ends then None else (if not b then c.import_root else
    (if is_none then None else Some x))) q.starts_import ∙ by_import (cases_Bool (is_import c))
  where
    ends : Bool
    ends = is_named (codes "use") (Some x) || is_mark_of (code ";") (Some x)

    by_import : (is_import c ≡ true) ⊎ (is_import c ≡ false)
        → (if ends then None else c.import_root) ≡ c.import_root
    by_import (inl i) =
        let h = and-open (is_import c) _ (ends-none c x n) i in
        no ends _ _ (or_from _ _ (is-plain c x n).is_no_use
        (no-semicolon x (or_parts (is_end x) _ h).0))
    by_import (inr i) = either-none ends c.import_root (none-of c.import_root i)

depth-none : (c : Context) (s : Side) → IsQuiet c → c.depth ≡ 0 → depth_by c s ≡ 0
depth-none c (Opens d) q z =
    no (nat_lt 0 c.depth) _ _ (ap (λ n. nat_lt 0 n) z)
    ∙ no (opens_macro c) _ _ (or_from _ _ q.defines
    (and_left _ _ (plain c.last q.last).is_no_bang))
depth-none c (Closes d) q z = ap (λ n. n - 1) z
depth-none c Neither q z = z

-- With this number of open delimiters.
abbrev with_depth : Context → ℕ → Context
with_depth c n = record c { depth = n }

pub keeps-depth : (c : Context) (x : Leaf) → is_quiet c ≡ true → c.depth ≡ 0
    → c ≡ record c { depth = depth_by c (side x) }
keeps-depth c x e z = ap (with_depth c) (z ∙ sym (depth-none c (side x) (quiet c e) z))

or-none : (b : Bool) → (b || false) ≡ b
or-none true = refl
or-none false = refl

pub passes : (c : Context) (x : Leaf) (r : Option Leaf) (g : Bool) (d : ℕ) → is_quiet c ≡ true
    → is_plain c x ≡ true → r ≡ path_after c x → g ≡ goes_on c x → d ≡ depth_by c (side x)
    → passed c x r g d ≡ after c x
passes c x r g d e n a b s =
    let q = quiet c e in
    let p = is-plain c x n in
    same-parts c.last (Some x) c.starts_import (starts_import c x) c.import_root (import_after c x)
    r (path_after c x) g (goes_on c x) c.uses_macros (uses_macros c x) c.exports (exports c x)
    c.defines (defines c) d (depth_by c (side x))
    (q.starts_import ∙ sym (or_from _ _ p.is_no_use (and_left _ _ q.starts_import)))
    (sym (no-import c x q n)) a b
    (q.uses_macros ∙ sym (or_from _ _ p.is_no_macro_use (and_left _ _ q.uses_macros)))
    (sym (ap (λ v. c.exports || v) p.is_no_macro_export ∙ or-none c.exports))
    (q.defines ∙ sym (and_left _ _ (plain c.last q.last).is_no_bang))
    s

pub stays-quiet : (c : Context) (x : Leaf) (r : Option Leaf) (g : Bool) (d : ℕ)
    → is_quiet c ≡ true → is_plain c x ≡ true → is_quiet (passed c x r g d) ≡ true
stays-quiet c x r g d e n =
    let q = quiet c e in
    all-false (is_named (codes "as") c.last) (is_notable (Some x)) c.starts_import c.uses_macros
    c.defines (plain c.last q.last).is_no_as (nor (is_notable (Some x)) (may_end_name c x) n).0
    q.starts_import q.uses_macros q.defines
  where
    all-false : (a b s u d : Bool) → a ≡ false → b ≡ false → s ≡ false → u ≡ false → d ≡ false
        → not (a || (b || (s || (u || d)))) ≡ true
    all-false a b s u d e f g h i = rw (e, f, g, h, i) refl

-- The facts of a file about names of macros, by its tokens: the names that it gives, those that it
-- imports from a crate that owns them, the crates of which it uses all macros, and the names whose
-- calls in it may be of another macro.
use Prim.Native.Char.{code}
use Rattle.std.specs.Prelude.{◌≡◌, ℕ, Bool, not, ◌&&◌, ◌||◌, ◌++◌, List, [], ◌∷◌, Some}
use Rattle.std.specs.Prelude.{codes, if◌then◌else◌, is_some, map, nat_lt}
use Rattle.std.specs.BTreeSet.{BTreeSet}
use Rattle.std.specs.Str.{bytes_eq}
use denote.Ref.{Bor}
use Rattle.rust_trees.specs.Leaves.{Leaf}
use Rattle.format_calls.specs.Marks.{is_mark_of}
use Rattle.macro_owners.specs.declared.facts.Facts.{Facts}
use Rattle.macro_owners.specs.Contexts.{Context, after, defines, first, is_named, word_of}
use Rattle.macro_owners.specs.Names.{has, is_error_crate, is_harmless, is_log_crate, is_owner}
use Rattle.macro_owners.specs.Names.{is_std_crate, kept, owns}
use Rattle.macro_owners.specs.Files.{AreLeaves}

-- `,`, `;` or `}`: a name of an import may end before it.
abbrev pub is_end : Leaf → Bool
is_end x = is_mark_of (code ",") (Some x)
    || (is_mark_of (code ";") (Some x) || is_mark_of (code "}") (Some x))

-- The last word is a name that an import gives, if a token ends it: `as` stands before another one
-- than that of the item.
abbrev pub is_renamed : Context → Bool
is_renamed c = is_named (codes "as") c.previous

-- The import of the last word is no definition: it is that of a macro from a crate that owns it, or
-- of a crate under its own name, or of an item of std.
abbrev pub is_plain_import : Context → Bool
is_plain_import c = let r = word_of c.import_root in let n = word_of c.last in
    not (is_renamed c) && (owns r n || (is_std_crate r || bytes_eq r n))

-- The mark of a glob of a path with this first word. One of std, or of a module around, has none.
abbrev pub glob_mark : List ℕ → List ℕ
glob_mark r = if is_std_crate r || (bytes_eq r (codes "self") || bytes_eq r (codes "super"))
    then [] else (if bytes_eq r (codes "crate") || bytes_eq r (codes "defmt") then r else codes "*")

-- The name that a token of an import gives. A variable of a macro gives every name.
abbrev pub given_by_import : Context → Leaf → List ℕ
given_by_import c x =
    if is_mark_of (code "$") c.last && not (is_named (codes "crate") (Some x)) then codes "$" else
    (if is_mark_of (code "*") (Some x) then glob_mark (word_of c.import_root) else
    (if is_end x && not (is_plain_import c) then word_of c.last else []))

-- A word, if it is the name of a crate that owns macros.
abbrev pub owner_name : List ℕ → List ℕ
owner_name w = if is_owner w then w else []

-- A crate whose macros are all used.
abbrev pub uses_crate : Context → Bool
uses_crate c = c.uses_macros
    && (is_named (codes "crate") c.last && is_named (codes "extern") c.previous)

-- A crate that owns macros of logs or of errors.
abbrev pub is_known_crate : List ℕ → Bool
is_known_crate w = is_harmless w || (is_log_crate w || is_error_crate w)

-- The mark of an attribute of a file.
abbrev pub attribute_mark : List ℕ → List ℕ
attribute_mark w = if bytes_eq w (codes "no_std") || bytes_eq w (codes "no_core")
    then codes "no_std" else (if bytes_eq w (codes "no_implicit_prelude") then codes "$" else [])

-- The name that a token gives outside of definitions and imports: a crate has the name of an owner,
-- `macro_use` of a crate that is not known gives every name, or it is the mark of an attribute.
abbrev pub given_by_item : Context → Leaf → List ℕ
given_by_item c x = if is_end x && is_renamed c then owner_name (word_of c.last) else
    (if not (uses_crate c) then attribute_mark (word_of (Some x)) else
    (if is_known_crate (word_of (Some x)) then [] else codes "$"))

-- An import is not over yet.
abbrev pub is_import : Context → Bool
is_import c = is_some c.import_root

-- The name that a token gives outside of definitions.
abbrev pub given_outside : Context → Leaf → List ℕ
given_outside c x = if is_import c then given_by_import c x else given_by_item c x

-- The name that `macro_rules!` defines by this token. A variable of a macro gives every name.
abbrev pub defined_name : Leaf → List ℕ
defined_name x = if is_mark_of (code "$") (Some x) then codes "$" else word_of (Some x)

-- The name that a token gives: `macro_rules! N`, `macro N`, `mod N` for the name of an owner, or an
-- import or another item.
abbrev pub given_name : Context → Leaf → List ℕ
given_name c x = if defines c then defined_name x else
    (if is_named (codes "macro") c.last then word_of (Some x) else
    (if is_named (codes "mod") c.last then owner_name (word_of (Some x)) else given_outside c x))

-- The token ends an import of the last word from a crate that owns it.
abbrev pub is_owned_import : Context → Leaf → Bool
is_owned_import c x = is_import c && (is_end x && (not (is_renamed c)
    && owns (word_of c.import_root) (word_of c.last)))

-- The last word has a path of the crate that owns it.
abbrev pub has_owner_path : Context → Bool
has_owner_path c = c.goes_on && owns (word_of c.path_root) (word_of c.last)

-- The name that a token imports from a crate that owns it, by `use` or by the path of a call.
abbrev pub imported_name : Context → Leaf → List ℕ
imported_name c x = if is_owned_import c x then word_of c.last else
    (if is_mark_of (code "!") (Some x) && has_owner_path c then word_of c.last else [])

-- The crate of which `macro_use` gives all macros.
abbrev pub used_name : Context → Leaf → List ℕ
used_name c x = if uses_crate c then owner_name (word_of (Some x)) else []

-- The name of a call that may be of another macro: it has a path of another crate than its owner,
-- or stands in a definition of a file that exports one.
abbrev pub is_other_call : Context → Bool
is_other_call c = (c.goes_on && not (owns (word_of c.path_root) (word_of c.last)))
    || (nat_lt 0 c.depth && c.exports)

-- The last word stands by itself, no field, no function and no variable of a macro, so that a macro
-- around it may define it.
abbrev pub is_bare : Context → Leaf → Bool
is_bare c x = not (is_mark_of (code "(") (Some x)) && not (is_mark_of (code ".") c.previous
    || (is_mark_of (code ":") c.previous || is_mark_of (code "$") c.previous))

-- The name that may be another macro's in this file.
abbrev pub spoiled_name : Context → Leaf → List ℕ
spoiled_name c x =
    if is_mark_of (code "!") (Some x) then (if is_other_call c then word_of c.last else []) else
    (if nat_lt 0 c.depth && is_bare c x then word_of c.last else [])

-- The names, of those that facts are kept about, that a question finds among these tokens.
abbrev pub found_after : (Context → Leaf → List ℕ) → Context → List Leaf → List (List ℕ)
found_after q c [] = []
found_after q c (x ∷ xs) = kept (q c x) ++ found_after q (after c x) xs

-- Those of a file.
abbrev pub found : (Context → Leaf → List ℕ) → List Leaf → List (List ℕ)
found q xs = found_after q first xs

-- The names that a set has.
abbrev pub names_in : BTreeSet (Bor (List ℕ)) → List (List ℕ)
names_in s = map (λ k. k.now) s.keys

-- A set has these names more.
abbrev pub HasMore : BTreeSet (Bor (List ℕ)) → List (List ℕ) → BTreeSet (Bor (List ℕ)) → Type 0
HasMore old ns new = (n : List ℕ) → has (names_in new) n ≡ (has (names_in old) n || has ns n)

-- Facts with those of a token more.
pub record AddsToken (c : Context) (x : Leaf) (old new : Facts) : Type 0 where
  pub given : HasMore old.given (kept (given_name c x)) new.given
  pub imported : HasMore old.imported (kept (imported_name c x)) new.imported
  pub used : HasMore old.used (kept (used_name c x)) new.used
  pub spoiled : HasMore old.spoiled (kept (spoiled_name c x)) new.spoiled

-- Facts with those of a file more.
pub record Adds (bs : List ℕ) (old new : Facts) : Type 0 where
  pub tokens : List Leaf
  pub are_tokens : AreLeaves bs tokens
  pub given : HasMore old.given (found given_name tokens) new.given
  pub imported : HasMore old.imported (found imported_name tokens) new.imported
  pub used : HasMore old.used (found used_name tokens) new.used
  pub spoiled : HasMore old.spoiled (found spoiled_name tokens) new.spoiled

-- Facts of no file.
pub record AreNone (f : Facts) : Type 0 where
  pub given : names_in f.given ≡ []
  pub imported : names_in f.imported ≡ []
  pub used : names_in f.used ≡ []
  pub spoiled : names_in f.spoiled ≡ []

-- Facts with a name more that is given.
pub record AddsName (w : List ℕ) (old new : Facts) : Type 0 where
  pub given : HasMore old.given (kept w) new.given
  pub imported : new.imported ≡ old.imported
  pub used : new.used ≡ old.used
  pub spoiled : new.spoiled ≡ old.spoiled

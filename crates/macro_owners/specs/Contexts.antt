-- What stands before a token, as far as it matters to names of macros.
use Prim.Native.Char.{code}
use Rattle.std.specs.Prelude.{ℕ, Bool, false, not, ◌&&◌, ◌||◌, ◌+◌, ◌-◌, ◌^◌, List, []}
use Rattle.std.specs.Prelude.{Option, Some, None, codes, if◌then◌else◌, is_some, min, nat_lt}
use Rattle.std.specs.Prelude.{option_map}
use Rattle.std.specs.Str.{bytes_eq}
use Rattle.rust_trees.specs.Leaves.{Leaf, leaf, side}
use Rattle.rust_trees.specs.declared.sides.Side.{Side}
use Rattle.rust_trees.specs.declared.sides.Side.TheVariants.{Opens, Closes, Neither}
use Rattle.format_calls.specs.Marks.{is_mark_of, is_word, word}
use Rattle.macro_owners.specs.declared.context.Context.{Context as DeclaredContext}
use Rattle.macro_owners.specs.Names.{is_hygienic}

-- A word, without the `r#` of a raw one, or nothing if the token is none.
abbrev pub word_of : Option Leaf → List ℕ
word_of None = []
word_of (Some x) = if is_word x then word x else []

-- The token is this word.
abbrev pub is_named : List ℕ → Option Leaf → Bool
is_named w o = bytes_eq (word_of o) w

-- The last two tokens; the first token of the import that is not over yet; the first word of the
-- path that ends with the last token, and whether that goes on after it; whether `macro_use` was
-- read in this item, and `macro_export` anywhere; whether the last token is the name that a
-- `macro_rules!` defines; and the number of delimiters that are open, from that of a macro on that
-- may define others.
pub record Context : Type 0 where
  pub previous : Option Leaf
  pub last : Option Leaf
  pub starts_import : Bool
  pub import_root : Option Leaf
  pub path_root : Option Leaf
  pub goes_on : Bool
  pub uses_macros : Bool
  pub exports : Bool
  pub defines : Bool
  pub depth : ℕ

-- As a contract sees it.
abbrev pub seen : DeclaredContext → Context
seen c = record {
  previous = option_map leaf c.previous;
  last = option_map leaf c.last;
  starts_import = c.starts_import;
  import_root = option_map leaf c.import_root;
  path_root = option_map leaf c.path_root;
  goes_on = c.goes_on;
  uses_macros = c.uses_macros;
  exports = c.exports;
  defines = c.defines;
  depth = c.depth;
}

-- At the start of a file.
abbrev pub first : Context
first = record {
  previous = None;
  last = None;
  starts_import = false;
  import_root = None;
  path_root = None;
  goes_on = false;
  uses_macros = false;
  exports = false;
  defines = false;
  depth = 0;
}

-- The token goes on with the path before it, after `::`.
abbrev pub goes_on : Context → Leaf → Bool
goes_on c x = is_word x && (is_mark_of (code ":") c.last
    && (is_mark_of (code ":") c.previous && is_some c.path_root))

-- The first word of the path that ends with this token.
abbrev pub path_after : Context → Leaf → Option Leaf
path_after c x = if goes_on c x || is_mark_of (code ":") (Some x) then c.path_root else
    (if is_word x then Some x else None)

-- The first token of the import that goes on after this token. `use<..>` is none.
abbrev pub import_after : Context → Leaf → Option Leaf
import_after c x =
    if is_named (codes "use") (Some x) || is_mark_of (code ";") (Some x) then None else
    (if not c.starts_import then c.import_root else
    (if is_mark_of (code ":") (Some x) || is_mark_of (code "<") (Some x) then None else Some x))

-- A delimiter that follows opens the arguments of a macro that may define others, or the arms of a
-- definition.
abbrev pub opens_macro : Context → Bool
opens_macro c = c.defines || (is_mark_of (code "!") c.last
    && (not (bytes_eq (word_of c.previous) []) && not (is_hygienic (word_of c.previous))))

-- The number of delimiters that are open after a token on this side.
abbrev pub depth_by : Context → Side → ℕ
depth_by c (Opens d) = if nat_lt 0 c.depth then min (c.depth + 1) (2 ^ 64 - 1) else
    (if opens_macro c then 1 else 0)
depth_by c (Closes d) = c.depth - 1
depth_by c Neither = c.depth

abbrev pub depth_after : Context → Leaf → ℕ
depth_after c x = depth_by c (side x)

-- An import begins with this token, or goes on to begin after it.
abbrev pub starts_import : Context → Leaf → Bool
starts_import c x = is_named (codes "use") (Some x)
    || (c.starts_import && is_mark_of (code ":") (Some x))

-- The token ends an item or begins its body.
abbrev pub ends_item : Leaf → Bool
ends_item x = is_mark_of (code ";") (Some x)
    || (is_mark_of (code "{") (Some x) || is_mark_of (code "}") (Some x))

-- `macro_use` was read in the item that goes on after this token.
abbrev pub uses_macros : Context → Leaf → Bool
uses_macros c x = is_named (codes "macro_use") (Some x) || (c.uses_macros && not (ends_item x))

abbrev pub exports : Context → Leaf → Bool
exports c x = c.exports || is_named (codes "macro_export") (Some x)

-- The next token is the name of a macro that `macro_rules!` defines.
abbrev pub defines : Context → Bool
defines c = is_mark_of (code "!") c.last && is_named (codes "macro_rules") c.previous

-- What stands before the next token.
abbrev pub after : Context → Leaf → Context
after c x = record {
  previous = c.last;
  last = Some x;
  starts_import = starts_import c x;
  import_root = import_after c x;
  path_root = path_after c x;
  goes_on = goes_on c x;
  uses_macros = uses_macros c x;
  exports = exports c x;
  defines = defines c;
  depth = depth_after c x;
}

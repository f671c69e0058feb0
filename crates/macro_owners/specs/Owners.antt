-- Whose macro a name is in a file, by the facts of all files of its package.
use Rattle.std.specs.Prelude.{ℕ, Bool, true, not, ◌&&◌, ◌||◌, ◌++◌, List, [], ◌∷◌, codes}
use Rattle.std.specs.Prelude.{if◌then◌else◌}
use Rattle.std.specs.List.{list_any}
use Rattle.macro_owners.specs.declared.facts.Facts.{Facts}
use Rattle.macro_owners.specs.Facts.{names_in}
use Rattle.macro_owners.specs.Names.{error_crates, has, is_error_name, is_log_name, is_prelude}
use Rattle.macro_owners.specs.Names.{is_std_alone, kept_names, log_crates, std_crates}

-- The names that facts have, each kind as a list.
pub record Names : Type 0 where
  pub given : List (List ℕ)
  pub imported : List (List ℕ)
  pub used : List (List ℕ)
  pub spoiled : List (List ℕ)

-- Those of facts as a contract sees them.
abbrev pub names_of : Facts → Names
names_of f = record {
  given = names_in f.given;
  imported = names_in f.imported;
  used = names_in f.used;
  spoiled = names_in f.spoiled;
}

-- One of these words is among the names.
abbrev pub has_any : List (List ℕ) → List (List ℕ) → Bool
has_any ns ws = list_any (has ns) ws

-- One of these files gives the name n in another way than its owner, or every name.
abbrev pub gives : Names → List ℕ → Bool
gives p n = has p.given n || has p.given (codes "$")

-- No file of the package p gives the name n in another way than its owner, nor does the file f, in
-- which no call of it may be of another macro.
abbrev pub is_free : Names → Names → List ℕ → Bool
is_free p f n = not (gives p n || (gives f n || has f.spoiled n))

-- A file imports the name n, or calls it by a path, from what has the name of std, and may be
-- another crate or a module.
abbrev pub may_miss_std : Names → Names → List ℕ → Bool
may_miss_std p f n = has_any p.given std_crates && (has p.imported n || has f.imported n)

-- A file has a glob of another crate.
abbrev pub has_glob : Names → Bool
has_glob f = has f.given (codes "*") || has f.given (codes "defmt")

-- A macro of std's prelude is std's, unless the package gives the name. Without std's prelude a
-- glob may give the names that core has not.
abbrev pub is_std : Names → Names → List ℕ → Bool
is_std p f n = is_free p f n && not (may_miss_std p f n
    || (is_std_alone n && (has p.given (codes "no_std") && has_glob p)))

-- The crates of which `macro_use` gives a macro of this name.
abbrev pub owners : List ℕ → List (List ℕ)
owners n = if is_log_name n then log_crates else (if is_error_name n then error_crates else [])

-- No glob gives the name in this file: no file has one of another crate, or this file imports the
-- name and has no glob but of std and of modules around.
abbrev pub hides_globs : Names → Names → List ℕ → Bool
hides_globs p f n = not (has_glob p)
    || (has f.imported n && not (has_glob f || has f.given (codes "crate")))

-- A file of the package uses all macros of a crate that owns the name.
abbrev pub is_used : Names → List ℕ → Bool
is_used p n = has_any p.used (owners n)

-- No file of the package gives the name of a crate that owns macros.
abbrev pub lacks_owners : Names → Bool
lacks_owners p = not (has_any p.given (std_crates ++ (log_crates ++ error_crates)))

-- A macro of a crate is its owner's if a file of the package imports it from that, or uses all
-- macros of an owner, maybe in another target, and no glob gives the name in this file.
abbrev pub is_of_crate : Names → Names → List ℕ → Bool
is_of_crate p f n = is_free p f n && (lacks_owners p
    && ((is_used p n || has p.imported n) && hides_globs p f n))

-- A call of this name in the file f of the package p is for certain one of the macro that tables
-- mean. A name of which they know nothing was given with its rule by the user.
abbrev pub is_certain : Names → Names → List ℕ → Bool
is_certain p f n = if not (has kept_names n) then true else
    (if is_prelude n then is_std p f n else is_of_crate p f n)

-- A file gives the name of a crate of macros for logs to something else, or has a glob of defmt.
-- The macros of such a crate have format strings and arguments of their own.
abbrev pub gives_log_crate : Names → Bool
gives_log_crate f = has_any f.given (codes "defmt" ∷ log_crates)

-- A call of this name in the file f of the package p is likely one of the macro that tables mean:
-- no file of the package gives the name in another way than its owner, and for a macro of logs the
-- file gives no crate of such macros.
abbrev pub is_likely : Names → Names → List ℕ → Bool
is_likely p f n = not (has kept_names n && (has p.given n || (has f.given n
    || (is_log_name n && gives_log_crate f))))

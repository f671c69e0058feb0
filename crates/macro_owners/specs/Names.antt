-- The names that matter: macros of tables, the crates that own them, and crates that own none.
use Rattle.std.specs.Prelude.{ℕ, Bool, not, ◌&&◌, ◌||◌, List, [], ◌∷◌, codes, if◌then◌else◌}
use Rattle.std.specs.Prelude.{is_some}
use Rattle.std.specs.List.{list_any}
use Rattle.std.specs.Str.{bytes_eq}
use Rattle.format_calls.specs.Rows.{rule_of}
use Rattle.format_calls.specs.Standard.{standard, with_crate_macros}

-- A word is one of these names.
abbrev pub has : List (List ℕ) → List ℕ → Bool
has ns w = list_any (bytes_eq w) ns

-- The names that facts are kept about: macros, crates that own macros, and five marks: `$` for
-- every name, `*` for a glob of another crate, `defmt` for one of that crate, `crate` for one of
-- the own crate, and `no_std`.
abbrev pub kept_names : List (List ℕ)
kept_names =
    codes "format" ∷ codes "format_args" ∷ codes "print" ∷ codes "println" ∷ codes "eprint" ∷
    codes "eprintln" ∷ codes "write" ∷ codes "writeln" ∷ codes "panic" ∷ codes "unreachable" ∷
    codes "todo" ∷ codes "unimplemented" ∷ codes "assert" ∷ codes "debug_assert" ∷
    codes "assert_eq" ∷ codes "assert_ne" ∷ codes "debug_assert_eq" ∷ codes "debug_assert_ne" ∷
    codes "assert_matches" ∷ codes "debug_assert_matches" ∷ codes "asm" ∷ codes "global_asm" ∷
    codes "naked_asm" ∷ codes "error" ∷ codes "warn" ∷ codes "info" ∷ codes "debug" ∷
    codes "trace" ∷ codes "crit" ∷ codes "log" ∷ codes "event" ∷ codes "anyhow" ∷ codes "eyre" ∷
    codes "format_err" ∷ codes "bail" ∷ codes "ensure" ∷ codes "std" ∷ codes "core" ∷
    codes "alloc" ∷ codes "tracing" ∷ codes "slog" ∷ codes "color_eyre" ∷ codes "failure" ∷
    codes "$" ∷ codes "*" ∷ codes "crate" ∷ codes "no_std" ∷ codes "defmt" ∷ []

-- A word, if facts are kept about it.
abbrev pub kept : List ℕ → List (List ℕ)
kept w = if has kept_names w then w ∷ [] else []

-- Crates none of whose exported macros has a name of a table.
abbrev pub harmless : List (List ℕ)
harmless =
    codes "std" ∷ codes "core" ∷ codes "alloc" ∷ codes "self" ∷ codes "serde" ∷
    codes "serde_derive" ∷ codes "serde_json" ∷ codes "lazy_static" ∷ codes "bitflags" ∷
    codes "cfg_if" ∷ codes "maplit" ∷ codes "quote" ∷ codes "syn" ∷ codes "memoffset" ∷
    codes "static_assertions" ∷ codes "scopeguard" ∷ codes "smallvec" ∷ codes "quick_error" ∷
    codes "libc" ∷ codes "synstructure" ∷ codes "arrayref" ∷ codes "criterion" ∷
    codes "derive_builder" ∷ codes "doc_comment" ∷ codes "generic_array" ∷ codes "pest" ∷
    codes "pest_derive" ∷ codes "quickcheck" ∷ codes "typenum" ∷ codes "zerocopy" ∷ []

abbrev pub is_harmless : List ℕ → Bool
is_harmless w = has harmless w

-- Macros that expand their arguments where they stand and define no macro, beside those of tables.
abbrev pub hygienic : List (List ℕ)
hygienic =
    codes "vec" ∷ codes "dbg" ∷ codes "matches" ∷ []

-- A macro of this name expands its arguments where they stand and defines no macro.
abbrev pub is_hygienic : List ℕ → Bool
is_hygienic w = is_some (rule_of standard w)
    || (is_some (rule_of with_crate_macros w) || has hygienic w)

-- Macros that only the prelude of std has, not that of core.
abbrev pub std_alone : List (List ℕ)
std_alone =
    codes "format" ∷ codes "print" ∷ codes "println" ∷ codes "eprint" ∷ codes "eprintln" ∷ []

abbrev pub is_std_alone : List ℕ → Bool
is_std_alone w = has std_alone w

-- Macros of std that no prelude has.
abbrev pub unimported : List (List ℕ)
unimported =
    codes "assert_matches" ∷ codes "debug_assert_matches" ∷ codes "asm" ∷ codes "global_asm" ∷
    codes "naked_asm" ∷ []

-- A macro of this name is in the prelude of std.
abbrev pub is_prelude : List ℕ → Bool
is_prelude w = is_some (rule_of standard w) && not (has unimported w)

-- The crates that are std, or parts of it.
abbrev pub std_crates : List (List ℕ)
std_crates =
    codes "std" ∷ codes "core" ∷ codes "alloc" ∷ []

abbrev pub is_std_crate : List ℕ → Bool
is_std_crate w = has std_crates w

-- The crates that own the macros of logs.
abbrev pub log_crates : List (List ℕ)
log_crates =
    codes "log" ∷ codes "tracing" ∷ codes "slog" ∷ []

abbrev pub is_log_crate : List ℕ → Bool
is_log_crate w = has log_crates w

-- The macros of logs.
abbrev pub log_names : List (List ℕ)
log_names =
    codes "error" ∷ codes "warn" ∷ codes "info" ∷ codes "debug" ∷ codes "trace" ∷ codes "crit" ∷
    codes "log" ∷ codes "event" ∷ []

abbrev pub is_log_name : List ℕ → Bool
is_log_name w = has log_names w

-- The crates that own the macros of errors.
abbrev pub error_crates : List (List ℕ)
error_crates =
    codes "anyhow" ∷ codes "eyre" ∷ codes "color_eyre" ∷ codes "failure" ∷ []

abbrev pub is_error_crate : List ℕ → Bool
is_error_crate w = has error_crates w

-- A crate of this name owns macros of a table.
abbrev pub is_owner : List ℕ → Bool
is_owner w = is_std_crate w || (is_log_crate w || is_error_crate w)

-- The name of a macro of errors.
abbrev pub is_error_name : List ℕ → Bool
is_error_name w = is_some (rule_of with_crate_macros w) && not (is_log_name w)

-- The first crate owns the macro of the second name.
abbrev pub owns : List ℕ → List ℕ → Bool
owns r n = if is_std_crate r then is_some (rule_of standard n) else
    (if is_log_crate r then is_log_name n else (is_error_crate r && is_error_name n))

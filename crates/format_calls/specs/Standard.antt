-- The macros of the standard library that take a format string, or templates of assembly.
use Rattle.std.specs.Prelude.{ℕ, List, [], ◌∷◌, codes}
use Rattle.format_calls.specs.declared.table.Rule.{Rule}
use Rattle.format_calls.specs.declared.table.Rule.TheVariants.{Index, IndexByEdition, FirstLiteral}
use Rattle.format_calls.specs.declared.table.Rule.TheVariants.{Templates}
use Rattle.format_calls.specs.Rows.{Entry}

-- A macro with its rule.
abbrev pub macro_entry : List ℕ → Rule → Entry
macro_entry w r = record { name = w; rule = r }

abbrev pub standard : List Entry
standard =
    macro_entry (codes "format") (Index 0) ∷ macro_entry (codes "format_args") (Index 0)
    ∷ macro_entry (codes "print") (Index 0) ∷ macro_entry (codes "println") (Index 0)
    ∷ macro_entry (codes "eprint") (Index 0) ∷ macro_entry (codes "eprintln") (Index 0)
    ∷ macro_entry (codes "write") (Index 1) ∷ macro_entry (codes "writeln") (Index 1)
    ∷ macro_entry (codes "panic")
    (IndexByEdition 0)
    ∷ macro_entry (codes "unreachable") (IndexByEdition 0) ∷ macro_entry (codes "todo") (Index 0)
    ∷ macro_entry (codes "unimplemented") (Index 0)
    ∷ macro_entry (codes "assert") (IndexByEdition 1)
    ∷ macro_entry (codes "debug_assert") (IndexByEdition 1)
    ∷ macro_entry (codes "assert_eq") (Index 2)
    ∷ macro_entry (codes "assert_ne") (Index 2) ∷ macro_entry (codes "debug_assert_eq") (Index 2)
    ∷ macro_entry (codes "debug_assert_ne") (Index 2)
    ∷ macro_entry (codes "assert_matches") (Index 2)
    ∷ macro_entry (codes "debug_assert_matches") (Index 2) ∷ macro_entry (codes "asm") Templates
    ∷ macro_entry (codes "global_asm") Templates ∷ macro_entry (codes "naked_asm") Templates ∷ []

-- Macros of the crates log, tracing, slog, anyhow and eyre.
abbrev pub with_crate_macros : List Entry
with_crate_macros =
    macro_entry (codes "error") FirstLiteral ∷ macro_entry (codes "warn") FirstLiteral ∷ macro_entry
    (codes "info") FirstLiteral
    ∷ macro_entry (codes "debug") FirstLiteral ∷ macro_entry (codes "trace") FirstLiteral
    ∷ macro_entry (codes "crit") FirstLiteral ∷ macro_entry (codes "log") FirstLiteral ∷ macro_entry
    (codes "event") FirstLiteral
    ∷ macro_entry (codes "anyhow") (Index 0) ∷ macro_entry (codes "eyre") (Index 0)
    ∷ macro_entry (codes "format_err") (Index 0) ∷ macro_entry (codes "bail") (Index 0)
    ∷ macro_entry (codes "ensure") (Index 1) ∷ []

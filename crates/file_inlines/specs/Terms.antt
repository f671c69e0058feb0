-- Which calls are inlined, and what that relies on.
use Rattle.std.specs.Prelude.{ℕ, Bool, true, false, not, List, Option, Some, None}
use Rattle.std.specs.Prelude.{if◌then◌else◌, option_map}
use Rattle.inlined_arguments.specs.declared.call.Obstacle.TheVariants.{CapturesNone}
use Rattle.macro_owners.specs.declared.facts.Facts.{Facts}
use Rattle.macro_owners.specs.Facts.{Adds, AreNone}
use Rattle.macro_owners.specs.Owners.{Names, is_certain, names_of}
use Rattle.file_inlines.specs.declared.calls.CallInlining.{CallInlining}
use Rattle.file_inlines.specs.declared.calls.CallInlining.TheVariants.{Inlined, Unchanged, Unread}
use Rattle.file_inlines.specs.declared.calls.CallInlining.TheVariants.{Assembly, Uncertain}
use Rattle.file_inlines.specs.declared.terms.Premises.{Premises as DeclaredPremises}
use Rattle.file_inlines.specs.declared.terms.Terms.{Terms as DeclaredTerms}

-- Whether the compiler captures variables in format strings; and the names that the files of a
-- package give, and those of the file.
pub record Premises : Type 0 where
  pub captures_variables : Bool
  pub package_names : Names
  pub file_names : Names

-- Whether calls with other arguments too are inlined; and what is known, or None where the compiler
-- is taken to capture variables, and each macro to be that of its row.
pub record Terms : Type 0 where
  pub allows_mixed : Bool
  pub premises : Option Premises

-- Those where each macro is taken to be that of its row.
abbrev pub plain_terms : Bool → Terms
plain_terms mixed = record { allows_mixed = mixed; premises = None }

-- Those of a package with the facts p for a file with the facts f, where the compiler captures
-- variables or not.
abbrev pub package_terms : Bool → Bool → Facts → Facts → Terms
package_terms mixed captures p f = record {
  allows_mixed = mixed;
  premises = Some (record {
    captures_variables = captures;
    package_names = names_of p;
    file_names = names_of f;
  });
}

-- Why a call of a macro with the name w is left that could be inlined, if it is.
abbrev pub premise_reason : Option Premises → List ℕ → Option CallInlining
premise_reason None w = None
premise_reason (Some p) w = if not p.captures_variables then Some (Unchanged CapturesNone)
    else (if is_certain p.package_names p.file_names w then None else Some Uncertain)

abbrev pub left_reason : Terms → List ℕ → Option CallInlining
left_reason t w = premise_reason t.premises w

abbrev pub is_inlined : CallInlining → Bool
is_inlined Inlined = true
is_inlined (Unchanged l) = false
is_inlined (Unread q) = false
is_inlined Assembly = false
is_inlined Uncertain = false

-- These are the facts of a file with the bytes bs.
abbrev pub AreFactsOf : List ℕ → Facts → Type 0
AreFactsOf bs f = (none : Facts) × AreNone none × Adds bs none f

-- As a contract sees them.
abbrev pub seen_premises : DeclaredPremises → Premises
seen_premises p = record {
  captures_variables = p.captures_variables;
  package_names = names_of p.package_facts.now;
  file_names = names_of p.file_facts.now;
}

abbrev pub seen_terms : DeclaredTerms → Terms
seen_terms t = record {
  allows_mixed = t.allows_mixed;
  premises = option_map seen_premises t.premises;
}

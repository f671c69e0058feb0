-- The values of this crate as a contract sees them.
use Rattle.std.specs.Prelude.{◌≡◌, ℕ, Bool, List, None, Option, Some, chars, false, option_map}
use Rattle.std.specs.BTreeSet.{BTreeSet}
use Rattle.std.specs.List.{list_any}
use Rattle.std.specs.Str.{bytes_eq}
use denote.Ref.{Bor}
use Rattle.rustc_parse_format.specs.Characters.{Text}
use Rattle.rustc_parse_format.specs.FaultViews.{seen_fault as seen_text_fault}
use Rattle.rustc_parse_format.specs.State.{State, first_state}
use Rattle.rustc_parse_format.specs.Types.{Diagnostic}
use Rattle.placeholder_check.specs.Collection.{has_text}
use Rattle.placeholder_check.specs.Views.{text}
use Rattle.message_faults.specs.declared.checker.Message.{Message}
use Rattle.message_faults.specs.declared.faults.MessageFault.{MessageFault as DeclaredFault}
use Rattle.message_faults.specs.declared.faults.MessageFault.TheVariants.{Text as TextIn}
use Rattle.message_faults.specs.declared.faults.MessageFault.TheVariants.{Specifier as SpecifierIn}
use Rattle.message_faults.specs.declared.faults.MessageFault.TheVariants.{Positional as PositionalIn}
use Rattle.message_faults.specs.declared.faults.MessageFault.TheVariants.{MissingParameter as MissingIn}
use Rattle.message_faults.specs.Messages.{MessageFault, TextFault, Specifier, Positional}
use Rattle.message_faults.specs.Messages.{MissingParameter, is_self_or}

-- A parser at the start of a text.
abbrev pub start : Message → State
start m = first_state Diagnostic (text m.text) None (option_map text m.snippet) false

-- The names that mean something before a trait with these parameters, if they are given.
abbrev pub known_names : Option (Bor (BTreeSet (Bor (List ℕ)))) → Option (Text → Bool)
known_names s = option_map (λ x. is_self_or (has_text x.now)) s

-- The set has these names, and no others.
abbrev pub HasNames : List (List ℕ) → BTreeSet (Bor (List ℕ)) → Type 0
HasNames ps s = (w : Text) → has_text s w ≡ list_any (λ p. bytes_eq w (chars p)) ps

-- The set, if there is one, has the names of these parameters.
abbrev pub HasParameters : Option (List (List ℕ)) → Option (Bor (BTreeSet (Bor (List ℕ)))) → Type 0
HasParameters None None = Unit {0}
HasParameters None (Some s) = ⊥
HasParameters (Some ps) None = ⊥
HasParameters (Some ps) (Some s) = HasNames ps s.now

-- A fault as a contract sees it.
abbrev pub seen_fault : DeclaredFault → MessageFault
seen_fault (TextIn f) = TextFault (seen_text_fault f)
seen_fault (SpecifierIn s) = Specifier s
seen_fault (PositionalIn s) = Positional s
seen_fault (MissingIn s w) = MissingParameter s (text w)

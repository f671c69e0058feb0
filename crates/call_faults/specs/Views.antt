-- The values of this crate as a contract sees them: texts as their characters, ranges as places.
use Rattle.std.specs.Prelude.{◌≡◌, ℕ, Bool, List, Option, length, map, option_map}
use Rattle.std.specs.Prelude.{chars, is_some, string_bytes}
use Rattle.std.specs.BTreeMap.{BTreeMap, get_by}
use Rattle.std.specs.Cmp.Lexicographic.{slice_cmp}
use Rattle.std.specs.List.{list_any}
use Rattle.std.specs.Ordering.{nat_cmp}
use Rattle.std.specs.Str.{bytes_eq, encode_utf8_all}
use denote.Ref.{Bor}
use Rattle.rustc_parse_format.specs.Characters.{Text}
use Rattle.rustc_parse_format.specs.FaultViews.{seen_fault as seen_text_fault}
use Rattle.rustc_parse_format.specs.Views.{seen_piece}
use Rattle.rustc_parse_format.specs.State.{State, first_state}
use Rattle.rustc_parse_format.specs.World.{Place}
use Rattle.rustc_parse_format.specs.Types.{Format}
use Rattle.placeholder_check.specs.Views.{text}
use Rattle.placeholder_check.specs.Uses.{Use, ByIndex, ByName}
use Rattle.call_faults.specs.declared.faults.CallFault.{CallFault as DeclaredFault}
use Rattle.call_faults.specs.declared.faults.CallFault.TheVariants.{PositionalAfterNamed as LateIn}
use Rattle.call_faults.specs.declared.faults.CallFault.TheVariants.{RepeatedName as RepeatedIn}
use Rattle.call_faults.specs.declared.faults.CallFault.TheVariants.{Text as TextIn}
use Rattle.call_faults.specs.declared.faults.CallFault.TheVariants.{MissingName as MissingIn}
use Rattle.call_faults.specs.declared.faults.CallFault.TheVariants.{UnknownTrait as UnknownIn}
use Rattle.call_faults.specs.declared.faults.CallFault.TheVariants.{MissingArguments as TooFewIn}
use Rattle.call_faults.specs.declared.faults.CallFault.TheVariants.{UnusedArguments as UnusedIn}
use Rattle.call_faults.specs.declared.faults.CallFault.TheVariants.{RedundantArguments as TwinsIn}
use Rattle.call_faults.specs.declared.faults.CallFault.TheVariants.{NameUsedByIndex as ByIndexIn}
use Rattle.call_faults.specs.declared.checker.CallReport.{CallReport}
use Rattle.call_faults.specs.declared.checker.FormatString.{FormatString}
use Rattle.call_faults.specs.declared.arguments.FormatArgument.{FormatArgument as DeclaredArgument}
use Rattle.call_faults.specs.declared.arguments.Entry.{Entry as DeclaredEntry}
use Rattle.call_faults.specs.declared.arguments.Arguments.{Arguments}
use Rattle.call_faults.specs.declared.spots.CallEdit.{CallEdit}
use Rattle.call_faults.specs.declared.spots.CallHelp.{CallHelp}
use Rattle.text_faults.specs.declared.spots.CallLabel.{CallLabel}
use Rattle.call_faults.specs.declared.spots.CallNote.{CallNote}
use Rattle.call_faults.specs.declared.lookups.Lookup.{Lookup as DeclaredLookup}
use Rattle.call_faults.specs.declared.lookups.Lookup.TheVariants.{Refer as ReferIn}
use Rattle.call_faults.specs.declared.lookups.Lookup.TheVariants.{NoTrait as NoTraitIn}
use Rattle.call_faults.specs.declared.lookups.ArgRef.{ArgRef}
use Rattle.call_faults.specs.declared.lookups.ArgRef.TheVariants.{Index, Name}
use Rattle.call_faults.specs.Arguments.{FormatArgument, Entry, index_of}
use Rattle.call_faults.specs.CallFaults.{CallFault, PositionalAfterNamed, RepeatedName, TextFault}
use Rattle.call_faults.specs.CallFaults.{MissingName, UnknownTrait, MissingArguments}
use Rattle.call_faults.specs.CallFaults.{UnusedArguments, RedundantArguments, NameUsedByIndex}
use Rattle.call_faults.specs.Lookups.{Lookup, Refer, NoTrait}
use Rattle.call_faults.specs.Labels.{Call}
use Rattle.call_faults.specs.Spots.{Edit, Help, Note}
use Rattle.text_faults.specs.Spots.{Label}
use Rattle.call_faults.specs.Words.{TitleParts}

-- An argument as a contract sees it.
abbrev pub seen_given : DeclaredArgument → FormatArgument
seen_given g = record { name = option_map text g.name; variable = option_map text g.variable }

-- An argument that counts, as a contract sees it.
abbrev pub seen_entry : DeclaredEntry → Entry
seen_entry k = record { index = k.index; argument = seen_given k.argument }

-- A fault as a contract sees it.
abbrev pub seen_fault : DeclaredFault → CallFault
seen_fault (LateIn i ns) = PositionalAfterNamed i ns.items
seen_fault (RepeatedIn i f) = RepeatedName i f
seen_fault (TextIn f) = TextFault (seen_text_fault f)
seen_fault (MissingIn r w) = MissingName r (text w)
seen_fault (UnknownIn k t) = UnknownTrait k (text t)
seen_fault (TooFewIn rs) = MissingArguments rs.items
seen_fault (UnusedIn is) = UnusedArguments is.items
seen_fault (TwinsIn is) = RedundantArguments is.items
seen_fault (ByIndexIn r i) = NameUsedByIndex r i

-- A parser at the start of a format string.
abbrev pub start : FormatString → State
start s = first_state Format (text s.text) s.style (option_map text s.snippet) s.appended_newline

-- The argument that a reference wants, as a contract sees it.
abbrev pub seen_use : ArgRef → Use
seen_use (Index n) = ByIndex n
seen_use (Name w) = ByName (text w)

-- A lookup as a contract sees it.
abbrev pub seen_lookup : DeclaredLookup → Lookup
seen_lookup (ReferIn r u) = Refer r (seen_use u)
seen_lookup (NoTraitIn k t) = NoTrait k (text t)

-- The index that a map has for a name.
abbrev pub found_in : BTreeMap (Bor (List ℕ)) ℕ → Text → Option ℕ
found_in m w = get_by (λ k. slice_cmp nat_cmp (encode_utf8_all w) k.now) m

-- The map has exactly these names.
pub record KnowsNames (known : List Text) (m : BTreeMap (Bor (List ℕ)) ℕ) : Type 0 where
  pub same : (w : Text) → is_some (found_in m w) ≡ list_any (bytes_eq w) known

-- The collection has these arguments.
pub record Holds (ks : List Entry) (a : Arguments) : Type 0 where
  pub list : map seen_entry a.list.items ≡ ks
  pub names : (w : Text) → found_in a.indices w ≡ index_of ks w
  pub has_names : a.has_names ≡ list_any (λ k. is_some k.argument.name) ks

-- A call as its titles need it, with the numbers that are too large.
abbrev pub title_parts : CallReport → List ℕ → TitleParts Place
title_parts c numbers = record {
  arguments = map seen_given c.arguments.now;
  count = length c.indices.items;
  pieces = map seen_piece c.pieces.items;
  total = c.parser.next;
  numbers = numbers;
}

-- A note as a contract sees it.
abbrev pub seen_note : CallNote → Note
seen_note n = record { text = string_bytes n.text; spots = n.spots.items }

-- An edit as a contract sees it.
abbrev pub seen_edit : CallEdit → Edit
seen_edit e = record {
  spot = e.spot;
  text = string_bytes e.text;
  copied = e.copied_spot;
  rest = e.rest.now;
}

-- A help as a contract sees it.
abbrev pub seen_help : CallHelp → Help
seen_help h = record { text = string_bytes h.text; edits = map seen_edit h.edits.items }

-- A call that was checked, as the messages of its faults need it.
abbrev pub seen_call : CallReport → Call
seen_call c = record {
  arguments = map seen_given c.arguments.now;
  kept = c.indices.items;
  pieces = map seen_piece c.pieces.items;
  counts = c.counts.items;
  places = c.parser.arg_places;
  total = c.parser.next;
  faults = map seen_fault c.faults.items;
}

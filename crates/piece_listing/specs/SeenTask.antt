-- A task and the arguments that are given, as a contract sees them.
use Rattle.std.specs.Prelude.{ℕ, List, [], map, chars, Option, Some, None, option_map}
use denote.Ref.{Bor}
use Rattle.piece_listing.specs.declared.arguments.GivenArguments.{GivenArguments as ArgumentsValue}
use Rattle.piece_listing.specs.declared.task.Task.{Task as DeclaredTask}
use Rattle.rustc_parse_format.specs.Characters.{Text}
use Rattle.rustc_parse_format.specs.Views.{seen_mode}
use Rattle.piece_listing.specs.GivenArguments.{GivenArguments, parts}
use Rattle.piece_listing.specs.Program.{Task}

-- The names of a list, by the text after its first comma.
abbrev pub seen_names : Option (Bor (List ℕ)) → List Text
seen_names None = []
seen_names (Some w) = map chars (parts w.now)

-- The arguments that are given, as a contract sees them.
abbrev pub seen_given : ArgumentsValue → GivenArguments
seen_given g = record { positional = g.positional; names = seen_names g.names }

-- A task as a contract sees it.
abbrev pub seen_task : DeclaredTask → Task
seen_task t = record {
  mode = seen_mode t.mode;
  is_literal = t.is_literal;
  given = option_map seen_given t.arguments;
}

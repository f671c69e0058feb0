-- The iterator over the pieces of a parser, and the calls that it makes, as a caller sees them.
use Rattle.std.specs.Prelude.{◌≡◌, ℕ, suc, Bool, true, false, not, if◌then◌else◌, length}
use Rattle.std.specs.Prelude.{Option, Some, None, option_map, Result, Ok, Err}
use Rattle.std.specs.declared.alloc.AllocError.{AllocError}
use Rattle.std.specs.Borrow.{GName}
use Rattle.rustc_parse_format.specs.declared.pieces.Pieces.{Pieces}
use Rattle.rustc_parse_format.specs.declared.types.Piece.{Piece as DeclaredPiece}
use Rattle.rustc_parse_format.specs.Views.{seen_piece}
use Rattle.rustc_parse_format.specs.State.{State, IsPutBack, NeedsNoMemory, state_after, next_call}
use Rattle.rustc_parse_format.specs.Steps.{AreFew}
use Rattle.rustc_parse_format.specs.World.{piece_in}

-- The state of the parser under the iterator.
abbrev pub parser_of : Pieces → State
parser_of it = it.parser.now

-- The logical name of the borrow by which the iterator holds the parser.
abbrev pub lender_of : Pieces → GName
lender_of it = it.parser.ghost_name

-- The iterator has returned its last item.
abbrev pub has_ended : Pieces → Bool
has_ended it = it.has_ended

-- The next call of a parser in the state s leaves it in the state t, and the iterator returns this
-- item. The item is the piece, or None if the call returns no piece, or Err if an allocation fails.
-- After Err the parser is unchanged. A call that needs no allocation never returns Err.
abbrev pub IsCall : State → Option (Result DeclaredPiece AllocError) → State → Type 0
IsCall s (Some (Ok p)) t = (Some (seen_piece p) ≡ option_map (piece_in s.world) (next_call s).piece)
    × (t ≡ state_after s (next_call s))
IsCall s (Some (Err e)) t = (NeedsNoMemory s (next_call s) → ⊥) × IsPutBack s t
IsCall s None t = ((next_call s).piece ≡ None) × (t ≡ state_after s (next_call s))

-- The item is a piece. Only after a piece may another item come.
abbrev pub is_piece : Option (Result DeclaredPiece AllocError) → Bool
is_piece (Some (Ok p)) = true
is_piece (Some (Err e)) = false
is_piece None = false

-- One step of the iterator turns `old` into `new` and returns this item. It makes the next call of
-- the parser, and the steps that the cursor has taken then are few. An iterator that has ended
-- returns None and changes nothing.
pub record GivesItem (old : Pieces) (item : Option (Result DeclaredPiece AllocError))
    (new : Pieces) : Type 0 where
  pub called : has_ended old ≡ false → IsCall (parser_of old) item (parser_of new)
  pub few : has_ended old ≡ false
      → AreFew (parser_of new).input (parser_of new).rest (parser_of new).rewinds
  pub ended : has_ended old ≡ true → (item ≡ None) × (parser_of new ≡ parser_of old)
  pub goes_on : has_ended new ≡ not (is_piece item)
  pub same_parser : lender_of new ≡ lender_of old

-- An upper bound of the items that are left: one for each character, and one more.
abbrev pub items_left : Pieces → ℕ
items_left it = if has_ended it then 0 else suc (length (parser_of it).rest)

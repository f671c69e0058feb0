-- Worked examples of the definitions, each computed. Places are byte ranges, and the input comes
-- after a quote.
use Rattle.std.proofs.Common.{◌≡◌, ℕ, List, [], ◌∷◌, refl, Some, None, codes, true, false}
use Rattle.unicode_ident.proofs.Computing.{unicode_ident}
use Rattle.rustc_parse_format.specs.Characters.{Text, word, after_word, digits, after_digits}
use Rattle.rustc_parse_format.specs.Characters.{after_white}
use Rattle.rustc_parse_format.specs.Types.{Format, Position, Implicit, Index, Named, Piece, Lit}
use Rattle.rustc_parse_format.specs.Types.{NextArgument, default_spec}
use Rattle.rustc_parse_format.specs.Specification.{format_text}
use Rattle.rustc_parse_format.specs.Placeholder.{cut}
use Rattle.rustc_parse_format.specs.Values.{number_after_field}
use Rattle.rustc_parse_format.specs.Meaning.{format_of, argument}
use Rattle.rustc_parse_format.specs.Escaping.{written_character}
use Rattle.rustc_parse_format.specs.Faults.{Fault, message}
use Rattle.rustc_parse_format.specs.PartFaults.{argument_faults, format_faults, cut_faults}
use Rattle.rustc_parse_format.specs.Tries.{format_tries}
use Rattle.rustc_parse_format.specs.Identifiers.{is_default}
use Rattle.rustc_parse_format.specs.Recovery.{recovery, late_debug, field}
use Rattle.rustc_parse_format.specs.Call.{call, placeholder, walk, pieces_of, faults_of}
use Rattle.rustc_parse_format.specs.World.{World, Place, world, place_at, pieces_in, faults_in}
use Rattle.rustc_parse_format.specs.State.{State, fresh_state, calls, after_all}

-- each definition that the rows compute
unfoldable pub computing : Unit {0}
unfolding unicode_ident word after_word digits after_digits after_white cut argument
    number_after_field argument_faults cut_faults call placeholder walk
    recovery late_debug field is_default
    written_character message format_text format_of format_faults format_tries world place_at
    lib.Utf8.encode
computing = tt

-- an input with no snippet
abbrev pub after_quote : Text → World
after_quote t = world t None None false

-- the pieces that a walk over the input gives, and the faults that it finds
abbrev pub pieces : Text → List (Piece Place)
pieces t = pieces_in (after_quote t) (pieces_of (walk Format 0 t))

abbrev pub faults : Text → List (Fault Place)
faults t = faults_in (after_quote t) (faults_of (walk Format 0 t))

-- a parser before its first call, and after all
abbrev pub start : Text → State
start t = fresh_state Format (after_quote t) t 1

abbrev pub ended : Text → State
ended t = after_all (start t) (calls (start t))

-- a placeholder with nothing but its position
abbrev pub bare_at : Position → ℕ → ℕ → Piece Place
bare_at p from to =
    NextArgument (record { position = p; position_span = (from, to); format = default_spec })

empty-gives_nothing : pieces [] ≡ []
unfolding computing
empty-gives_nothing = refl

empty-has_no_error : (ended []).errors ≡ []
unfolding computing
empty-has_no_error = refl

empty_with_appended_newline-gives_nothing : pieces_in (world [] None None true)
    (pieces_of (walk Format 0 [])) ≡ []
unfolding computing
empty_with_appended_newline-gives_nothing = refl

doubled_braces-are_text : pieces (codes "{{a}}b{{{}") ≡ Lit (codes "{a") ∷ Lit (codes "}b")
    ∷ Lit (codes "{") ∷ bare_at (Implicit 0) 10 10 ∷ []
unfolding computing
doubled_braces-are_text = refl

doubled_braces-are_no_fault : faults (codes "{{a}}b{{{}") ≡ []
unfolding computing
doubled_braces-are_no_fault = refl

doubled_braces-begin_a_text : pieces (codes "a}}b{{") ≡ Lit (codes "a") ∷ Lit (codes "}b")
    ∷ Lit (codes "{") ∷ []
unfolding computing
doubled_braces-begin_a_text = refl

largest_number-and_one_more : pieces (codes "{65535}{65536}")
    ≡ bare_at (Index 65535) 2 7 ∷ bare_at (Index 0) 9 14 ∷ []
unfolding computing
largest_number-and_one_more = refl

white_space-belongs_to_the_position : pieces (codes "{ }{  }{a\t}")
    ≡ bare_at (Implicit 0) 2 3 ∷ bare_at (Implicit 1) 5 7 ∷ bare_at
    (Named (codes "a")) 9 11 ∷ []
unfolding computing
white_space-belongs_to_the_position = refl

only_implicit_positions-take_a_number : pieces (codes "{}{7}{a}{}")
    ≡ bare_at (Implicit 0) 2 2 ∷ bare_at (Index 7) 4 5 ∷ bare_at
    (Named (codes "a")) 7 8 ∷ bare_at (Implicit 1) 10 10 ∷ []
unfolding computing
only_implicit_positions-take_a_number = refl

wide_characters-have_their_bytes : (after_quote (97 ∷ 8364 ∷ 128512 ∷ [])).places
    ≡ (1, 2) ∷ (2, 5) ∷ (5, 9) ∷ []
unfolding computing
wide_characters-have_their_bytes = refl

raw_style-moves_the_places : (world (codes "a") (Some 2) None false).places ≡ (4, 5) ∷ []
unfolding computing
raw_style-moves_the_places = refl

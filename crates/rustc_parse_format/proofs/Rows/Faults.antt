-- Worked examples of faulty inputs, each computed: which pieces are returned, which faults are
-- found and where, and what their messages say.
use Rattle.std.proofs.Common.{◌≡◌, ◌++◌, [], ◌∷◌, map, refl, ap, false, arith, Some, None, codes}
use Rattle.std.proofs.lemmas.Fmt.{hex_two_digits}
use Rattle.std.specs.Prelude.{option_map}
use Rattle.rustc_parse_format.specs.Types.{Implicit, Index, Named, Lit, NextArgument, default_spec}
use Rattle.rustc_parse_format.specs.Faults.{UnmatchedBrace, MissingBrace, Underscore, TooLarge}
use Rattle.rustc_parse_format.specs.Faults.{RawIdentifier, LateFlag, message, Nothing}
use Rattle.rustc_parse_format.specs.Faults.{RemoveRawIdent}
use Rattle.rustc_parse_format.specs.Faults.{ReorderFormatParameter}
use Rattle.rustc_parse_format.specs.World.{Place, piece_in}
use Rattle.rustc_parse_format.specs.State.{next_call, state_after}
use Rattle.rustc_parse_format.proofs.Rows.Definitions.{computing, after_quote, pieces, faults}
use Rattle.rustc_parse_format.proofs.Rows.Definitions.{start, ended, bare_at}

too_large-takes_in_the_brace : faults (codes "{65535}{65536}")
    ≡ TooLarge (codes "65536") (9, 15) ∷ []
unfolding computing
too_large-takes_in_the_brace = refl

too_large-quotes_its_digits :
    (ended (codes "{65536}")).errors ≡ record {
      description =
          codes "integer `65536` does not fit into the type `u16` whose range is `0..=65535`";
      note = None;
      label = codes "integer out of range for `u16`";
      span = (2, 8);
      second = None;
      suggestion = Nothing;
    } ∷ []
unfolding computing
too_large-quotes_its_digits = refl

-- a closing brace that closes nothing is no piece
unmatched_brace-first_call : (next_call (start (codes "}a"))).piece ≡ None
unfolding computing
unmatched_brace-first_call = refl

-- and the next call goes on after it
unmatched_brace-second_call : let s = start (codes "}a") in
    (next_call (state_after s (next_call s))).piece ≡ Some (Lit (codes "a"))
unfolding computing
unmatched_brace-second_call = refl

unmatched_brace-is_listed :
    (ended (codes "}a")).errors ≡ record {
      description = codes "unmatched `}` found";
      note = Some (codes "if you intended to print `}`, you can escape it using `}}`");
      label = codes "unmatched `}`";
      span = (1, 2);
      second = None;
      suggestion = Nothing;
    } ∷ []
unfolding computing
unmatched_brace-is_listed = refl

unmatched_brace-ends_the_walk : pieces (codes "a}b") ≡ Lit (codes "a") ∷ []
unfolding computing
unmatched_brace-ends_the_walk = refl

unmatched_brace-leaves_the_rest : (ended (codes "a}b")).rest ≡ codes "b"
unfolding computing
unmatched_brace-leaves_the_rest = refl

unclosed_at_the_end-is_a_piece : pieces (codes "{") ≡ bare_at (Implicit 0) 1 1 ∷ []
unfolding computing
unclosed_at_the_end-is_a_piece = refl

unclosed_at_the_end-is_listed :
    (ended (codes "{")).errors ≡ record {
      description = codes "expected `}` but string was terminated";
      note = Some (codes "if you intended to print `{`, you can escape it using `{{`");
      label = codes "expected `}`";
      span = (1, 1);
      second = Some (codes "because of this opening brace", (1, 2));
      suggestion = Nothing;
    } ∷ []
unfolding computing
unclosed_at_the_end-is_listed = refl

missing_brace-takes_nothing : pieces (codes "{x=5}") ≡ bare_at (Named (codes "x")) 2 3
    ∷ Lit (codes "=5") ∷ []
unfolding computing
missing_brace-takes_nothing = refl

missing_brace-then_an_unmatched_one : faults (codes "{x=5}")
    ≡ MissingBrace (Some 61) (3, 3) (1, 2) ∷ UnmatchedBrace (5, 6) ∷ []
unfolding computing
missing_brace-then_an_unmatched_one = refl

-- a number ends where a word begins
number_then_letter-is_no_word : pieces (codes "{3a}") ≡ bare_at (Index 3) 2 3 ∷ Lit (codes "a") ∷ []
unfolding computing
number_then_letter-is_no_word = refl

number_then_letter-misses_the_brace : faults (codes "{3a}")
    ≡ MissingBrace (Some 97) (3, 3) (1, 2) ∷ UnmatchedBrace (4, 5) ∷ []
unfolding computing
number_then_letter-misses_the_brace = refl

-- U+20AC takes three bytes
wide_character-is_counted_in_bytes : faults (codes "{a" ++ 8364 ∷ codes "}")
    ≡ MissingBrace (Some 8364) (3, 3) (1, 2) ∷ UnmatchedBrace (6, 7) ∷ []
unfolding computing
wide_character-is_counted_in_bytes = refl

wide_character-is_a_piece : pieces (codes "{a" ++ 8364 ∷ codes "}")
    ≡ bare_at (Named (codes "a")) 2 3 ∷ Lit (8364 ∷ []) ∷ []
unfolding computing
wide_character-is_a_piece = refl

wide_character-is_written_as_itself :
    (message {A = Place} (MissingBrace (Some 8364) (3, 3) (1, 2))).description
    ≡ codes "expected `}`, found `" ++ 226 ∷ 130 ∷ 172 ∷ codes "`"
unfolding computing
wide_character-is_written_as_itself = refl

control_character-is_escaped :
    (message {A = Place} (MissingBrace (Some 27) (3, 3) (1, 2))).description
    ≡ codes "expected `}`, found `\\u{1b}`"
unfolding computing
control_character-is_escaped =
    ap (λ h. codes "expected `}`, found `" ++ (codes "\\u{" ++ h ++ codes "}") ++ codes "`")
    (hex_two_digits false 27 (omega arith) (omega arith))

control_character-has_one_place : faults (codes "{a" ++ 1 ∷ codes "}")
    ≡ MissingBrace (Some 1) (3, 3) (1, 2) ∷ UnmatchedBrace (4, 5) ∷ []
unfolding computing
control_character-has_one_place = refl

underscore-is_a_position : pieces (codes "{_}") ≡ bare_at (Named (codes "_")) 2 3 ∷ []
unfolding computing
underscore-is_a_position = refl

underscore-is_listed :
    (ended (codes "{_}")).errors ≡ record {
      description = codes "invalid argument name `_`";
      note = Some (codes "argument name cannot be a single underscore");
      label = codes "invalid argument name";
      span = (2, 3);
      second = None;
      suggestion = Nothing;
    } ∷ []
unfolding computing
underscore-is_listed = refl

-- the name of a raw identifier is its word, and the identifier is a fault
raw_identifier-is_named_by_its_word : pieces (codes "{r#foo}")
    ≡ bare_at (Named (codes "foo")) 2 7 ∷ []
unfolding computing
raw_identifier-is_named_by_its_word = refl

raw_identifier-is_listed :
    (ended (codes "{r#foo}")).errors ≡ record {
      description = codes "raw identifiers are not supported";
      note = Some
          (codes "identifiers in format strings can be keywords and don't need to be prefixed with `r#`");
      label = codes "raw identifier used here";
      span = (2, 7);
      second = None;
      suggestion = RemoveRawIdent (2, 4);
    } ∷ []
unfolding computing
raw_identifier-is_listed = refl

raw_underscore-is_reported_twice : faults (codes "{r#_}") ≡ Underscore (4, 5)
    ∷ RawIdentifier (2, 5) (2, 4) ∷ []
unfolding computing
raw_underscore-is_reported_twice = refl

-- its error goes to the front
raw_identifiers-come_first : map (λ m. m.span) (ended (codes "{_}{r#a}{r#_}")).errors
    ≡ (10, 13) ∷ (5, 8) ∷ (2, 3) ∷ (12, 13) ∷ []
unfolding computing
raw_identifiers-come_first = refl

-- It begins with `r#` and what may begin a word, and stands at a position.
prefix_alone-is_a_word : pieces (codes "{r#}") ≡ bare_at (Named (codes "r")) 2 3 ∷ Lit (codes "#")
    ∷ []
unfolding computing
prefix_alone-is_a_word = refl

prefix_alone-misses_the_brace : faults (codes "{r#}") ≡ MissingBrace (Some 35) (3, 3) (1, 2)
    ∷ UnmatchedBrace (4, 5) ∷ []
unfolding computing
prefix_alone-misses_the_brace = refl

prefix_of_a_number-is_a_word : pieces (codes "{r#1}") ≡ bare_at (Named (codes "r")) 2 3
    ∷ Lit (codes "#1") ∷ []
unfolding computing
prefix_of_a_number-is_a_word = refl

letter_alone-is_a_word : pieces (codes "{r}{rr#a}") ≡ bare_at (Named (codes "r")) 2 3
    ∷ bare_at (Named (codes "rr")) 5 7 ∷ Lit (codes "#a") ∷ []
unfolding computing
letter_alone-is_a_word = refl

letter_alone-is_no_fault : faults (codes "{r}") ≡ []
unfolding computing
letter_alone-is_no_fault = refl

-- a raw identifier that does not stand at the position is none
raw_identifier-stands_at_the_position :
    let t = codes "{foo.r#bar}" in
    option_map (piece_in (after_quote t)) (next_call (start t)).piece
    ≡ Some (bare_at (Named (codes "foo")) 2 5)
unfolding computing
raw_identifier-stands_at_the_position = refl

raw_identifier-is_no_count : faults (codes "{:r#a$}") ≡ MissingBrace (Some 35) (4, 4) (1, 2)
    ∷ UnmatchedBrace (7, 8) ∷ []
unfolding computing
raw_identifier-is_no_count = refl

-- a flag after the type `?` is a fault, and is left
late_flag-is_left :
    pieces (codes "{foo:?#}") ≡ NextArgument (record {
      position = Named (codes "foo");
      position_span = (2, 5);
      format = record default_spec { ty = codes "?" };
    }) ∷ Lit (codes "#") ∷ []
unfolding computing
late_flag-is_left = refl

late_flag-is_found : faults (codes "{foo:?#}") ≡ LateFlag 35 (7, 8) (6, 8)
    ∷ MissingBrace (Some 35) (7, 7) (1, 2) ∷ UnmatchedBrace (8, 9) ∷ []
unfolding computing
late_flag-is_found = refl

late_flag-is_listed :
    message {A = Place} (LateFlag 35 (7, 8) (6, 8)) ≡ record {
      description = codes "expected `}`, found `#`";
      note = None;
      label = codes "expected `'}'`";
      span = (7, 8);
      second = None;
      suggestion = ReorderFormatParameter (6, 8) (codes "#?");
    }
unfolding computing
late_flag-is_listed = refl

-- its error goes to the front
late_flag-comes_first : map (λ m. m.span) (ended (codes "{foo:?#}")).errors
    ≡ (7, 8) ∷ (7, 7) ∷ (8, 9) ∷ []
unfolding computing
late_flag-comes_first = refl

late_flags-come_first : map (λ m. m.span) (ended (codes "{:?#{:?X")).errors
    ≡ (8, 9) ∷ (4, 5) ∷ (4, 4) ∷ (8, 8) ∷ []
unfolding computing
late_flags-come_first = refl

-- the faults of a placeholder are found from its front on
faults-are_found_in_order :
    faults (codes "{r#_:_$?x}") ≡ Underscore (4, 5) ∷ RawIdentifier (2, 5) (2, 4)
    ∷ Underscore (6, 7) ∷ LateFlag 120 (9, 10) (8, 10)
    ∷ MissingBrace (Some 120) (9, 9) (1, 2) ∷ UnmatchedBrace (10, 11) ∷ []
unfolding computing
faults-are_found_in_order = refl

-- A flag stands right after the type `?` but not after `x?`.
no_flag-is_no_fault : faults (codes "{:?}") ≡ []
unfolding computing
no_flag-is_no_fault = refl

flag_after_a_case-is_no_late_flag : faults (codes "{:x?#}")
    ≡ MissingBrace (Some 35) (5, 5) (1, 2) ∷ UnmatchedBrace (6, 7) ∷ []
unfolding computing
flag_after_a_case-is_no_late_flag = refl

flag_after_white_space-is_no_late_flag : faults (codes "{:? #}")
    ≡ MissingBrace (Some 35) (5, 5) (1, 2) ∷ UnmatchedBrace (6, 7) ∷ []
unfolding computing
flag_after_white_space-is_no_late_flag = refl

second_question_mark-is_no_flag : faults (codes "{:??#}") ≡ MissingBrace (Some 63) (4, 4) (1, 2)
    ∷ UnmatchedBrace (6, 7) ∷ []
unfolding computing
second_question_mark-is_no_flag = refl

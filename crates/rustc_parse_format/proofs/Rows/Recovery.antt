-- Worked examples of recovery, each computed: which pieces are returned, which faults are found,
-- where and in which order, and what their messages say.
use Rattle.std.proofs.Common.{◌≡◌, [], ◌∷◌, map, refl, Some, None, codes}
use Rattle.rustc_parse_format.specs.Types.{Implicit, Index, Named, Lit, NextArgument, default_spec}
use Rattle.rustc_parse_format.specs.Faults.{UnmatchedBrace, MissingBrace, Underscore, TooLarge}
use Rattle.rustc_parse_format.specs.Faults.{RawIdentifier, MissingColon, LateDebug, LateAlign}
use Rattle.rustc_parse_format.specs.Faults.{Grouping, DebugPrint, LateSign, FieldAccess, TupleIndex}
use Rattle.rustc_parse_format.specs.Faults.{message, Nothing, UsePositional, AddMissingColon}
use Rattle.rustc_parse_format.specs.Faults.{UseRustDebugPrintingMacro}
use Rattle.rustc_parse_format.specs.World.{Place}
use Rattle.rustc_parse_format.proofs.Rows.Definitions.{computing, pieces, faults, ended, bare_at}

-- The field of a name is taken with its brace, and its error comes first.
field_of_a_name-is_taken : pieces (codes "{foo.bar}") ≡ bare_at (Named (codes "foo")) 2 5 ∷ []
unfolding computing
field_of_a_name-is_taken = refl

field_of_a_name-is_listed : faults (codes "{foo.bar}") ≡ MissingBrace (Some 46) (5, 5) (1, 2)
    ∷ FieldAccess (2, 9) ∷ []
unfolding computing
field_of_a_name-is_listed = refl

field_of_a_name-has_two_errors :
    (ended (codes "{foo.bar}")).errors ≡ record {
      description = codes "field access isn't supported";
      note = Some
          (codes "consider moving this expression to a local variable and then using the local here instead");
      label = codes "not supported";
      span = (2, 9);
      second = None;
      suggestion = UsePositional;
    } ∷ record {
      description = codes "expected `}`, found `.`";
      note = Some (codes "if you intended to print `{`, you can escape it using `{{`");
      label = codes "expected `}`";
      span = (5, 5);
      second = Some (codes "because of this opening brace", (1, 2));
      suggestion = Nothing;
    } ∷ []
unfolding computing
field_of_a_name-has_two_errors = refl

field_of_a_number-is_listed : faults (codes "{foo.0}") ≡ MissingBrace (Some 46) (5, 5) (1, 2)
    ∷ TupleIndex (2, 7) ∷ []
unfolding computing
field_of_a_number-is_listed = refl

field_of_a_number-has_its_error : (message {A = Place} (TupleIndex (2, 7))).description
    ≡ codes "tuple index access isn't supported"
unfolding computing
field_of_a_number-has_its_error = refl

-- a field that no brace follows at once is taken with no fault of its own
field_of_a_field-is_text : pieces (codes "{foo.bar.baz}") ≡ bare_at (Named (codes "foo")) 2 5
    ∷ Lit (codes ".baz") ∷ []
unfolding computing
field_of_a_field-is_text = refl

field_of_a_field-is_listed : faults (codes "{foo.bar.baz}") ≡ MissingBrace (Some 46) (5, 5) (1, 2)
    ∷ UnmatchedBrace (13, 14) ∷ []
unfolding computing
field_of_a_field-is_listed = refl

raw_field-is_listed :
    faults (codes "{foo.r#bar}") ≡ MissingBrace (Some 46) (5, 5) (1, 2)
    ∷ RawIdentifier (6, 11) (6, 8) ∷ FieldAccess (2, 11) ∷ []
unfolding computing
raw_field-is_listed = refl

raw_field-is_reported_in_this_order : map (λ m. m.span) (ended (codes "{foo.r#bar}")).errors
    ≡ (2, 11) ∷ (6, 11) ∷ (5, 5) ∷ []
unfolding computing
raw_field-is_reported_in_this_order = refl

-- A field takes its own numbers.
empty_field-takes_a_number : pieces (codes "{foo.}{}") ≡ bare_at (Named (codes "foo")) 2 5
    ∷ bare_at (Implicit 1) 8 8 ∷ []
unfolding computing
empty_field-takes_a_number = refl

empty_field-is_reported_once : faults (codes "{foo.}{}") ≡ MissingBrace (Some 46) (5, 5) (1, 2) ∷ []
unfolding computing
empty_field-is_reported_once = refl

star_of_a_field-takes_a_number : (ended (codes "{a.:.*}")).next ≡ 2
unfolding computing
star_of_a_field-takes_a_number = refl

-- its faults come with it
faulty_field-is_listed : faults (codes "{a._}") ≡ MissingBrace (Some 46) (3, 3) (1, 2)
    ∷ Underscore (4, 5) ∷ FieldAccess (2, 5) ∷ []
unfolding computing
faulty_field-is_listed = refl

large_field-is_listed : faults (codes "{a.65536}") ≡ MissingBrace (Some 46) (3, 3) (1, 2)
    ∷ TooLarge (codes "65536") (4, 10) ∷ TupleIndex (2, 9) ∷ []
unfolding computing
large_field-is_listed = refl

-- white space is taken after its position, and none after its specification
field_with_white_space-is_listed : faults (codes "{a.b }") ≡ MissingBrace (Some 46) (3, 3) (1, 2)
    ∷ FieldAccess (2, 6) ∷ []
unfolding computing
field_with_white_space-is_listed = refl

field_with_white_space_at_the_end-is_not_closed : faults (codes "{a.b:c }")
    ≡ MissingBrace (Some 46) (3, 3) (1, 2) ∷ UnmatchedBrace (8, 9) ∷ []
unfolding computing
field_with_white_space_at_the_end-is_not_closed = refl

-- Only a name with nothing else has a field.
index-has_no_field : pieces (codes "{0.a}") ≡ bare_at (Index 0) 2 3 ∷ Lit (codes ".a") ∷ []
unfolding computing
index-has_no_field = refl

format-has_no_field : faults (codes "{a:..b}") ≡ MissingBrace (Some 46) (5, 5) (1, 2)
    ∷ UnmatchedBrace (7, 8) ∷ []
unfolding computing
format-has_no_field = refl

implied_precision-is_kept :
    pieces (codes "{a:..b}") ≡ NextArgument (record {
      position = Named (codes "a");
      position_span = (2, 3);
      format = record default_spec { precision_span = Some (4, 5) };
    }) ∷ Lit (codes ".b") ∷ []
unfolding computing
implied_precision-is_kept = refl

-- A `?` in front of the brace is taken, and the brace is left.
debug_without_a_colon-is_a_piece : pieces (codes "{foo?}") ≡ bare_at (Named (codes "foo")) 2 5 ∷ []
unfolding computing
debug_without_a_colon-is_a_piece = refl

debug_without_a_colon-is_listed : faults (codes "{foo?}") ≡ MissingBrace (Some 63) (5, 5) (1, 2)
    ∷ MissingColon (5, 6) ∷ UnmatchedBrace (6, 7) ∷ []
unfolding computing
debug_without_a_colon-is_listed = refl

debug_without_a_colon-has_its_error :
    message {A = Place} (MissingColon (5, 6)) ≡ record {
      description = codes "expected `}`, found `?`";
      note = Some (codes "to print `{`, you can escape it using `{{`");
      label = codes "expected `:` before `?` to format with `Debug`";
      span = (5, 6);
      second = None;
      suggestion = AddMissingColon (5, 6);
    }
unfolding computing
debug_without_a_colon-has_its_error = refl

-- its error comes in front of that of the brace
debug_without_a_colon-is_reported_first : map (λ m. m.span) (ended (codes "{foo?}")).errors
    ≡ (5, 6) ∷ (5, 5) ∷ (6, 7) ∷ []
unfolding computing
debug_without_a_colon-is_reported_first = refl

-- A `?` with a colon after it takes a word.
late_debug-is_listed : faults (codes "{a?:b}") ≡ MissingBrace (Some 63) (3, 3) (1, 2)
    ∷ LateDebug (codes "b") (3, 4) ∷ UnmatchedBrace (6, 7) ∷ []
unfolding computing
late_debug-is_listed = refl

late_debug-names_its_word :
    message {A = Place} (LateDebug (codes "b") (3, 4)) ≡ record {
      description = codes "expected format parameter to occur after `:`";
      note = Some (codes "`?` comes after `:`, try `b:?` instead");
      label = codes "expected `?` to occur after `:`";
      span = (3, 4);
      second = None;
      suggestion = Nothing;
    }
unfolding computing
late_debug-names_its_word = refl

late_debug_of_an_underscore-is_listed :
    faults (codes "{a?:_}") ≡ MissingBrace (Some 63) (3, 3) (1, 2) ∷ Underscore (5, 6)
    ∷ LateDebug (codes "_") (3, 4) ∷ UnmatchedBrace (6, 7) ∷ []
unfolding computing
late_debug_of_an_underscore-is_listed = refl

late_debug_of_an_underscore-is_reported_in_this_order : map (λ m. m.span)
    (ended (codes "{a?:_}")).errors ≡ (3, 4) ∷ (3, 3) ∷ (5, 6) ∷ (6, 7) ∷ []
unfolding computing
late_debug_of_an_underscore-is_reported_in_this_order = refl

-- the word may be empty
late_debug_of_nothing-is_listed : faults (codes "{a?:}") ≡ MissingBrace (Some 63) (3, 3) (1, 2)
    ∷ LateDebug [] (3, 4) ∷ UnmatchedBrace (5, 6) ∷ []
unfolding computing
late_debug_of_nothing-is_listed = refl

-- and without a colon the `?` is taken with no fault of its own
question_mark-is_taken : pieces (codes "{a?b}") ≡ bare_at (Named (codes "a")) 2 3 ∷ Lit (codes "b")
    ∷ []
unfolding computing
question_mark-is_taken = refl

question_mark-is_listed : faults (codes "{a?b}") ≡ MissingBrace (Some 63) (3, 3) (1, 2)
    ∷ UnmatchedBrace (5, 6) ∷ []
unfolding computing
question_mark-is_listed = refl

-- Other signs are taken alone.
late_align-is_taken : pieces (codes "{a<5}") ≡ bare_at (Named (codes "a")) 2 3 ∷ Lit (codes "5")
    ∷ []
unfolding computing
late_align-is_taken = refl

late_align-is_listed : faults (codes "{a<5}") ≡ MissingBrace (Some 60) (3, 3) (1, 2)
    ∷ LateAlign 60 (3, 4) ∷ UnmatchedBrace (5, 6) ∷ []
unfolding computing
late_align-is_listed = refl

late_align-names_its_sign :
    message {A = Place} (LateAlign 94 (3, 4)) ≡ record {
      description =
          codes "expected alignment specifier after `:` in format string; example: `{:>?}`";
      note = None;
      label = codes "expected `^` to occur after `:`";
      span = (3, 4);
      second = None;
      suggestion = Nothing;
    }
unfolding computing
late_align-names_its_sign = refl

grouping-is_listed : faults (codes "{a,}") ≡ MissingBrace (Some 44) (3, 3) (1, 2)
    ∷ Grouping (3, 4) (1, 2) ∷ UnmatchedBrace (4, 5) ∷ []
unfolding computing
grouping-is_listed = refl

grouping-has_its_error :
    message {A = Place} (Grouping (3, 4) (1, 2)) ≡ record {
      description = codes "python's numeric grouping `,` is not supported in rust format strings";
      note = Some (codes "to print `{`, you can escape it using `{{`");
      label = codes "expected `}`";
      span = (3, 4);
      second = Some (codes "because of this opening brace", (1, 2));
      suggestion = Nothing;
    }
unfolding computing
grouping-has_its_error = refl

debug_print-is_listed : faults (codes "{x=}") ≡ MissingBrace (Some 61) (3, 3) (1, 2)
    ∷ DebugPrint (3, 4) (1, 2) ∷ UnmatchedBrace (4, 5) ∷ []
unfolding computing
debug_print-is_listed = refl

debug_print-has_its_error :
    message {A = Place} (DebugPrint (3, 4) (1, 2)) ≡ record {
      description =
          codes "python's f-string debug `=` is not supported in rust, use `dbg(x)` instead";
      note = Some (codes "to print `{`, you can escape it using `{{`");
      label = codes "expected `}`";
      span = (3, 4);
      second = Some (codes "because of this opening brace", (1, 2));
      suggestion = UseRustDebugPrintingMacro;
    }
unfolding computing
debug_print-has_its_error = refl

late_sign-is_listed : faults (codes "{+}") ≡ MissingBrace (Some 43) (2, 2) (1, 2) ∷ LateSign (2, 3)
    ∷ UnmatchedBrace (3, 4) ∷ []
unfolding computing
late_sign-is_listed = refl

late_sign-comes_first : map (λ m. m.span) (ended (codes "{+}")).errors
    ≡ (2, 3) ∷ (2, 2) ∷ (3, 4) ∷ []
unfolding computing
late_sign-comes_first = refl

late_sign-has_its_error :
    message {A = Place} (LateSign (2, 3)) ≡ record {
      description = codes "the `+` sign flag must appear after `:` in a format string";
      note = Some (codes "`+` comes after `:`, try `{:+}` instead of `{+}`");
      label = codes "expected `:` before `+` sign flag";
      span = (2, 3);
      second = None;
      suggestion = Nothing;
    }
unfolding computing
late_sign-has_its_error = refl

-- With fewer than two characters left nothing is read.
last_sign-is_text : pieces (codes "{a,") ≡ bare_at (Named (codes "a")) 2 3 ∷ Lit (codes ",") ∷ []
unfolding computing
last_sign-is_text = refl

last_sign-has_no_fault : faults (codes "{a,") ≡ MissingBrace (Some 44) (3, 3) (1, 2) ∷ []
unfolding computing
last_sign-has_no_fault = refl

-- Worked examples: the task that the program's arguments state, the lists that are accepted, and a
-- listing with a report.
use Rattle.std.proofs.Common.{◌≡◌, ℕ, Bool, true, false, List, [], ◌∷◌, map, Option, None, Some}
use Rattle.std.proofs.Common.{chars, codes, refl, lit≤}
use Rattle.std.specs.Fmt.{digits}
use Rattle.rustc_parse_format.specs.Types.{Mode, Format, InlineAsm, Diagnostic, DiagnosticNamed}
use Rattle.rustc_parse_format.proofs.Rows.Definitions.{computing}
use Rattle.placeholder_check.specs.Report.{Report}
use Rattle.placeholder_check.proofs.Deciding.{report-decided}
use Rattle.piece_listing.specs.GivenArguments.{GivenArguments, cut, given_arguments}
use Rattle.piece_listing.specs.Listing.{flag_entries, report_lines, value_entries}
use Rattle.piece_listing.specs.Program.{IsListed, Task, task_of, errors, mode_named, pieces}
use Rattle.piece_listing.specs.Source.{bare_source}

abbrev given_are : ℕ → List (List ℕ) → Option GivenArguments
given_are n ws = Some (record { positional = n; names = map chars ws })

abbrev asks : Mode → Bool → Option GivenArguments → Option Task
asks mode literal g = Some (record { mode = mode; is_literal = literal; given = g })

list-number_alone : given_arguments (codes "2") ≡ given_are 2 []
unfolding cut
list-number_alone = refl

list-names : given_arguments (codes "2,w,z") ≡ given_are 2 (codes "w" ∷ codes "z" ∷ [])
unfolding cut
list-names = refl

-- any character but a comma may stand in a name, and a name may come twice
list-any_names : given_arguments (codes "00004,a b,+1,a b")
    ≡ given_are 4 (codes "a b" ∷ codes "+1" ∷ codes "a b" ∷ [])
unfolding cut
list-any_names = refl

list-greatest : given_arguments (codes "65535") ≡ given_are 65535 []
unfolding cut
list-greatest = refl

no_list-empty : given_arguments [] ≡ None
unfolding cut
no_list-empty = refl

no_list-name_alone : given_arguments (codes ",a") ≡ None
unfolding cut
no_list-name_alone = refl

no_list-empty_last_name : given_arguments (codes "2,") ≡ None
unfolding cut
no_list-empty_last_name = refl

no_list-empty_first_name : given_arguments (codes "2,,a") ≡ None
unfolding cut
no_list-empty_first_name = refl

no_list-too_large : given_arguments (codes "65536") ≡ None
unfolding cut
no_list-too_large = refl

no_list-six_digits : given_arguments (codes "123456") ≡ None
unfolding cut
no_list-six_digits = refl

no_list-sign : given_arguments (codes "+1") ≡ None
unfolding cut
no_list-sign = refl

words-mode_alone : task_of (codes "asm" ∷ []) ≡ asks InlineAsm false None
unfolding mode_named
words-mode_alone = refl

words-uses_are_by_name : task_of (codes "diagnostic-named" ∷ []) ≡ asks DiagnosticNamed false None
unfolding mode_named
words-uses_are_by_name = refl

words-literal : task_of (codes "format" ∷ codes "--literal" ∷ []) ≡ asks Format true None
unfolding mode_named
words-literal = refl

words-list : task_of (codes "diagnostic" ∷ codes "--args" ∷ codes "2,w" ∷ [])
    ≡ asks Diagnostic false (given_are 2 (codes "w" ∷ []))
unfolding cut mode_named
words-list = refl

words-literal_and_list : task_of (codes "format" ∷ codes "--literal" ∷ codes "--args" ∷ codes "0"
    ∷ []) ≡ asks Format true (given_are 0 [])
unfolding cut mode_named
words-literal_and_list = refl

no_words-list_missing : task_of (codes "format" ∷ codes "--args" ∷ []) ≡ None
unfolding mode_named
no_words-list_missing = refl

no_words-list_missing_after_literal : task_of (codes "format" ∷ codes "--literal" ∷ codes "--args"
    ∷ []) ≡ None
unfolding mode_named
no_words-list_missing_after_literal = refl

no_words-literal_last : task_of
    (codes "format" ∷ codes "--args" ∷ codes "1" ∷ codes "--literal" ∷ [])
    ≡ None
unfolding mode_named
no_words-literal_last = refl

no_words-no_list : task_of (codes "format" ∷ codes "--args" ∷ codes "2," ∷ []) ≡ None
unfolding cut mode_named
no_words-no_list = refl

-- a report stands after the pieces, and has a line
abbrev wants_two : Task
wants_two = record {
  mode = Format;
  is_literal = false;
  given = Some (record { positional = 2; names = codes "w" ∷ codes "z" ∷ [] });
}

abbrev reported : Report
reported = record {
  missing_index = [];
  missing_name = codes "q" ∷ [];
  unused_index = [];
  unused_name = codes "z" ∷ [];
}

abbrev reported_lines : List ℕ
reported_lines =
    codes "arg implicit 0 2..2\narg implicit 1 4..4 width=name:w@5..6@5..7\narg name q 9..10\nmissing name \"q\"\nunused name \"z\"\n"

listing-with_report : IsListed wants_two (bare_source (codes "{}{:w$}{q}")) (reported_lines, true)
unfolding computing digits pieces errors report_lines flag_entries value_entries
listing-with_report = (reported, report-decided _ _ _ _ (lit≤ tt) refl refl refl refl refl, refl)

-- it stands after the faults
abbrev wants_one : Task
wants_one = record {
  mode = Format;
  is_literal = false;
  given = Some (record { positional = 1; names = [] });
}

abbrev faulty_report : Report
faulty_report = record {
  missing_index = 1 ∷ [];
  missing_name = codes "foo" ∷ [];
  unused_index = 0 ∷ [];
  unused_name = [];
}

abbrev faulty_lines : List ℕ
faulty_lines =
    codes "arg name foo 2..5\narg implicit 1 8..8\nfault 5..5 expected `}`, found `.`\nmissing index 1\nmissing name \"foo\"\nunused index 0\n"

listing-with_faults_and_report : IsListed wants_one (bare_source (codes "{foo.}{}"))
    (faulty_lines, true)
unfolding computing digits pieces errors report_lines flag_entries value_entries
listing-with_faults_and_report =
    (faulty_report, report-decided _ _ _ _ (lit≤ tt) refl refl refl refl refl, refl)

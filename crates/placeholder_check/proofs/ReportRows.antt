-- Worked examples: the uses of the placeholders of a text, and the report on them. Each is a text
-- in the mode `Format`.
use Rattle.std.proofs.Common.{◌≡◌, ℕ, List, [], ◌∷◌, codes, refl, lit≤}
use Rattle.rustc_parse_format.specs.Characters.{Text}
use Rattle.rustc_parse_format.specs.Types.{Format}
use Rattle.rustc_parse_format.specs.Call.{pieces_of, walk}
use Rattle.rustc_parse_format.proofs.Rows.Definitions.{computing}
use Rattle.placeholder_check.specs.Uses.{Use, ByIndex, ByName, uses}
use Rattle.placeholder_check.specs.Report.{IsReport, Report}
use Rattle.placeholder_check.proofs.Deciding.{report-decided}

abbrev uses_of : Text → List Use
uses_of t = uses (pieces_of (walk Format 0 t))

abbrev report : List ℕ → List Text → List ℕ → List Text → Report
report missing missing_names unused unused_names =
    record {
      missing_index = missing;
      missing_name = missing_names;
      unused_index = unused;
      unused_name = unused_names;
    }

-- a number is used twice, and is missing once
number-is_missing : IsReport (uses_of (codes "{2}{}{}{2}")) 2 [] (report (2 ∷ []) [] [] [])
unfolding computing
number-is_missing = report-decided _ _ _ _ (lit≤ tt) refl refl refl refl refl

-- nothing is used; a name that is given twice is unused once
nothing-is_used : IsReport (uses_of []) 2 (codes "a" ∷ codes "b" ∷ codes "a" ∷ [])
    (report [] [] (0 ∷ 1 ∷ []) (codes "a" ∷ codes "b" ∷ []))
unfolding computing
nothing-is_used = report-decided _ _ _ _ (lit≤ tt) refl refl refl refl refl

-- a star uses the number in front of its placeholder's; the position, the width and the precision
-- are used in this order
star-uses_a_number : uses_of (codes "{:.*}{x:x$.y$}") ≡ ByIndex 1 ∷ ByIndex 0 ∷ ByName (codes "x")
    ∷ ByName (codes "x") ∷ ByName (codes "y") ∷ []
unfolding computing
star-uses_a_number = refl

names-in_counts_are_used : IsReport (uses_of (codes "{:.*}{x:x$.y$}")) 1 (codes "y" ∷ [])
    (report (1 ∷ []) (codes "x" ∷ []) [] [])
unfolding computing
names-in_counts_are_used = report-decided _ _ _ _ (lit≤ tt) refl refl refl refl refl

greatest_number-is_missing : IsReport (uses_of (codes "{65535}")) 0 []
    (report (65535 ∷ []) [] [] [])
unfolding computing
greatest_number-is_missing = report-decided _ _ _ _ (lit≤ tt) refl refl refl refl refl

-- a placeholder with a fault uses what it has, and the number that its recovery takes is used by
-- nothing
faulty_text-is_reported : IsReport (uses_of (codes "{foo.}{}")) 1 []
    (report (1 ∷ []) (codes "foo" ∷ []) (0 ∷ []) [])
unfolding computing
faulty_text-is_reported = report-decided _ _ _ _ (lit≤ tt) refl refl refl refl refl

numbers-in_counts_are_used : IsReport (uses_of (codes "{:1$}{q:0$}")) 3 (codes "q" ∷ [])
    (report [] [] (2 ∷ []) [])
unfolding computing
numbers-in_counts_are_used = report-decided _ _ _ _ (lit≤ tt) refl refl refl refl refl

-- an index does not reach a name
index-is_no_name : IsReport (uses_of (codes "{1}")) 1 (codes "a" ∷ [])
    (report (1 ∷ []) [] (0 ∷ []) (codes "a" ∷ []))
unfolding computing
index-is_no_name = report-decided _ _ _ _ (lit≤ tt) refl refl refl refl refl

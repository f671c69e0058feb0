-- A call that was checked.
use Rattle.std.proofs.Common.{◌≡◌, ◌++◌, ℕ, Bool, List, ap, refl, ◌∙◌, map}
use Rattle.std.proofs.Common.{Option, Some}
use Rattle.rustc_parse_format.specs.Characters.{Text}
use Rattle.rustc_parse_format.specs.Literal.{newline}
use Rattle.rustc_parse_format.specs.Views.{seen_piece}
use Rattle.rustc_parse_format.specs.State.{State, after_all, calls, first_state}
use Rattle.rustc_parse_format.specs.Types.{Format}
use Rattle.call_faults.specs.Arguments.{FormatArgument}
use Rattle.call_faults.specs.Calls.{call_faults, kept_indices}
use Rattle.call_faults.specs.Labels.{Call}
use Rattle.call_faults.specs.Views.{seen_call, seen_fault, seen_given}
use Rattle.call_faults.specs.Spots.{counts_before}
use Rattle.text_faults.specs.Texts.{text_fault}
use Rattle.call_faults.specs.declared.checker.CallReport.{CallReport}
use Rattle.source_lint.specs.Readings.{call_of, pieces, start_of}

-- A checked call is that of the string at whose start the parser was.
pub call-same : (s : State) (x : CallReport) (gs : List FormatArgument) (captures : Bool)
    → map seen_given x.arguments.now ≡ gs → x.indices.items ≡ kept_indices gs
    → map seen_piece x.pieces.items ≡ pieces s
    → x.counts.items ≡ counts_before 0 (map seen_piece x.pieces.items)
    → x.parser ≡ after_all s (calls s)
    → map seen_fault x.faults.items
    ≡ call_faults captures gs (text_fault s) (map seen_piece x.pieces.items)
    → ◌≡◌ {A = Call} (seen_call x) (call_of captures s gs)
call-same s x gs captures e f h n k l =
    let counts : x.counts.items ≡ counts_before 0 (pieces s) =
    n ∙ ap (λ v. counts_before 0 v) h in
    let faults : map seen_fault x.faults.items
    ≡ call_faults captures gs (text_fault s) (pieces s) =
    l ∙ ap (λ v. call_faults captures gs (text_fault s) v) h in
    let places = ap (λ (v : State). v.arg_places) k in
    let taken = ap (λ (v : State). v.next) k in
    rw (e, f, h, counts, places, taken, faults) refl

-- A parser at the start of a literal that was read.
pub start-same : (snippet text t lines : Text) (style : Option ℕ) (appended : Bool)
    → text ≡ t ++ newline appended → snippet ≡ lines
    → first_state Format text style (Some snippet) appended ≡ start_of appended style lines t
start-same snippet text t lines style appended e f =
    ap (λ v. first_state Format v style (Some snippet) appended) e
    ∙ ap (λ v. first_state Format (t ++ newline appended) style (Some v) appended) f

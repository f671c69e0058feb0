-- The edits of the errors of all calls, from the faults in the order in which they are found.
use Rattle.std.proofs.Common.{◌≡◌, ◌∙◌, ◌++◌, List, [], ◌∷◌, Option, None, Some, ap, sym, refl}
use Rattle.std.proofs.Common.{append-nil, append_assoc, false, true, reverse, not, nat_lt, ◌||◌, ℕ}
use Rattle.std.proofs.Common.{Bool, ◌<◌, chars, length}
use Rattle.std.proofs.lemmas.Bool.{cond_both, false≢true}
use Rattle.std.proofs.lemmas.List.{map-append, reverse-append}
use Rattle.std.proofs.lemmas.List.Elements.{filter_map-append}
use Rattle.std.specs.List.{cons_option, filter_map}
use Rattle.rustc_parse_format.specs.Characters.{Text, is_nil}
use Rattle.rustc_parse_format.specs.Faults.{Fault, Message, add_errors, is_front, map_fault}
use Rattle.rustc_parse_format.specs.Faults.{message, UnmatchedBrace, MissingBrace, FillBrace}
use Rattle.rustc_parse_format.specs.Faults.{Underscore, TooLarge, Unnamed, TextAfterColon}
use Rattle.rustc_parse_format.specs.Faults.{RawIdentifier, LateFlag, MissingColon, LateDebug}
use Rattle.rustc_parse_format.specs.Faults.{LateAlign, Grouping, DebugPrint, LateSign, FieldAccess}
use Rattle.rustc_parse_format.specs.Faults.{Nothing, TupleIndex}
use Rattle.rustc_parse_format.specs.Call.{call}
use Rattle.rustc_parse_format.specs.Types.{Mode, Format, InlineAsm, Diagnostic, DiagnosticNamed}
use Rattle.rustc_parse_format.specs.World.{Place, World, faults_in, place_of}
use Rattle.rustc_parse_format.specs.State.{State, state_after, first_state, next_call}
use Rattle.rustc_parse_format.proofs.Walking.Progress.{call-lt}
use Rattle.fault_fixes.specs.Edits.{Edit, edited_bytes, edit_of, edits, is_empty, joined_edits}
use Rattle.fault_fixes.specs.Edits.{made_edits, offered_suggestion}
use Rattle.fault_fixes.specs.Edits.{suggested_edit}
use Rattle.fault_fixes.specs.Fixing.{all_errors, all_faults, fault_edits, literal_edits}
use Rattle.fault_fixes.proofs.CallFaults.{all_faults-step}

-- A list after one that may begin with an element is after the rest of that.
pub cons_option-more : {A : Type 0} (o : Option A) (xs ys : List A)
    → cons_option o xs ++ ys ≡ cons_option o (xs ++ ys)
cons_option-more None xs ys = refl
cons_option-more (Some x) xs ys = refl

nothing-offered : (mode : Mode) → suggested_edit (offered_suggestion mode Nothing) ≡ None
nothing-offered Format = refl
nothing-offered InlineAsm = refl
nothing-offered Diagnostic = refl
nothing-offered DiagnosticNamed = refl

-- A fault whose error is added at the end has no edit.
unedited : (mode : Mode) (f : Fault Place) → is_front f ≡ false → edit_of mode (message f) ≡ None
unfolding message
unedited mode (UnmatchedBrace s) e = nothing-offered mode
unedited mode (MissingBrace c s o) e = nothing-offered mode
unedited mode (FillBrace c s o) e = nothing-offered mode
unedited mode (Underscore s) e = nothing-offered mode
unedited mode (TooLarge ds s) e = nothing-offered mode
unedited mode (Unnamed s) e = nothing-offered mode
unedited mode (TextAfterColon s) e = nothing-offered mode
unedited mode (RawIdentifier s p) e = absurd (cc)
unedited mode (LateFlag c s b) e = absurd (cc)
unedited mode (MissingColon s) e = absurd (cc)
unedited mode (LateDebug w s) e = absurd (cc)
unedited mode (LateAlign c s) e = absurd (cc)
unedited mode (Grouping s o) e = absurd (cc)
unedited mode (DebugPrint s o) e = absurd (cc)
unedited mode (LateSign s) e = absurd (cc)
unedited mode (FieldAccess s) e = absurd (cc)
unedited mode (TupleIndex s) e = absurd (cc)

-- From the last error on, the edits are in the order in which the faults are found.
pub found-edits : (mode : Mode) (old : List (Message Place)) (fs : List (Fault Place))
    → filter_map (edit_of mode) (reverse (add_errors old fs))
    ≡ filter_map (edit_of mode) (reverse old) ++ fault_edits mode fs
found-edits mode old [] = sym (append-nil (filter_map (edit_of mode) (reverse old)))
found-edits mode old (f ∷ fs) =
    let m = message f in
    let before = filter_map (edit_of mode) (reverse old) in
    let rest_after = fault_edits mode fs in
    cond_both (is_front f) (m ∷ old) (old ++ m ∷ [])
    (λ es. filter_map (edit_of mode) (reverse (add_errors es fs)) ≡ before ++ fault_edits mode (f ∷
    fs))
    (λ yes. found-edits mode (m ∷ old) fs
    ∙ ap (λ ms. filter_map (edit_of mode) ms ++ rest_after) (reverse-append (m ∷ []) old)
    ∙ ap (λ es. es ++ rest_after) (filter_map-append (edit_of mode) (reverse old) (m ∷ []))
    ∙ append_assoc before (cons_option (edit_of mode m) []) rest_after
    ∙ ap (λ es. before ++ es) (cons_option-more (edit_of mode m) [] rest_after))
    (λ no. found-edits mode (old ++ m ∷ []) fs
    ∙ ap (λ ms. filter_map (edit_of mode) ms ++ rest_after) (reverse-append old (m ∷ []))
    ∙ ap (λ o. cons_option o before ++ rest_after) (unedited mode f no)
    ∙ ap (λ o. before ++ cons_option o rest_after) (sym (unedited mode f no)))

-- The edits of all calls of a parser from a state on.
abbrev pub left_edits : Mode → State → List Edit
left_edits mode s = fault_edits mode (faults_in s.world (all_faults s.mode s.next s.rest))

-- Without errors before, they are those of which some are made.
pub left_edits-are : (mode : Mode) (s : State) → s.errors ≡ []
    → edits mode (all_errors s) ≡ made_edits 0 (left_edits mode s)
left_edits-are mode s none =
    let fs = faults_in s.world (all_faults s.mode s.next s.rest) in
    ap (λ es. edits mode (add_errors es fs)) none ∙ ap (made_edits 0) (found-edits mode [] fs)

-- They are those of the first call, and then those of the calls after it.
pub left_edits-step : (mode : Mode) (s new : State)
    → new ≡ record (state_after s (next_call s)) { errors = [] } → is_nil s.rest ≡ false
    → fault_edits mode (faults_in s.world (next_call s).faults) ++ left_edits mode new
    ≡ left_edits mode s
left_edits-step mode s new e h =
    ap (λ t. fault_edits mode (faults_in s.world (next_call s).faults) ++ left_edits mode t) e
    ∙ step s.world s.mode s.next s.rest h
  where
    step : (w : World) (m : Mode) (c : ℕ) (t : Text) → is_nil t ≡ false
        → fault_edits mode (faults_in w (call m c t).faults)
        ++ fault_edits mode (faults_in w (all_faults m (call m c t).next (call m c t).rest))
        ≡ fault_edits mode (faults_in w (all_faults m c t))
    step w m c [] h = absurd (cc)
    step w m c (b ∷ t) h =
        let k = call m c (b ∷ t) in
        let now = faults_in w k.faults in
        let later = faults_in w (all_faults m k.next k.rest) in
        sym (ap (λ fs. fault_edits mode (faults_in w fs)) (all_faults-step m c b t)
        ∙ ap (fault_edits mode) (map-append (map_fault (place_of w)) k.faults
        (all_faults m k.next k.rest))
        ∙ filter_map-append (λ f. edit_of mode (message f)) now later)

-- At the end there are none.
pub left_edits-end : (mode : Mode) (s : State) → is_nil s.rest ≡ true → left_edits mode s ≡ []
unfolding all_faults
left_edits-end mode s h = at_end s.world s.mode s.next s.rest h
  where
    at_end : (w : World) (m : Mode) (c : ℕ) (t : Text) → is_nil t ≡ true
        → fault_edits mode (faults_in w (all_faults m c t)) ≡ []
    at_end w m c [] e = refl
    at_end w m c (b ∷ t) e = absurd (cc)

false-or : (b : Bool) → b || false ≡ b
false-or true = refl
false-or false = refl

-- Once all calls are made, the text has the edits of all errors.
pub edited-end : (mode : Mode) (s new : State) (out : List ℕ) (start end : ℕ) (rest : List ℕ)
    (at : ℕ) (t : List ℕ) → s.errors ≡ [] → is_nil new.rest ≡ true
    → joined_edits out start end rest (left_edits mode new)
    ≡ joined_edits [] at 0 t (left_edits mode s)
    → (out ++ rest ≡ edited_bytes at (edits mode (all_errors s)) t)
    × (nat_lt 0 end ≡ not (is_empty (edits mode (all_errors s))))
edited-end mode s new out start end rest at t none h e =
    let done = ap (joined_edits out start end rest) (sym (left_edits-end mode new h)) ∙ e
    ∙ ap (λ es. (edited_bytes at es t, not (is_empty es))) (sym (left_edits-are mode s none)) in
    (ap (λ x. x.0) done, sym (false-or (nat_lt 0 end)) ∙ ap (λ x. x.1) done)

-- A call before the end reads on.
pub left-shorter : (s new : State) → new ≡ record (state_after s (next_call s)) { errors = [] }
    → is_nil s.rest ≡ false → length new.rest < length s.rest
left-shorter s new e some =
    rw e (call-lt s.mode s.next s.rest (λ n. false≢true (sym some ∙ ap is_nil n)))

-- The edits of a parser that has a literal as its snippet are those of the literal.
pub literal_edits-are : (mode : Mode) (input : Text) (style : Option ℕ) (owned literal : List ℕ)
    (appended : Bool) (s : State)
    → s ≡ first_state mode input style (Some (chars owned)) appended → owned ≡ literal
    → edits mode (all_errors s) ≡ literal_edits mode input style (chars literal) appended
literal_edits-are mode input style owned literal appended s e o =
    ap (λ t. edits mode (all_errors t)) e
    ∙ ap (λ l. literal_edits mode input style (chars l) appended) o

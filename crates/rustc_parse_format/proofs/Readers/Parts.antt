-- The state after several parts have been read.
use Rattle.std.proofs.Common.{◌≡◌, ◌++◌, ◌&&◌, ℕ, Bool, true, false, not, cond, List, [], ◌∷◌}
use Rattle.std.proofs.Common.{refl, sym, ap, ◌∙◌, append_assoc}
use Rattle.std.proofs.lemmas.List.{append-nil, map-append}
use Rattle.rustc_parse_format.specs.Characters.{Text}
use Rattle.rustc_parse_format.specs.Faults.{Fault, Unnamed, map_fault}
use Rattle.rustc_parse_format.specs.Marks.{Span, up_to}
use Rattle.rustc_parse_format.specs.Characters.{after_white, after_word}
use Rattle.rustc_parse_format.specs.Syntax.{PositionText}
use Rattle.rustc_parse_format.specs.Types.{Mode, wants_names}
use Rattle.rustc_parse_format.specs.Specification.{specification}
use Rattle.rustc_parse_format.specs.Placeholder.{cut, position}
use Rattle.rustc_parse_format.specs.Values.{given_position, is_name, number_after_field}
use Rattle.rustc_parse_format.specs.Values.{number_after_position, number_after_spec}
use Rattle.rustc_parse_format.specs.PartFaults.{position_faults, name_faults, cut_faults}
use Rattle.rustc_parse_format.specs.PartFaults.{spec_faults}
use Rattle.rustc_parse_format.specs.Meaning.{spec_texts}
use Rattle.rustc_parse_format.specs.Rewinds.{Rewinds, given_back}
use Rattle.rustc_parse_format.specs.CallStates.{CallState, read_texts, read_to, read_tries}
use Rattle.rustc_parse_format.specs.Tries.{spec_tries, back_after}
use Rattle.rustc_parse_format.specs.World.{World, Place, faults_in, place_of}

-- where nothing is read
pub read_nothing : (s : CallState) (r : Text) (fs : List (Fault Span)) → r ≡ s.rest → fs ≡ []
    → s ≡ read_to s r s.next fs
read_nothing s r fs e f =
    rw (e, f) (ap (λ (gs : List (Fault Place)). record s { faults = gs })
    (sym (append-nil s.faults)))

-- two parts, one after the other
pub read_on : (s : CallState) (r q : Text) (n m : ℕ) (fs gs : List (Fault Span))
    → read_to (read_to s r n fs) q m gs ≡ read_to s q m (fs ++ gs)
read_on s r q n m fs gs =
    ap (λ (hs : List (Fault Place)). record s { rest = q; next = m; faults = hs })
    (append_assoc s.faults (faults_in s.world fs) (faults_in s.world gs)
    ∙ ap (λ hs. s.faults ++ hs) (sym (map-append (map_fault (place_of s.world)) fs gs)))

-- three parts
pub read_three : (s : CallState) (r q o : Text) (n m k : ℕ) (fs gs hs : List (Fault Span)) →
    read_to (read_to (read_to s r n fs) q m gs) o k hs ≡ read_to s o k (fs ++ gs ++ hs)
read_three s r q o n m k fs gs hs =
    ap (λ (x : CallState). read_to x o k hs) (read_on s r q n m fs gs)
    ∙ read_on s q o m k (fs ++ gs) hs

-- words tried, and then others
pub tried-append : (b : Rewinds) (ts us : List Text) → back_after (back_after b ts) us
    ≡ back_after b (ts ++ us)
tried-append b [] us = refl
tried-append b (t ∷ ts) us = tried-append (given_back (after_word t) t b) ts us

-- three parts, of which the first two try words
pub read_three_tries : (s : CallState) (r q o : Text) (n m k : ℕ) (fs gs hs : List (Fault Span))
    (ts us : List Text) →
    read_to (read_tries (read_to (read_tries (read_to s r n fs) ts) q m gs) us) o k hs
    ≡ read_tries (read_to s o k (fs ++ gs ++ hs)) (ts ++ us)
read_three_tries s r q o n m k fs gs hs ts us =
    ap (λ (b : Rewinds).
    record (read_to (read_to (read_to s r n fs) q m gs) o k hs) { rewinds = b })
    (tried-append s.rewinds ts us)
    ∙ ap (λ (x : CallState). read_tries x (ts ++ us)) (read_three s r q o n m k fs gs hs)

-- after a position and white space, and the fault of one that is no name
abbrev pub after_position : Mode → CallState → CallState
after_position mode s =
    let p = position s.rest in
    let t = after_white p.1 in
    record (read_to s t s.next (position_faults s.rest p.0)) {
      faults = (s.faults ++ faults_in s.world (position_faults s.rest p.0))
          ++ name_faults mode (given_position p.0) (place_of s.world (up_to s.rest t));
    }

-- after a specification, with the next number after the position
abbrev pub after_specification : Mode → PositionText → CallState → CallState
after_specification mode position s =
    let p = specification mode s.rest in
    let n = number_after_spec s.next p.0 in
    record (read_texts (read_tries (read_to s p.1 n (spec_faults mode s.rest p.0 p.1))
    (spec_tries p.0 p.1)) (spec_texts p.0 p.1)) {
      next = number_after_position n position;
    }

names_in : (w : World) (b : Bool) (s : Span) → cond b (Unnamed (place_of w s) ∷ []) []
    ≡ faults_in w (cond b (Unnamed s ∷ []) [])
names_in w true s = refl
names_in w false s = refl

-- three lists of faults, one after the other, the second in places
faults_on : (w : World) (old : List (Fault Place)) (fs : List (Fault Span)) (b : Bool) (s : Span)
    (gs : List (Fault Span)) →
    ((old ++ faults_in w fs) ++ cond b (Unnamed (place_of w s) ∷ []) []) ++ faults_in w gs
    ≡ old ++ faults_in w (fs ++ cond b (Unnamed s ∷ []) [] ++ gs)
faults_on w old fs b s gs =
    let ns : List (Fault Span) = cond b (Unnamed s ∷ []) [] in
    ap (λ xs. ((old ++ faults_in w fs) ++ xs) ++ faults_in w gs) (names_in w b s)
    ∙ ap (λ xs. xs ++ faults_in w gs)
    (append_assoc old (faults_in w fs) (faults_in w ns)
    ∙ ap (λ hs. old ++ hs) (sym (map-append (map_fault (place_of w)) fs ns)))
    ∙ append_assoc old (faults_in w (fs ++ ns)) (faults_in w gs)
    ∙ ap (λ hs. old ++ hs) (sym (map-append (map_fault (place_of w)) (fs ++ ns) gs))

-- an argument: its position, white space and its specification
pub argument_read : (s : CallState) (mode : Mode) →
    after_specification mode (position s.rest).0 (after_position mode s)
    ≡ (let a = cut mode s.rest in
    read_texts
    (read_tries (read_to s a.rest (number_after_field s.next a.field) (cut_faults mode a))
    (spec_tries a.field.spec a.rest))
    (spec_texts a.field.spec a.rest))
unfolding cut cut_faults number_after_field
argument_read s mode =
    let t = after_white (position s.rest).1 in
    let p = specification mode t in
    ap
    (λ (fs : List (Fault Place)).
    record (read_texts (read_tries s (spec_tries p.0 p.1)) (spec_texts p.0 p.1)) {
      rest = p.1;
      next = number_after_position (number_after_spec s.next p.0) (position s.rest).0;
      faults = fs;
    }) (faults_on s.world s.faults (position_faults s.rest (position s.rest).0)
    (wants_names mode && not (is_name (given_position (position s.rest).0))) (up_to s.rest t)
    (spec_faults mode t p.0 p.1))

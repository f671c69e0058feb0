-- The effect of one call of the parser, with spans that are pairs of marks, and the walk of calls
-- up to the first that returns no piece. Neither depends on the style of the literal or on the
-- snippet.
use Prim.Native.Char.{code}
use Rattle.std.specs.Prelude.{◌≡◌, ℕ, suc, zero, ◌++◌, ◌==◌, if◌then◌else◌, List, [], ◌∷◌, length}
use Rattle.std.specs.Prelude.{Option, Some, None}
use Rattle.rustc_parse_format.specs.Characters.{Text, is_brace, is_no_brace, front, rest_after}
use Rattle.rustc_parse_format.specs.Characters.{after_white, first, after_first, begins_with}
use Rattle.rustc_parse_format.specs.Types.{Mode, Spec, Piece, Lit, NextArgument}
use Rattle.rustc_parse_format.specs.Marks.{Span, up_to, span_through, over_first, run_texts}
use Rattle.rustc_parse_format.specs.Placeholder.{cut, Cut}
use Rattle.rustc_parse_format.specs.Values.{number_after_field}
use Rattle.rustc_parse_format.specs.Meaning.{argument, spec_texts}
use Rattle.rustc_parse_format.specs.Faults.{Fault, UnmatchedBrace, no_brace, brace_fill}
use Rattle.rustc_parse_format.specs.PartFaults.{cut_faults}
use Rattle.rustc_parse_format.specs.Recovery.{recovery}
use Rattle.rustc_parse_format.specs.Tries.{spec_tries}

pub record Call : Type 0 where
  pub piece : Option (Piece Span)
  -- The faults, in the order in which they are found.
  pub faults : List (Fault Span)
  pub rest : Text
  pub next : ℕ
  -- The characters that the call reads as text, each with the number of characters that are left
  -- from it on.
  pub texts : List (ℕ × ℕ)
  -- The rest of the input from each word on that the call tries for a count and gives back.
  pub tries : List Text
  -- The span of the placeholder that the call closes, from its opening to its closing brace. None
  -- if it closes none.
  pub closes : Option Span

-- The fault of a missing closing brace, at the start of r. The placeholder begins at `opening` and
-- has the specification f.
abbrev pub unclosed_fault : Text → Spec Span → Text → Fault Span
unclosed_fault opening f r = no_brace (brace_fill f.fill f.fill_span) (first r) (up_to r r)
    (over_first opening)

-- A call that returns the text l followed by the longest prefix of t that has no braces.
abbrev pub text_call : ℕ → Text → Text → Call
text_call c l t = record {
  piece = Some (Lit (l ++ front is_no_brace t));
  faults = [];
  rest = rest_after is_no_brace t;
  next = c;
  texts = run_texts (front is_no_brace t) (rest_after is_no_brace t);
  tries = [];
  closes = None;
}

-- A call that reads the placeholder at `opening`, which the brace at the start of r closes.
abbrev pub closed_call : Mode → ℕ → Text → Cut → Text → Call
closed_call mode c opening a r = record {
  piece = Some (NextArgument (argument c a));
  faults = cut_faults mode a;
  rest = after_first r;
  next = number_after_field c a.field;
  texts = spec_texts a.field.spec a.rest;
  tries = spec_tries a.field.spec a.rest;
  closes = Some (span_through opening r);
}

-- A call that reads the placeholder at `opening`, where r does not begin with its closing brace.
-- The fault of the missing brace comes after those of the field, and those of the recovery come
-- after it.
abbrev pub unclosed_call : Mode → ℕ → Text → Cut → Text → Call
unclosed_call mode c opening a r =
    let k = recovery mode (number_after_field c a.field) opening (argument c a) r in
    record {
      piece = Some (NextArgument (argument c a));
      faults = cut_faults mode a ++ unclosed_fault opening (argument c a).format r ∷ k.faults;
      rest = k.rest;
      next = k.next;
      texts = spec_texts a.field.spec a.rest ++ k.texts;
      tries = spec_tries a.field.spec a.rest ++ k.tries;
      closes = None;
    }

-- A call that reads the placeholder at `opening`, where t is left after its opening brace.
unfoldable pub placeholder : Mode → ℕ → Text → Text → Call
placeholder mode c opening t =
    let a = cut mode t in
    let r = after_white a.rest in
    if begins_with (code "}") r then closed_call mode c opening a r
    else unclosed_call mode c opening a r

-- A call that reads a closing brace that closes nothing. It finds a fault and returns no piece.
abbrev pub unmatched_call : ℕ → Text → Text → Call
unmatched_call c at t = record {
  piece = None;
  faults = UnmatchedBrace (over_first at) ∷ [];
  rest = t;
  next = c;
  texts = [];
  tries = [];
  closes = None;
}

-- A call at the end of the input. It returns no piece and finds no fault.
abbrev pub end_call : ℕ → Call
end_call c = record {
  piece = None;
  faults = [];
  rest = [];
  next = c;
  texts = [];
  tries = [];
  closes = None;
}

-- The call where t is left of the input and c is the next number.
unfoldable pub call : Mode → ℕ → Text → Call
call mode c [] = end_call c
call mode c (b ∷ t) =
    if is_brace b
    then (if begins_with b t then text_call c (b ∷ []) (after_first t) else
    (if b == code "{" then placeholder mode c (b ∷ t) t else unmatched_call c (b ∷ t) t))
    else text_call c [] (b ∷ t)

-- The call returns text or no piece, and so no argument.
abbrev pub GivesNoArgument : Option (Piece Span) → Type 0
GivesNoArgument None = Unit {0}
GivesNoArgument (Some (Lit t)) = Unit {0}
GivesNoArgument (Some (NextArgument a)) = ⊥

-- The call returns text or no piece, and finds no fault.
abbrev pub GivesAtMostText : Call → Type 0
GivesAtMostText k = GivesNoArgument k.piece × (k.faults ≡ [])

-- After a call that returns a piece, the claim about the later calls holds. After a call that
-- returns none, there are no later calls.
abbrev pub GoesOn : Option (Piece Span) → List Call → Type 0 → Type 0
GoesOn None ks later = ks ≡ []
GoesOn (Some p) ks later = later

-- These are the calls from t on, where c is the next number. Each begins where the one before it
-- ended, and only the last one returns no piece.
abbrev pub IsWalk : Mode → ℕ → Text → List Call → Type 0
IsWalk mode c t [] = ⊥
IsWalk mode c t (k ∷ ks) = (k ≡ call mode c t) × GoesOn k.piece ks (IsWalk mode k.next k.rest ks)

-- The walk, computed, with at most n calls. Each call that returns a piece reads a character, so
-- there is at most one more call than characters.
abbrev pub walk_for : ℕ → Mode → ℕ → Text → List Call
walk_for zero mode c t = []
walk_for (suc n) mode c t =
    let k = call mode c t in
    elim k.piece [ None ↦ k ∷ [] | Some p ↦ k ∷ walk_for n mode k.next k.rest ]

-- The calls of a walk, computed.
unfoldable pub walk : Mode → ℕ → Text → List Call
walk mode c t = walk_for (suc (length t)) mode c t

-- The piece of a call, followed by the pieces of the later calls. If the call returns no piece, the
-- list is empty.
abbrev pub with_piece : Option (Piece Span) → List (Piece Span) → List (Piece Span)
with_piece None ps = []
with_piece (Some p) ps = p ∷ ps

-- The pieces of these calls, up to the first call that returns none.
abbrev pub pieces_of : List Call → List (Piece Span)
pieces_of [] = []
pieces_of (k ∷ ks) = with_piece k.piece (pieces_of ks)

-- The faults of these calls, in the order in which they are found.
abbrev pub faults_of : List Call → List (Fault Span)
faults_of [] = []
faults_of (k ∷ ks) = k.faults ++ faults_of ks

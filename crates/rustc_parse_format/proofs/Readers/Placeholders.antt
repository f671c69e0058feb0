-- A placeholder, part by part.
use Rattle.std.proofs.Common.{◌≡◌, ◌≢◌, ◌+◌, ◌≤◌, ◌++◌, ◌==◌, ℕ, Bool, true, false, not, cond, List}
use Rattle.std.proofs.Common.{[], ◌∷◌, length, arith, Option, Some, None, refl, sym, ap}
use Rattle.std.proofs.Common.{◌∙◌, append_assoc, subst}
use Rattle.std.specs.Prelude.{if◌then◌else◌, option_map}
use Rattle.std.proofs.lemmas.List.{append-nil}
use Rattle.std.proofs.lemmas.Bool.{and_parts, cond_both, cond-true, cond-false, eqb-true}
use Rattle.std.proofs.lemmas.Bool.{false≢true, not-true}
use Rattle.rustc_parse_format.specs.Characters.{Text, is_brace, after_white, after_first}
use Rattle.rustc_parse_format.specs.Characters.{begins_with, first}
use Rattle.rustc_parse_format.specs.Marks.{Span, Start, End, up_to, span_through, over_first}
use Rattle.rustc_parse_format.specs.Types.{Mode, Spec, Argument, NextArgument, map_spec}
use Rattle.rustc_parse_format.specs.Types.{map_argument}
use Rattle.rustc_parse_format.specs.Placeholder.{cut}
use Rattle.rustc_parse_format.specs.Values.{number_after_field}
use Rattle.rustc_parse_format.specs.Meaning.{argument, spec_texts}
use Rattle.rustc_parse_format.specs.Faults.{Fault, map_fault, brace_fill, no_brace}
use Rattle.rustc_parse_format.specs.PartFaults.{cut_faults}
use Rattle.rustc_parse_format.specs.Recovery.{recovery}
use Rattle.rustc_parse_format.specs.Call.{Call, GivesNoArgument, GivesAtMostText, call, placeholder}
use Rattle.rustc_parse_format.specs.Call.{unclosed_call, unclosed_fault}
use Rattle.rustc_parse_format.specs.Rewinds.{Rewinds}
use Rattle.rustc_parse_format.specs.CallStates.{FindsNothing, CallState, after_closing, closed_then}
use Rattle.rustc_parse_format.specs.CallStates.{opens_placeholder, read_call, read_texts, read_to}
use Rattle.rustc_parse_format.specs.CallStates.{read_tries, recovered_state}
use Rattle.rustc_parse_format.specs.Lines.{closed_in}
use Rattle.rustc_parse_format.specs.Tries.{spec_tries}
use Rattle.rustc_parse_format.proofs.Grammar.Numbers.{number_after_field-le}
use Rattle.rustc_parse_format.proofs.Grammar.Rests.{IsRest-le, after_white_rest}
use Rattle.rustc_parse_format.proofs.Readers.Recoveries.{Recovers}
use Rattle.rustc_parse_format.proofs.Readers.Parts.{read_three, tried-append}
use Rattle.rustc_parse_format.proofs.Grammar.CleanWords.{none_right}
use Rattle.rustc_parse_format.proofs.Lines.LineLaws.{read_texts-append}
use Rattle.rustc_parse_format.proofs.Lines.StateLines.{closed_in-none}
use Rattle.rustc_parse_format.specs.State.{State, AddsNothing, NeedsNoMemory, next_call}
use Rattle.rustc_parse_format.specs.World.{World, Place, number_of, place_at, place_of}

-- the text where the closing brace should stand
abbrev pub ending : Mode → Text → Text
ending mode t = after_white (cut mode t).rest

pub placeholder-piece : (mode : Mode) (c : ℕ) (o t : Text)
    → (placeholder mode c o t).piece ≡ Some (NextArgument (argument c (cut mode t)))
unfolding placeholder
placeholder-piece mode c o t = cond_both {A = Call} (begins_with 125 (ending mode t)) _ _
    (λ k. k.piece ≡ Some (NextArgument (argument c (cut mode t))))
    (λ e. refl) (λ e. refl)

-- One without fault has an argument without one and is closed by a brace,
pub placeholder-faultless : (mode : Mode) (c : ℕ) (o t : Text)
    → (placeholder mode c o t).faults ≡ [] → (cut_faults mode (cut mode t) ≡ [])
    × ((placeholder mode c o t).texts ≡ spec_texts (cut mode t).field.spec (cut mode t).rest)
    × (begins_with 125 (ending mode t) ≡ true)
unfolding placeholder
placeholder-faultless mode c o t =
    cond_both {A = Call} (begins_with 125 (ending mode t)) _ _ (λ k. k.faults ≡ [] →
    (cut_faults mode (cut mode t) ≡ [])
    × (k.texts ≡ spec_texts (cut mode t).field.spec (cut mode t).rest)
    × (begins_with 125 (ending mode t) ≡ true))
    (λ e h. (h, refl, e))
    (λ e h. absurd (no_faults (none_right (cut_faults mode (cut mode t)) _ h)))
  where
    no_faults : {f : Fault Span} {fs : List (Fault Span)} → f ∷ fs ≡ [] → ⊥
    no_faults e = cc

-- and where it finds nothing, so does its argument.
pub argument-finds : (s : CallState) (mode : Mode) (o t : Text) →
    FindsNothing s (placeholder mode s.next o t).faults (placeholder mode s.next o t).texts →
    FindsNothing s (cut_faults mode (cut mode t))
    (spec_texts (cut mode t).field.spec (cut mode t).rest)
argument-finds s mode o t h =
    let clean = placeholder-faultless mode s.next o t h.0 in
    (clean.0, subst (λ (cs : List (ℕ × ℕ)). (read_texts s cs).lines ≡ s.lines) clean.1 h.1)

map-if : {A B : Type 0} (g : A → B) (b : Bool) (s : Option A)
    → option_map g (if b then s else None) ≡ (if b then option_map g s else None)
map-if g true s = refl
map-if g false s = refl

brace_fill-map : {A B : Type 0} (g : A → B) (c : Option ℕ) (s : Option A)
    → option_map g (brace_fill c s) ≡ brace_fill c (option_map g s)
brace_fill-map g None s = refl
brace_fill-map g (Some c) s = map-if g (c == 125) s

no_brace-map : {A B : Type 0} (g : A → B) (s : Option A) (found : Option ℕ) (a o : A)
    → map_fault g (no_brace s found a o)
    ≡ no_brace (option_map g s) found (g a) (g o)
no_brace-map g None found a o = refl
no_brace-map g (Some s) found a o = refl

-- the missing brace put through a world
pub unclosed_fault_in : (w : World) (o : Text) (f : Spec Span) (r : Text) (seen : Spec Place)
    → seen ≡ map_spec (place_of w) f →
    map_fault (place_of w) (unclosed_fault o f r)
    ≡ no_brace (brace_fill seen.fill seen.fill_span) (first r) (place_of w (up_to r r))
    (place_of w (over_first o))
unclosed_fault_in w o f r seen e =
    rw e (no_brace-map (place_of w) (brace_fill f.fill f.fill_span) (first r) (up_to r r)
    (over_first o) ∙
    ap (λ s. no_brace s (first r) (place_of w (up_to r r)) (place_of w (over_first o)))
    (brace_fill-map (place_of w) f.fill f.fill_span))

-- the place of what a brace closed
pub closed_where : (h : Bool) (old : Option Place) (s : Span) (w : World) (p : Place)
    → w.has_source ≡ h → p ≡ place_of w s →
    (if h then Some p else old) ≡ closed_then old (closed_in w (Some s))
unfolding place_at
closed_where true old s w p e f = rw (e, f) refl
closed_where false old s w p e f = rw e refl

-- after the argument of a placeholder and white space
abbrev pub after_argument : CallState → Mode → Text → CallState
after_argument s mode t =
    read_texts
    (read_tries (read_to s (ending mode t) (number_after_field s.next (cut mode t).field)
    (cut_faults mode (cut mode t)))
    (spec_tries (cut mode t).field.spec (cut mode t).rest))
    (spec_texts (cut mode t).field.spec (cut mode t).rest)

-- Where the closing brace stands, it is taken,
pub brace-closes : (s new : CallState) (mode : Mode) (opening : Place)
    → begins_with 125 s.rest ≡ true →
    new ≡ record s {
      rest = after_first s.rest;
      closed_place = if s.world.has_source then Some (
        opening.0,
        number_of s.world (End
            (length s.rest)),
      )
          else s.closed_place;
    } → (o : Text) (a : Argument Span) → opening ≡ place_of s.world (over_first o)
    → new ≡ after_closing mode o a s
brace-closes s new mode opening b e o a f =
    let at : opening.0 ≡ number_of s.world (Start (length o)) = ap (λ (p : Place). p.0) f in
    let here : (opening.0, number_of s.world (End (length s.rest)))
    ≡ place_of s.world (span_through o s.rest) =
    ap (λ (n : ℕ). (n, number_of s.world (End (length s.rest)))) at in
    e ∙ (ap (λ (p : Option Place). record s { rest = after_first s.rest; closed_place = p })
    (closed_where s.world.has_source s.closed_place (span_through o s.rest) s.world _ refl here)
    ∙ sym (cond-true (begins_with 125 s.rest) _ _ b))

-- and where it is missing, its fault is noted, and the recovery is read.
pub missing-closes : (s x new : CallState) (mode : Mode) (opening : Place) (seen : Argument Place)
    → begins_with 125 s.rest ≡ false →
    x ≡ record s {
      faults = s.faults ++ no_brace (brace_fill seen.format.fill seen.format.fill_span)
          (first s.rest) (place_of s.world (up_to s.rest s.rest)) opening ∷ [];
    } → Recovers x mode opening seen new →
    (o : Text) (a : Argument Span) → opening ≡ place_of s.world (over_first o)
    → seen ≡ map_argument (place_of s.world) a → new ≡ after_closing mode o a s
missing-closes s x new mode opening seen b e h o a f g =
    let k = rw e at h in
    let fault = unclosed_fault_in s.world o a.format s.rest seen.format
    (ap (λ (v : Argument Place). v.format) g) in
    k o a f g
    ∙ (ap (λ (z : Fault Place). recovered_state (record s { faults = s.faults ++ z ∷ [] })
    (recovery mode s.next o a s.rest))
    (ap (λ p. no_brace (brace_fill seen.format.fill seen.format.fill_span) (first s.rest)
    (place_of s.world (up_to s.rest s.rest)) p) f ∙ sym fault)
    ∙ sym (cond-false (begins_with 125 s.rest) _ _ b))

read_either : (s : CallState) (b : Bool) (x y : CallState) (k j : Call) → x ≡ read_call s k
    → y ≡ read_call s j → cond b x y ≡ read_call s (cond b k j)
read_either s true x y k j e f = e
read_either s false x y k j e f = f

unclosed_read : (s : CallState) (mode : Mode) (o t : Text) →
    (let f = unclosed_fault o (argument s.next (cut mode t)).format (ending mode t) in
    let c = number_after_field s.next (cut mode t).field in
    recovered_state (read_to (after_argument s mode t) (ending mode t) c (f ∷ []))
    (recovery mode c o (argument s.next (cut mode t)) (ending mode t)))
    ≡ read_call s (unclosed_call mode s.next o (cut mode t) (ending mode t))
unclosed_read s mode o t =
    let a = cut mode t in
    let r = ending mode t in
    let c = number_after_field s.next a.field in
    let f = unclosed_fault o (argument s.next a).format r in
    let k = recovery mode c o (argument s.next a) r in
    let ts = spec_texts a.field.spec a.rest in
    let us = spec_tries a.field.spec a.rest in
    rw (closed_in-none s.world)
    (ap (λ (x : CallState).
    read_texts (read_texts (read_tries (read_tries x us) k.tries) ts) k.texts)
    (read_three s r r k.rest c c k.next (cut_faults mode a) (f ∷ []) k.faults)
    ∙ (ap (λ fs. read_texts
    (read_texts (read_tries (read_tries (read_to s k.rest k.next fs) us) k.tries) ts) k.texts)
    (append_assoc (cut_faults mode a) (f ∷ []) k.faults)
    ∙ (ap (λ (b : Rewinds). read_texts
    (read_texts
    (record (read_to s k.rest k.next (cut_faults mode a ++ f ∷ k.faults)) { rewinds = b })
    ts) k.texts)
    (tried-append s.rewinds us k.tries)
    ∙ sym (read_texts-append
    (read_tries (read_to s k.rest k.next (cut_faults mode a ++ f ∷ k.faults)) (us ++ k.tries)) ts
    k.texts))))

-- A placeholder is read part by part: its argument, white space, and the closing brace, or its
-- fault and the recovery.
pub placeholder_read : (s : CallState) (mode : Mode) (o t : Text) →
    after_closing mode o (argument s.next (cut mode t)) (after_argument s mode t)
    ≡ read_call s (placeholder mode s.next o t)
unfolding placeholder
placeholder_read s mode o t = read_either s (begins_with 125 (ending mode t)) _ _ _ _ refl
    (unclosed_read s mode o t)

-- the same of a reader that stands at x after the argument
pub placeholder_closed : (s x new : CallState) (mode : Mode) (o t : Text) (opening : Place)
    (seen : Argument Place) →
    x ≡ (let a = cut mode t in
    read_texts
    (read_tries (read_to s a.rest (number_after_field s.next a.field) (cut_faults mode a))
    (spec_tries a.field.spec a.rest))
    (spec_texts a.field.spec a.rest)) →
    opening ≡ place_of s.world (over_first o) → seen
    ≡ map_argument (place_of s.world) (argument s.next (cut mode t)) →
    ((q : Text) (a : Argument Span) → opening ≡ place_of x.world (over_first q)
    → seen ≡ map_argument (place_of x.world) a →
    new ≡ after_closing mode q a (record x { rest = after_white x.rest })) →
    new ≡ read_call s (placeholder mode s.next o t)
placeholder_closed s x new mode o t opening seen e f g h = let k = rw e at h in
    k o (argument s.next (cut mode t)) f g ∙ placeholder_read s mode o t

-- after the argument there is a number for each character that is left
pub numbers_left : (mode : Mode) (c n : ℕ) (o r : Text) → o ≢ []
    → n ≡ number_after_field c (cut mode (after_first o)).field →
    r ≡ ending mode (after_first o) → n + length r ≤ c + length o
numbers_left mode c n [] r h e f = absurd (h refl)
numbers_left mode c n (b ∷ t) r h e f =
    omega (
      arith,
      e,
      ap length f,
      number_after_field-le mode c t,
      IsRest-le (after_white_rest (cut mode t).rest),
    )

placeholder_boxed : (mode : Mode) (c : ℕ) (o t : Text)
    → GivesNoArgument (placeholder mode c o t).piece → ⊥
placeholder_boxed mode c o t k = rw (placeholder-piece mode c o t) at k

call_at_open : (mode : Mode) (c b : ℕ) (t : Text) → b ≡ 123 → begins_with 123 t ≡ false
    → call mode c (b ∷ t) ≡ placeholder mode c (b ∷ t) t
unfolding call
call_at_open mode c b t e h = rw (e, h) refl

-- where a placeholder opens, the call is that of the placeholder
pub call_opens : (mode : Mode) (c : ℕ) (t : Text) → opens_placeholder t ≡ true
    → call mode c t ≡ placeholder mode c t (after_first t)
call_opens mode c [] e = absurd (false≢true e)
call_opens mode c (b ∷ t) e =
    let h : ((b == 123) ≡ true) × (not (begins_with 123 t) ≡ true) =
    and_parts (b == 123) (not (begins_with 123 t)) e in
    call_at_open mode c b t (eqb-true b 123 h.0) (not-true (begins_with 123 t) h.1)

-- and gives its argument
pub opened-piece : (mode : Mode) (c : ℕ) (t : Text) → opens_placeholder t ≡ true →
    (call mode c t).piece ≡ Some (NextArgument (argument c (cut mode (after_first t))))
opened-piece mode c t e = ap (λ (k : Call). k.piece) (call_opens mode c t e)
    ∙ placeholder-piece mode c t (after_first t)

pub ruleset placeholder_given = (opened-piece)

-- and it allocates
pub opens-takes : (mode : Mode) (c : ℕ) (t : Text) → opens_placeholder t ≡ true
    → GivesAtMostText (call mode c t) → ⊥
opens-takes mode c t e k = placeholder_boxed mode c t (after_first t)
    (rw (call_opens mode c t e) at k.0)

pub needs_text : (s : State) → NeedsNoMemory s (next_call s) → opens_placeholder s.rest ≡ false
needs_text s n = by_test (opens_placeholder s.rest) refl
  where
    by_test : (b : Bool) → opens_placeholder s.rest ≡ b → b ≡ false
    by_test true e = absurd (opens-takes s.mode s.next s.rest e n.0)
    by_test false e = refl

pub opens-some : (t : Text) → opens_placeholder t ≡ true → t ≢ []
opens-some [] e n = absurd (false≢true e)
opens-some (b ∷ t) e n = cc n

closes_at : (mode : Mode) (c b : ℕ) (t : Text) → GivesNoArgument (call mode c (b ∷ t)).piece
    → (call mode c (b ∷ t)).closes ≡ None
unfolding call
closes_at mode c b t =
    cond_both {A = Call} (is_brace b) _ _ (λ k. GivesNoArgument k.piece → k.closes ≡ None)
    (λ e. cond_both {A = Call} (begins_with b t) _ _ (λ k. GivesNoArgument k.piece
    → k.closes ≡ None)
    (λ d. λ h. refl)
    (λ d. cond_both {A = Call} (b == 123) _ _ (λ k. GivesNoArgument k.piece → k.closes ≡ None)
    (λ o. λ h. absurd (placeholder_boxed mode c (b ∷ t) t h)) (λ o. λ h. refl)))
    (λ e. λ h. refl)

-- a call that gives no argument closes nothing
pub closes_nothing : (mode : Mode) (c : ℕ) (t : Text) → GivesNoArgument (call mode c t).piece
    → (call mode c t).closes ≡ None
unfolding call
closes_nothing mode c [] h = refl
closes_nothing mode c (b ∷ t) h = closes_at mode c b t h

-- A call that needs no allocation adds nothing.
pub needs_adds : (s : State) → NeedsNoMemory s (next_call s) → AddsNothing s (next_call s)
needs_adds s n = (
  n.0.1,
  rw (closes_nothing s.mode s.next s.rest n.0.0, closed_in-none s.world)
      (append-nil s.arg_places),
  n.1,
)

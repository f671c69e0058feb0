-- How a call changes the lines of a parser if it reads no text, and at the end.
use Rattle.std.proofs.Common.{◌≡◌, ◌≢◌, ℕ, ◌++◌, ◌&&◌, Bool, true, false, List, [], ◌∷◌, length}
use Rattle.std.proofs.Common.{length-append, arith, refl, ap, sym, ◌∙◌}
use Rattle.std.proofs.Common.{Option, Some, None}
use Rattle.std.specs.Prelude.{if◌then◌else◌}
use Rattle.std.proofs.lemmas.Bool.{cond-true, cond-false}
use Rattle.std.proofs.lemmas.List.{nil_from_length}
use Rattle.std.proofs.lemmas.List.{append-nil}
use Rattle.rustc_parse_format.specs.Characters.{Text}
use Rattle.rustc_parse_format.specs.Call.{Call, call}
use Rattle.rustc_parse_format.specs.Lines.{lines_in, closed_in, place_list, ends_with, with_last}
use Rattle.rustc_parse_format.specs.World.{World, Place, place_at}
use Rattle.rustc_parse_format.specs.CallStates.{FindsNothing, HasFoundNothing, CallState}
use Rattle.rustc_parse_format.specs.CallStates.{read_call}
use Rattle.rustc_parse_format.proofs.Sources.PlainPlaces.{place_end}
use Rattle.rustc_parse_format.specs.State.{State, AddsNothing, state_after, last_lines, next_call}

nothing_appended : {A : Type 0} (xs ys : List A) → xs ++ ys ≡ xs → ys ≡ []
nothing_appended xs ys e = nil_from_length ys (omega (arith, ap length e, length-append xs ys))

same_either : {A : Type 0} (b : Bool) (x : A) → (if b then x else x) ≡ x
same_either true x = refl
same_either false x = refl

pub lines_in-nil : (w : World) (start : ℕ) → lines_in w start [] ≡ (start, [])
lines_in-nil w start = same_either w.has_source (start, [])

pub closed_in-none : (w : World) → closed_in w None ≡ None
closed_in-none w = same_either w.has_source None

-- at the end
pub at_end : (s : State) → s.rest ≡ [] →
    ((next_call s).piece ≡ None)
    × (state_after s (next_call s) ≡ record s { line_spans = last_lines s s.line_spans })
unfolding call
at_end s e =
    rw (
      e,
      lines_in-nil s.world s.line_start,
      closed_in-none s.world,
      append-nil s.line_spans,
      append-nil s.arg_places,
    ) (refl, refl)

pub end_faults : (s : State) → s.rest ≡ [] → (next_call s).faults ≡ []
unfolding call
end_faults s e = rw e refl

-- The last line at the end.
last-kept : (s : State) (last : Place) → s.rest ≡ [] → s.world.has_source ≡ true
    → last ≡ (s.line_start, (place_at s.world (length s.rest)).0) →
    last_lines s s.line_spans
    ≡ (if ends_with last s.line_spans then s.line_spans else s.line_spans ++ last ∷ [])
last-kept s last e h f =
    let end : last ≡ (s.line_start, s.world.end) = f ∙ ap (λ (p : Place). (s.line_start, p.0))
    (ap (λ (t : Text). place_at s.world (length t)) e ∙ place_end s.world) in
    rw (e, h, end) refl

pub ended_more : (s : State) (last : Place) (ls : List Place) → s.rest ≡ []
    → s.world.has_source ≡ true →
    last ≡ (s.line_start, (place_at s.world (length s.rest)).0)
    → ends_with last s.line_spans ≡ false → ls ≡ s.line_spans ++ last ∷ [] →
    ls ≡ last_lines s s.line_spans
ended_more s last ls e h f b k = k
    ∙ sym (last-kept s last e h f
    ∙ cond-false (ends_with last s.line_spans) s.line_spans (s.line_spans ++ last ∷ []) b)

pub ended_same : (s : State) (last : Place) → s.rest ≡ [] → s.world.has_source ≡ true →
    last ≡ (s.line_start, (place_at s.world (length s.rest)).0) → ends_with last s.line_spans ≡ true
    → s.line_spans ≡ last_lines s s.line_spans
ended_same s last e h f b =
    sym (last-kept s last e h f
    ∙ cond-true (ends_with last s.line_spans) s.line_spans (s.line_spans ++ last ∷ []) b)

no_more : {A : Type 0} (xs : List A) (x : A) → xs ++ x ∷ [] ≡ xs → ⊥
no_more xs x e = omega (arith, ap length e, length-append xs (x ∷ []))

pub ended_spare : (s : State) (last : Place) → s.rest ≡ [] → s.world.has_source ≡ true →
    last ≡ (s.line_start, (place_at s.world (length s.rest)).0)
    → ends_with last s.line_spans ≡ false → last_lines s s.line_spans ≡ s.line_spans → ⊥
ended_spare s last e h f b k = no_more s.line_spans last (ended_more s last _ e h f b refl ∙ k)

pub not_last : (s : State) (t : Text) (ls : List Place) → s.rest ≡ t → t ≢ [] → last_lines s ls ≡ ls
not_last s [] ls e h = absurd (h refl)
not_last s (c ∷ t) ls e h = rw e (by_test s.world.has_source)
  where
    by_test : (b : Bool) → (if b && false then with_last (s.line_start, s.world.end) ls else ls)
        ≡ ls
    by_test true = refl
    by_test false = refl

-- where a call adds nothing, it ends no line
no_line : (s : State) (k : Call) → s.rest ≢ [] → AddsNothing s k
    → (lines_in s.world s.line_start k.texts).1 ≡ []
no_line s k some n =
    let lines = (lines_in s.world s.line_start k.texts).1 in
    nothing_appended s.line_spans lines (sym (not_last s s.rest (s.line_spans ++ lines) refl some)
    ∙ n.2)

none_listed : (p : Option Place) → place_list p ≡ [] → p ≡ None
none_listed None e = refl
none_listed (Some p) e = cc

-- finds nothing on its way,
pub finds_nothing : (s : State) (old : CallState) (k : Call) → s.rest ≢ [] → old.world ≡ s.world
    → old.line_start ≡ s.line_start →
    AddsNothing s k → FindsNothing old k.faults k.texts
finds_nothing s old k some world start n =
    (n.0, rw (world, start, no_line s k some n) (append-nil old.lines))

-- and has found nothing at its end
pub nothing_found : (s : State) (old : CallState) (k : Call) → s.rest ≢ [] → HasFoundNothing old
    → old.world ≡ s.world → old.line_start ≡ s.line_start →
    AddsNothing s k → HasFoundNothing (read_call old k)
nothing_found s old k some none world start n =
    let closes : closed_in s.world k.closes
    ≡ None = none_listed (closed_in s.world k.closes) (nothing_appended s.arg_places _ n.1) in
    rw (none.0, none.1, none.2, world, start, n.0, no_line s k some n, closes) (refl, refl, refl)

-- Two parsers that agree still agree after the next call, whatever their worlds are.
use Rattle.std.proofs.Common.{◌≡◌, ◌∙◌, ap, map, refl, sym}
use Rattle.std.specs.Prelude.{option_map}
use Rattle.rustc_parse_format.specs.Agreement.{Agree}
use Rattle.rustc_parse_format.specs.Call.{Call}
use Rattle.rustc_parse_format.specs.Faults.{add_errors, bare_fault, bare_message}
use Rattle.rustc_parse_format.specs.State.{State, state_after, next_call}
use Rattle.rustc_parse_format.specs.Types.{bare_piece}
use Rattle.rustc_parse_format.proofs.Walking.ParserLaws.{after_errors}

same_call : (s t : State) → Agree s t → ◌≡◌ {A = Call} (next_call s) (next_call t)
same_call s t h = rw (h.mode, h.next, h.rest) refl

pub next_agrees : (s t : State) → Agree s t →
    (option_map bare_piece (next_call s).piece ≡ option_map bare_piece (next_call t).piece)
    × Agree (state_after s (next_call s)) (state_after t (next_call t))
next_agrees s t h =
    let e = same_call s t h in (
      ap (λ (k : Call). option_map bare_piece k.piece) e,
      record {
        mode = h.mode;
        input = h.input;
        rest = ap (λ (k : Call). k.rest) e;
        next = ap (λ (k : Call). k.next) e;
        errors =
            after_errors s (next_call s)
            ∙ (ap (λ es. add_errors es (map bare_fault (next_call s).faults)) h.errors
            ∙ (ap (λ (k : Call). add_errors (map bare_message t.errors) (map bare_fault k.faults)) e
            ∙ sym (after_errors t (next_call t))));
      },
    )

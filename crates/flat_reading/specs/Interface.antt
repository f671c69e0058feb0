-- The task of a call of the C interface, the calls that are rejected, and the meaning of the
-- records of an input that is read. The header `bindings/c/dephungo.h` describes the same for C.
use Rattle.std.specs.Prelude.{◌≡◌, ℕ, ◌<◌, ◌≤◌, ◌-◌, ◌^◌, not, ◌&&◌, ◌||◌, ◌==◌, nat_lt}
use Rattle.std.specs.Prelude.{if◌then◌else◌, List, length, map, min, take, drop, Option, Some}
use Rattle.std.specs.Prelude.{None, chars, is_none, option_map, unwrap_or}
use Rattle.std.specs.Borrow.{MutBor}
use Rattle.std.specs.Str.{is_utf8}
use Rattle.rustc_parse_format.specs.Characters.{Text}
use Rattle.rustc_parse_format.specs.Types.{Mode, Format, InlineAsm, Diagnostic, DiagnosticNamed}
use Rattle.rustc_parse_format.specs.State.{State, first_state}
use Rattle.rustc_parse_format.specs.Views.{seen_mode}
use Rattle.flat_reading.specs.declared.task.Task.{Task}
use Rattle.flat_reading.specs.declared.records.Options.{Options}
use Rattle.flat_reading.specs.declared.records.Answer.{Answer}
use Rattle.flat_reading.specs.declared.records.Step.{Step}
use Rattle.flat_reading.specs.declared.records.Spec.{Spec as SpecRecord}
use Rattle.flat_reading.specs.declared.records.Fault.{Fault}
use Rattle.flat_reading.specs.declared.records.Extent.{Extent}
use Rattle.flat_reading.specs.declared.records.Peek.{Peek}
use Rattle.flat_reading.specs.declared.read.Buffers.{Buffers}
use Rattle.flat_reading.specs.Meaning.{is_set, place}
use Rattle.flat_reading.specs.Events.{end_of, events, finders_of, fronts_of, lookaheads}
use Rattle.flat_reading.specs.Events.{peek_meant, spec_count, states, step_meant}
use Rattle.flat_reading.specs.ErrorRecords.{HoldsErrors, texts_len}

-- The mode that a number stands for. None if it stands for no mode.
abbrev pub mode_meant : ℕ → Option Mode
mode_meant n =
    if n == 0 then Some Format
    else (if n == 1 then Some InlineAsm
    else (if n == 2 then Some Diagnostic else (if n == 3 then Some DiagnosticNamed else None)))

-- The style that the options mean: the number of hashes of a raw literal, or None for an ordinary
-- one.
abbrev pub style_meant : Options → Option ℕ
style_meant o = if o.is_raw == 0 then None else Some o.hashes

-- The snippet that the options mean. None if they say that there is none.
abbrev pub snippet_meant : Options → List ℕ → Option Text
snippet_meant o snippet = if o.has_snippet == 0 then None else Some (chars snippet)

-- A parser at the start of the input, as the options mean.
abbrev pub first_state_of : Mode → Options → List ℕ → List ℕ → State
first_state_of mode o input snippet = first_state mode (chars input) (style_meant o)
    (snippet_meant o snippet) (is_set o.appended_newline)

-- A parser at the start of the input of a task.
abbrev pub asked_state : Task → State
asked_state a = first_state (seen_mode a.mode) (chars a.input.now) a.style
    (option_map (λ t. chars t.now) a.snippet) a.appended_newline

-- The most bytes that an input may have, and the most hashes.
abbrev pub limit : ℕ
limit = 1000000000000

-- The code that a call returns if it is rejected before anything is read. None if it is not.
abbrev pub refusal : List ℕ → List ℕ → Options → Option ℕ
refusal input snippet o =
    if is_none (mode_meant o.mode) then Some 5
    else (if not (is_utf8 input) then Some 3
    else (if is_set o.has_snippet && not (is_utf8 snippet) then Some 4
    else (if nat_lt limit (unwrap_or (style_meant o) 0) || nat_lt limit (length input)
    then Some 6 else None)))

-- What is in the buffers of a call.
pub record Contents : Type 0 where
  pub steps : List Step
  pub specs : List SpecRecord
  pub faults : List Fault
  pub texts : List ℕ
  pub lines : List Extent
  pub peeks : List Peek

-- What is in these buffers.
abbrev pub contents : Buffers → Contents
contents b = record {
  steps = b.steps.now;
  specs = b.specs.now;
  faults = b.faults.now;
  texts = b.texts.now;
  lines = b.lines.now;
  peeks = b.peeks.now;
}

-- The buffer is the same one, with as much room, whatever is in it.
abbrev pub SameBuffer : {R : Type 0} → MutBor (List R) → MutBor (List R) → Type 0
SameBuffer old new = (new.ghost_name ≡ old.ghost_name) × (length new.now ≡ length old.now)

-- Each buffer is the same one, with as much room, whatever is in it.
pub record SameBuffers (old new : Buffers) : Type 0 where
  pub steps : SameBuffer old.steps new.steps
  pub specs : SameBuffer old.specs new.specs
  pub faults : SameBuffer old.faults new.faults
  pub texts : SameBuffer old.texts new.texts
  pub lines : SameBuffer old.lines new.lines
  pub peeks : SameBuffer old.peeks new.peeks

-- The answer has the exact numbers for all calls from the state s on, up to the end. The number of
-- bytes of texts is capped at the greatest number of 64 bits.
pub record IsCounted (s : State) (a : Answer) : Type 0 where
  pub steps : a.steps ≡ length (states s)
  pub specs : a.specs ≡ spec_count s
  pub faults : a.faults ≡ length (end_of s).errors
  pub texts : a.texts ≡ min (texts_len (end_of s).errors) (2 ^ 64 - 1)
  pub lines : a.lines ≡ length (end_of s).line_spans
  pub front_count : a.front_faults ≡ fronts_of s
  pub source : is_set a.is_source_literal ≡ s.world.has_source

-- The records describe all calls from the state s on, up to the end, and the errors and the lines
-- at the end. If there is no room for peeks, there are none.
pub record IsDescribed (s : State) (input : List ℕ) (b : Contents) (a : Answer) : Type 0 where
  pub steps : map (step_meant input (take a.specs b.specs)) (take a.steps b.steps) ≡ events s
  pub errors : HoldsErrors b.texts (take a.faults b.faults) (end_of s).errors
  pub finders : map (λ (f : Fault). f.step) (take a.faults b.faults) ≡ finders_of s
  pub lines : map place (take a.lines b.lines) ≡ (end_of s).line_spans
  pub peeks : 0 < length b.peeks → map peek_meant (take a.steps b.peeks) ≡ lookaheads s

-- Everything fits into the buffers. Peeks are wanted if there is any room for them.
pub record Fits (b : Contents) (a : Answer) : Type 0 where
  pub steps : a.steps ≤ length b.steps
  pub specs : a.specs ≤ length b.specs
  pub faults : a.faults ≤ length b.faults
  pub texts : a.texts ≤ length b.texts
  pub lines : a.lines ≤ length b.lines
  pub peeks : 0 < length b.peeks → a.steps ≤ length b.peeks

-- Nothing is written after the records that the answer counts.
pub record IsKept (a : Answer) (old new : Contents) : Type 0 where
  pub steps : drop a.steps new.steps ≡ drop a.steps old.steps
  pub specs : drop a.specs new.specs ≡ drop a.specs old.specs
  pub faults : drop a.faults new.faults ≡ drop a.faults old.faults
  pub texts : drop a.texts new.texts ≡ drop a.texts old.texts
  pub lines : drop a.lines new.lines ≡ drop a.lines old.lines
  pub peeks : drop a.steps new.peeks ≡ drop a.steps old.peeks

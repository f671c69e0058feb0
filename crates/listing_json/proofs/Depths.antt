-- How deep the values of a listing nest: never deeper than a reader of JSON goes.
use Rattle.std.proofs.Common.{ℕ, ◌≤◌, List, Option, Some, None, arith}
use Rattle.std.proofs.Math.Nat.{max-le}
use Rattle.json.specs.Json.{Json, string}
use Rattle.json.specs.Tree.{depth}
use Rattle.rustc_parse_format.specs.Characters.{Text}
use Rattle.rustc_parse_format.specs.Types.{Alignment, Left, Right, Center, Unknown, Sign, Plus}
use Rattle.rustc_parse_format.specs.Types.{Minus, DebugHex, Lower, Upper, Position, Implicit, Index}
use Rattle.rustc_parse_format.specs.Types.{Named, Count, Is, Name, Param, Star, Implied, Spec}
use Rattle.rustc_parse_format.specs.Types.{Piece, Lit, NextArgument}
use Rattle.rustc_parse_format.specs.Faults.{Fault, Message, Suggestion, Nothing, UsePositional}
use Rattle.rustc_parse_format.specs.Faults.{RemoveRawIdent, ReorderFormatParameter, AddMissingColon}
use Rattle.rustc_parse_format.specs.Faults.{UseRustDebugPrintingMacro, message}
use Rattle.rustc_parse_format.specs.FaultIds.{fault_id}
use Rattle.rustc_parse_format.specs.World.{Place}
use Rattle.listing_json.specs.Values.{align_value, count_value, error_value, fault_value}
use Rattle.listing_json.specs.Values.{fill_value}
use Rattle.listing_json.specs.Values.{format_value, hex_value, index_value, label_value}
use Rattle.listing_json.specs.Values.{maybe_value}
use Rattle.listing_json.specs.Values.{name_value, piece_value, position_value, sign_value}
use Rattle.listing_json.specs.Values.{span_value, suggestion_value}

maybe-low : {A : Type 0} (f : A → Json) (o : Option A) → ((x : A) → depth (f x) ≤ 2)
    → depth (maybe_value f o) ≤ 2
maybe-low f None h = omega arith
maybe-low f (Some x) h = h x

span-low : (s : Place) → depth (span_value s) ≤ 2
span-low s = omega arith

spans-low : (o : Option Place) → depth (maybe_value span_value o) ≤ 2
spans-low o = maybe-low span_value o span-low

fill-low : (o : Option ℕ) → depth (maybe_value fill_value o) ≤ 2
fill-low o = maybe-low fill_value o (λ c. omega arith)

align-low : (a : Alignment) → depth (align_value a) ≤ 2
align-low Left = omega arith
align-low Right = omega arith
align-low Center = omega arith
align-low Unknown = omega arith

sign-low : (o : Option Sign) → depth (maybe_value sign_value o) ≤ 2
sign-low None = omega arith
sign-low (Some Plus) = omega arith
sign-low (Some Minus) = omega arith

hex-low : (o : Option DebugHex) → depth (maybe_value hex_value o) ≤ 2
hex-low None = omega arith
hex-low (Some Lower) = omega arith
hex-low (Some Upper) = omega arith

count-low : (k : Count Place) → depth (count_value k) ≤ 2
count-low (Is n) = omega arith
count-low (Name w s) = omega arith
count-low (Param n) = omega arith
count-low (Star n) = omega arith
count-low Implied = omega arith

position-low : (p : Position) → depth (position_value p) ≤ 2
position-low (Implicit n) = omega arith
position-low (Index n) = omega arith
position-low (Named w) = omega arith

format-low : (f : Spec Place) → depth (format_value f) ≤ 3
format-low f =
    let inside = max-le {k = 2} (fill-low f.fill) (max-le {k = 2} (spans-low f.fill_span)
    (max-le {k = 2} (align-low f.align) (max-le {k = 2} (sign-low f.sign)
    (max-le {a = 0} {k = 2} (omega arith) (max-le {a = 0} {k = 2} (omega arith)
    (max-le {k = 2} (hex-low f.debug_hex) (max-le {k = 2} (count-low f.precision)
    (max-le {k = 2} (spans-low f.precision_span) (max-le {k = 2} (count-low f.width)
    (max-le {k = 2} (spans-low f.width_span) (max-le {a = 0} {k = 2} (omega arith)
    (max-le {b = 0} {k = 2} (spans-low f.ty_span) (omega arith))))))))))))) in
    omega (arith, inside)

pub piece-low : (p : Piece Place) → depth (piece_value p) ≤ 128
piece-low (Lit t) = omega arith
piece-low (NextArgument a) =
    let inside = max-le {a = 0} {k = 3} (omega arith)
    (max-le {a = depth (position_value a.position)} {k = 3}
    (let low = position-low a.position in omega (arith, low))
    (max-le {a = depth (span_value a.position_span)} {k = 3}
    (let low = span-low a.position_span in omega (arith, low))
    (max-le {b = 0} {k = 3} (format-low a.format) (omega arith)))) in
    omega (arith, inside)

suggestion-low : (g : Suggestion Place) → depth (suggestion_value g) ≤ 2
suggestion-low Nothing = omega arith
suggestion-low UsePositional = omega arith
suggestion-low (RemoveRawIdent s) = omega arith
suggestion-low (ReorderFormatParameter s w) = omega arith
suggestion-low (AddMissingColon s) = omega arith
suggestion-low UseRustDebugPrintingMacro = omega arith

error-low : (id : List ℕ) (m : Message Place) → depth (error_value id m) ≤ 128
error-low id m =
    let inside = max-le {a = 0} {k = 2} (omega arith) (max-le {a = 0} {k = 2} (omega arith)
    (max-le {a = 0} {k = 2} (omega arith)
    (max-le {k = 2} (maybe-low string m.note (λ t. omega arith))
    (max-le {a = 0} {k = 2} (omega arith) (max-le {k = 2} (span-low m.span)
    (max-le {k = 2} (maybe-low label_value m.second (λ x. omega arith))
    (max-le {b = 0} {k = 2} (suggestion-low m.suggestion) (omega arith)))))))) in
    omega (arith, inside)

pub fault-low : (f : Fault Place) → depth (fault_value f) ≤ 128
fault-low f = error-low (fault_id f) (message f)

pub index-low : (kind : List ℕ) (n : ℕ) → depth (index_value kind n) ≤ 128
index-low kind n = omega arith

pub name-low : (kind : List ℕ) (w : Text) → depth (name_value kind w) ≤ 128
name-low kind w = omega arith

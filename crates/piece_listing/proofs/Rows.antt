-- Numbers and marks that are written into a row of bytes from its end.
use Rattle.std.proofs.Common.{◌≡◌, ℕ, ◌+◌, ◌-◌, ◌≤◌, ◌<◌, ◌^◌, List, ◌∷◌, decimal, drop, length}
use Rattle.std.proofs.Common.{slice_set, arith}
use Rattle.std.specs.Str.{IsAscii}
use Rattle.std.proofs.lemmas.Fmt.{length-decimal-le, IsAscii-decimal}
use Rattle.std.proofs.lemmas.List.{drop-set, length-set}
use Rattle.std.proofs.lemmas.Str.{IsAscii-append}
use Rattle.std.proofs.lemmas.Str.Ascii.{IsAscii-cons}
use Rattle.piece_listing.specs.Listing.{span_text}

pub length_decimal : (n : ℕ) → n < 2 ^ 64 → length (decimal n) ≤ 20
length_decimal n fits = length-decimal-le 20 n (omega arith) (omega arith) fits

-- a byte in front of what begins at `at`, and two
pub byte_before : (row : List ℕ) (at b : ℕ) → 1 ≤ at → at ≤ length row
    → drop (at - 1) (slice_set row (at - 1) b) ≡ b ∷ drop at row
byte_before row at b lo hi =
    let e : at - 1 + 1 ≡ at = omega arith in rw (drop-set row (at - 1) b (omega arith), e)

pub dots_before : (row : List ℕ) (at : ℕ) → 2 ≤ at → at ≤ length row
    → drop (at - 2) (slice_set (slice_set row (at - 2 + 1) 46) (at - 2) 46) ≡ 46 ∷ 46 ∷ drop at row
dots_before row at lo hi =
    let e : at - 2 + 1 ≡ at - 1 = omega arith in
    rw (
      e,
      drop-set (slice_set row (at - 1) 46) (at - 2) 46
          (omega (arith, length-set row (at - 1) 46)),
      e,
      byte_before row at 46 (omega arith) hi,
    )

-- a mark and a span are ASCII
pub span-IsAscii : (mark start end : ℕ) → mark < 128 → start < 2 ^ 64 → end < 2 ^ 64
    → IsAscii (mark ∷ span_text (start, end))
span-IsAscii mark start end m s e =
    IsAscii-cons mark _ m (IsAscii-append (decimal start) _ (IsAscii-decimal start s)
    (IsAscii-cons 46 (46 ∷ decimal end) (omega arith)
    (IsAscii-cons 46 (decimal end) (omega arith) (IsAscii-decimal end e))))

-- Edits that are apart lie within the bytes.
use Rattle.std.proofs.Common.{◌≤◌, ℕ, List, [], ◌∷◌, arith}
use Rattle.inlined_arguments.specs.Edits.{AreApart, Edit}

pub apart-within : (at : ℕ) (es : List Edit) (n : ℕ) → AreApart at es n → at ≤ n
apart-within at [] n h = h
apart-within at (e ∷ es) n h =
    let k = apart-within e.span.1 es n h.2 in omega (arith, h.0, h.1, k)

-- The tokens of a file that no edit touches, and tokens that are none of Rust.
use Rattle.std.specs.Prelude.{◌≡◌, ◌+◌, ◌-◌, ◌||◌, ◌&&◌, ℕ, Bool, true, false, not, List, [], ◌∷◌}
use Rattle.std.specs.Prelude.{length, map, nat_le, if◌then◌else◌}
use Rattle.std.specs.List.{filter, list_all}
use Rattle.std.specs.declared.ops.Range.{Range}
use Rattle.fault_fixes.specs.Edits.{Edit}
use Rattle.rust_tokens.specs.declared.kinds.Kind.{Kind}
use Rattle.rust_tokens.specs.declared.kinds.Kind.TheVariants.{Unknown}
use Rattle.rust_tokens.specs.declared.kinds.Token.{Token}

-- The byte ranges of a text that edits replace.
abbrev pub old_ranges : List Edit → List (Range ℕ)
old_ranges es = map (λ e. record { start = e.span.0; end = e.span.1 }) es

-- The byte ranges of the new text that replace them. The last edit before these ends at the offset
-- `at` of the old text and `to` of the new one, which are both 0 if there is none.
abbrev pub new_ranges : ℕ → ℕ → List Edit → List (Range ℕ)
new_ranges at to [] = []
new_ranges at to (e ∷ es) = let start = to + (e.span.0 - at) in
    record { start = start; end = start + length e.text }
    ∷ new_ranges e.span.1 (start + length e.text) es

-- The token ends by the start of the range, or does not start before its end.
abbrev pub is_apart : Token → Range ℕ → Bool
is_apart t r = nat_le t.span.end r.start || nat_le r.end t.span.start

-- How many bytes there are in those of these ranges that end by the offset `at`.
abbrev pub width_before : ℕ → List (Range ℕ) → ℕ
width_before at [] = 0
width_before at (r ∷ rs) = if nat_le r.end at then (r.end - r.start) + width_before at rs
    else width_before at rs

-- A token, moved n bytes towards the start of the text.
abbrev pub moved_token : ℕ → Token → Token
moved_token n t = record {
  kind = t.kind;
  span = record { start = t.span.start - n; end = t.span.end - n };
  suffix_start = t.suffix_start - n;
  is_ended = t.is_ended;
}

-- Those of the tokens of a text that are apart from each of these ranges, at the places that they
-- have in the text without the ranges.
abbrev pub untouched_tokens : List (Range ℕ) → List Token → List Token
untouched_tokens rs ts = map (λ t. moved_token (width_before t.span.start rs) t)
    (filter (λ t. list_all (is_apart t) rs) ts)

-- The tokens that no edit touches are the same in a text and in the text with the edits, at the
-- same places but for what the edits remove and add. White space and comments are tokens too.
abbrev pub KeepsTokens : List Edit → List Token → List Token → Type 0
KeepsTokens es ts us = untouched_tokens (old_ranges es) ts ≡ untouched_tokens (new_ranges 0 0 es) us

-- A character that begins no token of another kind.
abbrev pub is_unknown : Kind → Bool
is_unknown Unknown = true
is_unknown k = false

-- The token has its end, and is no character that begins no token.
abbrev pub is_known : Token → Bool
is_known t = t.is_ended && not (is_unknown t.kind)

-- Where the edits of mended faults are, and whether these faults are gone.
use Prim.Native.Char.{code}
use Rattle.std.specs.Prelude.{◌+◌, ◌-◌, ◌&&◌, ◌||◌, ◌==◌, ℕ, suc, Bool, true, false, not, List, []}
use Rattle.std.specs.Prelude.{◌∷◌, if◌then◌else◌, length, nat_le, nat_lt, slice_get}
use Rattle.std.specs.List.{filter, list_all, list_any}
use Rattle.std.specs.Option.{option_map_or}
use Rattle.fault_fixes.specs.Edits.{Edit}
use Rattle.rust_tokens.specs.declared.kinds.Kind.{Kind}
use Rattle.rust_tokens.specs.declared.kinds.Kind.TheVariants.{RawStr, Str}
use Rattle.rust_tokens.specs.declared.kinds.Token.{Token}
use Rattle.source_report.specs.declared.report.Finding.{Finding}
use Rattle.source_report.specs.Suggestions.{edits_of, end_after, is_applicable}

-- A string literal, raw or not.
abbrev pub is_string : Kind → Bool
is_string Str = true
is_string RawStr = true
is_string k = false

-- The bytes of delimiters.
abbrev pub is_opening : ℕ → Bool
is_opening b = b == code "(" || b == code "[" || b == code "{"

abbrev pub is_closing : ℕ → Bool
is_closing b = b == code ")" || b == code "]" || b == code "}"

-- The token opens a delimiter in these bytes of a file, or closes one.
abbrev pub opens : List ℕ → Token → Bool
opens bs t = option_map_or is_opening (slice_get bs t.span.start) false

abbrev pub closes : List ℕ → Token → Bool
closes bs t = option_map_or is_closing (slice_get bs t.span.start) false

-- One of these tokens ends at the offset `at`, and no delimiter is open there; `depth` of them are
-- open in front of the tokens. None closes before that which opens in front of all.
abbrev pub ends_outside : List ℕ → ℕ → ℕ → List Token → Bool
ends_outside bs at depth [] = false
ends_outside bs at depth (t ∷ ts) = if opens bs t then ends_outside bs at (suc depth) ts
    else if closes bs t && depth == 0 then false
    else let left = if closes bs t then depth - 1 else depth in
    (left == 0 && t.span.end == at) || ends_outside bs at left ts

-- The offset is between the two bytes of a CRLF.
abbrev pub is_in_crlf : List ℕ → ℕ → Bool
is_in_crlf bs at = option_map_or (λ b. b == 13) (slice_get bs (at - 1)) false
    && option_map_or (λ b. b == 10) (slice_get bs at) false

-- The edit lies in the literal t, with which the tokens ts begin, or only puts text in: after the
-- literal, or after a token behind it that is in the same delimiters. It cuts no CRLF.
abbrev pub is_in_call : List ℕ → Token → List Token → Edit → Bool
is_in_call bs t ts e = not (is_in_crlf bs e.span.0) && not (is_in_crlf bs e.span.1)
    && ((nat_le t.span.start e.span.0 && nat_le e.span.1 t.span.end)
    || (e.span.0 == e.span.1 && ends_outside bs e.span.0 0 ts))

-- The token is a string literal, and the fault starts in it.
abbrev pub starts_in : Token → Finding → Bool
starts_in t x = is_string t.kind && nat_le t.span.start x.span.start
    && nat_lt x.span.start t.span.end

-- How many of these tokens are string literals in which one of these faults starts.
abbrev pub literal_count : List Token → List Finding → ℕ
literal_count ts xs = length (filter (λ t. list_any (starts_in t) xs) ts)

-- The fault is in the literal t, with which the tokens ts begin, and each of its edits is there or
-- in the arguments behind it.
abbrev pub is_of_literal : List ℕ → Token → List Token → Finding → Bool
is_of_literal bs t ts x = starts_in t x && nat_le x.span.end t.span.end
    && list_all (is_in_call bs t ts) (edits_of x)

-- Each of these faults is in one of these tokens of a file, a literal, and has its edits in the
-- call of that. The next fault is in the same literal or in a later one.
abbrev pub have_literals : List ℕ → List Token → List Finding → Bool
have_literals bs ts [] = true
have_literals bs [] (x ∷ xs) = false
have_literals bs (t ∷ ts) (x ∷ xs) = if is_of_literal bs t (t ∷ ts) x
    then have_literals bs (t ∷ ts) xs
    else have_literals bs ts (x ∷ xs)

-- Where the offset p of a text is in the text with these edits. The edit before them ends at the
-- offset `at` of the old text and `to` of the new one, which are both 0 if there is none.
abbrev pub moved_offset : ℕ → ℕ → List Edit → ℕ → ℕ
moved_offset at to [] p = to + (p - at)
moved_offset at to (e ∷ es) p = if nat_lt e.span.0 p
    then moved_offset e.span.1 (to + (e.span.0 - at) + length e.text) es p else to + (p - at)

-- Where the last of these edits ends in the new text.
abbrev pub new_end : ℕ → ℕ → List Edit → ℕ
new_end at to [] = to
new_end at to (e ∷ es) = new_end e.span.1 (to + (e.span.0 - at) + length e.text) es

-- Where these faults end in the text with the edits that mend them.
abbrev pub moved_ends : ℕ → ℕ → List Finding → List ℕ
moved_ends at to [] = []
moved_ends at to (x ∷ xs) = moved_offset at to (edits_of x) x.span.end
    ∷ moved_ends (end_after at (edits_of x)) (new_end at to (edits_of x)) xs

-- None of these faults could be mended and ends at one of these offsets.
abbrev pub are_gone : List ℕ → List Finding → Bool
are_gone ends ys =
    list_all (λ y. not (is_applicable y.id.now && list_any (λ n. n == y.span.end) ends)) ys

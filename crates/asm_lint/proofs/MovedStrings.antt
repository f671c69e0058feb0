-- The format string of a call among other tokens, and its arguments.
use Prim.Native.Char.{code}
use Rattle.std.proofs.Common.{◌≡◌, ◌<◌, ◌+◌, ◌-◌, ℕ, zero, suc, Bool, false, cond}
use Rattle.std.proofs.Common.{List, [], ◌∷◌}
use Rattle.std.proofs.Common.{Option, Some, None, refl, ap, sym, subst, ◌∙◌, length}
use Rattle.std.proofs.Common.{arith, map}
use Rattle.std.specs.Prelude.{◌&&◌, ◌||◌, ◌==◌, Result, Ok, Err, chars, not, nat_lt}
use Rattle.std.specs.Prelude.{slice_get, option_map, if◌then◌else◌}
use Rattle.std.specs.List.{AllByRecursion, prefix_len}
use Rattle.std.proofs.lemmas.List.{length-map}
use Rattle.std.proofs.lemmas.Option.{slice_get-map}
use Rattle.rust_trees.specs.Leaves.{Leaf}
use Rattle.format_calls.specs.declared.split.Argument.{Argument}
use Rattle.format_calls.specs.declared.strings.Reason.{Reason}
use Rattle.format_calls.specs.declared.strings.Reason.TheVariants.{Variable, Suffix, Macro}
use Rattle.format_calls.specs.declared.strings.Reason.TheVariants.{Edition, Expression}
use Rattle.format_calls.specs.declared.table.Rule.{Rule}
use Rattle.format_calls.specs.declared.table.Rule.TheVariants.{Index, IndexByEdition, FirstLiteral}
use Rattle.format_calls.specs.declared.table.Rule.TheVariants.{Templates}
use Rattle.format_calls.specs.Marks.{is_mark, is_word}
use Rattle.format_calls.specs.Strings.{argument_or, begins_text, begins_text_at, first_text}
use Rattle.format_calls.specs.Strings.{format_string, is_string, is_text, is_text_at, is_text_leaf}
use Rattle.format_calls.specs.Strings.{reason_at, reason_of, text_or}
use Rattle.asm_lint.specs.Names.{name_of, without_raw}
use Rattle.call_forms.proofs.Embedding.{Embeds, mark-at}
use Rattle.call_forms.proofs.MovedArguments.{LiesIn, less-same, shifted}

pub size-same : (g s e : ℕ) → ((g + e) - (g + s)) == 1 ≡ ((e - s) == 1)
size-same g s e = let d : (g + e) - (g + s) ≡ e - s = omega arith in ap (λ n. n == 1) d

-- The argument is one string literal there exactly if it is here.
text-by : (g : ℕ) (o : Option Leaf) (a : Argument) → is_text_at o (shifted g a) ≡ is_text_at o a
text-by g None a = refl
text-by g (Some x) a =
    ap (λ b. b && (((g + a.end) - (g + a.start)) == 1 && is_text_leaf x))
    (less-same g a.start a.end)
    ∙ ap (λ b. nat_lt a.start a.end && (b && is_text_leaf x)) (size-same g a.start a.end)

pub text-same : (xs ys : List Leaf) (g from to : ℕ) (a : Argument) → Embeds xs ys g
    → to < length xs → LiesIn from to a → is_text ys (shifted g a) ≡ is_text xs a
text-same xs ys g from to a e h l =
    let s = l.stops in
    ap (λ o. is_text_at o (shifted g a)) (e.same a.start (omega (arith, h, s)))
    ∙ text-by g (slice_get xs a.start) a

begins-same : (xs ys : List Leaf) (g from to : ℕ) (a : Argument) → Embeds xs ys g
    → to < length xs → LiesIn from to a → begins_text ys (shifted g a) ≡ begins_text xs a
begins-same xs ys g from to a e h l =
    let s = l.stops in
    ap (λ o. begins_text_at ys o (shifted g a)) (e.same a.start (omega (arith, h, s)))
    ∙ by_token (slice_get xs a.start)
  where
    by_token : (o : Option Leaf) → begins_text_at ys o (shifted g a) ≡ begins_text_at xs o a
    by_token None = refl
    by_token (Some x) =
        let s = l.stops in
        let n : g + a.start + 1 ≡ g + (a.start + 1) = omega arith in
        ap (λ b. b || (is_text_leaf x && is_mark (code ";") ys (g + a.start + 1)))
        (text-same xs ys g from to a e h l)
        ∙ ap (λ b. is_text xs a || (is_text_leaf x && b))
        (mark-at (code ";") xs ys g (a.start + 1) (g + a.start + 1) e n (omega (arith, h, s)))

-- Why an argument is no literal, by what stands at its start and after that.
abbrev reason_by : Option Leaf → Bool → Bool → Bool → Reason
reason_by None p q r = Expression
reason_by (Some x) p q r = if p || q then Variable else
    (if is_string x.kind && x.has_suffix then Suffix else
    (if is_word x && r then Macro else Expression))

reason-is : (xs : List Leaf) (i : ℕ) (o : Option Leaf) → reason_at xs o i
    ≡ reason_by o (is_mark (code "$") xs i) (is_mark (code "#") xs i)
    (is_mark (code "!") xs (i + 1))
reason-is xs i None = refl
reason-is xs i (Some x) = refl

reason-same : (xs ys : List Leaf) (g from to : ℕ) (a : Argument) → Embeds xs ys g
    → to < length xs → LiesIn from to a → reason_of ys (shifted g a) ≡ reason_of xs a
reason-same xs ys g from to a e h l =
    let s = l.stops in
    let n : g + a.start + 1 ≡ g + (a.start + 1) = omega arith in
    reason-is ys (g + a.start) (slice_get ys (g + a.start))
    ∙ (ap (λ o. reason_by o (is_mark (code "$") ys (g + a.start))
    (is_mark (code "#") ys (g + a.start)) (is_mark (code "!") ys (g + a.start + 1)))
    (e.same a.start (omega (arith, h, s)))
    ∙ (ap (λ b. reason_by (slice_get xs a.start) b
    (is_mark (code "#") ys (g + a.start)) (is_mark (code "!") ys (g + a.start + 1)))
    (mark-at (code "$") xs ys g a.start (g + a.start) e refl (omega (arith, h, s)))
    ∙ (ap (λ b. reason_by (slice_get xs a.start) (is_mark (code "$") xs a.start) b
    (is_mark (code "!") ys (g + a.start + 1)))
    (mark-at (code "#") xs ys g a.start (g + a.start) e refl (omega (arith, h, s)))
    ∙ (ap (λ b. reason_by (slice_get xs a.start) (is_mark (code "$") xs a.start)
    (is_mark (code "#") xs a.start) b)
    (mark-at (code "!") xs ys g (a.start + 1) (g + a.start + 1) e n (omega (arith, h, s)))
    ∙ sym (reason-is xs a.start (slice_get xs a.start))))))

-- An argument of the list lies where all do.
pub lies-get : (from to n : ℕ) (bs : List Argument) (a : Argument)
    → AllByRecursion (λ b. LiesIn from to b) bs → slice_get bs n ≡ Some a → LiesIn from to a
lies-get from to n [] a l e = absurd cc
lies-get from to zero (b ∷ bs) a l e = let i : b ≡ a = cc in subst (λ v. LiesIn from to v) i l.0
lies-get from to (suc n) (b ∷ bs) a l e = lies-get from to n bs a l.1 e

chosen-same : (xs ys : List Leaf) (g from to n : ℕ) (bs : List Argument) (b : Bool)
    → Embeds xs ys g → to < length xs → AllByRecursion (λ a. LiesIn from to a) bs
    → ◌≡◌ {A = Result ℕ Reason} (argument_or ys n (slice_get (map (shifted g) bs) n) b)
    (argument_or xs n (slice_get bs n) b)
chosen-same xs ys g from to n bs b e h l =
    ap (λ o. argument_or ys n o b) (slice_get-map (shifted g) bs n)
    ∙ by_argument (slice_get bs n) refl
  where
    by_argument : (o : Option Argument) → slice_get bs n ≡ o
        → ◌≡◌ {A = Result ℕ Reason} (argument_or ys n (option_map (shifted g) o) b)
        (argument_or xs n o b)
    by_argument None k = refl
    by_argument (Some a) k =
        let i = lies-get from to n bs a l k in
        ap (λ t. if b then Err Edition else (if t then Ok n else Err (reason_of ys (shifted g a))))
        (text-same xs ys g from to a e h i)
        ∙ ap (λ r. if b then Err Edition else (if is_text xs a then Ok n else Err r))
        (reason-same xs ys g from to a e h i)

before-same : (xs ys : List Leaf) (g from to : ℕ) (bs : List Argument) → Embeds xs ys g
    → to < length xs → AllByRecursion (λ a. LiesIn from to a) bs
    → prefix_len (λ a. not (begins_text ys a)) (map (shifted g) bs)
    ≡ prefix_len (λ a. not (begins_text xs a)) bs
before-same xs ys g from to [] e h l = refl
before-same xs ys g from to (a ∷ bs) e h l =
    ap (λ t. cond (not t) (1 + prefix_len (λ a. not (begins_text ys a)) (map (shifted g) bs)) 0)
    (begins-same xs ys g from to a e h l.0)
    ∙ ap (λ n. cond (not (begins_text xs a)) (1 + n) 0) (before-same xs ys g from to bs e h l.1)

found-same : (xs ys : List Leaf) (g from to : ℕ) (bs : List Argument) → Embeds xs ys g
    → to < length xs → AllByRecursion (λ a. LiesIn from to a) bs
    → first_text ys (map (shifted g) bs) ≡ first_text xs bs
found-same xs ys g from to bs e h l =
    let n = before-same xs ys g from to bs e h l in
    ap (λ m. cond (nat_lt m (length (map (shifted g) bs))) (Some m) None) n
    ∙ ap (λ k. cond (nat_lt (prefix_len (λ a. not (begins_text xs a)) bs) k)
    (Some (prefix_len (λ a. not (begins_text xs a)) bs)) None) (length-map bs (shifted g))

-- The format string is the argument of the same index.
pub string-same : (xs ys : List Leaf) (g from to : ℕ) (r : Rule) (bs : List Argument)
    (is_new : Bool) → Embeds xs ys g → to < length xs
    → AllByRecursion (λ a. LiesIn from to a) bs
    → format_string ys r (map (shifted g) bs) is_new ≡ format_string xs r bs is_new
string-same xs ys g from to (Index n) bs is_new e h l = chosen-same xs ys g from to n bs false e h l
string-same xs ys g from to (IndexByEdition n) bs is_new e h l =
    ap (λ k. argument_or ys n (slice_get (map (shifted g) bs) n) (not is_new && (n + 1) == k))
    (length-map bs (shifted g))
    ∙ chosen-same xs ys g from to n bs (not is_new && (n + 1) == length bs) e h l
string-same xs ys g from to FirstLiteral bs is_new e h l =
    ap (λ o. text_or o) (found-same xs ys g from to bs e h l)
string-same xs ys g from to Templates bs is_new e h l = chosen-same xs ys g from to 0 bs false e h l

-- An argument is the same to placeholders.
pub name-same : (xs ys : List Leaf) (g from to : ℕ) (a : Argument) → Embeds xs ys g → to < length xs
    → LiesIn from to a → name_of ys (shifted g a) ≡ name_of xs a
name-same xs ys g from to a e h l =
    let s = l.stops in
    ap (λ o. if a.is_named then option_map (λ x. without_raw (chars x.text)) o else None)
    (e.same a.start (omega (arith, h, s)))

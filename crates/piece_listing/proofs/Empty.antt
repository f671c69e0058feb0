-- The answer to an empty input.
use Rattle.std.proofs.Common.{◌≡◌, ◌≤◌, ℕ, ◌++◌, Bool, true, false, List, [], ◌∷◌, Option, None}
use Rattle.std.proofs.Common.{Some, Result, Ok, Err, string_bytes, replicate}
use Rattle.std.proofs.Common.{refl, sym, ap, ◌∙◌, option_map, map, chars, length, arith}
use Rattle.std.specs.Prelude.{IfSome, MatchOption}
use Rattle.std.proofs.lemmas.Option.{same_Some, none-some}
use Rattle.std.proofs.lemmas.Str.{chars-nil}
use Rattle.std.proofs.lemmas.List.{nil_from_length}
use Rattle.rustc_parse_format.specs.Literal.{IsLiteral, ordinary_frame, raw_frame}
use Rattle.rustc_parse_format.specs.Types.{Mode}
use Rattle.rustc_parse_format.specs.Call.{call, walk}
use Rattle.rustc_parse_format.specs.Faults.{Message}
use Rattle.rustc_parse_format.specs.State.{after_all, calls, fresh_state}
use Rattle.rustc_parse_format.specs.World.{Place, World}
use Rattle.rustc_parse_format.specs.Views.{seen_mode}
use Rattle.piece_listing.specs.declared.arguments.GivenArguments.{GivenArguments as ArgumentsValue}
use Rattle.piece_listing.specs.declared.input.Listing.{Listing}
use Rattle.piece_listing.specs.declared.literal.LiteralText.{LiteralText}
use Rattle.piece_listing.specs.declared.task.Task.{Task as DeclaredTask}
use Rattle.piece_listing.specs.declared.verdict.RunFault.{RunFault}
use Rattle.piece_listing.specs.declared.verdict.RunFault.TheVariants.{NotLiteral}
use Rattle.piece_listing.specs.Listing.{report_lines}
use Rattle.piece_listing.specs.Program.{IsListed, Task, errors, listing_of, no_entries, pieces}
use Rattle.piece_listing.specs.SeenTask.{seen_given, seen_task}
use Rattle.piece_listing.specs.Source.{IsSourceOf, Source, bare_source}
use Rattle.piece_listing.proofs.Literals.{raw_frame-parts}

-- an empty text has no errors and so no fault
errors-nil : (mode : Mode) (w : World) (start : ℕ)
    → (after_all (fresh_state mode w [] start) (calls (fresh_state mode w [] start))).errors ≡ []
unfolding walk call
errors-nil mode w start = refl

listed-nil : (mode : Mode) → listing_of mode (bare_source []) no_entries ≡ ([], false)
unfolding pieces errors walk call report_lines
listed-nil mode = refl

pub chars-empty : (bs : List ℕ) → bs ≡ [] → chars bs ≡ []
chars-empty bs e = ap chars e ∙ chars-nil

pub no_faults : (mode : Mode) (w : World) (start : ℕ) (text : List ℕ) → text ≡ []
    → (after_all (fresh_state mode w (chars text) start)
    (calls (fresh_state mode w (chars text) start))).errors
    ≡ []
no_faults mode w start text e = rw (chars-empty text e) (errors-nil mode w start)

-- nor is it a literal
pub empty-not_raw : (bs : List ℕ) → bs ≡ [] → (n : ℕ) (t : List ℕ) → chars bs ≡ raw_frame n t → ⊥
empty-not_raw bs e n t h =
    let none : [] ≡ 114 ∷ (replicate n 35 ++ 34 ∷ ((t ++ 34 ∷ []) ++ replicate n 35)) =
    sym (chars-empty bs e) ∙ h ∙ raw_frame-parts n t in cc

pub empty-no_frame : (bs : List ℕ) → bs ≡ [] → (t : List ℕ) → chars bs ≡ ordinary_frame t → ⊥
empty-no_frame bs e t h = let none : [] ≡ 34 ∷ (t ++ 34 ∷ []) = sym (chars-empty bs e) ∙ h in cc

pub empty-no_literal : (bs : List ℕ) → bs ≡ [] → (style : Option ℕ) (t : List ℕ)
    → IsLiteral style (chars bs) t → ⊥
empty-no_literal bs e None t (content, us, h, is, v) = empty-no_frame bs e content h
empty-no_literal bs e (Some n) t h = empty-not_raw bs e n t h

-- the task that the words state, and the list that was read
nothing-seen : (g : Option ArgumentsValue) → option_map seen_given g ≡ None → g ≡ None
nothing-seen None e = refl
nothing-seen (Some g) e = absurd cc

pub task_of-literal : (o : Option DeclaredTask) (t : DeclaredTask) (mode : Mode) (literal : Bool)
    (a : Option Task) → option_map seen_task o ≡ a → o ≡ Some t
    → a ≡ Some (record { mode = mode; is_literal = literal; given = None })
    → (t.is_literal ≡ literal) × (t.arguments ≡ None)
task_of-literal o t mode literal a seen is task_of =
    let same = same_Some (seen_task t) (record { mode = mode; is_literal = literal; given = None })
    (ap (option_map seen_task) (sym is) ∙ seen ∙ task_of) in (
      ap (λ (a : Task). a.is_literal) same,
      nothing-seen t.arguments (ap (λ (a : Task). a.given) same),
    )

pub empty-read : (remaining : Option (List ℕ)) (items slice text : List ℕ) → remaining ≡ Some []
    → IfSome remaining (λ input. items ≡ input)
    → slice ≡ items → text ≡ slice → text ≡ []
empty-read remaining items slice text known held sliced read = let none : items
    ≡ [] = rw known at held in read ∙ sliced ∙ none

pub nothing_found : (o : Option LiteralText) (x : LiteralText)
    (bs literal : List ℕ) → bs ≡ [] → length literal ≤ length bs
    → MatchOption o ((style : Option ℕ) (t : List ℕ) → IsLiteral style (chars literal) t → ⊥)
    (λ y. IsLiteral y.style (chars literal) (chars (string_bytes y.text)))
    → o ≡ Some x → ⊥
nothing_found None x bs literal e short found is = absurd (none-some x is)
nothing_found (Some y) x bs literal e short found is =
    empty-no_literal literal (nil_from_length literal (omega (arith, ap length e))) y.style
    (chars (string_bytes y.text)) found

-- the result of the program
pub empty-listed : (t : DeclaredTask) (x : Listing) (bs : List ℕ)
    → bs ≡ []
    → t.arguments ≡ None
    → (bs ≡ [] → t.is_literal ≡ true
    → ◌≡◌ {A = Result Listing RunFault} (Ok x) (Err NotLiteral))
    → (s : Source) × IsSourceOf t.is_literal (chars bs) s
    × IsListed (seen_task t) s (string_bytes x.lines, x.has_ends)
    → (t.is_literal ≡ false) × (string_bytes x.lines ≡ []) × (x.has_ends ≡ false)
empty-listed t x bs e bare refused found = by_literal t.is_literal refused found
  where
    by_literal : (literal : Bool)
        → (bs ≡ [] → literal ≡ true
        → ◌≡◌ {A = Result Listing RunFault} (Ok x) (Err NotLiteral))
        → (s : Source) × IsSourceOf literal (chars bs) s
        × IsListed (seen_task t) s (string_bytes x.lines, x.has_ends)
        → (literal ≡ false) × (string_bytes x.lines ≡ []) × (x.has_ends ≡ false)
    by_literal true refused found = absurd (let no_listing = refused e refl in cc)
    by_literal false refused (s, is, (r, report, given)) =
        let none : r ≡ no_entries = rw bare at report in
        let same = given ∙ ap (listing_of (seen_mode t.mode) s) none
        ∙ ap (λ s. listing_of (seen_mode t.mode) s no_entries) (is
        ∙ ap bare_source (chars-empty bs e))
        ∙ listed-nil (seen_mode t.mode) in
        (refl, ap (λ (x : List ℕ × Bool). x.0) same, ap (λ (x : List ℕ × Bool). x.1) same)

-- A call whose format string was not read is left for the reason that its reading tells.
use Rattle.std.proofs.Common.{◌≡◌, ◌+◌, ◌-◌, ◌++◌, ◌∷◌, ℕ, Bool, false, true, not, List, [], Option}
use Rattle.std.proofs.Common.{None, Some, IsTrue, inl, inr, ap, arith, drop, length, refl, subst}
use Rattle.std.proofs.Common.{length-drop, sym, take, ◌∙◌}
use Rattle.std.proofs.lemmas.List.{take_all}
use Rattle.std.proofs.Math.Seq.{drop-append_seam}
use Rattle.std.proofs.lemmas.Bool.{false≢true}
use Rattle.std.specs.Prelude.{Result, Ok, Err, chars, slice_get}
use Rattle.rust_trees.specs.Leaves.{Leaf}
use Rattle.format_calls.specs.declared.listing.Call.{Call}
use Rattle.format_calls.specs.declared.split.Argument.{Argument}
use Rattle.format_calls.specs.declared.table.Rule.{Rule}
use Rattle.format_calls.specs.declared.table.Rule.TheVariants.{Index, IndexByEdition, FirstLiteral}
use Rattle.format_calls.specs.declared.table.Rule.TheVariants.{Templates}
use Rattle.call_faults.specs.Arguments.{FormatArgument}
use Rattle.source_report.specs.declared.report.CallReading.{CallReading}
use Rattle.source_report.specs.declared.report.Finding.{Finding}
use Rattle.asm_lint.specs.Assembly.{reading_of}
use Rattle.asm_lint.specs.Literals.{without_crs}
use Rattle.source_lint.specs.CallLists.{Gives}
use Rattle.source_lint.specs.Readings.{Finds, Reads, ReadsAt, ReadsBy, ReadsLiteral, ReadsOne}
use Rattle.source_lint.specs.Readings.{ReadsUnless, Scope, arguments_before, index_or, name_at}
use Rattle.source_lint.specs.Readings.{newline_of, skipped_reading, start_of}
use Rattle.file_inlines.specs.CallInlines.{Inlines, InlinesAt, InlinesBy, InlinesLiteral}
use Rattle.file_inlines.specs.CallInlines.{InlinesOne, InlinesUnless, has_string, is_unread}
use Rattle.file_inlines.specs.declared.calls.CallInlining.TheVariants.{Unread}

-- A string that is read has one of two readings.
has-string : (counted : Bool) (q : CallReading) → IsTrue (not (has_string q))
    → q ≡ reading_of counted → ⊥
has-string true q n e = false≢true (subst (λ v. IsTrue (not (has_string v))) e n)
has-string false q n e = false≢true (subst (λ v. IsTrue (not (has_string v))) e n)

unread-literal : (is_new mixed : Bool) (rule : Rule) (w bs : List ℕ) (xs : List Leaf) (x : Leaf)
    (args : List Argument) (appended captures counted : Bool) (gs : List FormatArgument)
    (q : CallReading) (fs : List Finding) → IsTrue (not (has_string q))
    → ReadsLiteral (without_crs (chars x.text)) appended captures counted gs q fs
    → InlinesLiteral is_new mixed rule w bs xs x args counted (Unread q) []
unread-literal is_new mixed rule w bs xs x args appended captures counted gs q fs n (inl h) =
    inl (h.0, ap Unread h.1, refl)
unread-literal is_new mixed rule w bs xs x args appended captures counted gs q fs n (inr h) =
    let f : Finds captures counted (start_of appended h.0 (without_crs (chars x.text)) h.1) gs q fs
    = h.3 in
    absurd (has-string counted q n f.0)

unread-at : (is_new appended mixed : Bool) (bs : List ℕ) (xs : List Leaf) (c : Call)
    (args : List Argument) (n : ℕ) (q : CallReading) (fs : List Finding)
    → IsTrue (not (has_string q)) → ReadsAt is_new appended xs c args n q fs
    → InlinesAt is_new mixed bs xs c args n (Unread q) []
unread-at is_new appended mixed bs xs c args n q fs u h = record {
  string = h.string;
  is_string = h.is_string;
  literal = h.literal;
  is_literal = h.is_literal;
  trees = h.trees;
  end = h.end;
  are_up_to = h.are_up_to;
  inlines = unread-literal is_new mixed c.rule (name_at xs c.name) bs xs h.literal
      (arguments_before h.end (drop (n + 1) args)) _ _ _ _ q fs u h.reads;
}

unread-one : (rule : Rule) (is_new appended mixed : Bool) (bs : List ℕ) (xs : List Leaf) (c : Call)
    (args : List Argument) (n : ℕ) (q : CallReading) (fs : List Finding)
    → IsTrue (is_unread rule q) → ReadsOne rule is_new appended xs c args n q fs
    → InlinesOne rule is_new mixed bs xs c args n (Unread q) []
unread-one (Index m) is_new appended mixed bs xs c args n q fs u h =
    unread-at is_new appended mixed bs xs c args n q fs u h
unread-one (IndexByEdition m) is_new appended mixed bs xs c args n q fs u h =
    unread-at is_new appended mixed bs xs c args n q fs u h
unread-one FirstLiteral is_new appended mixed bs xs c args n q fs u h =
    unread-at is_new appended mixed bs xs c args n q fs u h
unread-one Templates is_new appended mixed bs xs c args n q fs u h = absurd (false≢true u)

unread-by : (is_new appended mixed : Bool) (bs : List ℕ) (xs : List Leaf) (c : Call)
    (args : List Argument) (o : Result ℕ CallReading) (q : CallReading) (fs : List Finding)
    → IsTrue (is_unread c.rule q) → ReadsBy is_new appended xs c args o q fs
    → InlinesBy is_new mixed bs xs c args o (Unread q) []
unread-by is_new appended mixed bs xs c args (Ok n) q fs u h =
    unread-one c.rule is_new appended mixed bs xs c args n q fs u h
unread-by is_new appended mixed bs xs c args (Err p) q fs u h = (ap Unread h.0, refl)

unread-unless : (o : Option CallReading) (is_new appended mixed : Bool) (bs : List ℕ)
    (xs : List Leaf) (c : Call) (q : CallReading) (fs : List Finding) → IsTrue (is_unread c.rule q)
    → ReadsUnless o is_new appended xs c q fs → InlinesUnless o is_new mixed bs xs c (Unread q) []
unread-unless (Some p) is_new appended mixed bs xs c q fs u h = (ap Unread h.0, refl)
unread-unless None is_new appended mixed bs xs c q fs u h = (
  h.0,
  h.1,
  unread-by is_new appended mixed bs xs c h.0 (index_or is_new xs c.rule h.0) q fs u h.2,
)

pub unread-call : (s : Scope) (is_new mixed : Bool) (xs : List Leaf) (c : Call) (q : CallReading)
    (fs : List Finding) → IsTrue (is_unread c.rule q) → Reads s is_new xs c q fs
    → Inlines s is_new mixed xs c (Unread q) []
unread-call s is_new mixed xs c q fs u h =
    unread-unless (skipped_reading s c.rule (slice_get xs c.name)) is_new
    (newline_of s (name_at xs c.name)) mixed s.text xs c q fs u h

-- The first of some readings is that of the first call, and the others are those of the others.
pub gives-first : (P : Call → CallReading → List Finding → Type 0) (all rest : List Call) (c : Call)
    (ls more : List CallReading) (q : CallReading) (fs : List Finding) → all ≡ c ∷ rest
    → ls ≡ q ∷ more → Gives P all ls fs
    → (first others : List Finding) × P c q first × Gives P rest more others
gives-first P all rest c ls more q fs e f h =
    let g = subst (λ v. Gives P v (q ∷ more) fs) e (subst (λ v. Gives P all v fs) f h) in (
      g.2,
      g.3,
      subst (λ v. P c v g.2) (sym (front-same q g.0 more g.1 g.4)) g.6,
      subst (λ v. Gives P rest v g.3) (sym (ap (drop 1) g.4)) g.7,
    )
  where
    head_or : CallReading → List CallReading → CallReading
    head_or p [] = p
    head_or p (r ∷ rs) = r

    front-same : (p r : CallReading) (ps rs : List CallReading) → ◌≡◌ {A = List CallReading}
        (p ∷ ps) (r ∷ rs) → p ≡ r
    front-same p r ps rs i = ap (head_or p) i

-- There is a reading for each call.
pub gives-one : (P : Call → CallReading → List Finding → Type 0) (all rest : List Call) (c : Call)
    (ls : List CallReading) (fs : List Finding) → all ≡ c ∷ rest → ls ≡ [] → Gives P all ls fs → ⊥
gives-one P all rest c ls fs e f h =
    let g = subst (λ v. Gives P v [] fs) e (subst (λ v. Gives P all v fs) f h) in
    absurd-of g.0 g.1 g.4
  where
    absurd-of : (r : CallReading) (rs : List CallReading) → ◌≡◌ {A = List CallReading} [] (r ∷ rs)
        → ⊥
    absurd-of r rs i = cc i

-- The readings that were added after the first n ones.
pub gives-added : (P : Call → CallReading → List Finding → Type 0) (cs : List Call) (n : ℕ)
    (old new known : List CallReading) (xs ys : List Finding) → n ≡ length old → known ≡ new
    → (us : List CallReading) × (zs : List Finding) × (new ≡ old ++ us) × (ys ≡ xs ++ zs)
    × Gives P cs us zs
    → (zs : List Finding) × Gives P cs (take (length known - n) (drop n known)) zs
gives-added P cs n old new known xs ys e f h =
    let d = length-drop (length old) new in
    let t : take (length new - length old) (drop (length old) new) ≡ h.0 =
    take_all (length new - length old) (drop (length old) new) (omega (arith, d))
    ∙ (ap (drop (length old)) h.2 ∙ drop-append_seam old h.0) in (
      h.1,
      subst (λ v. Gives P cs (take (length v - n) (drop n v)) h.1) (sym f)
          (subst (λ v. Gives P cs (take (length new - v) (drop v new)) h.1) (sym e)
          (subst (λ v. Gives P cs v h.1) (sym t) h.4)),
    )

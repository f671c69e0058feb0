-- The reading of a call among other tokens.
use Rattle.std.proofs.Common.{◌≡◌, ◌<◌, ◌+◌, ◌∷◌, ◌||◌, [], ℕ, Bool, List, Option, None, Some, ap}
use Rattle.std.proofs.Common.{refl, sym, subst, ◌∙◌, length, arith, map}
use Rattle.std.specs.Prelude.{◌&&◌, Result, Ok, Err, is_some, not, option_map, slice_get}
use Rattle.std.specs.List.{AllByRecursion, list_any}
use Rattle.std.proofs.lemmas.Option.{slice_get-map}
use Rattle.rust_trees.specs.Leaves.{Leaf}
use Rattle.rust_trees.specs.Forests.{IsPair}
use Rattle.rust_trees.proofs.Growing.{pair-within}
use Rattle.format_calls.specs.Arguments.{AreArguments, tokens_of}
use Rattle.format_calls.specs.Extents.{AreUpTo}
use Rattle.format_calls.specs.Parts.{moved_call}
use Rattle.format_calls.specs.Strings.{format_string}
use Rattle.format_calls.specs.declared.listing.Call.{Call}
use Rattle.format_calls.specs.declared.split.Argument.{Argument}
use Rattle.format_calls.specs.declared.table.Rule.{Rule}
use Rattle.format_calls.specs.declared.table.Rule.TheVariants.{Index, IndexByEdition, FirstLiteral}
use Rattle.format_calls.specs.declared.table.Rule.TheVariants.{Templates}
use Rattle.source_report.specs.declared.report.CallReading.{CallReading}
use Rattle.source_report.specs.declared.report.Finding.{Finding}
use Rattle.source_lint.specs.FormWords.{TellsForms}
use Rattle.call_forms.specs.Expressions.{joined_operand}
use Rattle.call_forms.specs.Forms.{form_here}
use Rattle.source_lint.specs.Readings.{Reads, ReadsAt, ReadsBy, ReadsOne, ReadsUnless}
use Rattle.source_lint.specs.Readings.{captures_variables}
use Rattle.source_lint.specs.Readings.{ends_early}
use Rattle.source_lint.specs.Readings.{has_expressions, index_if, index_or, is_empty}
use Rattle.source_lint.specs.Readings.{lack_expression, name_at}
use Rattle.source_lint.specs.Readings.{Scope, name_of_leaf, newline_of, skipped_reading}
use Rattle.source_lint.proofs.Calling.{reads-by}
use Rattle.call_forms.proofs.Embedding.{Embeds}
use Rattle.source_lint.proofs.Merging.{Moves}
use Rattle.asm_lint.proofs.MovedAssembly.{asm-same}
use Rattle.call_forms.proofs.MovedArguments.{LiesIn, arguments-at, arguments-lie, counted-at}
use Rattle.call_forms.proofs.MovedArguments.{shifted, up-to-at}
use Rattle.call_forms.proofs.MovedForms.{form-same, parts-same, same-length}
use Rattle.asm_lint.proofs.MovedStrings.{lies-get, string-same}
use Rattle.source_lint.proofs.MovedGivens.{others-same}

-- The name of the macro is the same.
pub name-same : (xs ys : List Leaf) (g i : ℕ) → Embeds xs ys g → i < length xs
    → name_at ys (g + i) ≡ name_at xs i
name-same xs ys g i e h = ap (λ o. name_of_leaf o) (e.same i h)

at-same : (is_new appended : Bool) (xs ys : List Leaf) (g : ℕ) (c : Call) (bs : List Argument)
    (n : ℕ) (r : CallReading) (fs : List Finding) → Embeds xs ys g → IsPair xs (c.name + 2) c.close
    → AreArguments xs (c.name + 3) bs c.close → ReadsAt is_new appended xs c bs n r fs
    → ReadsAt is_new appended ys (moved_call g c) (map (shifted g) bs) n r fs
at-same is_new appended xs ys g c bs n r fs e p k h =
    let w = (pair-within xs (c.name + 2) c.close p).1 in
    let q = p.ends in
    let all = arguments-lie xs (c.name + 3) c.close bs k in
    let l : LiesIn (c.name + 3) c.close h.string =
    lies-get (c.name + 3) c.close n bs h.string all h.is_string in
    let s = l.starts in
    let t = l.stops in
    let name = name-same xs ys g c.name e (omega (arith, w, q)) in
    record {
      string = shifted g h.string;
      is_string = slice_get-map (shifted g) bs n ∙ ap (λ o. option_map (shifted g) o) h.is_string;
      literal = h.literal;
      is_literal = e.same h.string.start (omega (arith, t, w)) ∙ h.is_literal;
      trees = map (λ v. g + v) h.trees;
      end = g + h.end;
      are_up_to = let n : g + (h.string.start + 1) ≡ g + h.string.start + 1 = omega arith in
          subst (λ v. AreUpTo (ends_early c.rule) ys v (map (λ v. g + v) h.trees) (g + h.end)
          (g + c.close)) n
          (up-to-at (ends_early c.rule) xs ys g (c.name + 2) c.close (h.string.start + 1) h.end
          h.trees e p (omega (arith, s)) h.are_up_to);
      reads = reads-by _ _ _ _ _ _ _ _ _ r fs refl
          (ap (captures_variables is_new c.rule) (sym name))
          (ap not (sym (counted-at xs ys g (c.name + 2) c.close (h.string.start + 1) h.end h.trees e
          p h.are_up_to.within h.are_up_to.are_trees)))
          (sym (others-same xs ys g (c.name + 3) c.close h.end (n + 1) bs e w all)) h.reads;
    }

one-same : (rule : Rule) (is_new appended : Bool) (xs ys : List Leaf) (g : ℕ) (c : Call)
    (bs : List Argument) (n : ℕ) (r : CallReading) (fs : List Finding) → Embeds xs ys g
    → IsPair xs (c.name + 2) c.close → AreArguments xs (c.name + 3) bs c.close
    → ReadsOne rule is_new appended xs c bs n r fs
    → ReadsOne rule is_new appended ys (moved_call g c) (map (shifted g) bs) n r fs
one-same (Index m) is_new appended xs ys g c bs n r fs e p k h =
    at-same is_new appended xs ys g c bs n r fs e p k h
one-same (IndexByEdition m) is_new appended xs ys g c bs n r fs e p k h =
    at-same is_new appended xs ys g c bs n r fs e p k h
one-same FirstLiteral is_new appended xs ys g c bs n r fs e p k h =
    at-same is_new appended xs ys g c bs n r fs e p k h
one-same Templates is_new appended xs ys g c bs n r fs e p k h = asm-same xs ys g c bs r fs e p k h

by-same : (is_new appended : Bool) (xs ys : List Leaf) (g : ℕ) (c : Call) (bs : List Argument)
    (o : Result ℕ CallReading) (r : CallReading) (fs : List Finding) → Embeds xs ys g
    → IsPair xs (c.name + 2) c.close → AreArguments xs (c.name + 3) bs c.close
    → ReadsBy is_new appended xs c bs o r fs
    → ReadsBy is_new appended ys (moved_call g c) (map (shifted g) bs) o r fs
by-same is_new appended xs ys g c bs (Ok n) r fs e p k h =
    one-same c.rule is_new appended xs ys g c bs n r fs e p k h
by-same is_new appended xs ys g c bs (Err q) r fs e p k h =
    let w = (pair-within xs (c.name + 2) c.close p).1 in
    let s = p.ends in (
      h.0,
      subst (λ o. TellsForms o fs)
          (ap (λ v. form_here is_new v c.rule c.close bs (map (tokens_of xs) bs))
          (sym (name-same xs ys g c.name e (omega (arith, w, s))))
          ∙ sym (form-same is_new (name_at ys (g + c.name)) c.rule xs ys g (c.name + 3) c.close bs
          e w (arguments-lie xs (c.name + 3) c.close bs k)))
          h.1,
    )

empty-same : (g : ℕ) (bs : List Argument)
    → list_any is_empty (map (shifted g) bs) ≡ list_any is_empty bs
empty-same g [] = refl
empty-same g (b ∷ bs) =
    ap (λ t. t || list_any is_empty (map (shifted g) bs)) (same-length g b.start b.end)
    ∙ ap (λ t. is_empty b || t) (empty-same g bs)

-- The same argument is the format string.
pub index-same : (xs ys : List Leaf) (g from to : ℕ) (r : Rule) (bs : List Argument) (is_new : Bool)
    → Embeds xs ys g → to < length xs → AllByRecursion (λ a. LiesIn from to a) bs
    → index_or is_new ys r (map (shifted g) bs) ≡ index_or is_new xs r bs
index-same xs ys g from to r bs is_new e w l =
    ap (λ b. index_if (b || lack_expression r (map (tokens_of ys) (map (shifted g) bs)))
    (has_expressions r && list_any (λ p. is_some (joined_operand p))
    (map (tokens_of ys) (map (shifted g) bs)))
    (format_string ys r (map (shifted g) bs) is_new)) (empty-same g bs)
    ∙ (ap (λ ps. index_if (list_any is_empty bs || lack_expression r ps)
    (has_expressions r && list_any (λ p. is_some (joined_operand p)) ps)
    (format_string ys r (map (shifted g) bs) is_new)) (parts-same xs ys g from to bs e w l)
    ∙ ap (λ o. index_if (list_any is_empty bs || lack_expression r (map (tokens_of xs) bs))
    (has_expressions r && list_any (λ p. is_some (joined_operand p)) (map (tokens_of xs) bs)) o)
    (string-same xs ys g from to r bs is_new e w l))

unless-same : (o : Option CallReading) (is_new appended : Bool) (xs ys : List Leaf) (g : ℕ)
    (c : Call) (r : CallReading) (fs : List Finding) → Embeds xs ys g
    → IsPair xs (c.name + 2) c.close
    → ReadsUnless o is_new appended xs c r fs
    → ReadsUnless o is_new appended ys (moved_call g c) r fs
unless-same (Some q) is_new appended xs ys g c r fs e p h = h
unless-same None is_new appended xs ys g c r fs e p h =
    let w = (pair-within xs (c.name + 2) c.close p).1 in
    let n : g + (c.name + 3) ≡ g + c.name + 3 = omega arith in (
      map (shifted g) h.0,
      subst (λ v. AreArguments ys v (map (shifted g) h.0) (g + c.close)) n
          (arguments-at xs ys g (c.name + 2) c.close (c.name + 3) h.0 e p (omega arith) h.1),
      subst (λ v. ReadsBy is_new appended ys (moved_call g c) (map (shifted g) h.0) v r fs)
          (sym (index-same xs ys g (c.name + 3) c.close c.rule h.0 is_new e w
          (arguments-lie xs (c.name + 3) c.close h.0 h.1)))
          (by-same is_new appended xs ys g c h.0 (index_or is_new xs c.rule h.0) r fs e p h.1 h.2),
    )

-- The same is read, and the same is found.
reads-same : (s : Scope) (is_new : Bool) (xs ys : List Leaf) (g : ℕ) (c : Call)
    (r : CallReading) (fs : List Finding) → Embeds xs ys g → IsPair xs (c.name + 2) c.close
    → Reads s is_new xs c r fs → Reads s is_new ys (moved_call g c) r fs
reads-same s is_new xs ys g c r fs e p h =
    let w = (pair-within xs (c.name + 2) c.close p).1 in
    let q = p.ends in
    subst (λ o. ReadsUnless (skipped_reading s c.rule o) is_new (newline_of s (name_of_leaf o)) ys
    (moved_call g c) r fs)
    (sym (e.same c.name (omega (arith, w, q))))
    (unless-same (skipped_reading s c.rule (slice_get xs c.name)) is_new
    (newline_of s (name_at xs c.name)) xs ys g c r fs e p h)

pub reads-move : (s : Scope) (is_new : Bool) → Moves (Reads s is_new)
reads-move s is_new = record {
  moves = λ xs ys g c r fs e p h. reads-same s is_new xs ys g c r fs e p h;
}

-- The templates and operands of a call among other tokens.
use Rattle.std.proofs.Common.{◌≡◌, ◌<◌, ◌≤◌, ◌+◌, ◌⊎◌, ◌&&◌, ℕ, zero, suc, Bool, true, false}
use Rattle.std.proofs.Common.{List, [], ◌∷◌, Option, Some, None, inl, inr, refl, ap, sym, subst}
use Rattle.std.proofs.Common.{◌∙◌, length, arith, map, drop, take, cond}
use Rattle.std.specs.Prelude.{nat_lt}
use Rattle.std.proofs.lemmas.Bool.{cases_lt, cond-false, le-ltb}
use Rattle.std.specs.Prelude.{◌||◌, not, slice_get, if◌then◌else◌}
use Rattle.std.specs.List.{AllByRecursion, cons_option, list_any}
use Rattle.std.proofs.lemmas.List.{drop-map, take-map}
use Rattle.rust_trees.specs.Leaves.{Leaf}
use Rattle.rust_trees.specs.Forests.{IsPair}
use Rattle.rust_trees.proofs.Growing.{pair-within}
use Rattle.format_calls.specs.declared.split.Argument.{Argument}
use Rattle.format_calls.specs.declared.assembly.AsmPart.{AsmPart}
use Rattle.format_calls.specs.declared.assembly.AsmPart.TheVariants.{Operand as OperandPart, Raw}
use Rattle.format_calls.specs.declared.assembly.AsmPart.TheVariants.{Register as RegisterPart}
use Rattle.format_calls.specs.declared.assembly.AsmPart.TheVariants.{Setting, Unknown}
use Rattle.format_calls.specs.declared.listing.Call.{Call}
use Rattle.format_calls.specs.Arguments.{AreArguments}
use Rattle.format_calls.specs.Extents.{AreTrees, is_uncounted}
use Rattle.format_calls.specs.Assembly.{asm_part, has_raw, part_of}
use Rattle.format_calls.specs.Assembly.{template_count, token_in, value_start}
use Rattle.format_calls.specs.Parts.{moved_call}
use Rattle.format_calls.specs.Strings.{is_text}
use Rattle.asm_faults.specs.Operands.{Operand}
use Rattle.asm_faults.specs.Templates.{Template}
use Rattle.asm_lint.specs.Assembly.{AreTemplates, HaveNoText}
use Rattle.asm_lint.specs.Assembly.{ReadsLiterals, ReadsTemplates, are_operands, are_raw}
use Rattle.asm_lint.specs.Assembly.{is_raw_part, is_unknown, is_unknown_part, operand_of}
use Rattle.asm_lint.specs.Assembly.{named_operand, operands}
use Rattle.source_report.specs.declared.report.CallReading.{CallReading}
use Rattle.source_report.specs.declared.report.Finding.{Finding}
use Rattle.call_forms.proofs.Embedding.{Embeds}
use Rattle.call_forms.proofs.MovedArguments.{LiesIn, arguments-lie, counted-at, less-same}
use Rattle.call_forms.proofs.MovedArguments.{shifted, trees-at}
use Rattle.call_forms.proofs.MovedForms.{tokens-same}
use Rattle.asm_lint.proofs.MovedStrings.{name-same, text-same}

token-same : (xs ys : List Leaf) (g i n from to : ℕ) (a : Argument) → Embeds xs ys g
    → to < length xs → LiesIn from to a → n ≡ g + i
    → token_in ys (shifted g a) n ≡ token_in xs a i
token-same xs ys g i n from to a e h l k =
    ap (λ m. token_in ys (shifted g a) m) k
    ∙ (ap (λ b. if b then slice_get ys (g + i) else None) (less-same g i a.end)
    ∙ by_place (cases_lt i a.end))
  where
    by_place : (i < a.end) ⊎ (a.end ≤ i)
        → cond (nat_lt i a.end) (slice_get ys (g + i)) None
        ≡ cond (nat_lt i a.end) (slice_get xs i) None
    by_place (inl m) =
        let s = l.ends in
        ap (λ o. cond (nat_lt i a.end) o None) (e.same i (omega (arith, h, s, m)))
    by_place (inr m) = let f = le-ltb i a.end m in
        cond-false (nat_lt i a.end) (slice_get ys (g + i)) None f
        ∙ sym (cond-false (nat_lt i a.end) (slice_get xs i) None f)

value-same : (g : ℕ) (a : Argument) → value_start (shifted g a) ≡ g + value_start a
value-same g a = by_name a.is_named
  where
    by_name : (b : Bool) → cond b (g + a.start + 2) (g + a.start)
        ≡ g + cond b (a.start + 2) a.start
    by_name true = omega arith
    by_name false = refl

part-of : (b p q : Bool) (o m n s t u : Option Leaf) → p ≡ q → o ≡ s → m ≡ t → n ≡ u
    → part_of b p o m n ≡ part_of b q s t u
part-of b p q o m n s t u e f h k =
    ap (λ v. part_of b v o m n) e ∙ (ap (λ v. part_of b q v m n) f
    ∙ (ap (λ v. part_of b q s v n) h ∙ ap (λ v. part_of b q s t v) k))

-- An argument is the same operand or option.
part-same : (xs ys : List Leaf) (g from to : ℕ) (a : Argument) → Embeds xs ys g → to < length xs
    → LiesIn from to a → asm_part ys (shifted g a) ≡ asm_part xs a
part-same xs ys g from to a e h l =
    let v = value-same g a in
    part-of a.is_named _ _ _ _ _ _ _ _
    (ap has_raw (tokens-same xs ys g from to a e h l))
    (token-same xs ys g (value_start a) _ from to a e h l v)
    (token-same xs ys g (value_start a + 1) _ from to a e h l (omega (arith, v)))
    (token-same xs ys g (value_start a + 2) _ from to a e h l (omega (arith, v)))

operand-same : (xs ys : List Leaf) (g from to : ℕ) (a : Argument) → Embeds xs ys g
    → to < length xs → LiesIn from to a
    → operand_of ys (shifted g a) (asm_part ys (shifted g a)) ≡ operand_of xs a (asm_part xs a)
operand-same xs ys g from to a e h l =
    ap (λ p. operand_of ys (shifted g a) p) (part-same xs ys g from to a e h l)
    ∙ by_part (asm_part xs a)
  where
    by_part : (p : AsmPart) → operand_of ys (shifted g a) p ≡ operand_of xs a p
    by_part OperandPart = ap (λ n. Some (named_operand n)) (name-same xs ys g from to a e h l)
    by_part RegisterPart = refl
    by_part Raw = refl
    by_part Setting = refl
    by_part Unknown = refl

operands-same : (xs ys : List Leaf) (g from to : ℕ) (bs : List Argument) → Embeds xs ys g
    → to < length xs → AllByRecursion (λ a. LiesIn from to a) bs
    → operands ys (map (shifted g) bs) ≡ operands xs bs
operands-same xs ys g from to [] e h l = refl
operands-same xs ys g from to (a ∷ bs) e h l =
    ap (λ o. cons_option o (operands ys (map (shifted g) bs)))
    (operand-same xs ys g from to a e h l.0)
    ∙ ap (λ os. cons_option (operand_of xs a (asm_part xs a)) os)
    (operands-same xs ys g from to bs e h l.1)

any-same : (f : AsmPart → Bool) (xs ys : List Leaf) (g from to : ℕ) (bs : List Argument)
    → Embeds xs ys g → to < length xs → AllByRecursion (λ a. LiesIn from to a) bs
    → list_any (λ a. f (asm_part ys a)) (map (shifted g) bs)
    ≡ list_any (λ a. f (asm_part xs a)) bs
any-same f xs ys g from to [] e h l = refl
any-same f xs ys g from to (a ∷ bs) e h l =
    ap (λ p. f p || list_any (λ a. f (asm_part ys a)) (map (shifted g) bs))
    (part-same xs ys g from to a e h l.0)
    ∙ ap (λ b. f (asm_part xs a) || b) (any-same f xs ys g from to bs e h l.1)

-- The templates are the same.
templates-same : (xs ys : List Leaf) (g from to : ℕ) (bs : List Argument) (ts : List Template)
    → Embeds xs ys g → to < length xs → AllByRecursion (λ a. LiesIn from to a) bs
    → AreTemplates xs bs ts → AreTemplates ys (map (shifted g) bs) ts
templates-same xs ys g from to [] [] e h l k = k
templates-same xs ys g from to [] (t ∷ ts) e h l k = absurd k
templates-same xs ys g from to (a ∷ bs) [] e h l k = absurd k
templates-same xs ys g from to (a ∷ bs) (t ∷ ts) e h l k = (
  record {
    literal = k.0.literal;
    is_there = let s = l.0.stops in e.same a.start (omega (arith, h, s)) ∙ k.0.is_there;
    is_literal = k.0.is_literal;
    snippet = k.0.snippet;
  },
  templates-same xs ys g from to bs ts e h l.1 k.1,
)

no-text-same : (xs ys : List Leaf) (g from to : ℕ) (bs : List Argument) → Embeds xs ys g
    → to < length xs → AllByRecursion (λ a. LiesIn from to a) bs → HaveNoText xs bs
    → HaveNoText ys (map (shifted g) bs)
no-text-same xs ys g from to [] e h l k = absurd k
no-text-same xs ys g from to (a ∷ bs) e h l (inl k) =
    let s = l.0.stops in inl (k.0, e.same a.start (omega (arith, h, s)) ∙ k.1, k.2)
no-text-same xs ys g from to (a ∷ bs) e h l (inr k) =
    inr (no-text-same xs ys g from to bs e h l.1 k)

literals-same : (xs ys : List Leaf) (g from to : ℕ) (bs : List Argument) (raw counted : Bool)
    (os : List Operand) (r : CallReading) (fs : List Finding) → Embeds xs ys g → to < length xs
    → AllByRecursion (λ a. LiesIn from to a) bs → ReadsLiterals xs bs raw counted os r fs
    → ReadsLiterals ys (map (shifted g) bs) raw counted os r fs
literals-same xs ys g from to bs raw counted os r fs e h l (inl k) =
    inl (no-text-same xs ys g from to bs e h l k.0, k.1, k.2)
literals-same xs ys g from to bs raw counted os r fs e h l (inr k) =
    inr (k.0, templates-same xs ys g from to bs k.0 e h l k.1, k.2)

count-same : (xs ys : List Leaf) (g from to : ℕ) (bs : List Argument) → Embeds xs ys g
    → to < length xs → AllByRecursion (λ a. LiesIn from to a) bs
    → template_count ys (map (shifted g) bs) ≡ template_count xs bs
count-same xs ys g from to [] e h l = refl
count-same xs ys g from to (a ∷ bs) e h l =
    ap (λ t. cond t (1 + template_count ys (map (shifted g) bs)) 0)
    (text-same xs ys g from to a e h l.0)
    ∙ ap (λ n. cond (is_text xs a) (1 + n) 0) (count-same xs ys g from to bs e h l.1)

pub all-front : {A : Type 0} (P : A → Type 0) (n : ℕ) (xs : List A) → AllByRecursion P xs
    → AllByRecursion P (take n xs)
all-front P zero xs l = tt
all-front P (suc n) [] l = tt
all-front P (suc n) (x ∷ xs) l = (l.0, all-front P n xs l.1)

pub all-rest : {A : Type 0} (P : A → Type 0) (n : ℕ) (xs : List A) → AllByRecursion P xs
    → AllByRecursion P (drop n xs)
all-rest P zero xs l = l
all-rest P (suc n) [] l = tt
all-rest P (suc n) (x ∷ xs) l = all-rest P n xs l.1

pub reads-as : (xs : List Leaf) (bs ds : List Argument) (a b p q : Bool) (os us : List Operand)
    (r : CallReading) (fs : List Finding) → bs ≡ ds → a ≡ b → p ≡ q → os ≡ us
    → ReadsLiterals xs bs a p os r fs → ReadsLiterals xs ds b q us r fs
reads-as xs bs ds a b p q os us r fs e f h k l =
    subst (λ (v : List Argument). ReadsLiterals xs v b q us r fs) e
    (subst (λ v. ReadsLiterals xs bs v q us r fs) f
    (subst (λ v. ReadsLiterals xs bs a v us r fs) h
    (subst (λ (v : List Operand). ReadsLiterals xs bs a p v r fs) k l)))

-- The same is read of a call of a macro for inline assembly.
pub asm-same : (xs ys : List Leaf) (g : ℕ) (c : Call) (bs : List Argument) (r : CallReading)
    (fs : List Finding) → Embeds xs ys g → IsPair xs (c.name + 2) c.close
    → AreArguments xs (c.name + 3) bs c.close
    → ReadsTemplates xs c bs (template_count xs bs) r fs
    → ReadsTemplates ys (moved_call g c) (map (shifted g) bs)
    (template_count ys (map (shifted g) bs))
    r fs
asm-same xs ys g c bs r fs e p k h =
    let w = (pair-within xs (c.name + 2) c.close p).1 in
    let n = template_count xs bs in
    let all = arguments-lie xs (c.name + 3) c.close bs k in
    let front = all-front (λ a. LiesIn (c.name + 3) c.close a) n bs all in
    let rest = all-rest (λ a. LiesIn (c.name + 3) c.close a) n bs all in
    let count = count-same xs ys g (c.name + 3) c.close bs e w all in
    let first : map (shifted g) (take n bs)
    ≡ take (template_count ys (map (shifted g) bs)) (map (shifted g) bs)
    = sym (take-map (shifted g) n bs) ∙ ap (λ m. take m (map (shifted g) bs)) (sym count) in
    let others : map (shifted g) (drop n bs)
    ≡ drop (template_count ys (map (shifted g) bs)) (map (shifted g) bs)
    = sym (drop-map (shifted g) n bs) ∙ ap (λ m. drop m (map (shifted g) bs)) (sym count) in
    let o : g + (c.name + 3) ≡ g + c.name + 3 = omega arith in
    record {
      trees = map (λ t. g + t) h.trees;
      are_trees = subst (λ v. AreTrees ys v (map (λ t. g + t) h.trees) (g + c.close)) o
          (trees-at xs ys g (c.name + 2) c.close (c.name + 3) c.close h.trees e p (omega arith)
          (omega arith) h.are_trees);
      reads = reads-as ys _ _ _ _ _ _ _ _ r fs first
          (sym (any-same is_raw_part xs ys g (c.name + 3) c.close (drop n bs) e w rest)
          ∙ ap (λ v. are_raw ys v) others)
          (sym (ap (λ b. not b && not (list_any (is_uncounted ys) (map (λ t. g + t) h.trees)))
          (any-same is_unknown_part xs ys g (c.name + 3) c.close (drop n bs) e w rest)
          ∙ ap (λ b. not (is_unknown xs (drop n bs)) && not b)
          (counted-at xs ys g (c.name + 2) c.close (c.name + 3) c.close h.trees e p (omega arith)
          h.are_trees))
          ∙ ap (λ v. are_operands ys v (map (λ t. g + t) h.trees)) others)
          (sym (operands-same xs ys g (c.name + 3) c.close (drop n bs) e w rest)
          ∙ ap (λ v. operands ys v) others)
          (literals-same xs ys g (c.name + 3) c.close (take n bs) (are_raw xs (drop n bs))
          (are_operands xs (drop n bs) h.trees) (operands xs (drop n bs)) r fs e w front h.reads);
    }

-- Arguments that are gone through, one after the other.
use Rattle.std.proofs.Common.{◌≡◌, ◌<◌, ◌+◌, ◌-◌, ◌++◌, ◌∙◌, ◌⊎◌, ℕ, Bool, true, false, List, []}
use Rattle.std.proofs.Common.{◌∷◌, Some, inl, inr, subst, ap, arith, drop, get_or, length}
use Rattle.std.proofs.Common.{length-drop, map, refl, sym, take}
use Rattle.std.specs.Prelude.{◌||◌, IsTrue, option_map, slice_get}
use Rattle.std.specs.List.{AllByRecursion, list_any}
use Rattle.std.proofs.lemmas.Bool.{true≢false}
use Rattle.std.proofs.lemmas.List.{append_assoc, drop_more, length-map, take_all}
use Rattle.std.proofs.lemmas.List.Elements.{filter_map-append}
use Rattle.std.proofs.lemmas.Option.{slice_get-get_or, slice_get-map}
use Rattle.rust_trees.specs.Leaves.{Leaf}
use Rattle.format_calls.specs.Assembly.{asm_part}
use Rattle.format_calls.specs.Extents.{AreTrees, AreUpTo, is_stop}
use Rattle.format_calls.specs.declared.split.Argument.{Argument}
use Rattle.asm_faults.specs.Operands.{Operand}
use Rattle.asm_lint.specs.Assembly.{operand_of, operands}
use Rattle.call_forms.proofs.MovedArguments.{LiesIn}

-- The token of an index is there.
pub leaf-there : {A B : Type 0} (f : A → B) (xs : List A) (i : ℕ) (d : A) → i < length xs
    → slice_get (map f xs) i ≡ Some (f (get_or xs i d))
leaf-there f xs i d h =
    slice_get-map f xs i ∙ ap (λ o. option_map f o) (slice_get-get_or xs i d h)

or-join : (a b c : Bool) → ((a || b) || c) ≡ (a || (b || c))
or-join true b c = refl
or-join false b c = refl

-- A property of an argument so far or of one that is left, with one argument more.
pub any-step : (p : Argument → Bool) (all : List Argument) (i : ℕ) (d : Argument)
    (old new w : Bool) → i < length all → (old || list_any p (drop i all)) ≡ w
    → new ≡ (old || p (get_or all i d)) → (new || list_any p (drop (i + 1) all)) ≡ w
any-step p all i d old new w h e k =
    ap (λ v. v || list_any p (drop (i + 1) all)) k
    ∙ (or-join old (p (get_or all i d)) (list_any p (drop (i + 1) all))
    ∙ (ap (λ v. old || list_any p v) (sym (drop_more all i d h)) ∙ e))

-- The operands so far, and then those of the arguments that are left, with one argument more.
pub list-step : (xs : List Leaf) (all : List Argument) (i : ℕ) (d : Argument)
    (old new w : List Operand) → i < length all → old ++ operands xs (drop i all) ≡ w
    → new ≡ old ++ operands xs (get_or all i d ∷ [])
    → new ++ operands xs (drop (i + 1) all) ≡ w
list-step xs all i d old new w h e k =
    let x = get_or all i d in
    let rest = drop (i + 1) all in
    ap (λ v. v ++ operands xs rest) k
    ∙ (append_assoc old (operands xs (x ∷ [])) (operands xs rest)
    ∙ (ap (λ v. old ++ v)
    (sym (filter_map-append (λ a. operand_of xs a (asm_part xs a)) (x ∷ []) rest))
    ∙ (ap (λ v. old ++ operands xs v) (sym (drop_more all i d h)) ∙ e)))

-- The arguments from one on.
pub all-after : (args : List Argument) (n : ℕ)
    → take (length args - n) (drop n args) ≡ drop n args
all-after args n =
    let d = length-drop n args in take_all (length args - n) (drop n args) (omega (arith, d))

-- Arguments start at these tokens.
pub starts-in : (xs : List Leaf) (from to : ℕ) (bs : List Argument) → to < length xs
    → AllByRecursion (λ a. LiesIn from to a) bs
    → AllByRecursion (λ (a : Argument). a.start < length xs) bs
starts-in xs from to [] w l = tt
starts-in xs from to (a ∷ bs) w l =
    let s = l.0.stops in (omega (arith, s, w), starts-in xs from to bs w l.1)

-- The same of tokens that are seen as these.
pub starts-there : {A : Type 0} (f : A → Leaf) (ts : List A) (xs : List Leaf) (from to : ℕ)
    (bs : List Argument) → map f ts ≡ xs → to < length xs
    → AllByRecursion (λ a. LiesIn from to a) bs
    → AllByRecursion (λ (a : Argument). a.start < length ts) bs
starts-there f ts xs from to [] e w l = tt
starts-there f ts xs from to (a ∷ bs) e w l =
    let s = l.0.stops in
    let n = length-map ts f in
    let m = ap (λ (v : List Leaf). length v) e in
    (omega (arith, s, w, n, m), starts-there f ts xs from to bs e w l.1)

-- Arguments that no `;` ends are all up to the end of their list.
pub whole-trees : (xs : List Leaf) (from end close : ℕ) (ts : List ℕ)
    → AreUpTo false xs from ts end close → AreTrees xs from ts close
whole-trees xs from end close ts u = by_end u.ends
  where
    by_end : (end ≡ close) ⊎ IsTrue (is_stop false xs end) → AreTrees xs from ts close
    by_end (inl e) = subst (λ v. AreTrees xs from ts v) e u.are_trees
    by_end (inr h) = absurd (true≢false (sym h))

-- Edits that are made are in order.
use Rattle.std.proofs.Common.{◌≡◌, ◌≢◌, ℕ, ◌++◌, List, [], ◌∷◌, Option, None, Some, ◌∙◌, IfNone}
use Rattle.std.proofs.Common.{IfSome, ap, false, not, refl, sym, true}
use Rattle.std.proofs.lemmas.Bool.{cond_both, cond-true, and_parts}
use Rattle.std.specs.List.{filter_map, cons_option}
use Rattle.rustc_parse_format.specs.Types.{Mode}
use Rattle.rustc_parse_format.specs.World.{Place}
use Rattle.rustc_parse_format.specs.Faults.{Message}
use Rattle.fault_fixes.specs.Edits.{Edit, edit_of, is_after, is_empty, made_edits, AreInOrder}
use borrow.Author.Tests.{ltb-true, leb-true}

-- The edits that are made are in order.
pub made-order : (at : ℕ) (es : List Edit) → AreInOrder at (made_edits at es)
made-order at [] = tt
made-order at (e ∷ es) =
    cond_both (is_after at e) (e ∷ made_edits e.span.1 es) (made_edits at es) (AreInOrder at)
    (λ yes. let h = and_parts _ _ yes in
    (ltb-true _ _ h.0, leb-true _ _ h.1, made-order e.span.1 es))
    (λ no. made-order at es)

-- Where an edit is made, there is one.
no_nil : (found : List Edit) (e : Edit) (es : List Edit) → found ++ e ∷ es ≡ [] → ⊥
no_nil [] e es h = absurd (cc)
no_nil (x ∷ xs) e es h = absurd (cc)

pub some-made : (mode : Mode) (found : List Edit) (at : ℕ) (rest left : List (Message Place))
    (m : Message Place) (e : Edit) (all : List Edit)
    → found ++ made_edits at (filter_map (edit_of mode) rest) ≡ all → rest ≡ m ∷ left
    → edit_of mode m ≡ Some e → is_after at e ≡ true → all ≡ [] → ⊥
some-made mode found at rest left m e all h r s b n =
    let first : made_edits at (filter_map (edit_of mode) rest)
    ≡ e ∷ made_edits e.span.1 (filter_map (edit_of mode) left) =
    ap (λ ms. made_edits at (filter_map (edit_of mode) ms)) r
    ∙ ap (λ o. made_edits at (cons_option o (filter_map (edit_of mode) left))) s
    ∙ cond-true (is_after at e) _ _ b in
    no_nil found e (made_edits e.span.1 (filter_map (edit_of mode) left))
    (ap (λ l. found ++ l) (sym first) ∙ h ∙ n)

-- A property of each value is one of that of an option.
pub if_some : {A : Type 0} {P : A → Type 0} → ((a : A) → P a) → (o : Option A) → IfSome o P
if_some h (Some a) = h a
if_some h None = tt

pub if_none : {A P Q : Type 0} → (P → Q) → (o : Option A) → IfNone o P → IfNone o Q
if_none h (Some a) n = tt
if_none h None n = h n

-- Whether there are edits, by a test.
pub no-edits : (es : List Edit) → false ≡ not (is_empty es) → es ≡ []
no-edits [] h = refl
no-edits (e ∷ es) h = absurd (cc)

pub some-edits : (es : List Edit) → true ≡ not (is_empty es) → es ≢ []
some-edits [] h = λ e. absurd (cc)
some-edits (e ∷ es) h = λ n. absurd (cc)

-- Whether a call keeps its meaning.
use Rattle.std.proofs.Common.{◌≡◌, ◌↔◌, ◌++◌, ◌∙◌, ℕ, Bool, false, List, Option, None, Some, map}
use Rattle.std.proofs.Common.{sym}
use Rattle.std.proofs.Common.{ap, chars, length, refl, subst, IsUtf8}
use Rattle.std.specs.Prelude.{Result, Ok, Err, IfOk, IfErr, IsOk, IsTrue}
use Rattle.std.proofs.lemmas.Bool.{false≢true}
use Rattle.std.proofs.lemmas.Option.{none-some, same_Some}
use Rattle.rustc_parse_format.specs.Characters.{Text}
use Rattle.rustc_parse_format.specs.Literal.{IsLiteral, newline}
use Rattle.rustc_parse_format.specs.Types.{Piece, bare_piece}
use Rattle.rustc_parse_format.specs.World.{Place}
use Rattle.piece_listing.proofs.OneLiteral.{literal-only}
use Rattle.inlined_arguments.specs.Conditions.{Call, condition}
use Rattle.inlined_arguments.specs.Edits.{AreApart, Edit, MakeNoText, edited_text, new_edits}
use Rattle.inlined_arguments.specs.Inlining.{IsCleanAs, IsCleanCall, IsInlinable}
use Rattle.inlined_arguments.specs.Inlining.{IsInlined, IsUnchanged, KeepsMeaning, MeansSame}
use Rattle.inlined_arguments.specs.Inlining.{ReadsClean, call_edits, pieces}
use Rattle.inlined_arguments.specs.Values.{Slot, kept_slots, slot_argument, slots}
use Rattle.inlined_arguments.specs.Views.{seen_inlined}
use Rattle.inlined_arguments.specs.declared.call.InlinedCall.{InlinedCall as DeclaredInlinedCall}
use Rattle.inlined_arguments.specs.declared.call.Obstacle.{Obstacle}
use Rattle.inlined_arguments.specs.declared.call.Obstacle.TheVariants.{Uncounted, NoVariable, Mixed}
use Rattle.inlined_arguments.specs.declared.call.Obstacle.TheVariants.{CapturesNone, Alone}
use Rattle.inlined_arguments.specs.declared.call.Obstacle.TheVariants.{Comment, Faulty, NoLiteral}
use Rattle.inlined_arguments.specs.declared.call.Obstacle.TheVariants.{ConstForm, OtherMeaning}
use Rattle.inlined_arguments.proofs.CleanPieces.{bare-mean, same-pieces}

-- A test that fails, of what is not so.
pub never : {P : Type 0} → (P → ⊥) → IsTrue false ↔ P
never n = (λ e. absurd (false≢true e), λ p. absurd (n p))

-- The edits of a call with these slots and pieces.
pub edits-are : (c : Call) (ss : List Slot) (ps : List (Piece Place)) (es : List Edit)
    → es ≡ new_edits ss ps → ss ≡ slots c.arguments → ps ≡ pieces c → es ≡ call_edits c
edits-are c ss ps es e f g = e ∙ ap (λ (v : List Slot). new_edits v ps) f
    ∙ ap (λ (v : List (Piece Place)). new_edits (slots c.arguments) v) g

-- A call that was read and means the same with its new literal.
pub keeps : (c : Call) (literal new : List ℕ) (es : List Edit) (ps : List (Piece Place))
    → c.literal ≡ Some literal → es ≡ call_edits c → AreApart 0 es (length literal)
    → new ≡ edited_text 0 es literal → IsUtf8 new
    → ReadsClean c.captures_variables (map slot_argument (slots c.arguments)) c.text
    (map bare_piece ps) → MeansSame c ps (chars new) → KeepsMeaning c new
keeps c literal new es ps l e a f u r m = record {
  literal = literal;
  is_literal = l;
  are_apart = subst (λ (v : List Edit). AreApart 0 v (length literal)) e a;
  is_edited = f ∙ ap (λ (v : List Edit). edited_text 0 v literal) e;
  is_text = u;
  old = r.0;
  means_same = same-pieces c ps r.0.pieces (chars new) (bare-mean c ps r.0.pieces (r.1 r.0)) m;
}

-- A literal in the style of the old one makes one new call.
pub one-text : (c : Call) (ps : List (Piece Place)) (literal t : Text) (style : Option ℕ)
    → IsLiteral style literal t → style ≡ c.style
    → IsCleanAs c.captures_variables (slots c.arguments) ps (kept_slots (slots c.arguments))
    (t ++ newline c.appended_newline) ↔ MeansSame c ps literal
one-text c ps literal t style l e =
    let own = subst (λ (o : Option ℕ). IsLiteral o literal t) e l in (
      λ h. record { text = t; is_literal = own; new = h },
      λ h. subst (λ (u : Text). IsCleanAs c.captures_variables (slots c.arguments) ps
          (kept_slots (slots c.arguments)) (u ++ newline c.appended_newline))
          (literal-only c.style c.style literal h.text t h.is_literal own).1 h.new,
    )

-- The same test of a call in other words.
pub clean-there : {X : Type 0} (captures : Bool) (ss us : List Slot) (ps : List (Piece Place))
    (ks ls : List Slot) (t v : Text) → ss ≡ us → ks ≡ ls → t ≡ v
    → X ↔ IsCleanAs captures ss ps ks t → X ↔ IsCleanAs captures us ps ls v
clean-there {X} captures ss us ps ks ls t v e f g h =
    subst (λ (w : Text). X ↔ IsCleanAs captures us ps ls w) g
    (subst (λ (w : List Slot). X ↔ IsCleanAs captures us ps w t) f
    (subst (λ (w : List Slot). X ↔ IsCleanAs captures w ps ks t) e h))

-- A literal in another style makes none.
pub other-style : (c : Call) (ps : List (Piece Place)) (literal t : Text) (style : Option ℕ)
    → IsLiteral style literal t → (style ≡ c.style → ⊥) → MeansSame c ps literal → ⊥
other-style c ps literal t style l n h =
    n (literal-only style c.style literal t h.text l h.is_literal).0

-- The literal that a call has.
own-literal : (c : Call) (literal bs : List ℕ) → c.literal ≡ Some literal → (k : KeepsMeaning c bs)
    → k.literal ≡ literal
own-literal c literal bs l k = same_Some k.literal literal (sym k.is_literal ∙ l)

-- With edits that make no text it does not keep its meaning.
pub no-text : (c : Call) (literal : List ℕ) (es : List Edit) → c.literal ≡ Some literal
    → es ≡ call_edits c → MakeNoText literal es → (bs : List ℕ) → KeepsMeaning c bs → ⊥
no-text c literal es l e n bs k =
    let m : MakeNoText k.literal (call_edits c) =
    subst (λ (v : List ℕ). MakeNoText v (call_edits c)) (sym (own-literal c literal bs l k))
    (subst (λ (v : List Edit). MakeNoText literal v) e n) in
    m k.are_apart (subst (λ (v : List ℕ). IsUtf8 v) k.is_edited k.is_text)

-- Nor does it where its new literal means something else.
pub other-meaning : (c : Call) (literal new : List ℕ) (es : List Edit) (ps : List (Piece Place))
    → c.literal ≡ Some literal → es ≡ call_edits c → new ≡ edited_text 0 es literal
    → ((d : IsCleanCall c.captures_variables (slots c.arguments) c.text)
    → d.pieces ≡ map bare_piece ps)
    → (MeansSame c ps (chars new) → ⊥) → (bs : List ℕ) → KeepsMeaning c bs → ⊥
other-meaning c literal new es ps l e f p n bs k =
    let same : bs ≡ new = k.is_edited
    ∙ ap (λ (v : List ℕ). edited_text 0 (call_edits c) v) (own-literal c literal bs l k)
    ∙ ap (λ (v : List Edit). edited_text 0 v literal) (sym e) ∙ sym f in
    n (subst (λ (v : List ℕ). MeansSame c ps (chars v)) same
    (same-pieces c k.old.pieces ps (chars bs) (sym (bare-mean c ps k.old.pieces (p k.old)))
    k.means_same))

not-both : {A : Type 0} (o : Option A) (x : A) → o ≡ Some x → o ≡ None → ⊥
not-both o x e f = none-some x (sym f ∙ e)

-- A call that is left cannot be inlined.
left-not : (m : Bool) (c : Call) (l : Obstacle) → IsUnchanged m c l → IsInlinable m c → ⊥
left-not m c Uncounted h k = not-both _ Uncounted h k.0
left-not m c NoVariable h k = not-both _ NoVariable h k.0
left-not m c Mixed h k = not-both _ Mixed h k.0
left-not m c CapturesNone h k = not-both _ CapturesNone h k.0
left-not m c Alone h k = not-both _ Alone h k.0
left-not m c ConstForm h k = not-both _ ConstForm h k.0
left-not m c Comment h k = not-both _ Comment h k.0
left-not m c NoLiteral h k = not-both _ _ k.1.1.is_literal h.1
left-not m c Faulty h k = h.1 k.1.1.old
left-not m c OtherMeaning h k = h.2 k.1.0 k.1.1

-- A call is inlined exactly if it can be.
pub exactly : (m : Bool) (c : Call) (r : Result DeclaredInlinedCall Obstacle)
    → IfOk r (λ x. IsInlined m c (seen_inlined x)) → IfErr r (λ l. IsUnchanged m c l)
    → IsOk r ↔ IsInlinable m c
exactly m c (Ok x) i u = (λ _. (i.may_be, (_, i.keeps_meaning)), λ _. refl)
exactly m c (Err l) i u = never (left-not m c l u)

-- The same of a result that may have failed.
pub exactly-ok : {E : Type 0} (m : Bool) (c : Call)
    (o : Result (Result DeclaredInlinedCall Obstacle) E) → condition m c ≡ None
    → IfOk o (λ r. IfOk r (λ x. (n : Bool) → condition n c ≡ None
    → IsInlined n c (seen_inlined x)))
    → IfOk o (λ r. IfErr r (λ l. (n : Bool) → condition n c ≡ None → IsUnchanged n c l))
    → IfOk o (λ r. IsOk r ↔ IsInlinable m c)
exactly-ok m c (Ok (Ok x)) e i u = exactly m c (Ok x) (i m e) tt
exactly-ok m c (Ok (Err l)) e i u = exactly m c (Err l) tt (u m e)
exactly-ok m c (Err x) e i u = tt

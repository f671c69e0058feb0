-- The pieces of a clean call, and what it means.
use Rattle.std.proofs.Common.{◌≡◌, ◌∙◌, ◌↔◌, ℕ, Bool, List, [], ◌∷◌, Option, ap, refl, sym, subst}
use Rattle.std.proofs.Common.{Some, None, chars, map}
use Rattle.std.specs.Prelude.{option_map}
use denote.Ref.{Bor}
use Rattle.rustc_parse_format.specs.Call.{pieces_of}
use Rattle.rustc_parse_format.specs.Characters.{Text}
use Rattle.rustc_parse_format.specs.State.{calls, first_state, fresh_state}
use Rattle.rustc_parse_format.specs.Types.{Count, Is, Name, Param, Star, Implied, Format, Piece}
use Rattle.rustc_parse_format.specs.Types.{Lit, NextArgument, bare_piece, bare_count}
use Rattle.rustc_parse_format.specs.World.{Place, World, pieces_in}
use Rattle.rustc_parse_format.proofs.Grammar.BarePieces.{bare-pieces_in}
use Rattle.rustc_parse_format.proofs.Walking.FaultlessStates.{reads_walk}
use Rattle.placeholder_check.specs.Views.{text}
use Rattle.placeholder_check.specs.Uses.{position_use}
use Rattle.call_faults.specs.Arguments.{FormatArgument}
use Rattle.call_faults.specs.Clean.{IsClean}
use Rattle.inlined_arguments.specs.Conditions.{Call}
use Rattle.inlined_arguments.specs.Inlining.{IsCleanAs, MeansSame, ReadsClean}
use Rattle.inlined_arguments.specs.Meaning.{Part, ValuePart, flags, meaning, part}
use Rattle.inlined_arguments.specs.Values.{Amount, Slot, amount_of, slot_argument, slots, value_of}

-- The pieces of a clean call are those that were read, and no others.
pub clean-pieces : (captures : Bool) (gs : List FormatArgument) (t : Text) (w : World) (at : ℕ)
    (ps : List (Piece Place)) → ps ≡ pieces_in w (pieces_of (calls (fresh_state Format w t at)))
    → IsClean captures gs t → ReadsClean captures gs t (map bare_piece ps)
clean-pieces captures gs t w at ps e c = (
  c,
  λ d. sym (reads_walk Format w t at d.pieces d.are_read).1
      ∙ sym (bare-pieces_in w (pieces_of (calls (fresh_state Format w t at))))
      ∙ ap (λ (qs : List (Piece Place)). map bare_piece qs) (sym e),
)

-- Places have no meaning.
amount-bare : {A : Type 0} (ts : List Slot) (k : Count A)
    → amount_of ts (bare_count k) ≡ amount_of ts k
amount-bare ts (Is n) = refl
amount-bare ts (Name w s) = refl
amount-bare ts (Param n) = refl
amount-bare ts (Star n) = refl
amount-bare ts Implied = refl

part-bare : {A : Type 0} (ts : List Slot) (p : Piece A) → part ts (bare_piece p) ≡ part ts p
part-bare ts (Lit t) = refl
part-bare ts (NextArgument a) =
    let v = value_of ts (position_use a.position) in
    ap (λ (k : Amount). ValuePart v k (amount_of ts (bare_count a.format.precision))
    (flags a.format)) (amount-bare ts a.format.width)
    ∙ ap (λ (k : Amount). ValuePart v (amount_of ts a.format.width) k (flags a.format))
    (amount-bare ts a.format.precision)

meaning-bare : {A : Type 0} (ts : List Slot) (ps : List (Piece A))
    → meaning ts (map bare_piece ps) ≡ meaning ts ps
meaning-bare ts [] = refl
meaning-bare ts (p ∷ ps) = rw (part-bare ts p) (ap (λ (xs : List Part). part ts p ∷ xs)
    (meaning-bare ts ps))

-- A call that was read is clean and means the same exactly if its pieces do.
pub clean-as : (captures : Bool) (ss ts : List Slot) (gs : List FormatArgument) (t : Text)
    (ps qs : List (Piece Place)) → gs ≡ map slot_argument ts
    → ReadsClean captures gs t (map bare_piece qs)
    → (meaning ss ps ≡ meaning ts qs) ↔ IsCleanAs captures ss ps ts t
clean-as captures ss ts gs t ps qs e r =
    let new : ReadsClean captures (map slot_argument ts) t (map bare_piece qs) =
    subst (λ (hs : List FormatArgument). ReadsClean captures hs t (map bare_piece qs)) e r in
    let pieces-mean : (d : IsClean captures (map slot_argument ts) t)
    → meaning ts d.pieces ≡ meaning ts qs = λ d.
    ap (λ (xs : List (Piece (Unit {0}))). meaning ts xs) (new.1 d) ∙ meaning-bare ts qs in (
      λ m. record { clean = new.0; same = m ∙ sym (pieces-mean new.0) },
      λ h. h.same ∙ pieces-mean h.clean,
    )

-- A call with which something is wrong is not clean.
pub not-clean : (captures : Bool) (ss ts : List Slot) (gs : List FormatArgument) (t : Text)
    (ps : List (Piece Place)) → gs ≡ map slot_argument ts → (IsClean captures gs t → ⊥)
    → IsCleanAs captures ss ps ts t → ⊥
not-clean captures ss ts gs t ps e n h =
    n (subst (λ (hs : List FormatArgument). IsClean captures hs t) (sym e) h.clean)

-- A call keeps its meaning for all pieces that mean the same.
pub same-pieces : {A B : Type 0} (c : Call) (ps : List (Piece A)) (qs : List (Piece B))
    (literal : Text) → meaning (slots c.arguments) qs ≡ meaning (slots c.arguments) ps
    → MeansSame c ps literal → MeansSame c qs literal
same-pieces c ps qs literal e h = record {
  text = h.text;
  is_literal = h.is_literal;
  new = record { clean = h.new.clean; same = e ∙ h.new.same };
}

-- The places of pieces have no meaning.
pub bare-mean : (c : Call) (ps : List (Piece Place)) (qs : List (Piece (Unit {0})))
    → qs ≡ map bare_piece ps → meaning (slots c.arguments) qs ≡ meaning (slots c.arguments) ps
bare-mean c ps qs e = ap (λ (xs : List (Piece (Unit {0}))). meaning (slots c.arguments) xs) e
    ∙ meaning-bare (slots c.arguments) ps

-- A literal is seen in two ways, which are the same.
pub same-snippet : (t : Text) (style : Option ℕ) (o : Option (Bor (List ℕ))) (appended : Bool)
    → (let s = first_state Format t style (option_map text o) appended in
    pieces_in s.world (pieces_of (calls s)))
    ≡ (let s = first_state Format t style (option_map chars (option_map (λ b. b.now) o)) appended in
    pieces_in s.world (pieces_of (calls s)))
same-snippet t style None appended = refl
same-snippet t style (Some b) appended = refl

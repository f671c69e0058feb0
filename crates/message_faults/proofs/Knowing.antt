-- The names that mean something.
use Rattle.std.proofs.Common.{◌≡◌, ◌++◌, ◌∙◌, ◌||◌, ℕ, Bool, true, false, cond, List, [], ◌∷◌}
use Rattle.std.proofs.Common.{Option, Some, None, IsUtf8, ap, chars, codes, refl, sym}
use Rattle.std.specs.Prelude.{if◌then◌else◌, encode_utf8_all, option_map}
use Rattle.std.specs.BTreeSet.{BTreeSet, UpdatesBy}
use Rattle.std.specs.Cmp.Lexicographic.{slice_cmp}
use Rattle.std.specs.Ordering.{is_eq, nat_cmp}
use Rattle.std.specs.Str.{bytes_eq}
use denote.Ref.{Bor}
use Rattle.std.proofs.lemmas.Bool.Decides.{Decides-like, same_from_decides}
use Rattle.std.proofs.lemmas.Map.Text.{is_eq-slice_cmp}
use Rattle.std.proofs.lemmas.Slice.Eq.{bytes_eq-Decides}
use Rattle.std.proofs.lemmas.Str.{chars_from_encodes, encodes-chars}
use Rattle.rustc_parse_format.specs.Characters.{Text}
use Rattle.rustc_parse_format.specs.Faults.{Fault}
use Rattle.rustc_parse_format.specs.State.{State}
use Rattle.rustc_parse_format.specs.Types.{Piece, Lit, NextArgument}
use Rattle.rustc_parse_format.specs.Types.{Position, Implicit, Index, Named}
use Rattle.rustc_parse_format.specs.World.{Place}
use Rattle.placeholder_check.specs.Collection.{has_text}
use Rattle.text_faults.specs.declared.spots.Spot.{Spot}
use Rattle.message_faults.specs.Messages.{MessageFault, MissingParameter, faults_of, faults_or}
use Rattle.message_faults.specs.Messages.{is_parameter, piece_faults, pieces, position_faults}
use Rattle.message_faults.specs.Messages.{specifier_faults, spot_of}
use Rattle.message_faults.specs.Views.{HasParameters, known_names}

-- texts are the same exactly if their bytes are
same_text : (t : Text) (bs : List ℕ) → IsUtf8 bs → bytes_eq bs (encode_utf8_all t)
    ≡ bytes_eq t (chars bs)
same_text t bs u = same_from_decides {P = t ≡ chars bs} _ _
    (Decides-like (bytes_eq bs (encode_utf8_all t)) (λ e. chars_from_encodes t bs u (sym e))
    (λ e. sym (ap encode_utf8_all e ∙ encodes-chars bs u))
    (bytes_eq-Decides bs (encode_utf8_all t)))
    (bytes_eq-Decides t (chars bs))

cond-or : (a b : Bool) → cond a true b ≡ (a || b)
cond-or true b = refl
cond-or false b = refl

-- a set of names to which one is added
pub has_text-added : (old new : BTreeSet (Bor (List ℕ))) (w : Bor (List ℕ)) → IsUtf8 w.now
    → UpdatesBy (λ x y. slice_cmp nat_cmp x.now y.now) (λ k. slice_cmp nat_cmp w.now k.now) old new
    true → (t : Text) → has_text new t ≡ (bytes_eq t (chars w.now) || has_text old t)
has_text-added old new w u h t = h.0 (record { ref_ptr = (0, 0); now = encode_utf8_all t })
    ∙ cond-or (is_eq (slice_cmp nat_cmp w.now (encode_utf8_all t))) (has_text old t)
    ∙ ap (λ b. b || has_text old t)
    (is_eq-slice_cmp w.now (encode_utf8_all t) ∙ same_text t w.now u)

-- tests that hold for the same names find the same faults
position-same : (f g : Text → Bool) → ((w : Text) → f w ≡ g w) → (s : Spot) (p : Position)
    → position_faults (Some f) s p ≡ position_faults (Some g) s p
position-same f g e s (Implicit n) = refl
position-same f g e s (Index n) = refl
position-same f g e s (Named w) =
    ap (λ (b : Bool). if b then [] else MissingParameter s w ∷ []) (e w)

piece-same : (f g : Text → Bool) → ((w : Text) → f w ≡ g w) → (b : Bool) (q : Piece Place)
    → piece_faults (Some f) b q ≡ piece_faults (Some g) b q
piece-same f g e b (Lit t) = refl
piece-same f g e b (NextArgument a) =
    ap (λ (xs : List MessageFault). specifier_faults b a.format.ty_span ++ xs)
    (position-same f g e (spot_of b a.position_span) a.position)

pieces-same : (f g : Text → Bool) → ((w : Text) → f w ≡ g w) → (b : Bool) (qs : List (Piece Place))
    → faults_of (Some f) b qs ≡ faults_of (Some g) b qs
pieces-same f g e b [] = refl
pieces-same f g e b (q ∷ qs) =
    ap (λ (xs : List MessageFault). xs ++ faults_of (Some f) b qs) (piece-same f g e b q)
    ∙ ap (λ (xs : List MessageFault). piece_faults (Some g) b q ++ xs) (pieces-same f g e b qs)

text-same : (f g : Text → Bool) → ((w : Text) → f w ≡ g w) → (s : State)
    (o : Option (Fault Place)) → faults_or (Some f) s o ≡ faults_or (Some g) s o
text-same f g e s None = pieces-same f g e s.world.has_source (pieces s)
text-same f g e s (Some x) = refl

pub same_faults : (ps : Option (List (List ℕ))) (ns : Option (Bor (BTreeSet (Bor (List ℕ)))))
    → HasParameters ps ns → (s : State) (o : Option (Fault Place))
    → faults_or (known_names ns) s o ≡ faults_or (option_map is_parameter ps) s o
same_faults None None h s o = refl
same_faults None (Some n) h s o = absurd h
same_faults (Some p) None h s o = absurd h
same_faults (Some p) (Some n) h s o = text-same _ (is_parameter p)
    (λ w. ap (λ (b : Bool). bytes_eq (encode_utf8_all w) (codes "Self") || b) (h w)) s o

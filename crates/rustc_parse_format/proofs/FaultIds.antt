-- Faults with the same id are of the same kind.
use Rattle.std.proofs.Common.{◌≡◌, ◌∙◌, ℕ, suc, List, [], ◌∷◌, ap, codes, refl, sym}
use Rattle.std.specs.Prelude.{bytes_eq, if◌then◌else◌}
use Rattle.rustc_parse_format.specs.FaultIds.{fault_id, kind}
use Rattle.rustc_parse_format.specs.Faults.{Fault, UnmatchedBrace, MissingBrace, FillBrace}
use Rattle.rustc_parse_format.specs.Faults.{Underscore, TooLarge, Unnamed, TextAfterColon}
use Rattle.rustc_parse_format.specs.Faults.{RawIdentifier, LateFlag, MissingColon, LateDebug}
use Rattle.rustc_parse_format.specs.Faults.{LateAlign, Grouping, DebugPrint, LateSign}
use Rattle.rustc_parse_format.specs.Faults.{FieldAccess, TupleIndex}

-- The ids in the order of the kinds.
ids : List (List ℕ)
ids = codes "unmatched-closing-brace" ∷ (codes "missing-closing-brace"
    ∷ (codes "closing-brace-as-fill" ∷ (codes "underscore-as-name" ∷ (codes "integer-too-large"
    ∷ (codes "unnamed-argument" ∷ (codes "text-after-colon" ∷ (codes "raw-identifier"
    ∷ (codes "flag-after-type" ∷ (codes "missing-colon" ∷ (codes "debug-before-colon"
    ∷ (codes "alignment-before-colon" ∷ (codes "numeric-grouping" ∷ (codes "debug-equals"
    ∷ (codes "sign-before-colon" ∷ (codes "field-access" ∷ (codes "tuple-index" ∷ []))))))))))))))))

-- How many texts of a list come before the first that is this one.
place : List ℕ → List (List ℕ) → ℕ
place u [] = 0
place u (v ∷ vs) = if bytes_eq u v then 0 else suc (place u vs)

-- So the id of a fault shows its kind.
shown : {A : Type 0} (f : Fault A) → place (fault_id f) ids ≡ kind f
unfolding ids place fault_id kind
shown (UnmatchedBrace s) = refl
shown (MissingBrace c s o) = refl
shown (FillBrace c s o) = refl
shown (Underscore s) = refl
shown (TooLarge ds s) = refl
shown (Unnamed s) = refl
shown (TextAfterColon s) = refl
shown (RawIdentifier s p) = refl
shown (LateFlag c s b) = refl
shown (MissingColon s) = refl
shown (LateDebug w s) = refl
shown (LateAlign c s) = refl
shown (Grouping s o) = refl
shown (DebugPrint s o) = refl
shown (LateSign s) = refl
shown (FieldAccess s) = refl
shown (TupleIndex s) = refl

pub one_kind : {A : Type 0} (f g : Fault A) → fault_id f ≡ fault_id g → kind f ≡ kind g
one_kind f g e = sym (shown f) ∙ ap (λ u. place u ids) e ∙ shown g

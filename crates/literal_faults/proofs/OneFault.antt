-- A text has at most one fault.
use Rattle.std.proofs.Common.{◌≡◌, ◌∷◌, [], refl, sym, ap, subst, ◌∙◌, arith, inl, inr}
use Rattle.std.proofs.lemmas.Option.{same_Some}
use Rattle.rustc_parse_format.specs.Characters.{Text, byte_length}
use Rattle.rust_tokens.proofs.Suffixes.{begins-once}
use Rattle.literal_faults.specs.declared.fault.LiteralFault.{LiteralFault}
use Rattle.literal_faults.specs.Stops.{StopsAt}
use Rattle.literal_faults.specs.Faults.{IsFault, IsStringFault, IsTokenFault, fault_rest}
use Rattle.literal_faults.specs.Faults.{stop_fault, token_fault}
use Rattle.literal_faults.proofs.Reading.{one-stop}

same-fault : (f g : LiteralFault) → f.kind ≡ g.kind → f.offset ≡ g.offset → f ≡ g
same-fault f g k o = rw (k, o) refl

same-string : (t : Text) (f g : LiteralFault) → IsStringFault t f → IsStringFault t g → f ≡ g
same-string t f g a b =
    let contents : a.content ≡ b.content = rest_after a.content b.content (sym a.opens ∙ b.opens) in
    let stops : a.stop ≡ b.stop = one-stop b.content a.stop b.stop
    (subst (λ x. StopsAt x a.stop) contents a.stops) b.stops in
    let kinds : f.kind ≡ g.kind =
    same_Some _ _ (sym a.is_kind ∙ (ap stop_fault stops ∙ b.is_kind)) in
    let rests : byte_length (fault_rest a.stop) ≡ byte_length (fault_rest b.stop) =
    ap (λ x. byte_length (fault_rest x)) stops in
    same-fault f g kinds (omega (arith, a.is_place, b.is_place, rests))
  where
    rest_after : (s t : Text) → 34 ∷ s ≡ 34 ∷ t → s ≡ t
    rest_after s t e = cc

same-token : (t : Text) (f g : LiteralFault) → IsTokenFault t f → IsTokenFault t g → f ≡ g
same-token t f g a b =
    a.is_fault ∙ (ap token_fault (begins-once a.token b.token t a.rest b.rest a.begins b.begins).0
    ∙ sym b.is_fault)

pub one-fault : (t : Text) (f g : LiteralFault) → IsFault t f → IsFault t g → f ≡ g
one-fault [] f g a b = a ∙ sym b
one-fault (c ∷ t) f g (inl a) (inl b) = same-string (c ∷ t) f g a.1 b.1
one-fault (c ∷ t) f g (inl a) (inr b) = absurd (b.0 a.0)
one-fault (c ∷ t) f g (inr a) (inl b) = absurd (a.0 b.0)
one-fault (c ∷ t) f g (inr a) (inr b) = same-token (c ∷ t) f g a.1 b.1

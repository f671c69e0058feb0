use Rattle.std.proofs.Common.{◌≡◌, ap, chars, [], ◌∷◌, ◌∙◌}
use Rattle.std.specs.Int.{from_bool}
use Rattle.std.proofs.lemmas.Result.{IfOk-weaker}
use Rattle.rustc_parse_format.specs.Characters.{byte_length}
use Rattle.rustc_parse_format.specs.Syntax.{align_part, alternate_part, fill_part, precision_part}
use Rattle.rustc_parse_format.specs.Syntax.{sign_part, type_part, width_part}
use Rattle.rustc_parse_format.specs.Types.{Spec}
use Rattle.rustc_parse_format.specs.Values.{type_of}
use Rattle.format_tokens.specs.declared.kinds.Kind.TheVariants.{«Type» as TypeKind}
use Rattle.format_tokens.specs.Tokens.{word_kind}
use Rattle.rustc_parse_format.proofs.Grammar.PartLaws.{IsPart-moved, IsRow, only, opened}
use Rattle.format_tokens.proofs.Specifications.{alternate-width}
use Rattle.format_tokens.proofs.Taking.{as_kind, then}
use Rattle.format_tokens.proofs.parts.format.Goals as goal

pub returns : goal.returns
returns c = IfOk-weaker c.take-5.result _ _
    (λ rest taken p n r h v.
    let whole : IsRow (chars c.args.text.now) (fill_part p.fill ∷ align_part p.align
    ∷ sign_part p.sign ∷ alternate_part p.alternate ∷ width_part p.width
    ∷ precision_part p.precision ∷ type_part p.type ∷ []) r = record { part = h } in
    let f = opened whole in
    let a = opened f.others in
    let s = opened a.others in
    let m = opened s.others in
    let w = opened m.others in
    let q = opened w.others in
    let y = only q.others in
    let t1 = c.in_ok-align.ensures (fill_part p.fill).spelling f.seam f.first.whole
    (c.fill_width.ensures ∙ ap (λ (k : Spec (Unit {0})). byte_length (fill_part k.fill).spelling) v)
    in
    let t2 = c.in_ok-sign.ensures (align_part p.align).spelling a.seam (t1.leaves ∙ a.first.whole)
    (c.align_width.ensures ∙ ap (λ (k : Spec (Unit {0})). byte_length (align_part k.align).spelling)
    v) in
    let t3 = c.in_ok-alternate.ensures (sign_part p.sign).spelling s.seam (t2.leaves
    ∙ s.first.whole)
    (c.sign_width.ensures ∙ ap (λ (k : Spec (Unit {0})). byte_length (sign_part k.sign).spelling) v)
    in
    let t4 = c.in_ok-number.ensures (alternate_part p.alternate).spelling m.seam
    (t3.leaves ∙ m.first.whole)
    (c.from.ensures ∙ (ap (λ (k : Spec (Unit {0})). from_bool k.alternate) v
    ∙ alternate-width p.alternate)) in
    let t5 = c.in_ok-dot.ensures p.width w.seam (IsPart-moved _ _ _ _ t4.leaves w.first)
    (ap (λ (k : Spec (Unit {0})). k.zero_pad) v) (ap (λ (k : Spec (Unit {0})). k.width) v) in
    let t6 = c.in_ok-ty.ensures p.precision n q.seam (IsPart-moved _ _ _ _ t5.leaves q.first)
    (ap (λ (k : Spec (Unit {0})). k.precision) v) in
    let kind : c.word_kind.result ≡ word_kind TypeKind (type_of p.type) =
    c.word_kind.ensures ∙ ap (λ (k : Spec (Unit {0})). word_kind TypeKind k.ty) v in
    let t7 = as_kind (type_part p.type).spelling kind
    (taken (type_part p.type).spelling r (t6.leaves ∙ y.whole)
    (c.type_width.ensures p.type (ap (λ (k : Spec (Unit {0})). k.debug_hex) v)
    (ap (λ (k : Spec (Unit {0})). k.ty) v))) in
    then t1 (then t2 (then t3 (then t4 (then t5 (then t6 t7))))))
    c.take-5.ensures

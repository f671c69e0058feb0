use Rattle.std.proofs.Common.{◌-◌, ap, chars, [], ◌∷◌, ◌∙◌, codes, refl}
use Rattle.std.specs.Char.{is_whitespace}
use Rattle.std.specs.Int.{from_bool}
use Rattle.std.proofs.lemmas.Result.{IfOk-weaker}
use Rattle.rustc_parse_format.specs.Characters.{Text, after_white, byte_length, front}
use Rattle.rustc_parse_format.specs.Placeholder.{cut}
use Rattle.rustc_parse_format.specs.Views.{seen_mode}
use Rattle.rustc_parse_format.specs.Spelling.{run}
use Rattle.rustc_parse_format.specs.Syntax.{position_part, spec_part}
use Rattle.rustc_parse_format.specs.Types.{Argument}
use Rattle.rustc_parse_format.specs.Values.{number_after_spec}
use Rattle.rustc_parse_format.proofs.Grammar.PartCuts.{cut-sound}
use Rattle.rustc_parse_format.proofs.Grammar.PartFronts.{run-finds}
use Rattle.rustc_parse_format.proofs.Grammar.PartLaws.{IsPart-moved, IsRow, only, opened}
use Rattle.format_tokens.proofs.Calls.{ended, white-rest_after}
use Rattle.format_tokens.proofs.Taking.{then}
use Rattle.format_tokens.proofs.walk.placeholder.Goals as goal

pub returns : goal.returns
returns c = IfOk-weaker c.skip.result _ _
    (λ rest_after skipped n t e v i.
    let a = cut (seen_mode c.args.mode) t in
    let whole : IsRow t (position_part a.field.position ∷ run is_whitespace a.field.space
    ∷ spec_part (seen_mode c.args.mode) a.field.spec ∷ []) a.rest =
    record { part = cut-sound (seen_mode c.args.mode) t } in
    let p = opened whole in
    let w = opened p.others in
    let s = only w.others in
    let t1 = c.in_ok-field.ensures (codes "{") t e refl in
    let t2 = c.in_ok-space.ensures a.field.position (number_after_spec n a.field.spec) p.seam
    (IsPart-moved _ _ _ _ t1.leaves p.first) (ap (λ (k : Argument (Unit {0})). k.position) v) in
    let t3 = c.in_ok-spec.ensures a.field.space w.seam (t2.leaves ∙ w.first.whole)
    (c.run_width.ensures ∙ ap byte_length (ap (front is_whitespace) t2.leaves
    ∙ ap (λ x. x.0) ((run-finds is_whitespace).complete p.seam a.field.space w.seam w.first))) in
    let t4 = c.in_ok-last.ensures a.field.spec n a.rest (IsPart-moved _ _ _ _ t3.leaves s)
    (ap (λ (k : Argument (Unit {0})). k.format) v) in
    let t5 = c.in_ok-end.ensures (front is_whitespace a.rest) (after_white a.rest)
    (t4.leaves ∙ white-rest_after a.rest)
    (c.run_width-2.ensures ∙ ap (λ (u : Text). byte_length (front is_whitespace u)) t4.leaves) in
    ended (seen_mode c.args.mode) n (chars c.args.text.now) t _ _ _ _ _ _ _ _ _ _
    (then t1 (then (then t2 (then t3 t4)) t5)) (c.from.ensures ∙ ap from_bool c.begins.ensures)
    c.in_ok-rest.ensures
    (c.saturating_sub.ensures ∙ ap (λ k. k - c.args.rest_len) c.width_of.ensures)
    skipped i)
    c.skip.ensures

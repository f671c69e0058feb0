use Rattle.std.proofs.Common.{◌≡◌, ◌∙◌, ap, refl}
use Rattle.std.specs.Prelude.{min}
use Rattle.std.proofs.lemmas.Option.{slice_get_read}
use Rattle.format_calls.proofs.Searching.{found-in, found-nowhere}
use Rattle.format_calls.proofs.part.holds_target.Goals as goal

pub returns-in-Some : goal.returns-in-Some
returns-in-Some c = λ w xs h.
    let d = c.in-Some.ensures.lookup in
    found-in w xs c.args.last_targets.now c.args.argument.now c.min.result c.in-Some.last.now h
    (slice_get_read c.args.last_targets.now _ c.min.result c.in-Some.last.now refl d.3.0 d.1)
    (c.min.ensures ∙ ap (λ v. min c.args.argument.now.end v) c.saturating_sub-count.ensures)

pub returns-in-None : goal.returns-in-None
returns-in-None c = λ w xs h.
    found-nowhere w xs c.args.last_targets.now c.args.argument.now c.min.result h
    c.in-None.ensures.lookup.3
    (c.min.ensures ∙ ap (λ v. min c.args.argument.now.end v) c.saturating_sub-count.ensures)

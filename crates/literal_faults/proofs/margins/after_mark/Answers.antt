use Rattle.std.proofs.Common.{rules, IsUtf8, ap, sym, ◌∙◌, Some, chars}
use Rattle.literal_faults.proofs.Snippets.{empty-unmarked, marked, unmarked}
use Rattle.literal_faults.proofs.margins.after_mark.Goals as goal

pub returns-in_default : goal.returns-in_default
returns-in_default c = empty-unmarked _ c.utf8.file c.in_default.ensures.value

pub returns-then-c-eq65279 : goal.returns-then-c-eq65279
returns-then-c-eq65279 c =
    let u : IsUtf8 c.in-Some.rest.now = search rules in
    marked _ _ c.utf8.file u (ap (λ x. Some (x, chars c.in-Some.rest.now))
    (sym c.if-c-eq65279.true) ∙ c.in-Some.ensures.value)

pub returns-else-c-eq65279 : goal.returns-else-c-eq65279
returns-else-c-eq65279 c =
    unmarked _ _ _ c.utf8.file c.in-Some.ensures.value c.if-c-eq65279.false

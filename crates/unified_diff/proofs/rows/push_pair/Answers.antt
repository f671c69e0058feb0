use Rattle.std.proofs.Common.{◌≡◌, ◌-◌, ◌∙◌, ap, get_or, rules, take}
use Rattle.std.proofs.lemmas.List.{append-nil, append_assoc}
use Rattle.unified_diff.specs.Rows.{joined_text, new_text, old_text}
use Rattle.unified_diff.proofs.Texts.{joined-more, the_line}
use Rattle.unified_diff.proofs.rows.push_pair.Goals as goal

pub returns-in_ok-push_line-clause-old : goal.returns-in_ok-push_line-clause-old
returns-in_ok-push_line-clause-old c =
    let it = c.requires in
    let n = c.args.pair.old in
    let found : c.in-Some.line.now ≡ get_or c.args.old.now (n - 1) c.in-Some.line.now =
    search rules in
    rw (
      joined-more n c.args.old.now c.in-Some.line.now it.old_from it.old_within found,
      c.in_ok-push_line.ensures.old,
      c.in_ok-push_lines-2.ensures.old,
      c.in_ok-push_lines.ensures.old,
      c.front.ensures,
      append-nil,
    ) (append_assoc (old_text c.args.rows.now.items) (joined_text (take (n - 1) c.args.old.now))
    c.in-Some.line.now.now)

pub returns-in_ok-push_line-clause-new : goal.returns-in_ok-push_line-clause-new
returns-in_ok-push_line-clause-new c =
    let it = c.requires in
    let found : c.in-Some.line.now ≡ get_or c.args.old.now (c.args.pair.old - 1) c.in-Some.line.now
    = search rules in
    let text = ap (λ l. l.now) (the_line _ _ _ _ it.old_within found it.in_old) ∙ it.same in
    rw (
      joined-more c.args.pair.new c.args.new.now it.other it.new_from it.new_within it.in_new,
      c.in_ok-push_line.ensures.new,
      c.in_ok-push_lines-2.ensures.new,
      c.in_ok-push_lines.ensures.new,
      c.front-2.ensures,
      append-nil,
      text,
    ) (append_assoc (new_text c.args.rows.now.items)
    (joined_text (take (c.args.pair.new - 1) c.args.new.now)) it.other.now)

use Rattle.std.proofs.Common.{◌≡◌, ◌++◌, ◌∙◌, ap, refl, string_bytes}
use Rattle.std.proofs.lemmas.List.{append_assoc}
use Rattle.unified_diff.specs.Diffs.{AreHunks, IsDiff, head}
use Rattle.unified_diff.proofs.hunks.put_diff.Goals as goal

pub returns-clause-diff : goal.returns-clause-diff
returns-clause-diff c differs =
    let named = c.in_ok-put_head.ensures in
    let drawn = c.in_ok-put_hunks.ensures in
    let rows = c.in_ok-rows.rows.items in
    let text : string_bytes c.put_hunks.new.out
    ≡ string_bytes c.args.out.now ++ (head named.0 ++ drawn.0) =
    drawn.1 ∙ ap (λ t. t ++ drawn.0) named.1
    ∙ append_assoc (string_bytes c.args.out.now) (head named.0) drawn.0 in
    let hunks : AreHunks rows drawn.0 = rw (← c.as_slice.ensures.value) drawn.2 in
    let diff : IsDiff c.args.old.now c.args.new.now drawn.0 = record {
      rows = rows;
      old_text = c.in_ok-rows.ensures.old;
      new_text = c.in_ok-rows.ensures.new;
      hunks = hunks;
    } in (
      head named.0 ++ drawn.0,
      text,
      record {
        path = named.0;
        hunks = drawn.0;
        is_diff = diff;
        text = refl;
      },
    )

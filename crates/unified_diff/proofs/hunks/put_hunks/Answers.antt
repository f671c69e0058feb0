use Rattle.std.proofs.Common.{◌≡◌, ◌++◌, ◌+◌, [], arith, drop, refl, rules, string_bytes}
use Rattle.std.proofs.Common.{take}
use Rattle.std.proofs.lemmas.List.{append-nil}
use Rattle.unified_diff.specs.Diffs.{hunk_text, new_count, old_count, rows_of}
use Rattle.unified_diff.proofs.Counts.{new_count-none, old_count-none}
use Rattle.unified_diff.proofs.Parts.{SoFar-more, are_shared-take, hunks_text-none}
use Rattle.unified_diff.proofs.Parts.{leave_out_shared-none, new_fits, old_fits}
use Rattle.unified_diff.proofs.Parts.{rows_of-none}
use Rattle.unified_diff.proofs.hunks.put_hunks.Goals as goal

pub loop-change-init : goal.loop-change-init
loop-change-init c = record {
  parts = [];
  shared = leave_out_shared-none;
  rows = rw rows_of-none refl;
  old_is = rw (rows_of-none, old_count-none) refl;
  new_is = rw (rows_of-none, new_count-none) refl;
  text = rw (hunks_text-none, append-nil) refl;
}

pub numbers_after-start-requires-clause-old : goal.numbers_after-start-requires-clause-old
numbers_after-start-requires-clause-old c =
    let it = c.loop-change.invariant in
    let fits = old_fits (rows_of it.parts) c.loop-change.rest.now c.args.rows.now
    c.saturating_sub-gap.result 0 it.rows in
    rw (c.front.ensures, it.old_is) (omega arith)

pub numbers_after-start-requires-clause-new : goal.numbers_after-start-requires-clause-new
numbers_after-start-requires-clause-new c =
    let it = c.loop-change.invariant in
    let fits = new_fits (rows_of it.parts) c.loop-change.rest.now c.args.rows.now
    c.saturating_sub-gap.result 0 it.rows in
    rw (c.front.ensures, it.new_is) (omega arith)

pub put_hunk-requires-clause-old : goal.put_hunk-requires-clause-old
put_hunk-requires-clause-old c =
    let it = c.loop-change.invariant in
    let fits = old_fits (rows_of it.parts) c.loop-change.rest.now c.args.rows.now
    c.saturating_sub-gap.result c.hunk_len-length.result it.rows in
    rw (
      c.numbers_after-start.ensures.old,
      it.old_is,
      c.front-hunk.ensures,
      c.rest_after-others.ensures,
      c.front.ensures,
    ) (omega arith)

pub put_hunk-requires-clause-new : goal.put_hunk-requires-clause-new
put_hunk-requires-clause-new c =
    let it = c.loop-change.invariant in
    let fits = new_fits (rows_of it.parts) c.loop-change.rest.now c.args.rows.now
    c.saturating_sub-gap.result c.hunk_len-length.result it.rows in
    rw (
      c.numbers_after-start.ensures.new,
      it.new_is,
      c.front-hunk.ensures,
      c.rest_after-others.ensures,
      c.front.ensures,
    ) (omega arith)

pub numbers_after-numbers-requires-clause-old : goal.numbers_after-numbers-requires-clause-old
numbers_after-numbers-requires-clause-old c =
    let it = c.loop-change.invariant in
    let fits = old_fits (rows_of it.parts) c.loop-change.rest.now c.args.rows.now
    c.saturating_sub-gap.result c.hunk_len-length.result it.rows in
    rw (
      c.numbers_after-start.ensures.old,
      it.old_is,
      c.front-hunk.ensures,
      c.rest_after-others.ensures,
      c.front.ensures,
    ) (omega arith)

pub numbers_after-numbers-requires-clause-new : goal.numbers_after-numbers-requires-clause-new
numbers_after-numbers-requires-clause-new c =
    let it = c.loop-change.invariant in
    let fits = new_fits (rows_of it.parts) c.loop-change.rest.now c.args.rows.now
    c.saturating_sub-gap.result c.hunk_len-length.result it.rows in
    rw (
      c.numbers_after-start.ensures.new,
      it.new_is,
      c.front-hunk.ensures,
      c.rest_after-others.ensures,
      c.front.ensures,
    ) (omega arith)

pub loop-change-preserved : goal.loop-change-preserved
loop-change-preserved c =
    let n = c.saturating_sub-gap.result in
    let m = c.hunk_len-length.result in
    let rest = c.loop-change.rest.now in
    let text : string_bytes c.put_hunk.new.out ≡ string_bytes c.loop-change.out
    ++ hunk_text (c.loop-change.numbers.old + old_count (take n rest))
    (c.loop-change.numbers.new + new_count (take n rest)) (take m (drop n rest)) =
    rw (
      c.in_ok-put_hunk.ensures,
      c.numbers_after-start.ensures.old,
      c.numbers_after-start.ensures.new,
      c.front-hunk.ensures,
      c.rest_after-others.ensures,
      c.front.ensures,
    ) refl in
    rw (
      c.numbers_after-numbers.ensures.old,
      c.numbers_after-numbers.ensures.new,
      c.numbers_after-start.ensures.old,
      c.numbers_after-start.ensures.new,
      c.rest_after-rest.ensures,
      c.front-hunk.ensures,
      c.rest_after-others.ensures,
      c.front.ensures,
    )
    (SoFar-more c.args.rows.now rest c.loop-change.numbers.old c.loop-change.numbers.new n m
    (string_bytes c.args.out.now) (string_bytes c.loop-change.out) (string_bytes c.put_hunk.new.out)
    c.loop-change.invariant (are_shared-take n c.in-Some.change rest (search rules) (search rules))
    text)

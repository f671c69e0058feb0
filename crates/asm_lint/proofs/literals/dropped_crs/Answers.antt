use Rattle.std.proofs.Common.{◌≡◌, ◌∙◌, ◌+◌, ◌-◌, ap, arith, length, length-append, rules, sym}
use Rattle.std.specs.Char.{len_utf8}
use Rattle.asm_lint.proofs.DroppedCrs.{cr-found, cr-one, first-length, no-cr-found, no-crs}
use Rattle.asm_lint.proofs.literals.dropped_crs.Goals as goal

pub returns-then-not-contains : goal.returns-then-not-contains
returns-then-not-contains c =
    c.new-offsets.ensures.items
    ∙ sym (no-crs c.args.token.now c.utf8.token c.if-not-contains.ensures.cases)

pub loop-c-preserved-in_ok-push : goal.loop-c-preserved-in_ok-push
loop-c-preserved-in_ok-push c =
    let v = c.in-Some.ensures.value in
    let first : length c.loop-c.rest.now ≡ len_utf8 c.in-Some.c + length c.in-Some.more.now =
    first-length _ _ _ c.loop-c.invariant.is_text (search rules) v in
    let one : len_utf8 c.in-Some.c ≡ 1 = cr-one c.in-Some.c _ (sym c.if-is_dropped.ensures) in
    let at : c.saturating_sub.result
    ≡ (length c.args.token.now - length c.loop-c.rest.now) - length c.loop-c.offsets.items =
    search rules in
    let more : length c.push.new.self.items ≡ length c.loop-c.offsets.items + 1 =
    ap length c.in_ok-push.ensures.items ∙ length-append _ _ in
    record {
      is_text = search rules;
      few = omega (arith, first, one, more, c.loop-c.invariant.few);
      all = cr-found _ _ _ _ _ _ _ c.in-Some.c c.in_ok-push.ensures.items
          (omega (arith, first, one, more, at)) v (sym c.if-is_dropped.ensures)
          (rw at c.loop-c.invariant.all);
    }

pub loop-c-preserved : goal.loop-c-preserved
loop-c-preserved c =
    let v = c.in-Some.ensures.value in
    let first : length c.loop-c.rest.now ≡ len_utf8 c.in-Some.c + length c.in-Some.more.now =
    first-length _ _ _ c.loop-c.invariant.is_text (search rules) v in
    record {
      is_text = search rules;
      few = omega (arith, first, c.loop-c.invariant.few);
      all = no-cr-found _ _ _ _ _ _ c.in-Some.c (omega (arith, first, c.loop-c.invariant.few)) v
          (sym c.if-is_dropped.ensures) c.loop-c.invariant.all;
    }

use Rattle.std.proofs.Common.{rules, arith, ap, sym, ◌∙◌, chars}
use Rattle.rust_trees.specs.Places.{place_after}
use Rattle.rust_trees.proofs.PlaceSteps.{grows, reached-more, split-none, split-some}
use Rattle.rust_trees.proofs.places.place_after.Goals as goal

pub loop-c-preserved : goal.loop-c-preserved
loop-c-preserved c =
    let g = grows c.loop-c.current_place c.in-Some.c c.is_lf_next.result in
    let e = c.after_char-current_place.ensures in
    let s = c.in-Some.ensures.shorter in
    record {
      current_place = reached-more _ _ _ _ _ _ _ _ c.loop-c.invariant.current_place
          (split-some _ _ _ c.in-Some.ensures.value) c.is_lf_next.ensures e;
      line = rw e (omega (arith, g, s, c.loop-c.invariant.line));
      utf8 = search rules;
      column = rw e (omega (arith, g, s, c.loop-c.invariant.column));
    }

pub returns : goal.returns
returns c =
    sym (c.loop-c.invariant.current_place
    ∙ ap (λ t. place_after c.loop-c.current_place t (chars c.args.back.now))
    (split-none _ (c.in_default.ensures.value)))

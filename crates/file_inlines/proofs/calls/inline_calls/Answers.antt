use Rattle.std.proofs.Common.{◌≡◌, ◌∙◌, ◌∷◌, ap, map, rules, subst, sym}
use Rattle.std.specs.Prelude.{Contains}
use Rattle.std.proofs.lemmas.List.{map-append, nil_from_length}
use Rattle.asm_lint.proofs.Elements.{after-here, here}
use Rattle.source_lint.proofs.Joining.{giving-all, giving-more, giving-none}
use Rattle.inlined_arguments.specs.Views.{seen_edit}
use Rattle.file_inlines.proofs.UnreadCalls.{gives-first, gives-one}
use Rattle.file_inlines.proofs.calls.inline_calls.Goals as goal

pub loop-call-init : goal.loop-call-init
loop-call-init c = record {
  inlines = giving-none _ _ _ _;
  read = c.requires.read;
  are_calls = λ d h. c.requires.pairs d h;
}

pub inline_on-requires-clause-pair : goal.inline_on-requires-clause-pair
inline_on-requires-clause-pair c =
    let e : c.loop-call.rest.now ≡ c.in-Some.call.now ∷ c.in-Some.others.now = search rules in
    c.loop-call.invariant.are_calls c.in-Some.call.now
    (subst (λ v. Contains v c.in-Some.call.now) (sym e)
    (here c.in-Some.call.now c.in-Some.others.now))

pub inline_on-requires-clause-reads : goal.inline_on-requires-clause-reads
inline_on-requires-clause-reads c =
    let e : c.loop-call.rest.now ≡ c.in-Some.call.now ∷ c.in-Some.others.now = search rules in
    let f : c.loop-call.rest_readings.now
    ≡ c.in-Some-split_first.reading.now ∷ c.in-Some-split_first.more.now = search rules in
    let g = gives-first _ _ _ _ _ _ _ _ e f c.loop-call.invariant.read.1 in
    (g.0, g.2)

pub returns-in_default-split_first : goal.returns-in_default-split_first
returns-in_default-split_first c =
    let e : c.loop-call.rest.now ≡ c.in-Some.call.now ∷ c.in-Some.others.now = search rules in
    absurd (gives-one _ _ _ _ _ _ e (nil_from_length c.loop-call.rest_readings.now
    c.in_default-split_first.ensures.cases) c.loop-call.invariant.read.1)

pub loop-call-preserved : goal.loop-call-preserved
loop-call-preserved c =
    let e : c.loop-call.rest.now ≡ c.in-Some.call.now ∷ c.in-Some.others.now = search rules in
    let f : c.loop-call.rest_readings.now
    ≡ c.in-Some-split_first.reading.now ∷ c.in-Some-split_first.more.now = search rules in
    let g = gives-first _ _ _ _ _ _ _ _ e f c.loop-call.invariant.read.1 in
    record {
      inlines = giving-more _ _ _ _ c.in-Some.call.now _ _ _ _ _ _ _ e
          c.loop-call.invariant.inlines c.in_ok-push.ensures.items (
            map seen_edit c.in_ok-one.one.edits.items,
            ap (map seen_edit) c.in_ok-append.ensures.items ∙ map-append seen_edit _ _,
            c.in_ok-one.ensures,
          );
      read = (g.1, g.3);
      are_calls = λ d h. c.loop-call.invariant.are_calls d
          (subst (λ v. Contains v d) (sym e) (after-here c.in-Some.call.now
          c.in-Some.others.now d h));
    }

pub returns : goal.returns
returns c =
    giving-all _ _ _ _ _ _ _ (nil_from_length c.loop-call.rest.now c.in_default.ensures.cases)
    c.loop-call.invariant.inlines

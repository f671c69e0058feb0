use Rattle.std.proofs.Common.{◌≡◌, ◌∷◌, rules, subst, sym}
use Rattle.std.specs.Prelude.{Contains}
use Rattle.asm_lint.proofs.Elements.{after-here, here}
use Rattle.std.proofs.lemmas.List.{nil_from_length}
use Rattle.source_lint.proofs.Joining.{giving-all, giving-more, giving-none}
use Rattle.source_lint.proofs.lint.read_calls.Goals as goal

pub loop-call-init : goal.loop-call-init
loop-call-init c = record {
  read = giving-none _ _ _ _;
  are_calls = λ d h. c.requires d h;
  spans = λ h. h;
}

pub read_call-requires : goal.read_call-requires
read_call-requires c =
    let e : c.loop-call.rest.now ≡ c.in-Some.call.now ∷ c.in-Some.others.now = search rules in
    c.loop-call.invariant.are_calls c.in-Some.call.now
    (subst (λ v. Contains v c.in-Some.call.now) (sym e)
    (here c.in-Some.call.now c.in-Some.others.now))

pub loop-call-preserved : goal.loop-call-preserved
loop-call-preserved c =
    let e : c.loop-call.rest.now ≡ c.in-Some.call.now ∷ c.in-Some.others.now = search rules in
    record {
      read = giving-more _ _ _ _ _ c.in_ok-reading.reading _ _ _ _ _ _ e
          c.loop-call.invariant.read c.in_ok-push.ensures.items c.in_ok-reading.ensures.read;
      are_calls = λ d h. c.loop-call.invariant.are_calls d
          (subst (λ v. Contains v d) (sym e) (after-here c.in-Some.call.now
          c.in-Some.others.now d h));
      spans = λ h. c.in_ok-reading.ensures.spans (c.loop-call.invariant.spans h);
    }

pub returns-clause-read : goal.returns-clause-read
returns-clause-read c =
    giving-all _ _ _ _ _ _ _ (nil_from_length c.loop-call.rest.now c.in_default.ensures.cases)
    c.loop-call.invariant.read

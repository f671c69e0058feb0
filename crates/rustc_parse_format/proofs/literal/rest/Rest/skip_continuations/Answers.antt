use Rattle.std.proofs.Common.{◌≡◌, ap, sym, ◌∙◌, arith}
use Rattle.rustc_parse_format.specs.Characters.{rest_after, after_first, byte_length}
use Rattle.rustc_parse_format.specs.LiteralUnits.{is_skipped}
use Rattle.rustc_parse_format.proofs.Sources.Contents.{after_continuation, continuation-narrower}
use Rattle.rustc_parse_format.proofs.Sources.Contents.{continuation-shorter, left-none, left-taken}
use Rattle.rustc_parse_format.proofs.literal.rest.Rest.skip_continuations.Goals as goal

-- A backslash, an LF and the white space after them are skipped.
taken : (c : goal.After-skip_ws) → c.skip_ws.new.self ≡ after_continuation c.loop-self.self
taken c = c.skip_ws.ensures ∙ ap (rest_after is_skipped) (c.after_first-self-inside.ensures.rest
    ∙ ap after_first (c.after_first.ensures.rest ∙ ap after_first c.self.view_is))

pub loop-self-smaller : goal.loop-self-smaller
loop-self-smaller c =
    rw (taken c) (continuation-shorter c.loop-self.self (sym c.begins_continuation.ensures
    ∙ c.loop-self-test.true))

pub loop-self-preserved : goal.loop-self-preserved
loop-self-preserved c = record {
  left = λ q us h k. rw (taken c)
      (left-taken c.loop-self.self us (c.loop-self.invariant.left q us h k)
      (sym c.begins_continuation.ensures ∙ c.loop-self-test.true));
  narrower = omega (
    arith,
    ap byte_length (taken c),
    continuation-narrower c.loop-self.self,
    c.loop-self.invariant.narrower,
  );
}

pub returns-clause-after : goal.returns-clause-after
returns-clause-after c q us h k =
    left-none c.loop-self.self us (c.loop-self.invariant.left q us h k)
    (sym c.begins_continuation.ensures ∙ c.loop-self-test.false)

use Rattle.std.proofs.Common.{append_assoc}
use Rattle.listing_json.proofs.pieces.put_placeholder.Goals as goal

pub returns-clause-tokens : goal.returns-clause-tokens
returns-clause-tokens c =
    rw (
      c.in_ok-end_object.ensures.ok,
      c.in_ok-put_format.ensures.tokens,
      c.in_ok-key-2.ensures.ok,
      c.in_ok-put_span_of.ensures.tokens,
      c.in_ok-put_position.ensures.tokens,
      c.in_ok-key.ensures.ok,
      c.in_ok-begin_kind.ensures.tokens,
    )
    (simp append_assoc)

use Rattle.std.proofs.Common.{◌≡◌, ◌∙◌, ◌==◌, ap, arith, length, not}
use Rattle.rustc_parse_format.specs.State.{State, next_call}
use Rattle.rustc_parse_format.specs.FaultViews.{seen_fault}
use Rattle.rustc_parse_format.specs.Faults.{map_fault}
use Rattle.rustc_parse_format.specs.World.{place_of}
use Rattle.listing_json.proofs.Walking.{faults-next, owes-call, some-listed, turns-fewer}
use Rattle.listing_json.proofs.calls.put_calls.Goals as goal

pub loop-has_piece-smaller : goal.loop-has_piece-smaller
loop-has_piece-smaller c = rw (c.loop-has_piece-test.true, c.in_ok-has_piece.ensures.has_piece)
    (turns-fewer c.loop-has_piece.parser _ c.in_ok-has_piece.ensures.state)

pub loop-has_piece-preserved : goal.loop-has_piece-preserved
loop-has_piece-preserved c =
    let s = c.loop-has_piece.parser in
    let k = c.in_ok-has_piece.ensures in
    let n : c.put_call.new.faults.len ≡ length c.put_call.new.faults.items =
    omega (arith, c.put_call.new.faults.ok.0) in
    record {
      lines = owes-call s _ _ _ _ _ _ k.state k.has_piece k.lines
          (rw c.loop-has_piece-test.true at c.loop-has_piece.invariant.lines);
      world = ap (λ (t : State). t.world) k.state ∙ c.loop-has_piece.invariant.world;
      some = faults-next s _ _ _ _ _ k.state k.has_piece
          (ap not (c.is_empty.ensures ∙ ap (λ m. m == 0) n)
          ∙ some-listed seen_fault (map_fault (place_of s.world)) _ (next_call s).faults k.faults)
          (rw c.loop-has_piece-test.true at c.loop-has_piece.invariant.some);
      none = c.clear.ensures.items;
    }

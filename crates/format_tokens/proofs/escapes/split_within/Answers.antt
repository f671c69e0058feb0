use Rattle.format_tokens.proofs.Cuts.{IsFloor, cut}
use Rattle.format_tokens.proofs.escapes.split_within.Goals as goal

pub returns-clause-front : goal.returns-clause-front
returns-clause-front c =
    let floor : IsFloor c.args.width c.args.text.now c.floor_char_boundary.result = record {
      bound = c.floor_char_boundary.ensures.bound;
      boundary = c.floor_char_boundary.ensures.boundary;
      nearest = c.floor_char_boundary.ensures.nearest;
    } in
    rw c.split_at.ensures.front (cut _ _ _ c.utf8.text floor).front

pub returns-clause-back : goal.returns-clause-back
returns-clause-back c =
    let floor : IsFloor c.args.width c.args.text.now c.floor_char_boundary.result = record {
      bound = c.floor_char_boundary.ensures.bound;
      boundary = c.floor_char_boundary.ensures.boundary;
      nearest = c.floor_char_boundary.ensures.nearest;
    } in
    rw c.split_at.ensures.back (cut _ _ _ c.utf8.text floor).back

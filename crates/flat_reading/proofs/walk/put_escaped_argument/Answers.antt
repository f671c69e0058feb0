use Rattle.flat_reading.proofs.walk.put_escaped_argument.Goals as goal

pub returns-clause-described : goal.returns-clause-described
returns-clause-described c = λ room.
    let texts = c.in_ok-texts.ensures in
    c.put_argument.ensures.described c.args.input.now texts.0 texts.1 room

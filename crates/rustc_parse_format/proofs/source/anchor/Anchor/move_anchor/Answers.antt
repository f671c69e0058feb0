use Rattle.rustc_parse_format.proofs.source.anchor.Anchor.move_anchor.Goals as goal

pub returns-then-distance-self-clause-here : goal.returns-then-distance-self-clause-here
returns-then-distance-self-clause-here c w h = c.new.ensures.anchor w (c.offset_by_look.ensures w h)

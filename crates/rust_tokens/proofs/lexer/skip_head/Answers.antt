use Rattle.rust_tokens.proofs.Heads.{heads}
use Rattle.rust_tokens.specs.Spans.{end_of_all}
use Rattle.rust_tokens.proofs.lexer.skip_head.Goals as goal

pub returns : goal.returns
returns c =
    let m = c.after_mark.ensures.marked in
    let s = c.after_shebang.ensures.shebanged in
    heads _ _ _ m.0 s.0 m.1 m.3 s.1 (s.2 (end_of_all 0 m.0)).1

use Rattle.inlined_arguments.proofs.Comparing.{same-text}
use Rattle.inlined_arguments.proofs.meaning.is_same_text.Goals as goal

pub returns : goal.returns
returns c = same-text c.eq.result c.args.left.now c.args.right.now c.utf8.left c.utf8.right
    c.eq.ensures

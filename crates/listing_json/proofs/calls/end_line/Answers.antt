use Rattle.listing_json.proofs.Adding.{adds-line}
use Rattle.listing_json.proofs.calls.end_line.Goals as goal

pub returns : goal.returns
returns c = λ j e low. adds-line j c.args.writer.tokens c.args.writer.before _ _ e low
    c.into_inner.ensures.items c.into_inner.ensures.reads_back c.into_inner.ensures.utf8
    c.in_ok-push.ensures.items

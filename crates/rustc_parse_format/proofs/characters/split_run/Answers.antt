use Rattle.rustc_parse_format.proofs.Bytes.ByteFronts.{chars-rest_after, chars-front}
use Rattle.rustc_parse_format.proofs.characters.split_run.Goals as goal

pub returns-clause-front : goal.returns-clause-front
returns-clause-front c =
    rw (c.split_at.ensures.front)
    (chars-front _ c.requires _ _ c.utf8.text
    (rw (c.as_bytes.ensures.value) at c.run_width-width.ensures))

pub returns-clause-rest : goal.returns-clause-rest
returns-clause-rest c =
    rw (c.split_at.ensures.back)
    (chars-rest_after _ c.requires _ _ c.utf8.text
    (rw (c.as_bytes.ensures.value) at c.run_width-width.ensures))

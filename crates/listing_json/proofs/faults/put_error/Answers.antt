use Rattle.listing_json.proofs.Chains.{puts-then}
use Rattle.listing_json.proofs.faults.put_error.Goals as goal

pub returns-clause-tokens : goal.returns-clause-tokens
returns-clause-tokens c = rw (← c.as_str.ensures.value, ← c.as_str-2.ensures.value)
    (puts-then c.args.writer.now.tokens _ _ c.in_ok-begin_kind.ensures.tokens
    (puts-then c.begin_kind.new.writer.tokens _ _ c.in_ok-put_string.ensures.tokens
    (puts-then c.put_string.new.writer.tokens _ _ c.in_ok-put_string-2.ensures.tokens
    (puts-then c.put_string-2.new.writer.tokens _ _ c.in_ok-key.ensures.ok
    (puts-then c.key.new.self.tokens _ _ c.in_ok-put_note.ensures.tokens
    (puts-then c.put_note.new.writer.tokens _ _ c.in_ok-put_string-3.ensures.tokens
    (puts-then c.put_string-3.new.writer.tokens _ _ c.in_ok-put_span_of.ensures.tokens
    (puts-then c.put_span_of.new.writer.tokens _ _ c.in_ok-key-2.ensures.ok
    (puts-then c.key-2.new.self.tokens _ _ c.in_ok-put_secondary.ensures.tokens
    (puts-then c.put_secondary.new.writer.tokens _ _ c.in_ok-key-3.ensures.ok
    (puts-then c.key-3.new.self.tokens _ _ c.in_ok-put_suggestion.ensures.tokens
    c.in_ok-end_object.ensures.ok)))))))))))

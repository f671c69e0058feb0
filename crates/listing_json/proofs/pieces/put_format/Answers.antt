use Rattle.listing_json.proofs.Chains.{puts-then}
use Rattle.listing_json.proofs.pieces.put_format.Goals as goal

pub returns-clause-tokens : goal.returns-clause-tokens
returns-clause-tokens c =
    puts-then c.args.writer.now.tokens _ _ c.in_ok-begin_object.ensures.ok
    (puts-then c.begin_object.new.self.tokens _ _ c.in_ok-key.ensures.ok
    (puts-then c.key.new.self.tokens _ _ c.in_ok-put_fill.ensures.tokens
    (puts-then c.put_fill.new.writer.tokens _ _ c.in_ok-put_maybe_span.ensures.tokens
    (puts-then c.put_maybe_span.new.writer.tokens _ _ c.in_ok-key-2.ensures.ok
    (puts-then c.key-2.new.self.tokens _ _ c.in_ok-put_align.ensures.tokens
    (puts-then c.put_align.new.writer.tokens _ _ c.in_ok-key-3.ensures.ok
    (puts-then c.key-3.new.self.tokens _ _ c.in_ok-put_sign.ensures.tokens
    (puts-then c.put_sign.new.writer.tokens _ _ c.in_ok-put_flag.ensures.tokens
    (puts-then c.put_flag.new.writer.tokens _ _ c.in_ok-put_flag-2.ensures.tokens
    (puts-then c.put_flag-2.new.writer.tokens _ _ c.in_ok-key-4.ensures.ok
    (puts-then c.key-4.new.self.tokens _ _ c.in_ok-put_hex.ensures.tokens
    (puts-then c.put_hex.new.writer.tokens _ _ c.in_ok-put_count.ensures.tokens
    (puts-then c.put_count.new.writer.tokens _ _ c.in_ok-put_maybe_span-2.ensures.tokens
    (puts-then c.put_maybe_span-2.new.writer.tokens _ _ c.in_ok-put_count-2.ensures.tokens
    (puts-then c.put_count-2.new.writer.tokens _ _ c.in_ok-put_maybe_span-3.ensures.tokens
    (puts-then c.put_maybe_span-3.new.writer.tokens _ _ c.in_ok-key-5.ensures.ok
    (puts-then c.key-5.new.self.tokens _ _ c.in_ok-put_text.ensures.tokens
    (puts-then c.put_text.new.writer.tokens _ _ c.in_ok-put_maybe_span-4.ensures.tokens
    c.in_ok-end_object.ensures.ok))))))))))))))))))

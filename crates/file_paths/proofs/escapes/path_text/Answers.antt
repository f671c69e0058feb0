use Rattle.file_paths.proofs.Escaping.{text-begins, text-ends, text-goes-on}
use Rattle.file_paths.proofs.escapes.path_text.Goals as goal

pub loop-byte-init : goal.loop-byte-init
loop-byte-init c = text-begins _ _ _ _ _ c.split_text.ensures.parts c.new-text.ensures.bytes
    c.in_ok-push_str.ensures.bytes

pub loop-byte-preserved : goal.loop-byte-preserved
loop-byte-preserved c = text-goes-on _ _ _ _ _ _ _ _ _ c.in-Some.ensures.cases.0
    c.split_text-in-Some.ensures.parts c.in_ok-put_escape.ensures.written
    c.in_ok-push_str-2.ensures.bytes c.put_escape.ensures.stands_for c.loop-byte.invariant

pub returns : goal.returns
returns c = record {
  stands_for = text-ends _ _ _ c.in_default.ensures.cases c.loop-byte.invariant;
}

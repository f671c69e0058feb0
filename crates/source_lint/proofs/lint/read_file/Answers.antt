use Rattle.std.proofs.Common.{◌++◌, refl, rules, subst}
use Rattle.std.specs.Prelude.{Contains}
use Rattle.source_lint.proofs.Joining.{Balanced, balanced-more, balanced-none, file-all}
use Rattle.source_lint.proofs.Joining.{file-more, file-none, of-calls}
use Rattle.source_lint.proofs.MovedReadings.{reads-move}
use Rattle.source_lint.proofs.lint.read_file.Goals as goal

pub loop-readings-init : goal.loop-readings-init
loop-readings-init c = record {
  read = file-none _ _ _ _ _ _ c.new.ensures.items c.new-2.ensures.items
      (balanced-none c.args.balance.now);
  spans = search rules;
}

pub read_calls-requires : goal.read_calls-requires
read_calls-requires c = λ d h.
    (((rw c.source.ensures at c.in_ok-calls.ensures.each) d).0
    (subst (λ v. Contains v d) c.deref.ensures.value h)).is_pair

pub loop-readings-preserved : goal.loop-readings-preserved
loop-readings-preserved c =
    let p = rw c.in-Some.is at c.in_ok-source.ensures.some in
    let w = c.loop-readings.invariant.read in
    let each = rw (c.source.ensures, c.in_ok-part.ensures) at c.in_ok-calls.ensures.each in
    let order = rw (c.source.ensures, c.in_ok-part.ensures) at c.in_ok-calls.ensures.in_order in
    let r = rw (c.in_ok-part.ensures, c.deref.ensures.value) at c.in_ok-read_calls.ensures.read in
    record {
      read = file-more _ _ _ _ _ _ _ _ _ _ _ _ w (p.0, p.1)
          (balanced-more c.args.balance.now c.loop-readings.balance c.next_part.new.balance
          (p.0 ++ c.in-Some.source) p.2 w.front w.known) (of-calls _ _ _ _ _ _ _ _ each order r);
      spans = c.in_ok-read_calls.ensures.spans c.loop-readings.invariant.spans;
    }

pub returns-clause-read : goal.returns-clause-read
returns-clause-read c =
    let n = (rw c.in_default.is at c.in_ok-source.ensures.none) refl in
    let w = c.loop-readings.invariant.read in
    let f = file-all _ _ _ _ _ _ _ (Balanced c.args.balance.now c.next_part.new.balance)
    (reads-move _ _) w (n.0, n.1, n.2) (balanced-more c.args.balance.now c.loop-readings.balance
    c.next_part.new.balance n.0 n.3 w.front w.known) in
    (f.0, c.new-rest.ensures.left f.0 f.1, f.2, f.3)

use Rattle.std.proofs.Common.{ap, ◌∙◌, arith}
use Rattle.flat_reading.proofs.Specs.{spec_at-put}
use Rattle.flat_reading.proofs.specification.SpecBuffer.add.Goals as goal
use Rattle.flat_reading.proofs.specification.SpecBuffer.add.Goals.{then-self, else-self}

pub returns-clause-described : goal.returns-clause-described
returns-clause-described c = λ input at room. elim c.if-self.branch [
  | then-self w ↦ rw w.self-is
      (spec_at-put input c.args.self.now.records.now c.args.self.now.count w.put_spec.new.record
      w.if-self.true
      ∙ w.put_spec.ensures input at)
  | else-self w ↦ absurd (omega (arith, w.if-self.false, ap (λ s. s.count) w.self-is, room))
]

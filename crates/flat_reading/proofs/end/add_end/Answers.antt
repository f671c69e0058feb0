use Rattle.std.proofs.Common.{refl, arith}
use Rattle.flat_reading.proofs.end.add_end.Goals as goal

pub returns-then-number-steps-clause-added : goal.returns-then-number-steps-clause-added
returns-then-number-steps-clause-added c = λ input used specs. record {
  step = c.put_end.new.step;
  put = (λ room. absurd (omega (arith, room, c.if-number-steps.true)), λ full. refl);
  few = omega (arith, c.in_ok-put_end.ensures.number);
  described = λ room. c.in_ok-put_end.ensures.described input specs;
}

pub returns-clause-added : goal.returns-clause-added
returns-clause-added c = λ input used specs. record {
  step = c.put_end-2.new.step;
  put = (λ room. refl, λ full. absurd (omega (arith, full, c.if-number-steps.false)));
  few = omega (arith, c.in_ok-put_end-2.ensures.number);
  described = λ room. c.in_ok-put_end-2.ensures.described input specs;
}

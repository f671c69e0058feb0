use Rattle.std.proofs.Common.{ap, length, refl}
use Rattle.std.proofs.Common.{arith}
use Rattle.flat_reading.proofs.Buffers.{Grows-trans, Holds-grow, Holds-is, HoldsMaybe-grow}
use Rattle.flat_reading.proofs.Buffers.{HoldsSecond-grow}
use Rattle.flat_reading.proofs.errors.put_error.Goals as goal

pub returns : goal.returns
returns c =
    let one = c.put-end.ensures.grows in
    let two = c.put_note-end.ensures.grows in
    let three = c.put-end-2.ensures.grows in
    let four = c.put_second-end.ensures.grows in
    let five = c.put_suggestion.ensures.grows in
    let f2 = two.forward in let f3 = three.forward in let f4 = four.forward in
    let f5 = five.forward in
    let a1 = c.put-end.auto.texts in let a2 = c.put_note-end.auto.texts in
    let a3 = c.put-end-2.auto.texts in let a4 = c.put_second-end.auto.texts in
    let after_four = five in
    let after_three = Grows-trans _ _ _ _ _ _ a4 four after_four in
    let after_two = Grows-trans _ _ _ _ _ _ a3 three after_three in
    let after_one = Grows-trans _ _ _ _ _ _ a2 two after_two in
    let all = Grows-trans _ _ _ _ _ _ a1 one after_one in
    record {
      grows = all;
      counted = omega (
        arith,
        c.put-end.ensures.counted,
        c.put_note-end.ensures.counted,
        c.put-end-2.ensures.counted,
        c.put_second-end.ensures.counted,
        c.put_suggestion.ensures.counted,
        ap length c.as_str-description.ensures.value,
        ap length c.as_str.ensures.value,
      );
      holds = λ fit. record {
        description = Holds-is _ _ _ _ _ c.as_str-description.ensures.value
            (Holds-grow _ _ _ _ _ (after_one.front (omega (
              arith,
              a1,
            ))) (c.put-end.ensures.holds (omega arith)));
        note = HoldsMaybe-grow _ _ c.put_note-end.new.has_note c.put_note-end.new.range _
            (after_two.front (omega (arith, a1, a2)))
            (c.put_note-end.ensures.holds (omega (arith, a1)));
        label = Holds-is _ _ _ _ _ c.as_str.ensures.value
            (Holds-grow _ _ _ _ _ (after_three.front (omega (
              arith,
              a1,
              a2,
              a3,
            ))) (c.put-end-2.ensures.holds (omega (arith, a1, a2))));
        span = c.put_extent.ensures;
        second = HoldsSecond-grow _ _ c.put_second-end.new.has_label
            c.put_second-end.new.range c.put_second-end.new.span _
            (after_four.front (omega (
              arith,
              a1,
              a2,
              a3,
              a4,
            ))) (c.put_second-end.ensures.holds (omega (arith, a1, a2, a3)));
        suggestion = c.put_suggestion.ensures.holds (omega (arith, a1, a2, a3, a4));
      };
      step = refl;
    }

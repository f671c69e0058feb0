use Rattle.std.proofs.Common.{◌≡◌, ◌-◌, ◌≤◌, ◌∙◌, length, arith, length-drop, length-take-le}
use Rattle.flat_reading.proofs.Buffers.{put_grows, put_holds}
use Rattle.flat_reading.proofs.errors.put.Goals as goal

pub returns-then-end-texts-clause-grows : goal.returns-then-end-texts-clause-grows
returns-then-end-texts-clause-grows c =
    let fit = c.if-end-texts.true in
    let sum = c.saturating_add-end.ensures in
    let forward : c.args.start ≤ c.saturating_add-end.result = omega (arith, sum) in
    let size : length c.copy_from_slice.new.self ≡ c.saturating_add-end.result - c.args.start =
    c.copy_from_slice.ensures.len
    ∙ length-take-le _ _ (omega (arith, length-drop c.args.start c.args.texts.now)) in
    put_grows c.args.texts.now c.copy_from_slice.new.self c.args.start
    c.saturating_add-end.result
    forward fit size

pub returns-then-end-texts-clause-holds : goal.returns-then-end-texts-clause-holds
returns-then-end-texts-clause-holds c = λ _.
    let fit = c.if-end-texts.true in
    let sum = c.saturating_add-end.ensures in
    let forward : c.args.start ≤ c.saturating_add-end.result = omega (arith, sum) in
    let size : length c.copy_from_slice.new.self ≡ c.saturating_add-end.result - c.args.start =
    c.copy_from_slice.ensures.len
    ∙ length-take-le _ _ (omega (arith, length-drop c.args.start c.args.texts.now)) in
    put_holds c.args.texts.now c.copy_from_slice.new.self c.args.text.now c.args.start
    c.saturating_add-end.result forward fit size
    (c.copy_from_slice.ensures.after ∙ c.as_bytes.ensures.value)

use Rattle.std.proofs.Common.{◌≡◌, ◌++◌, sym, ap, ◌∙◌, append_assoc, length, length-append, take}
use Rattle.std.proofs.Common.{take-append-drop, arith}
use Rattle.std.proofs.KnownBytes.{Appends-trans}
use Rattle.std.proofs.lemmas.List.{take_rest}
use Rattle.std.proofs.lemmas.Bool.Decides.{nat_tests}
use Rattle.piece_listing.proofs.run.write_whole.Goals as goal

-- The bytes that were written before, and those of this write.
pub loop-rest-preserved : goal.loop-rest-preserved
loop-rest-preserved g c =
    let n = c.in-Ok.count in
    let rest = c.loop-rest.rest.now in
    let before = c.loop-rest.invariant in (
      before.0 ++ take n rest,
      before.1
          ∙ ap (λ x. before.0 ++ x) (sym (take-append-drop n rest)
          ∙ ap (λ x. take n rest ++ x) (sym (take_rest rest n)))
          ∙ sym (append_assoc before.0 (take n rest) _),
      Appends-trans _ _ _ before.0 (take n rest) before.2 c.in-Ok.ensures.bytes,
      λ e. absurd (let none : length rest
          ≡ 0 = omega (arith, ap length before.1, ap length e, length-append before.0 rest) in
          grind (arith, nat_tests)),
    )

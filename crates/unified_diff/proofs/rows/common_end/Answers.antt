use denote.Ref.{Bor}
use Rattle.std.proofs.Common.{◌≡◌, ◌++◌, ◌-◌, ◌∙◌, List, [], ℕ, ap, arith, get_or, length, rules}
use Rattle.std.proofs.Common.{drop, sym}
use Rattle.std.proofs.lemmas.Slice.Eq.{bytes_eq-Decides}
use Rattle.unified_diff.specs.Rows.{joined_text}
use Rattle.unified_diff.proofs.Texts.{joined-last}
use Rattle.unified_diff.proofs.rows.common_end.Goals as goal

abbrev none : Bor (List ℕ)
none = record { ref_ptr = (0, 0); now = [] }

pub loop-count-preserved : goal.loop-count-preserved
loop-count-preserved c =
    let it = c.loop-count in
    let n = it.count in
    let olds = c.args.old.now in
    let news = c.args.new.now in
    let same : (get_or olds (length olds - 1 - n) none).now
    ≡ (get_or news (length news - 1 - n) none).now =
    (bytes_eq-Decides _ _).0 (search rules) in
    record {
      old = omega arith;
      new = omega arith;
      same = joined-last olds n none (omega arith)
          ∙ ap (λ t. t ++ joined_text (drop (length olds - n) olds)) same
          ∙ ap (λ t. (get_or news (length news - 1 - n) none).now ++ t) it.invariant.same
          ∙ sym (joined-last news n none (omega arith));
    }

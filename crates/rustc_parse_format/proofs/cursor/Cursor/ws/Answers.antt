use Rattle.std.proofs.Common.{◌≡◌, false, ap, sym, ◌∙◌}
use Rattle.std.specs.Char.{is_whitespace}
use Rattle.rustc_parse_format.specs.Characters.{Text, after_white, first_passes}
use Rattle.rustc_parse_format.specs.CallStates.{Remainder}
use Rattle.rustc_parse_format.proofs.Grammar.Fronts.{rest_after-stays}
use Rattle.rustc_parse_format.proofs.cursor.Cursor.ws.Goals as goal

pub returns-else-is_white : goal.returns-else-is_white
unfolding after_white
returns-else-is_white c =
    let s = c.args.self.now in
    let none : first_passes is_whitespace s.rest ≡ false =
    sym (ap (λ (u : Remainder). first_passes is_whitespace u.rest) c.self.view_is)
    ∙ (sym (rw c.next.ensures at c.is_white.ensures) ∙ c.if-is_white.false) in
    record {
      rest = ap (λ (t : Text). record s { rest = t })
          (sym (rest_after-stays is_whitespace s.rest none));
    }

-- Tokens that are appended one after the other.
use Rattle.std.proofs.Common.{◌≡◌, ◌∙◌, ◌++◌, List, ap, append_assoc}
use Rattle.json.specs.Token.{Token}

pub puts-then : {b c : List Token} (a x y : List Token) → b ≡ a ++ x → c ≡ b ++ y
    → c ≡ a ++ (x ++ y)
puts-then a x y e f = f ∙ (ap (λ l. l ++ y) e ∙ append_assoc a x y)

-- Marks do not depend on the characters of tokens.
use Rattle.std.proofs.Common.{◌≡◌, Bool, List, [], ◌∷◌, map, length, refl, ap, ◌∙◌}
use Rattle.std.specs.Prelude.{if◌then◌else◌}
use Rattle.format_tokens.specs.declared.culprits.Role.{Role}
use Rattle.format_tokens.specs.declared.culprits.Role.TheVariants.{OpenBrace, CloseBrace, Text}
use Rattle.format_tokens.specs.declared.culprits.Role.TheVariants.{Name}
use Rattle.format_tokens.specs.declared.culprits.Role.TheVariants.{Number, Message, Other}
use Rattle.format_tokens.specs.declared.kinds.Kind.TheVariants.{Unexpected}
use Rattle.format_tokens.specs.Culprits.{closes, closes_or, fits, has_argument, marked_tokens}
use Rattle.format_tokens.specs.Culprits.{role_of}
use Rattle.format_tokens.specs.Labels.{sized_token}
use Rattle.format_tokens.specs.Starts.{Pair, pairs}
use Rattle.format_tokens.specs.Tokens.{Label}

-- The token as a pair, with its length in place of its characters.
abbrev pub counted : Label → Pair
counted l = (l.0, length l.1)

closes-counted : (ls : List Label) → closes (map counted ls) ≡ closes ls
closes-counted [] = refl
closes-counted (l ∷ ls) = ap (λ b. closes_or b (role_of l.0)) (closes-counted ls)

argument-counted : (ls : List Label) → has_argument (map counted ls) ≡ has_argument ls
argument-counted [] = refl
argument-counted (l ∷ ls) = refl

fits-counted : (names inside : Bool) (ls : List Label) (r : Role)
    → fits names inside (map counted ls) r ≡ fits names inside ls r
fits-counted names inside ls OpenBrace = rw (closes-counted ls, argument-counted ls) refl
fits-counted names inside ls CloseBrace = refl
fits-counted names inside ls Text = refl
fits-counted names inside ls Name = refl
fits-counted names inside ls Number = refl
fits-counted names inside ls Message = refl
fits-counted names inside ls Other = refl

marked-counted : (names : Bool) (ls : List Label) (inside : Bool)
    → marked_tokens names inside (map counted ls) ≡ map counted (marked_tokens names inside ls)
marked-counted names [] inside = refl
marked-counted names (l ∷ ls) inside = rw (fits-counted names inside ls (role_of l.0))
    (ap (λ ss. ((if fits names inside ls (role_of l.0) then l.0 else Unexpected), length l.1) ∷ ss)
    (marked-counted names ls _))

pairs-counted : (ls : List Label) → pairs (map sized_token ls) ≡ map counted ls
pairs-counted [] = refl
pairs-counted (l ∷ ls) = ap (λ (ss : List Pair). counted l ∷ ss) (pairs-counted ls)

pub marked-sized : (names : Bool) (ls : List Label) (inside : Bool)
    → marked_tokens names inside (pairs (map sized_token ls))
    ≡ map counted (marked_tokens names inside ls)
marked-sized names ls inside =
    ap (marked_tokens names inside) (pairs-counted ls) ∙ marked-counted names ls inside

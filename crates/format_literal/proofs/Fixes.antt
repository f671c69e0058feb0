-- The fix of a literal, in one clause.
use Rattle.std.proofs.Common.{◌≡◌, ℕ, Bool, List, Option, Some, None}
use Rattle.std.specs.Prelude.{IfNone, IfOk, IfSome, MatchOption}
use Rattle.std.specs.declared.result.Result.{Result}
use Rattle.std.specs.declared.result.Result.TheVariants.{Ok, Err}
use Rattle.std.specs.declared.alloc.AllocError.{AllocError}
use Rattle.rustc_parse_format.specs.Types.{Mode}
use Rattle.fault_fixes.specs.declared.fixes.FixedLiteral.{FixedLiteral as DeclaredFixed}
use Rattle.fault_fixes.specs.Fixing.{FixedLiteral}
use Rattle.fault_fixes.specs.Rounds.{IsFixed}
use Rattle.fault_fixes.specs.SeenEdits.{seen_fixed}

pub fix-is : (m : Mode) (text given : List ℕ) (style : Option ℕ) (snippet : List ℕ) (a : Bool)
    (r : Result (Option DeclaredFixed) AllocError) → given ≡ text
    → IfOk r (λ o. IfSome o (λ f. IsFixed m given style snippet a (seen_fixed f)))
    → IfOk r (λ o. IfNone o ((f : FixedLiteral) → IsFixed m given style snippet a f → ⊥))
    → IfOk r (λ o. MatchOption o ((f : FixedLiteral) → IsFixed m text style snippet a f → ⊥)
    (λ f. IsFixed m text style snippet a (seen_fixed f)))
fix-is m text given style snippet a (Err e) same some none = some
fix-is m text given style snippet a (Ok None) same some none = rw same at none
fix-is m text given style snippet a (Ok (Some f)) same some none = rw same at some

use Rattle.std.proofs.Common.{◌≡◌, ◌≤◌, List, length}
use Rattle.rustc_parse_format.specs.Characters.{Text, byte_length}
use Rattle.rustc_parse_format.specs.Literal.{IsContent}
use Rattle.rustc_parse_format.specs.LiteralUnits.{LiteralUnit}
use Rattle.rustc_parse_format.specs.SourceViews.{closed_by_quote}
use Rattle.rustc_parse_format.proofs.Sources.Contents.{IsRestOf}
use Rattle.rustc_parse_format.proofs.literal.rest.Rest.skip_continuations.Given as goal

abbrev pub invariant-loop-self : goal.invariant-loop-self
invariant-loop-self l = record {
  left : (q : Text) (us : List LiteralUnit) → IsContent q us → l.fn.self ≡ closed_by_quote q
      → IsRestOf l.self us;
  narrower : byte_length l.self ≤ byte_length l.fn.self;
}

abbrev pub decreases-loop-self : goal.decreases-loop-self
decreases-loop-self l = length l.self

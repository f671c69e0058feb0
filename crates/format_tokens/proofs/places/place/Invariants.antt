use Rattle.std.proofs.Common.{◌≡◌, ◌-◌, ◌≤◌, ◌++◌, false, length, map}
use Rattle.rustc_parse_format.specs.World.{World}
use Rattle.format_tokens.specs.Culprits.{marked_tokens}
use Rattle.format_tokens.specs.Views.{seen_token}
use Rattle.format_tokens.specs.Starts.{pairs, placed_sizes, starts_of}
use Rattle.format_tokens.proofs.places.place.Given as goal

abbrev pub invariant-loop-label : goal.invariant-loop-label
invariant-loop-label l = record {
  kept : l.at ≤ l.count;
  so_far : (w : World) → l.starts ≡ starts_of w
      → map seen_token l.tokens.items
      ++ placed_sizes w (length w.places - l.at) (l.count - l.at)
      (marked_tokens l.needs_names l.is_inside (pairs l.rest))
      ≡ map seen_token l.fn.tokens.items
      ++ placed_sizes w (length w.places) l.count
      (marked_tokens l.needs_names false (pairs l.labels));
}

abbrev pub decreases-loop-label : goal.decreases-loop-label
decreases-loop-label l = length l.rest

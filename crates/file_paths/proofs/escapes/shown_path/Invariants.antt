use Rattle.std.proofs.Common.{◌≡◌, ◌++◌, length, string_bytes}
use denote.Text.{Utf8}
use denote.Shadow.{shadow}
use Rattle.file_paths.specs.Paths.{shown_path}
use Rattle.file_paths.proofs.escapes.shown_path.Given as goal

-- The text so far, and then that of the rest, is all.
abbrev pub invariant-loop-front : goal.invariant-loop-front
invariant-loop-front l = shadow (Utf8 l.rest) × (string_bytes l.shown ++ shown_path l.rest
    ≡ shown_path l.fn.text)

abbrev pub decreases-loop-front : goal.decreases-loop-front
decreases-loop-front l = length l.rest

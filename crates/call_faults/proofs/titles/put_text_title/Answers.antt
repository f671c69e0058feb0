use Rattle.std.proofs.Common.{◌≡◌, ◌++◌, ◌∙◌, ap, append_assoc, codes, string_bytes, List, ℕ}
use Rattle.rustc_parse_format.specs.Faults.{Message, message}
use Rattle.rustc_parse_format.specs.FaultViews.{seen_fault}
use Rattle.rustc_parse_format.specs.World.{Place}
use Rattle.call_faults.proofs.titles.put_text_title.Goals as goal

pub returns : goal.returns
returns c =
    let o = string_bytes c.args.out.now in
    let text : string_bytes c.in_ok-error.error.description
    ≡ (message (seen_fault c.args.fault.now)).description
    = ap (λ (m : Message Place). m.description) c.in_ok-error.ensures in
    c.in_ok-push_str-2.ensures.bytes
    ∙ ap (λ (xs : List ℕ). xs ++ c.deref.result.now) c.in_ok-push_str.ensures.bytes
    ∙ append_assoc o (codes "invalid format string: ") c.deref.result.now
    ∙ ap (λ (xs : List ℕ). o ++ (codes "invalid format string: " ++ xs)) (c.deref.ensures ∙ text)

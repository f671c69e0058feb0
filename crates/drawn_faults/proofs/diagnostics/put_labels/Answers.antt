use Rattle.drawn_lines.specs.Places.{seen_picture}
use Rattle.drawn_faults.specs.SeenDiagnostics.{seen_diagnostic}
use Rattle.drawn_faults.proofs.HarmlessDiagnostics.{diagnostic-coloured}
use Rattle.drawn_faults.proofs.diagnostics.put_labels.Goals as goal

pub returns-then-picture-clause-coloured : goal.returns-then-picture-clause-coloured
returns-then-picture-clause-coloured c =
    diagnostic-coloured (seen_picture c.args.picture.now) (seen_diagnostic c.args.diagnostic.now)

pub returns-in_err-put_diagnostic-clause-coloured
    : goal.returns-in_err-put_diagnostic-clause-coloured
returns-in_err-put_diagnostic-clause-coloured c =
    diagnostic-coloured (seen_picture c.args.picture.now) (seen_diagnostic c.args.diagnostic.now)

pub returns-clause-coloured : goal.returns-clause-coloured
returns-clause-coloured c =
    diagnostic-coloured (seen_picture c.args.picture.now) (seen_diagnostic c.args.diagnostic.now)

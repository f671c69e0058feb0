use Rattle.listing_json.proofs.faults.put_suggestion.Goals as goal

pub returns-in-UseRustDebugPrintingMacro-clause-tokens :
    goal.returns-in-UseRustDebugPrintingMacro-clause-tokens
returns-in-UseRustDebugPrintingMacro-clause-tokens c = rw c.in-UseRustDebugPrintingMacro.is
    c.put_bare_mend-in-UseRustDebugPrintingMacro.ensures.tokens

use Rattle.fault_fixes.proofs.FlagLaw.{number_sign-reorders, lower_hex-reorders, upper_hex-reorders}
use Rattle.fault_fixes.proofs.laws.reorder_format_parameter.Goals as goal

pub returns-clause-number_sign : goal.returns-clause-number_sign
returns-clause-number_sign c = number_sign-reorders

pub returns-clause-lower_hex : goal.returns-clause-lower_hex
returns-clause-lower_hex c = lower_hex-reorders

pub returns-clause-upper_hex : goal.returns-clause-upper_hex
returns-clause-upper_hex c = upper_hex-reorders

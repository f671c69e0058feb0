use Rattle.std.proofs.Common.{◌≡◌, drop}
use Rattle.macro_owners.specs.Names.{has}
use Rattle.macro_owners.proofs.Finding.{texts}
use Rattle.macro_owners.proofs.names.find_name.Given as goal

abbrev pub invariant-loop-name : goal.invariant-loop-name
invariant-loop-name l = has (texts l.names) l.word ≡ has (texts (drop l.name-index l.names)) l.word

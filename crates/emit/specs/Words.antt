-- The words of levels, which are rustc's.
use Rattle.std.specs.Prelude.{ℕ, Bool, List, codes, if◌then◌else◌}
use Rattle.emit.specs.declared.message.Level.{Level}
use Rattle.emit.specs.declared.message.Level.TheVariants.{Error, Warning}
use Rattle.emit.specs.declared.message.ChildLevel.{ChildLevel}
use Rattle.emit.specs.declared.message.ChildLevel.TheVariants.{Note, Help}

-- A level.
abbrev pub level_name : Level → List ℕ
level_name Error = codes "error"
level_name Warning = codes "warning"

-- A level of a child.
abbrev pub child_name : ChildLevel → List ℕ
child_name Note = codes "note"
child_name Help = codes "help"

-- The word for how sure a suggestion is.
abbrev pub applicability : Bool → List ℕ
applicability is_sure =
    if is_sure then codes "MachineApplicable" else codes "MaybeIncorrect"

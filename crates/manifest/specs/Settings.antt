-- A setting of a manifest as a value.
use Rattle.manifest.specs.Manifest as spec
use Rattle.manifest.specs.declared.settings.Setting.{Setting}
use Rattle.manifest.specs.declared.settings.Setting.TheVariants.{Absent, Text, Inherited, Unknown}

-- the value that a setting is
abbrev pub setting_view : Setting → spec.Value
setting_view Absent = spec.absent
setting_view (Text s) = spec.text s.now
setting_view Inherited = spec.inherited
setting_view Unknown = spec.unknown

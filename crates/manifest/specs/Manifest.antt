-- What a Cargo.toml says of its package, by the data that its text is in TOML. `get k d` is the
-- value at the key k of the table d.
use Rattle.std.specs.Prelude.{ℕ, Bool, true, false, ◌&&◌, ◌||◌, ◌==◌, if◌then◌else◌, nat_lt, nat_le}
use Rattle.std.specs.Prelude.{List, Option, Some, None, codes, bytes_eq, option_and_then}
use Rattle.toml.specs.Data.{Data, string, boolean, get}
use Rattle.manifest.specs.declared.versions.Edition.{Edition}
use Rattle.manifest.specs.declared.versions.Edition.TheVariants.{Of2015, Of2018, Of2021, Of2024}
use Rattle.manifest.specs.declared.versions.RustVersion.{RustVersion}

-- the first of two values, if there is one
abbrev pub first_of : {A : Type 0} → Option A → Option A → Option A
first_of None other = other
first_of (Some a) other = Some a

-- the table of the package, also under its old name
abbrev pub package_table : Data → Option Data
package_table manifest = first_of (get (codes "package") manifest) (get (codes "project") manifest)

-- the value of a key of the package
abbrev pub package_value : List ℕ → Data → Option Data
package_value key manifest = option_and_then (get key) (package_table manifest)

-- the table of the workspace
abbrev pub workspace_table : Data → Option Data
workspace_table manifest = get (codes "workspace") manifest

-- the value that a workspace gives its packages for a key
abbrev pub workspace_value : List ℕ → Data → Option Data
workspace_value key manifest =
    option_and_then (get key) (option_and_then (get (codes "package")) (workspace_table manifest))

-- the value is `true`
abbrev pub is_true : Option Data → Bool
is_true (Some (boolean b)) = b
is_true _ = false

-- the value is a table that says `workspace = true`: the workspace has the value
abbrev pub is_inherited : Data → Bool
is_inherited value = is_true (get (codes "workspace") value)

-- what the value of a key is: a text, that of the workspace, or one that cargo refuses
pub data Value : Type 0 where
  absent : Value
  text : List ℕ → Value
  inherited : Value
  unknown : Value

abbrev pub value_of : Option Data → Value
value_of None = absent
value_of (Some (string s)) = text s
value_of (Some value) = if is_inherited value then inherited else unknown

-- the edition of a name
abbrev pub edition_named : List ℕ → Option Edition
edition_named name =
    if bytes_eq name (codes "2015") then Some Of2015 else
    if bytes_eq name (codes "2018") then Some Of2018 else
    if bytes_eq name (codes "2021") then Some Of2021 else
    if bytes_eq name (codes "2024") then Some Of2024 else None

-- the edition is 2021 or a later one
abbrev pub is_from_2021 : Edition → Bool
is_from_2021 Of2015 = false
is_from_2021 Of2018 = false
is_from_2021 Of2021 = true
is_from_2021 Of2024 = true

-- format strings capture variables from Rust 1.58 on
abbrev pub captures_variables : RustVersion → Bool
captures_variables v = nat_lt 1 v.major || (v.major == 1 && nat_le 58 v.minor)

-- the text of a key of a package, by its value there and in the workspace: no text if the key is
-- absent, and nothing at all if cargo refuses the value
abbrev pub key_text : Value → Value → Option (Option (List ℕ))
key_text absent shared = Some None
key_text (text s) shared = Some (Some s)
key_text inherited (text s) = Some (Some s)
key_text inherited absent = None
key_text inherited inherited = None
key_text inherited unknown = None
key_text unknown shared = None

-- the text of a key of a package whose workspace has this manifest
abbrev pub package_text : List ℕ → Data → Option Data → Option (Option (List ℕ))
package_text key manifest workspace =
    key_text (value_of (package_value key manifest))
    (value_of (option_and_then (workspace_value key) workspace))

-- the edition of a package, unless cargo refuses it: 2015 if it names none
abbrev pub edition_of : Option (Option (List ℕ)) → Option Edition
edition_of None = None
edition_of (Some None) = Some Of2015
edition_of (Some (Some name)) = edition_named name

abbrev pub package_edition : Data → Option Data → Option Edition
package_edition manifest workspace = edition_of (package_text (codes "edition") manifest workspace)

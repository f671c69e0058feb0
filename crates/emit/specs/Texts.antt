-- Values of JSON and their texts without white space (RFC 8259), of which a terminal obeys no
-- character.
use Rattle.std.specs.Prelude.{ℕ, Bool, true, false, List, [], ◌∷◌, ◌++◌, Option, Some, None}
use Rattle.std.specs.Prelude.{codes, if◌then◌else◌}
use Rattle.serde_json.specs.Data.{Data, null, boolean, number, string, array, object, unsigned}
use Rattle.serde_json.specs.Data.{Items, no_items, item, Members, no_members, member}
use Rattle.serde_json.specs.Written.{comma_if, number_text}
use Rattle.emit.specs.Escapes.{quoted}

-- The text of a value, of items after the bracket, and of members after the brace, with the bracket
-- or brace at the end.
abbrev mutual
  pub value_text : Data → List ℕ
  value_text null = codes "null"
  value_text (boolean b) = if b then codes "true" else codes "false"
  value_text (number n) = number_text n
  value_text (string t) = quoted t
  value_text (array js) = 91 ∷ items_text false js
  value_text (object ms) = 123 ∷ members_text false ms

  pub items_text : Bool → Items → List ℕ
  items_text later no_items = 93 ∷ []
  items_text later (item d js) = comma_if later ++ (value_text d ++ items_text true js)

  pub members_text : Bool → Members → List ℕ
  members_text later no_members = 125 ∷ []
  members_text later (member k d ms) =
      comma_if later ++ (quoted k ++ 58 ∷ (value_text d ++ members_text true ms))

-- The text of a value.
unfoldable pub json_text : Data → List ℕ
json_text d = value_text d

-- The text of an object with these members, or of these members after another one of it.
unfoldable pub object_text : Bool → Members → List ℕ
object_text later ms = if later then members_text true ms else 123 ∷ members_text false ms

-- The text before a member: the brace of its object, or a comma after another member.
abbrev pub opening : Bool → List ℕ
opening later = if later then codes "," else codes "{"

-- The text of an array with these items, without its bracket at the start, or of these items after
-- another one of it.
unfoldable pub array_text : Bool → Items → List ℕ
array_text later js = items_text later js

-- A text, or null.
abbrev pub text_or_null : Option (List ℕ) → Data
text_or_null None = null
text_or_null (Some t) = string t

-- A number.
abbrev pub number_json : ℕ → Data
number_json n = number (unsigned n)

-- The items that things are, one after the other.
abbrev pub items_of : {A : Type 0} → (A → Data) → List A → Items
items_of f [] = no_items
items_of f (x ∷ xs) = item (f x) (items_of f xs)

-- The texts of values of JSON, part by part.
use Rattle.std.proofs.Common.{◌≡◌, ◌<◌, ◌+◌, ℕ, List, ◌∷◌, ◌++◌, Bool, refl, sym, ap, ◌∙◌}
use Rattle.std.proofs.Common.{append_assoc, drop, get_or, length}
use Rattle.std.proofs.lemmas.List.{drop_more}
use Rattle.std.proofs.Math.Seq.{drop-length}
use Rattle.std.specs.Prelude.{false, true, codes}
use Rattle.emit.specs.Escapes.{quoted}
use Rattle.serde_json.specs.Data.{Data, array, object, Items, no_items, item, Members}
use Rattle.serde_json.specs.Data.{no_members, member}
use Rattle.serde_json.specs.Written.{comma_if}
use Rattle.emit.specs.Texts.{array_text, items_of, json_text, object_text}
use Rattle.emit.specs.Texts.{opening}

key-colon : (k t : List ℕ) → quoted k ++ 58 ∷ t ≡ quoted k ++ (codes ":" ++ t)
key-colon k t = refl

-- A member is what stands in front of it, its key and its value.
pub member-text : (b : Bool) (k : List ℕ) (d : Data) (ms : Members) → object_text b (member k d ms)
    ≡ opening b ++ (quoted k ++ (codes ":" ++ (json_text d ++ object_text true ms)))
unfolding json_text object_text
member-text true k d ms = ap (λ t. 44 ∷ t) (key-colon k (json_text d ++ object_text true ms))
member-text false k d ms = ap (λ t. 123 ∷ t) (key-colon k (json_text d ++ object_text true ms))

-- The end of an object.
pub object-end : object_text true no_members ≡ codes "}"
unfolding object_text
object-end = refl

-- An object from its start on.
pub object-text : (ms : Members) → object_text false ms ≡ json_text (object ms)
unfolding json_text object_text
object-text ms = refl

-- An array from its start on.
pub array-text : (js : Items) → codes "[" ++ array_text false js ≡ json_text (array js)
unfolding json_text array_text
array-text js = refl

-- An item.
pub item-text : (b : Bool) (d : Data) (js : Items) → array_text b (item d js)
    ≡ comma_if b ++ (json_text d ++ array_text true js)
unfolding json_text array_text
item-text b d js = refl

-- The end of an array.
pub array-end : (b : Bool) → array_text b no_items ≡ codes "]"
unfolding array_text
array-end b = refl

-- A value that is written after its key.
pub value-after : {x : List ℕ} (a b r : List ℕ) (v : List ℕ) → b ≡ a ++ v → a ++ (v ++ r) ≡ x
    → b ++ r ≡ x
value-after a b r v e h = rw e (append_assoc a v r ∙ h)

-- A value that is the last part of an object.
pub whole : (old new : List ℕ) (ms : Members) → new ≡ old ++ object_text false ms
    → new ≡ old ++ json_text (object ms)
whole old new ms e = e ∙ ap (λ t. old ++ t) (object-text ms)

-- An array of one item.
pub array-of-one : (d : Data) → json_text (array (item d no_items))
    ≡ codes "[" ++ (json_text d ++ codes "]")
unfolding json_text
array-of-one d = refl

-- An array of which only the bracket at the start is written.
pub array-begins : (old new : List ℕ) (js : Items) → new ≡ old ++ codes "["
    → new ++ array_text false js ≡ old ++ json_text (array js)
array-begins old new js e =
    rw e (append_assoc old (codes "[") (array_text false js) ∙ ap (λ t. old ++ t) (array-text js))

-- An item that is written.
pub item-after : {x : List ℕ} (later : Bool) (out a b : List ℕ) (d : Data) (js : Items)
    → a ≡ out ++ comma_if later → b ≡ a ++ json_text d
    → out ++ array_text later (item d js) ≡ x → b ++ array_text true js ≡ x
item-after later out a b d js e f h = rw (f, e) (
    append_assoc (out ++ comma_if later) (json_text d) (array_text true js)
    ∙ (append_assoc out (comma_if later) (json_text d ++ array_text true js)
    ∙ (ap (λ t. out ++ t) (sym (item-text later d js)) ∙ h)))

-- One of several things that is written.
pub items-step : {A : Type 0} {x : List ℕ} (f : A → Data) (xs : List A) (i : ℕ) (y : A)
    (later : Bool) (out a b : List ℕ) → i < length xs → a ≡ out ++ comma_if later
    → b ≡ a ++ json_text (f (get_or xs i y))
    → out ++ array_text later (items_of f (drop i xs)) ≡ x
    → b ++ array_text true (items_of f (drop (i + 1) xs)) ≡ x
items-step f xs i y later out a b l e g h = item-after later out a b (f (get_or xs i y))
    (items_of f (drop (i + 1) xs)) e g
    (ap (λ t. out ++ array_text later (items_of f t)) (sym (drop_more xs i y l)) ∙ h)

-- The end after the last of several things.
pub items-end : {A : Type 0} {x : List ℕ} (f : A → Data) (xs : List A) (i : ℕ) (later : Bool)
    (out new : List ℕ) → i ≡ length xs → new ≡ out ++ codes "]"
    → out ++ array_text later (items_of f (drop i xs)) ≡ x → new ≡ x
items-end f xs i later out new n e h = e ∙ (ap (λ t. out ++ t) (sym (array-end later))
    ∙ (ap (λ t. out ++ array_text later (items_of f t)) (sym (drop-length xs))
    ∙ (ap (λ k. out ++ array_text later (items_of f (drop k xs))) (sym n) ∙ h)))

-- An array after its bracket.
pub bracket-after : {x : List ℕ} (a b r : List ℕ) (js : Items) → b ≡ a ++ codes "["
    → a ++ (json_text (array js) ++ r) ≡ x → b ++ (array_text false js ++ r) ≡ x
bracket-after a b r js e h = rw e (append_assoc a (codes "[") (array_text false js ++ r)
    ∙ (ap (λ t. a ++ (t ++ r)) (array-text js) ∙ h))

-- The only item of an array after its bracket, with the end of the array.
pub one-after : {x : List ℕ} (a b r : List ℕ) (d : Data) → b ≡ a ++ codes "["
    → a ++ (json_text (array (item d no_items)) ++ r) ≡ x
    → b ++ (json_text d ++ (array_text true no_items ++ r)) ≡ x
one-after a b r d e h = rw (e, array-end) (append_assoc a (codes "[") (json_text d ++ 93 ∷ r)
    ∙ (ap (λ t. a ++ 91 ∷ t) (sym (append_assoc (json_text d) (codes "]") r))
    ∙ (ap (λ t. a ++ (t ++ r)) (sym (array-of-one d)) ∙ h)))

-- The end of a text, taken apart.
pub regroup : (n a b t : List ℕ) → n ++ (a ++ (b ++ t)) ≡ (n ++ (a ++ b)) ++ t
regroup n a b t = simp append_assoc

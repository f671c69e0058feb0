-- Worked examples of arguments that are a name and nothing else, and of some that are not.
use Rattle.std.proofs.Common.{◌≡◌, refl, ap, codes, Option, Some, None}
use Rattle.rustc_parse_format.specs.Types.{Position, Implicit, Index, Named, Count, Is, Implied}
use Rattle.rustc_parse_format.specs.Types.{Spec, Argument, default_spec}
use Rattle.rustc_parse_format.specs.Identifiers.{IsIdentifier}
use Rattle.rustc_parse_format.specs.World.{Place}

-- an argument, by its position, the place of this, and its format
abbrev argument : Position → Place → Spec Place → Argument Place
argument p s f = record { position = p; position_span = s; format = f }

-- `{foo}`
name-is_an_identifier : IsIdentifier (argument (Named (codes "foo")) (2, 5) default_spec)
name-is_an_identifier = record { name = codes "foo"; position = refl; format = refl }

-- `{}`
implicit_position-is_no_identifier : ¬ (IsIdentifier (argument (Implicit 0) (2, 2) default_spec))
implicit_position-is_no_identifier h = let e : ◌≡◌ {A = Position} (Implicit 0) (Named h.name) =
    h.position in cc

-- `{3}`
index-is_no_identifier : ¬ (IsIdentifier (argument (Index 3) (2, 3) default_spec))
index-is_no_identifier h = let e : ◌≡◌ {A = Position} (Index 3) (Named h.name) = h.position in cc

-- `{foo:5}`
name_with_a_width-is_no_identifier : ¬
    (IsIdentifier
    (argument (Named (codes "foo")) (2, 5)
    (record default_spec { width = Is 5; width_span = Some (6, 7) })))
name_with_a_width-is_no_identifier h = let e : ◌≡◌ {A = Count Place} (Is 5) Implied =
    ap (λ s. s.width) h.format in cc

-- `{foo:}` in a diagnostic, where the text after the colon is empty and has its place
name_with_an_empty_text-is_no_identifier : ¬
    (IsIdentifier
    (argument (Named (codes "foo")) (2, 5) (record default_spec { ty_span = Some (5, 6) })))
name_with_an_empty_text-is_no_identifier h = let e : ◌≡◌ {A = Option Place} (Some (5, 6)) None =
    ap (λ s. s.ty_span) h.format in cc

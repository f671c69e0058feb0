-- What findings say of diagnostics, one note after the other.
use Rattle.std.proofs.Common.{◌≡◌, ◌++◌, ◌∷◌, ◌∙◌, [], List, None, Option, Some, ap, map, refl}
use Rattle.std.proofs.Common.{sym}
use Rattle.std.specs.Prelude.{string_bytes}
use Rattle.std.specs.List.{filter_map}
use Rattle.std.proofs.lemmas.List.{append-nil, map-append}
use Rattle.std.proofs.lemmas.List.Elements.{filter_map-append}
use Rattle.diagnostic.specs.Parts.{Note, seen_note}
use Rattle.diagnostic.specs.declared.parts.Note.{Note as DeclaredNote}
use Rattle.message_faults.specs.Diagnostics.{diagnostic}
use Rattle.message_faults.specs.Messages.{MessageFault, TextFault, Specifier, Positional}
use Rattle.message_faults.specs.Messages.{MissingParameter}
use Rattle.rustc_parse_format.specs.Characters.{Text}
use Rattle.source_report.specs.declared.report.Note.{Note as FoundNote}
use Rattle.asm_lint.specs.Findings.{SaidHelp, found_note, help_among, help_of_level, said_note}

pub nothing_suggested : (t : Text) (f : MessageFault) → (diagnostic t f).suggestions ≡ []
unfolding diagnostic
nothing_suggested t (TextFault f) = refl
nothing_suggested t (Specifier s) = refl
nothing_suggested t (Positional s) = refl
nothing_suggested t (MissingParameter s w) = refl

filter_map-one : {X Y : Type 0} (f : X → Option Y) (x : X) (y : Y) → f x ≡ Some y
    → filter_map f (x ∷ []) ≡ y ∷ []
filter_map-one f x y e = rw e refl

filter_map-none : {X Y : Type 0} (f : X → Option Y) (x : X) → f x ≡ None
    → filter_map f (x ∷ []) ≡ []
filter_map-none f x e = rw e refl

-- one note more, which is no help
pub note-more : {P : Type 0} (xs zs : List FoundNote) (ys : List (DeclaredNote P)) (x : FoundNote)
    (y : DeclaredNote P) → zs ≡ xs ++ x ∷ []
    → map found_note xs ≡ filter_map said_note (map seen_note ys)
    → said_note (seen_note y) ≡ Some (found_note x)
    → map found_note zs ≡ filter_map said_note (map seen_note (ys ++ y ∷ []))
note-more xs zs ys x y e h k = ap (map found_note) e
    ∙ (map-append found_note xs (x ∷ [])
    ∙ (ap (λ v. v ++ found_note x ∷ []) h
    ∙ sym (ap (filter_map said_note) (map-append seen_note ys (y ∷ []))
    ∙ (filter_map-append said_note (map seen_note ys) (seen_note y ∷ [])
    ∙ ap (λ v. filter_map said_note (map seen_note ys) ++ v)
    (filter_map-one said_note (seen_note y) (found_note x) k)))))

-- one note more, which is a help
pub note-same : {P : Type 0} (xs : List FoundNote) (ys : List (DeclaredNote P))
    (y : DeclaredNote P) → map found_note xs ≡ filter_map said_note (map seen_note ys)
    → said_note (seen_note y) ≡ None
    → map found_note xs ≡ filter_map said_note (map seen_note (ys ++ y ∷ []))
note-same xs ys y h k = h
    ∙ sym (ap (filter_map said_note) (map-append seen_note ys (y ∷ []))
    ∙ (filter_map-append said_note (map seen_note ys) (seen_note y ∷ [])
    ∙ (ap (λ v. filter_map said_note (map seen_note ys) ++ v)
    (filter_map-none said_note (seen_note y) k)
    ∙ append-nil (filter_map said_note (map seen_note ys)))))

help-more : {P : Type 0} (h : Option SaidHelp) (ns : List (Note P)) (n : Note P)
    → help_among h (ns ++ n ∷ []) ≡ help_of_level n.level n.text (help_among h ns)
help-more h [] n = refl
help-more h (m ∷ ns) n = help-more (help_of_level m.level m.text h) ns n

-- the help after one note more
pub help-step : {P : Type 0} (ys : List (DeclaredNote P)) (y : DeclaredNote P)
    (h next : Option SaidHelp) → h ≡ help_among None (map seen_note ys)
    → next ≡ help_of_level y.level (string_bytes y.text) h
    → next ≡ help_among None (map seen_note (ys ++ y ∷ []))
help-step ys y h next e k = k
    ∙ (ap (λ v. help_of_level y.level (string_bytes y.text) v) e
    ∙ sym (ap (λ v. help_among None v) (map-append seen_note ys (y ∷ []))
    ∙ help-more None (map seen_note ys) (seen_note y)))

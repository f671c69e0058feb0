-- Where the text ends that a content stands for, by the unit at the start of the content.
use Rattle.std.proofs.Common.{◌≡◌, ◌≢◌, ℕ, ◌+◌, ◌-◌, Bool, true, false, ◌&&◌, ◌↔◌, List, [], ◌∷◌}
use Rattle.std.proofs.Common.{refl, sym, ap, ◌∙◌, Option, Some, None, IsTrue, if◌then◌else◌}
use Rattle.std.proofs.Common.{◌++◌, arith, length, length-append}
use Rattle.std.specs.Prelude.{bytes_eq, ◌==◌}
use Rattle.std.specs.Char.{len_utf8}
use Rattle.std.specs.List.{list_all}
use Rattle.std.proofs.lemmas.Bool.{and_parts, cond_both, eq-eqb}
use Rattle.std.proofs.lemmas.Option.{same_Some, none-some}
use Rattle.std.proofs.lemmas.Slice.Eq.{bytes_eq-Decides}
use Rattle.rustc_parse_format.specs.Characters.{Text, after_first, begins_with, byte_length}
use Rattle.rustc_parse_format.specs.LiteralUnits.{LiteralUnit, Plain, spelling, value, meaning}
use Rattle.rustc_parse_format.specs.LiteralUnits.{unit_at, at_most_one, is_plain}
use Rattle.rustc_parse_format.specs.Literal.{units, more_units, content_value}
use Rattle.rustc_parse_format.specs.World.{content_places, last_stop}
use Rattle.rustc_parse_format.specs.LiteralReading.{SameEnds, SharePlain, end_of, spelled_end}
use Rattle.rustc_parse_format.proofs.Literals.Contents.{units-nil, units-some, units-none}
use Rattle.rustc_parse_format.proofs.Literals.Meanings.{meaning-none, meaning-some, meaning-shorter}
use Rattle.rustc_parse_format.proofs.Literals.Meanings.{meaning-narrower}
use Rattle.rustc_parse_format.proofs.Literals.Places.{past}
use Rattle.rustc_parse_format.proofs.Literals.UnitLaws.{unit_at-complete}
use Rattle.rustc_parse_format.proofs.Literals.Widths.{width-append, width-cons}

pub end-none : (at e : ℕ) (t w : Text) → t ≢ [] → meaning (unit_at t) ≡ None
    → spelled_end at e t w ≡ None
unfolding spelled_end
end-none at e [] w n h = absurd (n refl)
end-none at e (c ∷ t) w n h = ap (λ o. end_of at e o w) (units-none c t (meaning-none _ h))

pub end-nothing : (at f e : ℕ) (t r w : Text) → meaning (unit_at t) ≡ Some ([], r)
    → at + byte_length t ≡ f + byte_length r →
    spelled_end at e t w ≡ spelled_end f e r w
unfolding spelled_end
end-nothing at f e t r w h l =
    let m = meaning-some (unit_at t) [] r h in
    ap (λ o. end_of at e o w) (units-some t m.unit r m.is_it)
    ∙ by_rest m.unit m.has_value (past at f t [] r l m) (units r)
  where
    by_rest : (u : LiteralUnit) → value u ≡ [] → at + byte_length (spelling u) ≡ f
        → (o : Option (List LiteralUnit)) →
        end_of at e (more_units u o) w ≡ end_of f e o w
    by_rest u v k None = refl
    by_rest u v k (Some us) = rw (v, k) refl

and_if : {A : Type 0} (a b : Bool) (x y : A) → (if a && b then x else y)
    ≡ (if a then (if b then x else y) else y)
and_if true b x y = refl
and_if false b x y = refl

if_same : {A : Type 0} (a : Bool) (x : A) → x ≡ (if a then x else x)
if_same true x = refl
if_same false x = refl

end-character : (at f e : ℕ) (t r w : Text) (c : ℕ) → meaning (unit_at t) ≡ Some (c ∷ [], r)
    → at + byte_length t ≡ f + byte_length r →
    spelled_end at e t w ≡ (if begins_with c w then spelled_end f f r (after_first w) else None)
unfolding spelled_end
end-character at f e t r w c h l =
    let m = meaning-some (unit_at t) (c ∷ []) r h in
    ap (λ o. end_of at e o w) (units-some t m.unit r m.is_it)
    ∙ by_rest m.unit m.has_value (past at f t (c ∷ []) r l m) (units r) w
  where
    by_rest : (u : LiteralUnit) → value u ≡ c ∷ [] → at + byte_length (spelling u) ≡ f
        → (o : Option (List LiteralUnit)) (w : Text) →
        end_of at e (more_units u o) w ≡ (if begins_with c w then end_of f f o
        (after_first w) else None)
    by_rest u v k None w = if_same (begins_with c w) None
    by_rest u v k (Some us) [] = rw v refl
    by_rest u v k (Some us) (d ∷ w) =
        rw (v, k) (and_if (d == c) (bytes_eq w (content_value us)) _ _)

-- the same where the value is known as at most one character, by what the text begins with
pub end-differs : (at f e : ℕ) (t r w : Text) (v : Option ℕ) (c : ℕ)
    → meaning (unit_at t) ≡ Some (at_most_one v, r) → v ≡ Some c →
    at + byte_length t ≡ f + byte_length r → begins_with c w ≡ false → spelled_end at e t w ≡ None
end-differs at f e t r w v c h k l b =
    end-character at f e t r w c (h ∙ ap (λ x. Some (at_most_one x, r)) k) l
    ∙ ap (λ x. if x then spelled_end f f r (after_first w) else None) b

pub end-agrees : (at f e : ℕ) (t r w : Text) (v : Option ℕ) (c : ℕ)
    → meaning (unit_at t) ≡ Some (at_most_one v, r) → v ≡ Some c →
    at + byte_length t ≡ f + byte_length r → begins_with c w ≡ true
    → spelled_end at e t w ≡ spelled_end f f r (after_first w)
end-agrees at f e t r w v c h k l b =
    end-character at f e t r w c (h ∙ ap (λ x. Some (at_most_one x, r)) k) l
    ∙ ap (λ x. if x then spelled_end f f r (after_first w) else None) b

-- plain characters, in front of a content and of a text
end-plain : (at f : ℕ) (u t w : Text) → IsTrue (list_all is_plain u) → at + byte_length u ≡ f
    → spelled_end at at (u ++ t) (u ++ w) ≡ spelled_end f f t w
end-plain at f [] t w h l = let e : at ≡ f = omega arith in ap (λ k. spelled_end k k t w) e
end-plain at f (c ∷ u) t w h l =
    let parts = and_parts (is_plain c) _ h in
    let next = at + len_utf8 c in
    end-character at next at (c ∷ (u ++ t)) (u ++ t) (c ∷ (u ++ w)) c
    (ap meaning (unit_at-complete (Plain c) (u ++ t) parts.0 refl))
    (omega (arith, width-cons c (u ++ t)))
    ∙ (ap (λ b. if b then spelled_end next next (u ++ t) (u ++ w) else None) (eq-eqb c c refl)
    ∙ end-plain next f u t w parts.1 (omega (arith, width-cons c u)))

-- the rests of both, after fronts that stand for the same
pub ends-after : (t w r v p q : Text) → SameEnds t w r v → SameEnds r v p q → SameEnds t w p q
ends-after t w r v p q a b =
    let m = a.narrower in let n = b.narrower in let k = a.shorter in let o = b.shorter in
    record {
      narrower = omega arith;
      shorter = omega arith;
      ends = λ at f l. let k = at + byte_length t - byte_length r in
          a.ends at k (omega arith) ∙ b.ends k f (omega arith);
    }

pub ends-plain : (t w r v : Text) → SharePlain t w r v → SameEnds t w r v
ends-plain t w r v p = record {
  narrower = omega (arith, ap byte_length p.text, width-append p.front r);
  shorter = omega (arith, ap length p.text, length-append p.front r);
  ends = λ at f l. ap (λ x. spelled_end at at x w) p.text
      ∙ (ap (λ x. spelled_end at at (p.front ++ r) x) p.other
      ∙ end-plain at f p.front r v p.plain
      (omega (arith, ap byte_length p.text, width-append p.front r)));
}

-- a unit that stands for the character with which the text goes on
pub ends-unit : (t r w : Text) (c : ℕ) → meaning (unit_at t) ≡ Some (c ∷ [], r)
    → begins_with c w ≡ true → SameEnds t w r (after_first w)
ends-unit t r w c h b = record {
  narrower = meaning-narrower t (c ∷ []) r h;
  shorter = let less = meaning-shorter t (c ∷ []) r h in omega arith;
  ends = λ at f l. end-character at f at t r w c h l
      ∙ ap (λ x. if x then spelled_end f f r (after_first w) else None) b;
}

pub end-over : (at e : ℕ) (t w : Text) (b : Bool) → t ≡ [] → (IsTrue b ↔ (w ≡ []))
    → spelled_end at e t w ≡ (if b then Some e else None)
unfolding spelled_end
end-over at e t w b h f = rw (h, units-nil) (by_text w b f)
  where
    by_text : (w : Text) (b : Bool) → (IsTrue b ↔ (w ≡ []))
        → (if bytes_eq w [] then Some e else None) ≡ (if b then Some e else None)
    by_text [] b f = rw (f.1 refl) refl
    by_text (d ∷ w) false f = refl
    by_text (d ∷ w) true f = let e : d ∷ w ≡ [] = f.0 refl in absurd cc

-- the units of a text that is spelled, and back
pub end-parts : (at e n : ℕ) (q t : Text) → spelled_end at e q t ≡ Some n →
    (us : List LiteralUnit) × (units q ≡ Some us) × (content_value us ≡ t)
    × (n ≡ last_stop e (content_places at us))
unfolding spelled_end
end-parts at e n q t h = by_units (units q) refl h
  where
    by_units : (o : Option (List LiteralUnit)) → units q ≡ o → end_of at e o t ≡ Some n →
        (us : List LiteralUnit) × (units q ≡ Some us) × (content_value us ≡ t)
        × (n ≡ last_stop e (content_places at us))
    by_units None f h = absurd (none-some n h)
    by_units (Some us) f h = cond_both (bytes_eq t (content_value us))
        (Some (last_stop e (content_places at us))) None
        (λ o. o ≡ Some n → (us : List LiteralUnit) × (units q ≡ Some us) × (content_value us ≡ t)
        × (n ≡ last_stop e (content_places at us)))
        (λ yes k. (
          us,
          f,
          sym ((bytes_eq-Decides t (content_value us)).0 yes),
          sym (same_Some (last_stop e (content_places at us)) n k),
        ))
        (λ none k. absurd (none-some n k)) h

pub end-from : (at e : ℕ) (q t : Text) (us : List LiteralUnit) → units q ≡ Some us
    → content_value us ≡ t →
    spelled_end at e q t ≡ Some (last_stop e (content_places at us))
unfolding spelled_end
end-from at e q t us h v =
    ap (λ o. end_of at e o t) h
    ∙ ap (λ b. if b then Some (last_stop e (content_places at us)) else None)
    ((bytes_eq-Decides t (content_value us)).1 (sym v))

pub ruleset end_steps = (meaning-shorter, meaning-narrower)

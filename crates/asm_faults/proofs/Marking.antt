-- How the operands that lookups mean are marked, and the others left.
use Rattle.std.proofs.Common.{◌≡◌, ℕ, suc, zero, ◌+◌, ◌<◌, ◌++◌, ◌==◌, ◌||◌, Bool, true}
use Rattle.std.proofs.Common.{false, refl, List, [], ◌∷◌, length, map, take, get_or, cond}
use Rattle.std.proofs.Common.{Some, arith, ap, ◌∙◌, sym}
use Rattle.std.proofs.Common.{eqb-true}
use Rattle.std.specs.List.{list_any, slice_get}
use Rattle.std.specs.Option.{option_map_or}
use Rattle.std.proofs.lemmas.Bool.{and_parts}
use Rattle.rustc_parse_format.specs.Characters.{Text}
use Rattle.text_faults.proofs.Collecting.{list_any-next}
use Rattle.text_faults.proofs.Marks.{or-none}
use Rattle.asm_faults.specs.Comparison.{is_unnamed, means, unused_from, unused_one}
use Rattle.asm_faults.specs.Lookups.{Lookup, ByIndex, ByName, Long}
use Rattle.asm_faults.specs.Operands.{Operand, has_name, index_from}

unnamed-below : (ss : List Operand) (n : ℕ) → is_unnamed (slice_get ss n) ≡ true → n < length ss
unnamed-below [] n e = absurd cc
unnamed-below (s ∷ ss) zero e = omega arith
unnamed-below (s ∷ ss) (suc n) e = let h = unnamed-below ss n e in omega arith

named-below : (j : ℕ) (ss : List Operand) (w : Text) (i : ℕ)
    → option_map_or (λ k. i == k) (index_from j ss w) false ≡ true → i < j + length ss
named-below j [] w i e = absurd cc
named-below j (s ∷ ss) w i e = choose (has_name w s) e
    (λ f. let h = named-below (suc j) ss w i f in omega arith)
  where
    choose : (b : Bool)
        → option_map_or (λ k. i == k) (cond b (Some j) (index_from (suc j) ss w)) false ≡ true
        → (option_map_or (λ k. i == k) (index_from (suc j) ss w) false ≡ true
        → i < j + suc (length ss)) → i < j + suc (length ss)
    choose true e f = let s = eqb-true i j e in omega arith
    choose false e f = f e

-- an operand that a lookup means is one of those that there are
pub means-below : (ss : List Operand) (i : ℕ) (l : Lookup) → means ss i l ≡ true → i < length ss
means-below ss i (ByIndex s n) e =
    let both = and_parts (is_unnamed (slice_get ss n)) (i == n) e in
    let same = eqb-true i n both.1 in
    let h = unnamed-below ss n both.0 in
    omega arith
means-below ss i (ByName s w) e = let h = named-below 0 ss w i e in omega arith
means-below ss i (Long s) e = absurd cc

-- one lookup more
pub marked-next : {A : Type 0} (f : A → Lookup) (ss : List Operand) (ls : List A) (j : ℕ) (d : A)
    (i : ℕ) (old new b : Bool) → j < length ls
    → old ≡ list_any (means ss i) (map f (take j ls))
    → b ≡ means ss i (f (get_or ls j d)) → new ≡ (old || b)
    → new ≡ list_any (means ss i) (map f (take (j + 1) ls))
marked-next f ss ls j d i old new b l e g m = m ∙ ap (λ c. c || b) e
    ∙ ap (λ c. list_any (means ss i) (map f (take j ls)) || c) (g
    ∙ sym (or-none (means ss i (f (get_or ls j d))) false refl))
    ∙ sym (list_any-next f (means ss i) ls j d l)

unused_one-same : (b c : Bool) (i : ℕ) (s : Operand) → b ≡ c
    → unused_one (λ j. b) i s ≡ unused_one (λ j. c) i s
unused_one-same b c i s e = ap (λ (d : Bool). unused_one (λ j. d) i s) e

-- tests that hold for the same indices leave the same operands
pub unused-same : (f g : ℕ → Bool) → ((i : ℕ) → f i ≡ g i) → (i : ℕ) (ss : List Operand)
    → unused_from f i ss ≡ unused_from g i ss
unused-same f g e i [] = refl
unused-same f g e i (s ∷ ss) =
    ap (λ (is : List ℕ). is ++ unused_from f (suc i) ss) (unused_one-same (f i) (g i) i s (e i))
    ∙ ap (λ (is : List ℕ). unused_one g i s ++ is) (unused-same f g e (suc i) ss)

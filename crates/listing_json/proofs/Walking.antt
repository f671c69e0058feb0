-- The calls of a parser, and those that are still to come after one of them.
use Rattle.std.proofs.Common.{◌≡◌, ◌∙◌, ◌∷◌, [], Bool, true, false, List, Option, Some, None, ap}
use Rattle.std.proofs.Common.{ℕ, suc, ◌++◌, ◌<◌, ◌==◌, ◌||◌, arith, length, map, nat_lt}
use Rattle.std.proofs.Common.{not, refl, subst, sym}
use Rattle.std.proofs.lemmas.Bool.Decides.{nat_tests}
use Rattle.std.proofs.lemmas.List.{length-map}
use Rattle.std.specs.Prelude.{is_some, option_map}
use Rattle.rustc_parse_format.specs.Call.{Call}
use Rattle.rustc_parse_format.specs.State.{State, state_after, calls, next_call}
use Rattle.rustc_parse_format.specs.World.{piece_in}
use Rattle.json.specs.Json.{Json}
use Rattle.listing_json.specs.Lines.{Adds, call_values, calls_values, has_faults}
use Rattle.listing_json.proofs.Adding.{Owes, owes-next}
use Rattle.rustc_parse_format.proofs.Walking.Nexts.{piece_moves}
use Rattle.rustc_parse_format.proofs.Walking.StateWalks.{calls-none, calls-some}

-- The calls from this state on, unless the walk has ended.
abbrev pub left : Bool → State → List Call
left true s = calls s
left false s = []

-- More turns than are left.
abbrev pub turns : Bool → State → ℕ
turns true s = suc (length s.rest)
turns false s = 0

pub calls-next : (s new : State) → new ≡ record (state_after s (next_call s)) { errors = s.errors }
    → calls s ≡ next_call s ∷ left (is_some (next_call s).piece) new
calls-next s new e = by_piece (next_call s).piece refl where
  by_piece : (o : Option _) → (next_call s).piece ≡ o → calls s
      ≡ next_call s ∷ left (is_some (next_call s).piece) new
  by_piece None h = calls-none s h ∙ ap (λ o. next_call s ∷ left (is_some o) new) (sym h)
  by_piece (Some p) h = calls-some s p h
      ∙ (ap (λ t. next_call s ∷ calls t) (sym e)
      ∙ ap (λ o. next_call s ∷ left (is_some o) new) (sym h))

pub turns-fewer : (s new : State) → new ≡ record (state_after s (next_call s)) { errors = s.errors }
    → turns (is_some (next_call s).piece) new < suc (length s.rest)
turns-fewer s new e = by_piece (next_call s).piece refl where
  by_piece : (o : Option _) → (next_call s).piece ≡ o
      → turns (is_some (next_call s).piece) new < suc (length s.rest)
  by_piece None h = rw h (omega arith)
  by_piece (Some p) h =
      let shorter = piece_moves (piece_in s.world) s (state_after s (next_call s)) p
      (ap (option_map (piece_in s.world)) (sym h)) refl in
      rw (h, e) (omega (arith, shorter))

pub values-next : (s new : State) → new ≡ record (state_after s (next_call s)) { errors = s.errors }
    → calls_values s.world (calls s) ≡ call_values s.world (next_call s)
    ++ calls_values new.world (left (is_some (next_call s).piece) new)
values-next s new e = ap (calls_values s.world) (calls-next s new e)
    ∙ ap (λ (t : State). call_values s.world (next_call s)
    ++ calls_values t.world (left (is_some (next_call s).piece) new)) (sym e)

-- The lines of a call are added, so those of the calls after it are still to come.
pub owes-call : (s new : State) (b : Bool) (all : List Json) (old now next : List ℕ)
    → new ≡ record (state_after s (next_call s)) { errors = s.errors }
    → b ≡ is_some (next_call s).piece → Adds (call_values s.world (next_call s)) now next
    → Owes (calls_values s.world (calls s)) all old now
    → Owes (calls_values new.world (left b new)) all old next
owes-call s new b all old now next e g k h =
    subst (λ x. Owes (calls_values new.world (left x new)) all old next) (sym g)
    (owes-next _ _ _ _ _ _ _ (values-next s new e) h k)

or-assoc : (a b c : Bool) → ((a || b) || c) ≡ (a || (b || c))
or-assoc true b c = refl
or-assoc false b c = refl

-- Whether there is a fault in a call or in those after it.
pub faults-next : (s new : State) (a b x t : Bool)
    → new ≡ record (state_after s (next_call s)) { errors = s.errors }
    → b ≡ is_some (next_call s).piece → x ≡ nat_lt 0 (length (next_call s).faults)
    → (a || has_faults (calls s)) ≡ t → ((a || x) || has_faults (left b new)) ≡ t
faults-next s new a b x t e g f h =
    let one = ap has_faults (calls-next s new e)
    ∙ (ap (λ y. y || has_faults (left (is_some (next_call s).piece) new)) (sym f)
    ∙ ap (λ y. x || has_faults (left y new)) (sym g)) in
    or-assoc a x (has_faults (left b new)) ∙ (ap (λ y. a || y) (sym one) ∙ h)

not-zero : (n : ℕ) → not (n == 0) ≡ nat_lt 0 n
not-zero n = grind (arith, nat_tests)

-- Lists that are the same in other words have both an item, or none.
pub some-listed : {A B C : Type 0} (f : A → C) (g : B → C) (xs : List A) (ys : List B)
    → map f xs ≡ map g ys → not (length xs == 0) ≡ nat_lt 0 (length ys)
some-listed f g xs ys e = not-zero (length xs)
    ∙ ap (nat_lt 0) (sym (length-map xs f) ∙ (ap length e ∙ length-map ys g))

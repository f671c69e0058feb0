-- What comes from the calls of the parts of a file is what comes from those of the file.
use Rattle.std.proofs.Common.{◌≡◌, ◌<◌, ◌≤◌, ◌+◌, ◌-◌, ◌++◌, ◌⊎◌, ℕ, List, [], ◌∷◌, inl, inr}
use Rattle.std.proofs.Common.{ap, sym, subst, ◌∙◌, length, length-append, arith, map, refl}
use Rattle.std.specs.Prelude.{Contains}
use Rattle.std.proofs.lemmas.Bool.{cases_lt}
use Rattle.std.proofs.lemmas.List.{append_assoc, append-nil}
use Rattle.std.proofs.lemmas.List.Elements.{Contains-append_cases, Contains-append_left}
use Rattle.std.proofs.lemmas.List.Elements.{Contains-append_right}
use Rattle.rust_trees.specs.Forests.{IsPair}
use Rattle.rust_trees.specs.Leaves.{Leaf}
use Rattle.format_calls.specs.Calls.{IsCall, Rises}
use Rattle.format_calls.specs.Parts.{IsPart, moved_call}
use Rattle.format_calls.specs.Rows.{Entry}
use Rattle.format_calls.specs.declared.listing.Call.{Call}
use Rattle.format_calls.proofs.CallSteps.{call-within}
use Rattle.source_lint.specs.CallLists.{AreCalls, Gives, OfCalls}
use Rattle.asm_lint.proofs.Elements.{here, in-mapped, mapped-in, nothing-in}
use Rattle.call_forms.proofs.Embedding.{Embeds, embeds}

-- Calls in order stay so further on, and after others.
rises-moved : (g from to : ℕ) (cs : List Call) → Rises from cs to
    → Rises (g + from) (map (moved_call g) cs) (g + to)
rises-moved g from to [] r = omega (arith, r)
rises-moved g from to (c ∷ cs) r =
    let n : g + (c.name + 1) ≡ g + c.name + 1 = omega arith in (
      omega (arith, r.0),
      subst (λ v. Rises v (map (moved_call g) cs) (g + to)) n (rises-moved g (c.name + 1) to cs
          r.1),
    )

rises-from : (less from to : ℕ) (cs : List Call) → less ≤ from → Rises from cs to
    → Rises less cs to
rises-from less from to [] h r = omega (arith, h, r)
rises-from less from to (c ∷ cs) h r = (omega (arith, h, r.0), r.1)

rises-join : (from mid to : ℕ) (cs ds : List Call) → Rises from cs mid → Rises mid ds to
    → Rises from (cs ++ ds) to
rises-join from mid to [] ds r s = rises-from from mid to ds r s
rises-join from mid to (c ∷ cs) ds r s = (r.0, rises-join (c.name + 1) mid to cs ds r.1 s)

-- A call whose tokens stand n tokens further back.
abbrev back : ℕ → Call → Call
back n c = record { rule = c.rule; name = c.name - n; close = c.close - n }

moved-back : (n : ℕ) (c : Call) → n ≤ c.name → n ≤ c.close
    → ◌≡◌ {A = Call} (moved_call n (back n c)) c
moved-back n c h k =
    let a : n + (c.name - n) ≡ c.name = omega (arith, h) in
    let b : n + (c.close - n) ≡ c.close = omega (arith, k) in
    rw (a, b) refl

-- A call closes after its name.
closes-later : (es : List Entry) (xs : List Leaf) (c : Call) → IsCall es xs c → c.name < c.close
closes-later es xs c k = let e = k.is_pair.ends in omega (arith, e)

-- A call of a part, or of what is left after it, is one of all.
is-one : (es : List Entry) (gap part left : List Leaf) (cs ds : List Call) (c : Call)
    → IsPart es gap part left → AreCalls es part cs → AreCalls es left ds
    → Contains (map (moved_call (length gap)) cs) c
    ⊎ Contains (map (moved_call (length gap + length part)) ds) c
    → IsCall es (gap ++ (part ++ left)) c
is-one es gap part left cs ds c p a b (inl h) =
    let f = in-mapped (moved_call (length gap)) cs c h in
    let k = (a.each f.from).0 f.is_in in
    subst (λ d. IsCall es (gap ++ (part ++ left)) d) f.is_it
    ((p.inside f.from (call-within es part f.from k)).0 k)
is-one es gap part left cs ds c p a b (inr h) =
    let f = in-mapped (moved_call (length gap + length part)) ds c h in
    subst (λ d. IsCall es (gap ++ (part ++ left)) d) f.is_it
    ((p.rest_after f.from).0 ((b.each f.from).0 f.is_in))

-- Each call is one of a part, or of what is left after it.
is-there : (es : List Entry) (gap part left : List Leaf) (cs ds : List Call) (c : Call)
    → IsPart es gap part left → AreCalls es part cs → AreCalls es left ds
    → IsCall es (gap ++ (part ++ left)) c
    → Contains (map (moved_call (length gap)) cs
    ++ map (moved_call (length gap + length part)) ds) c
is-there es gap part left cs ds c p a b k = by_place (cases_lt c.name (length gap + length part))
  where
    first : List Call
    first = map (moved_call (length gap)) cs

    second : List Call
    second = map (moved_call (length gap + length part)) ds

    by_place : (c.name < length gap + length part) ⊎ (length gap + length part ≤ c.name)
        → Contains (first ++ second) c
    by_place (inl l) =
        let g = p.before c k in
        let z = closes-later es (gap ++ (part ++ left)) c k in
        let d = back (length gap) c in
        let e : moved_call (length gap) d ≡ c =
        moved-back (length gap) c g (omega (arith, g, z)) in
        let m = (p.inside d (omega (arith, g, l))).1
        (subst (λ v. IsCall es (gap ++ (part ++ left)) v) (sym e) k) in
        Contains-append_left first second c
        (subst (λ v. Contains first v) e
        (mapped-in (moved_call (length gap)) cs d ((a.each d).1 m)))
    by_place (inr l) =
        let z = closes-later es (gap ++ (part ++ left)) c k in
        let d = back (length gap + length part) c in
        let e : moved_call (length gap + length part) d ≡ c =
        moved-back (length gap + length part) c l (omega (arith, l, z)) in
        let m = (p.rest_after d).1 (subst (λ v. IsCall es (gap ++ (part ++ left)) v) (sym e) k) in
        Contains-append_right first second c (subst (λ v. Contains second v) e
        (mapped-in (moved_call (length gap + length part)) ds d ((b.each d).1 m)))

-- The calls of a part and those of what is left after it.
calls-join : (es : List Entry) (gap part left : List Leaf) (cs ds : List Call)
    → IsPart es gap part left → AreCalls es part cs → AreCalls es left ds
    → AreCalls es (gap ++ (part ++ left))
    (map (moved_call (length gap)) cs ++ map (moved_call (length gap + length part)) ds)
calls-join es gap part left cs ds p a b =
    let k = length-append gap (part ++ left) in
    let l = length-append part left in
    let first = rises-moved (length gap) 0 (length part) cs a.in_order in
    let second = rises-moved (length gap + length part) 0 (length left) ds b.in_order in
    let mid : length gap + length part ≡ length gap + length part + 0 = omega arith in
    let end : length gap + length part + length left ≡ length (gap ++ (part ++ left)) =
    omega (arith, k, l) in
    record {
      each = λ c. (
        λ h. is-one es gap part left cs ds c p a b (Contains-append_cases _ _ c h),
        λ h. is-there es gap part left cs ds c p a b h,
      );
      in_order = rises-from 0 (length gap + 0) (length (gap ++ (part ++ left))) _ (omega arith)
          (rises-join (length gap + 0) (length gap + length part + 0)
          (length (gap ++ (part ++ left))) _ _
          (subst (λ v. Rises (length gap + 0) (map (moved_call (length gap)) cs) v) mid first)
          (subst (λ v. Rises (length gap + length part + 0)
          (map (moved_call (length gap + length part)) ds) v) end second));
    }

-- The tokens that are left after a part stand after the gap and the part.
left-embeds : (gap part left : List Leaf)
    → Embeds left (gap ++ (part ++ left)) (length gap + length part)
left-embeds gap part left =
    subst (λ n. Embeds left (gap ++ (part ++ left)) n) (length-append gap part)
    (subst (λ v. Embeds left v (length (gap ++ part)))
    (append_assoc gap part (left ++ []) ∙ ap (λ v. gap ++ (part ++ v)) (append-nil left))
    (embeds (gap ++ part) left []))

-- P holds of a call among other tokens too.
pub record Moves {R F : Type 0} (P : List Leaf → Call → R → List F → Type 0) : Type 0 where
  pub moves : (xs ys : List Leaf) (g : ℕ) (c : Call) (r : R) (fs : List F) → Embeds xs ys g
      → IsPair xs (c.name + 2) c.close → P xs c r fs → P ys (moved_call g c) r fs

-- The calls give the same among other tokens.
gives-moved : {R F : Type 0} (P : List Leaf → Call → R → List F → Type 0) (es : List Entry)
    (xs ys : List Leaf) (g : ℕ) (cs : List Call) (rs : List R) (fs : List F) → Moves P
    → Embeds xs ys g → ((c : Call) → Contains cs c → IsCall es xs c) → Gives (P xs) cs rs fs
    → Gives (P ys) (map (moved_call g) cs) rs fs
gives-moved P es xs ys g [] rs fs m e k h = h
gives-moved P es xs ys g (c ∷ cs) rs fs m e k h = (
  h.0,
  h.1,
  h.2,
  h.3,
  h.4,
  h.5,
  m.moves xs ys g c h.0 h.2 e (k c (here c cs)).is_pair h.6,
  gives-moved P es xs ys g cs h.1 h.3 m e
      (λ d i. k d (Contains-append_right (c ∷ []) cs d i)) h.7,
)

-- Calls and those after them give what both give.
gives-join : {R F : Type 0} (P : Call → R → List F → Type 0) (cs ds : List Call) (rs ss : List R)
    (fs gs : List F) → Gives P cs rs fs → Gives P ds ss gs
    → Gives P (cs ++ ds) (rs ++ ss) (fs ++ gs)
gives-join P [] ds rs ss fs gs h k =
    subst (λ v. Gives P ds v (fs ++ gs)) (sym (ap (λ v. v ++ ss) h.0))
    (subst (λ v. Gives P ds ss v) (sym (ap (λ v. v ++ gs) h.1)) k)
gives-join P (c ∷ cs) ds rs ss fs gs h k = (
  h.0,
  h.1 ++ ss,
  h.2,
  h.3 ++ gs,
  ap (λ v. v ++ ss) h.4,
  ap (λ v. v ++ gs) h.5 ∙ append_assoc h.2 h.3 gs,
  h.6,
  gives-join P cs ds h.1 ss h.3 gs h.7 k,
)

-- What comes from the calls part by part: before each part there is a gap, and after the last one
-- there is no call.
abbrev pub OfParts : {R F : Type 0} → (List Leaf → Call → R → List F → Type 0) → List Entry
    → List Leaf → List (List Leaf) → List R → List F → Type 0
OfParts {R} {F} P es xs [] rs fs = ((c : Call) → IsCall es xs c → ⊥) × (rs ≡ []) × (fs ≡ [])
OfParts {R} {F} P es xs (p ∷ ps) rs fs = (gap left : List Leaf) × (first more : List R)
    × (found others : List F) × (xs ≡ gap ++ (p ++ left)) × IsPart es gap p left
    × (rs ≡ first ++ more) × (fs ≡ found ++ others) × OfCalls P es p first found
    × OfParts P es left ps more others

-- It is what comes from the calls among all tokens.
pub merged : {R F : Type 0} (P : List Leaf → Call → R → List F → Type 0) (es : List Entry)
    (xs : List Leaf) (ps : List (List Leaf)) (rs : List R) (fs : List F) → Moves P
    → OfParts P es xs ps rs fs → OfCalls P es xs rs fs
merged P es xs [] rs fs m h = record {
  calls = [];
  are_calls = record {
    each = λ c. (λ k. nothing-in c k, λ k. absurd (h.0 c k));
    in_order = omega arith;
  };
  gives = (h.1, h.2);
}
merged P es xs (p ∷ ps) rs fs m h =
    let gap = h.0 in
    let left = h.1 in
    let a = h.10 in
    let b = merged P es left ps h.3 h.5 m h.11 in
    let first = gives-moved P es p (gap ++ (p ++ left)) (length gap) a.calls h.2 h.4 m
    (embeds gap p left) (λ c k. (a.are_calls.each c).0 k) a.gives in
    let second = gives-moved P es left (gap ++ (p ++ left)) (length gap + length p) b.calls h.3
    h.5 m (left-embeds gap p left) (λ c k. (b.are_calls.each c).0 k) b.gives in
    let all : OfCalls P es (gap ++ (p ++ left)) (h.2 ++ h.3) (h.4 ++ h.5) =
    record {
      calls = map (moved_call (length gap)) a.calls
          ++ map (moved_call (length gap + length p)) b.calls;
      are_calls = calls-join es gap p left a.calls b.calls h.7 a.are_calls b.are_calls;
      gives = gives-join (P (gap ++ (p ++ left))) _ _ h.2 h.3 h.4 h.5 first second;
    } in
    subst (λ v. OfCalls P es v rs fs) (sym h.6)
    (subst (λ v. OfCalls P es (gap ++ (p ++ left)) v fs) (sym h.8)
    (subst (λ v. OfCalls P es (gap ++ (p ++ left)) (h.2 ++ h.3) v) (sym h.9) all))

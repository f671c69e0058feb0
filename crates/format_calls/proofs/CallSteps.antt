-- The calls so far.
use Rattle.std.proofs.Common.{◌≡◌, ◌<◌, ◌≤◌, ◌+◌, ◌++◌, ◌⊎◌, ℕ, List, [], ◌∷◌, Some, None}
use Rattle.std.proofs.Common.{inl, inr, refl, ap, sym, ◌∙◌, subst, length, arith, Option}
use Rattle.std.specs.Prelude.{◌↔◌, Contains, slice_get}
use Rattle.std.proofs.lemmas.Bool.{cases_eq, cases_lt}
use Rattle.std.proofs.lemmas.Option.{none-some, same_Some}
use Rattle.std.proofs.lemmas.List.Elements.{Contains-push, Contains-push_cases}
use Rattle.std.proofs.lemmas.List.Elements.{Contains-append_left}
use Rattle.rust_trees.specs.Leaves.{Leaf}
use Rattle.rust_trees.specs.Forests.{IsPair, ArePartners}
use Rattle.rust_trees.proofs.Growing.{pair-within}
use Rattle.format_calls.specs.declared.table.Rule.{Rule}
use Rattle.format_calls.specs.declared.listing.Call.{Call}
use Rattle.format_calls.specs.Rows.{Entry}
use Rattle.format_calls.specs.Calls.{IsCall, Rises, rule_of_leaf}

-- A pair whose second token is after the first.
pub closes-rest_after : (xs : List Leaf) (i j : ℕ) → ArePartners xs i j → i < j → IsPair xs i j
closes-rest_after xs i j (inl p) h = p
closes-rest_after xs i j (inr p) h = absurd (omega (arith, p.ends, h))

not-last : (m n : ℕ) → m < n + 1 → (m ≡ n → ⊥) → m < n
not-last m n l f = by_order (cases_lt m n)
  where
    by_order : (m < n) ⊎ (n ≤ m) → m < n
    by_order (inl h) = h
    by_order (inr h) = absurd (f (omega (arith, l, h)))

-- The calls of names below n.
pub record AreBelow (es : List Entry) (xs : List Leaf) (cs : List Call) (n : ℕ) : Type 0 where
  pub each : (c : Call) → Contains cs c → IsCall es xs c × (c.name < n)
  pub all : (c : Call) → IsCall es xs c → c.name < n → Contains cs c
  pub rises : Rises 0 cs n

rises-on : (from to more : ℕ) (cs : List Call) → to ≤ more → Rises from cs to → Rises from cs more
rises-on from to more [] h r = omega (arith, h, r)
rises-on from to more (c ∷ cs) h r = (r.0, rises-on (c.name + 1) to more cs h r.1)

rises-push : (from : ℕ) (cs : List Call) (c : Call) → Rises from cs c.name
    → Rises from (cs ++ c ∷ []) (c.name + 1)
rises-push from [] c r = (r, omega arith)
rises-push from (d ∷ cs) c r = (r.0, rises-push (d.name + 1) cs c r.1)

none-contains : {B : Type 0} (c : Call) → Contains [] c → B
none-contains c h = absurd (omega (arith, h.1))

pub below-none : (es : List Entry) (xs : List Leaf) (cs : List Call) → cs ≡ []
    → AreBelow es xs cs 0
below-none es xs cs e = rw e (record {
  each = λ c h. none-contains c h;
  all = λ c h l. absurd (omega (arith, l));
  rises = omega arith;
})

-- No call has this name.
pub below-skip : (es : List Entry) (xs : List Leaf) (cs : List Call) (n : ℕ)
    → ((c : Call) → IsCall es xs c → c.name ≡ n → ⊥) → AreBelow es xs cs n
    → AreBelow es xs cs (n + 1)
below-skip es xs cs n none b = record {
  each = λ c h. ((b.each c h).0, let l = (b.each c h).1 in omega (arith, l));
  all = λ c h l. by_name c h l (cases_eq c.name n);
  rises = rises-on 0 n (n + 1) cs (omega arith) b.rises;
}
  where
    by_name : (c : Call) → IsCall es xs c → c.name < n + 1
        → (c.name ≡ n) ⊎ (c.name ≡ n → ⊥) → Contains cs c
    by_name c h l (inl e) = absurd (none c h e)
    by_name c h l (inr f) = b.all c h (not-last c.name n l f)

-- One call has this name.
pub below-push : (es : List Entry) (xs : List Leaf) (cs ds : List Call) (n : ℕ) (d : Call)
    → IsCall es xs d → d.name ≡ n
    → ((c : Call) → IsCall es xs c → c.name ≡ n → ◌≡◌ {A = Option Call} (Some d) (Some c))
    → ds ≡ cs ++ d ∷ [] → AreBelow es xs cs n → AreBelow es xs ds (n + 1)
below-push es xs cs ds n d k named one e b = rw e (record {
  each = λ c h. by_last c (Contains-push_cases cs d c h);
  all = λ c h l. by_name c h l (cases_eq c.name n);
  rises = subst (λ m. Rises 0 (cs ++ d ∷ []) (m + 1)) named
      (rises-push 0 cs d (subst (λ m. Rises 0 cs m) (sym named) b.rises));
})
  where
    by_last : (c : Call) → Contains cs c ⊎ (d ≡ c) → IsCall es xs c × (c.name < n + 1)
    by_last c (inl h) = ((b.each c h).0, let l = (b.each c h).1 in omega (arith, l))
    by_last c (inr h) = (
      subst (λ t. IsCall es xs t) h k,
      let m : c.name ≡ n = ap (λ t. t.name) (sym h) ∙ named in omega (arith, m),
    )

    by_name : (c : Call) → IsCall es xs c → c.name < n + 1
        → (c.name ≡ n) ⊎ (c.name ≡ n → ⊥) → Contains (cs ++ d ∷ []) c
    by_name c h l (inl f) = subst (λ t. Contains (cs ++ d ∷ []) t) (same_Some d c (one c h f))
        (Contains-push cs d)
    by_name c h l (inr f) = Contains-append_left cs (d ∷ []) c (b.all c h (not-last c.name n l f))

-- A call that stands where a rule and a pair were found is the one that they make.
pub same-call : (es : List Entry) (xs : List Leaf) (n j : ℕ) (r : Rule) (c : Call)
    → Some r ≡ rule_of_leaf es (slice_get xs n)
    → ((k : ℕ) → ArePartners xs (n + 2) k → Some j ≡ Some k) → IsCall es xs c → c.name ≡ n
    → ◌≡◌ {A = Call} (record { rule = r; name = n; close = j }) c
same-call es xs n j r c e each k named =
    let same : r ≡ c.rule = same_Some r c.rule (e
    ∙ (ap (λ m. rule_of_leaf es (slice_get xs m)) (sym named) ∙ k.is_listed)) in
    let close : j ≡ c.close = same_Some j c.close
    (each c.close (inl (subst (λ m. IsPair xs (m + 2) c.close) named k.is_pair))) in
    rw (same, close, ← named) refl

-- No call stands where the partner of its delimiter is none, or is in front of it.
pub no-partner : {B : Type 0} (es : List Entry) (xs : List Leaf) (n : ℕ) (c : Call)
    → ((k : ℕ) → ArePartners xs (n + 2) k → ◌≡◌ {A = Option ℕ} None (Some k)) → IsCall es xs c
    → c.name ≡ n → B
no-partner es xs n c each k named = absurd (none-some c.close
    (each c.close (inl (subst (λ m. IsPair xs (m + 2) c.close) named k.is_pair))))

pub partner-rest_after : {B : Type 0} (es : List Entry) (xs : List Leaf) (n j : ℕ) (c : Call)
    → ((k : ℕ) → ArePartners xs (n + 2) k → Some j ≡ Some k) → j ≤ n + 2 → IsCall es xs c
    → c.name ≡ n → B
partner-rest_after es xs n j c each l k named =
    let p : IsPair xs (n + 2) c.close = subst (λ m. IsPair xs (m + 2) c.close) named k.is_pair in
    let close : j ≡ c.close = same_Some j c.close (each c.close (inl p)) in
    absurd (omega (arith, close, l, p.ends))

-- A call stands within the tokens.
pub call-within : (es : List Entry) (xs : List Leaf) (c : Call) → IsCall es xs c
    → c.name < length xs
call-within es xs c k =
    let l = (pair-within xs (c.name + 2) c.close k.is_pair).0 in
    omega (arith, l)

pub each-call : (es : List Entry) (xs : List Leaf) (cs : List Call) (n : ℕ) → AreBelow es xs cs n
    → length xs ≤ n → (c : Call) → Contains cs c ↔ IsCall es xs c
each-call es xs cs n b h c = (
  λ k. (b.each c k).0,
  λ k. let l = call-within es xs c k in b.all c k (omega (arith, l, h)),
)

pub in-order : (es : List Entry) (xs : List Leaf) (cs : List Call) (n : ℕ) → AreBelow es xs cs n
    → n ≤ length xs → Rises 0 cs (length xs)
in-order es xs cs n b h = rises-on 0 n (length xs) cs h b.rises

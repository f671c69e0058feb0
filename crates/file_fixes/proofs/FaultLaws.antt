-- The faults that are not mended, and those that come in their place.
use Rattle.std.proofs.Common.{◌≡◌, ◌∙◌, ◌↔◌, ◌+◌, ◌-◌, ℕ, Bool, IsTrue, true, false, List, [], ◌∷◌}
use Rattle.std.proofs.Common.{ap, arith, if◌then◌else◌, inl, inr, length, map, refl, string_bytes}
use Rattle.std.proofs.Common.{subst, sym}
use Rattle.std.specs.Bool.{Decides}
use Rattle.std.proofs.lemmas.Bool.{cond_both}
use Rattle.std.proofs.lemmas.Bool.Decides.{Decides-and, Decides-like}
use Rattle.std.proofs.lemmas.List.{length-map}
use Rattle.std.proofs.lemmas.Slice.Eq.{bytes_eq-Decides}
use Rattle.fault_fixes.specs.Losing.{IsMerged}
use Rattle.source_report.specs.declared.report.Finding.{Finding}
use Rattle.source_report.specs.declared.report.Report.{Report}
use Rattle.source_report.specs.Suggestions.{edits_of, end_after, is_mended, mended_faults}
use Rattle.file_fixes.specs.FaultSearch.{are_found, is_alike}
use Rattle.file_fixes.specs.FileFixes.{FaultName, FaultsStay, IsNoWorse, fault_name}
use Rattle.file_fixes.specs.FileFixes.{unmended_findings}

-- Two faults have the same name exactly if the test finds it.
alike-Decides : (x y : Finding) → Decides (is_alike x y) (fault_name x ≡ fault_name y)
alike-Decides x y = Decides-like (is_alike x y)
    (λ h. name _ _ _ _ h.0 h.1)
    (λ e. (ap (λ n. n.id) e, ap (λ n. n.title) e))
    (Decides-and _ _ (bytes_eq-Decides x.id.now y.id.now)
    (bytes_eq-Decides (string_bytes x.title) (string_bytes y.title)))
  where
    name : (i j t u : List ℕ) → i ≡ j → t ≡ u
        → ◌≡◌ {A = FaultName} (record { id = i; title = t }) (record { id = j; title = u })
    name i j t u e h = rw (e, h) refl

-- Without the first of them, faults are found too.
fewer : (x : Finding) (xs ys : List Finding) → are_found (x ∷ xs) ys ≡ true
    → are_found xs ys ≡ true
fewer x xs [] h = absurd cc
fewer x [] (y ∷ ys) h = refl
fewer x (z ∷ zs) (y ∷ ys) h =
    let rest : are_found (z ∷ zs) ys ≡ true =
    either (is_alike x y) _ _ h (fewer x (z ∷ zs) ys) in
    cond_both {A = Bool} (is_alike z y) _ _ (λ b. b ≡ true) (λ yes. fewer z zs ys rest)
    (λ no. rest)
  where
    either : (b c d : Bool) → (if b then c else d) ≡ true → (d ≡ true → c ≡ true) → c ≡ true
    either true c d h k = h
    either false c d h k = k h

-- Faults that are found are in the other list, with others between them,
others-of : (xs ys : List Finding) → are_found xs ys ≡ true
    → (others : List FaultName) × IsMerged (map fault_name xs) others (map fault_name ys)
others-of [] [] h = ([], (refl, refl))
others-of [] (y ∷ ys) h =
    let rest = others-of [] ys refl in
    (fault_name y ∷ rest.0, inr (rest.0, refl, rest.1))
others-of (x ∷ xs) [] h = absurd cc
others-of (x ∷ xs) (y ∷ ys) h = more (is_alike x y) (are_found xs ys)
    (are_found (x ∷ xs) ys) h (alike-Decides x y).0 (others-of xs ys) (others-of (x ∷ xs) ys)
  where
    Others : List Finding → List Finding → Type 0
    Others us vs = (others : List FaultName)
        × IsMerged (map fault_name us) others (map fault_name vs)

    more : (b c d : Bool) → (if b then c else d) ≡ true
        → (b ≡ true → fault_name x ≡ fault_name y) → (c ≡ true → Others xs ys)
        → (d ≡ true → Others (x ∷ xs) ys) → Others (x ∷ xs) (y ∷ ys)
    more true c d h e f g = let rest = f h in
        (rest.0, inl (map fault_name xs, ap (λ n. n ∷ map fault_name xs) (e refl), rest.1))
    more false c d h e f g = let rest = g h in
        (fault_name y ∷ rest.0, inr (rest.0, refl, rest.1))

-- and faults that are in the other list are found.
found-among : (xs ys : List Finding) (others : List FaultName)
    → IsMerged (map fault_name xs) others (map fault_name ys) → are_found xs ys ≡ true
found-among [] ys others h = refl
found-among (x ∷ xs) [] others h = absurd (let e = h.0 in cc)
found-among (x ∷ xs) (y ∷ ys) others h = cond_both {A = Bool} (is_alike x y) _ _ (λ b. b ≡ true)
    (λ yes. elim h [
      | inl l ↦ found-among xs ys others (subst (λ ns. IsMerged ns others (map fault_name ys))
          (sym (tails _ _ _ _ l.1)) l.2)
      | inr r ↦ fewer x xs ys (found-among (x ∷ xs) ys r.0 r.2)
    ])
    (λ no. elim h [
      | inl l ↦ absurd (let e = (alike-Decides x y).1 (heads _ _ _ _ l.1) in cc)
      | inr r ↦ found-among (x ∷ xs) ys r.0 r.2
    ])
  where
    heads : (m n : FaultName) (ms ns : List FaultName) → m ∷ ms ≡ n ∷ ns → m ≡ n
    heads m n ms ns e = cc

    tails : (m n : FaultName) (ms ns : List FaultName) → m ∷ ms ≡ n ∷ ns → ms ≡ ns
    tails m n ms ns e = cc

-- The lengths of lists that are merged.
merged-length : {A : Type 0} (xs ys zs : List A) → IsMerged xs ys zs
    → length xs + length ys ≡ length zs
merged-length xs ys [] h = rw (h.0, h.1) refl
merged-length xs ys (z ∷ zs) h = elim h [
  | inl l ↦ let n = merged-length l.0 ys zs l.2 in rw l.1 (omega (arith, n))
  | inr r ↦ let n = merged-length xs r.0 zs r.2 in rw r.1 (omega (arith, n))
]

-- Each fault is mended or not.
either-way : (at : ℕ) (xs : List Finding)
    → length (mended_faults at xs) + length (unmended_findings at xs) ≡ length xs
either-way at [] = refl
either-way at (x ∷ xs) = one (is_mended at x) (either-way (end_after at (edits_of x)) xs)
    (either-way at xs)
  where
    one : (b : Bool)
        → length (mended_faults (end_after at (edits_of x)) xs)
        + length (unmended_findings (end_after at (edits_of x)) xs) ≡ length xs
        → length (mended_faults at xs) + length (unmended_findings at xs) ≡ length xs
        → length (if b then x ∷ mended_faults (end_after at (edits_of x)) xs
        else mended_faults at xs)
        + length (if b then unmended_findings (end_after at (edits_of x)) xs else x
        ∷ unmended_findings at xs)
        ≡ length (x ∷ xs)
    one true h k = omega (arith, h)
    one false h k = omega (arith, k)

-- So the search decides whether the faults stay.
stay-found : (xs ys : List Finding) → are_found (unmended_findings 0 xs) ys ≡ true
    → FaultsStay xs ys
stay-found xs ys h =
    let found = others-of (unmended_findings 0 xs) ys h in
    record { others = found.0; are_all = found.1 }

pub decides : (r q : Report) (xs : List Finding) (b : Bool) → IsNoWorse r q
    → b ≡ are_found (unmended_findings 0 xs) q.findings.items
    → IsTrue b ↔ IsNoWorse r q × FaultsStay xs q.findings.items
decides r q xs b w e = (
  λ h. (w, stay-found xs q.findings.items (sym e ∙ h)),
  λ s. let k = s.1 in
      e ∙ found-among (unmended_findings 0 xs) q.findings.items k.others k.are_all,
)

-- The others are those beside as many faults as are not mended.
pub new-count : (xs ys : List Finding) (m : ℕ) → m ≡ length (mended_faults 0 xs)
    → (s : FaultsStay xs ys) → length ys - (length xs - m) ≡ length s.others
new-count xs ys m e s =
    let whole = either-way 0 xs in
    let parts =
    merged-length (map fault_name (unmended_findings 0 xs)) s.others (map fault_name ys) s.are_all
    in
    let olds = length-map (unmended_findings 0 xs) fault_name in
    let news = length-map ys fault_name in
    omega (arith, e, whole, parts, olds, news)

-- The faults of a round.
use Rattle.std.proofs.Common.{◌≡◌, ◌⊎◌, ◌∙◌, ◌++◌, ◌+◌, ◌≤◌, ◌<◌, ℕ, suc, List, [], ◌∷◌, ap}
use Rattle.std.proofs.Common.{append_assoc, arith, drop, get_or, inl, inr, length, map, refl}
use Rattle.std.proofs.Common.{subst, sym, zero}
use Rattle.std.specs.List.{All}
use Rattle.std.proofs.lemmas.List.{append-nil, drop_more}
use Rattle.std.proofs.lemmas.List.Elements.{All-nil, All-weaker, Contains-get_or}
use Rattle.fault_fixes.specs.Edits.{Edit}
use Rattle.fault_fixes.specs.SeenEdits.{seen_edit}
use Rattle.fault_fixes.specs.declared.fixes.Edit.{Edit as DeclaredEdit}
use Rattle.asm_lint.proofs.Elements.{mapped-in}
use Rattle.source_report.specs.declared.report.Finding.{Finding}
use Rattle.source_report.specs.Suggestions.{edits_of}
use Rattle.file_fixes.specs.AllFaults.{AreOfString, HasEdit, HasFaults, HasOneOf, IsCopy, IsInside}
use Rattle.file_fixes.specs.AllFaults.{IsOther, IsString, offered_edits}
use Rattle.file_fixes.specs.declared.all_faults.FormatString.{FormatString}

-- Faults are such of themselves.
pub self : (bs : List ℕ) (xs : List Finding) → HasFaults bs xs xs
self bs [] = refl
self bs (x ∷ xs) = (
  x ∷ [],
  xs,
  refl,
  (
    [],
    x,
    [],
    refl,
    record { id = refl; title = refl; edits = inl refl },
    All-nil (IsOther bs x),
    All-nil (IsOther bs x),
  ),
  self bs xs,
)

-- With those of one fault more.
pub next : (bs : List ℕ) (xs : List Finding) (i : ℕ) (d : Finding) (all zs ys : List Finding)
    → i < length xs
    → ((us : List Finding) → HasFaults bs (drop i xs) us → HasFaults bs xs (all ++ us))
    → ys ≡ all ++ zs → AreOfString bs (get_or xs i d) zs
    → (us : List Finding) → HasFaults bs (drop (i + 1) xs) us → HasFaults bs xs (ys ++ us)
next bs xs i d all zs ys l h e g us k =
    subst (λ v. HasFaults bs xs (v ++ us)) (sym e)
    (subst (HasFaults bs xs) (sym (append_assoc all zs us)) (h (zs ++ us)
    (subst (λ v. HasFaults bs v (zs ++ us)) (sym (drop_more xs i d l)) (zs, us, refl, g, k))))

none-left : (i : ℕ) (xs : List Finding) → length xs ≤ i → drop i xs ≡ []
none-left zero [] l = refl
none-left zero (x ∷ xs) l = absurd (omega (arith, l))
none-left (suc n) [] l = refl
none-left (suc n) (x ∷ xs) l = none-left n xs (omega (arith, l))

-- They are those of all, once none is left.
pub last : (bs : List ℕ) (xs : List Finding) (i : ℕ) (all : List Finding) → length xs ≤ i
    → ((us : List Finding) → HasFaults bs (drop i xs) us → HasFaults bs xs (all ++ us))
    → HasFaults bs xs all
last bs xs i all l h = subst (HasFaults bs xs) (append-nil all)
    (h [] (subst (λ v. HasFaults bs v []) (sym (none-left i xs l)) refl))

-- The faults that have one of the edits that the errors of a format string suggest are others of
-- it.
pub others : (bs : List ℕ) (s : FormatString) (x : Finding) (ys : List Finding) → IsString bs s
    → IsInside bs s.token.now s.start x
    → All (HasOneOf s.token.now s.start (offered_edits s.literal)) ys
    → All (IsOther bs x) ys
others bs s x ys h i all =
    All-weaker (HasOneOf s.token.now s.start (offered_edits s.literal)) (IsOther bs x)
    (λ y k. record {
      token = s.token.now;
      at = s.start;
      inside = i;
      literal = s.literal;
      is_read = h.is_read;
      edit = k;
    }) ys all

-- A format string in which the one edit of a fault is.
pub inside : (bs : List ℕ) (s : FormatString) (x : Finding) (edits : List DeclaredEdit)
    (d : DeclaredEdit) → IsString bs s → map seen_edit edits ≡ edits_of x → 1 ≤ length edits
    → length edits < 2
    → (s.start ≤ (get_or edits 0 d).span.start)
    × ((get_or edits 0 d).span.end ≤ s.start + length s.token.now)
    → IsInside bs s.token.now s.start x
inside bs s x [] d h e l m r = absurd (omega (arith, l))
inside bs s x (f ∷ []) d h e l m r = record {
  is_there = h.is_there;
  own = seen_edit f;
  is_own = sym e;
  start = r.0;
  end = r.1;
}
inside bs s x (f ∷ g ∷ gs) d h e l m r = absurd (omega (arith, m))

-- Edits of a fault, or none, are those of another one if these are the same.
pub copied : (es fs gs : List Edit) → fs ≡ gs → (es ≡ fs) ⊎ (es ≡ []) → (es ≡ gs) ⊎ (es ≡ [])
copied es fs gs e (inl h) = inl (h ∙ e)
copied es fs gs e (inr h) = inr h

-- A fault alone.
pub alone : (bs : List ℕ) (x : Finding) (xs ys : List Finding)
    → (y : Finding) × (ys ≡ xs ++ y ∷ []) × IsCopy x y
    → (zs : List Finding) × (ys ≡ xs ++ zs) × AreOfString bs x zs
alone bs x xs ys h = (
  h.0 ∷ [],
  h.1,
  ([], h.0, [], refl, h.2, All-nil (IsOther bs x), All-nil (IsOther bs x)),
)

-- The faults that have an edit have one of the edits among which it is.
pub one-of : (w : List ℕ) (at : ℕ) (edits : List DeclaredEdit) (i : ℕ) (d : DeclaredEdit)
    (ys : List Finding) → i < length edits
    → All (HasEdit w at (seen_edit (get_or edits i d))) ys
    → All (HasOneOf w at (map seen_edit edits)) ys
one-of w at edits i d ys l h = All-weaker (HasEdit w at (seen_edit (get_or edits i d)))
    (HasOneOf w at (map seen_edit edits))
    (λ y k. (
      seen_edit (get_or edits i d),
      mapped-in seen_edit edits (get_or edits i d) (Contains-get_or edits i d l),
      k,
    )) ys h

-- Faults of a format string in front of a fault and behind it.
pub around : (P : Finding → Type 0) (x : Finding) (os bs cs ds : List Finding)
    → (zs : List Finding) × (bs ≡ os ++ zs) × All P zs
    → (y : Finding) × (cs ≡ bs ++ y ∷ []) × IsCopy x y
    → (zs : List Finding) × (ds ≡ cs ++ zs) × All P zs
    → (front : List Finding) × (y : Finding) × (back : List Finding)
    × (ds ≡ os ++ (front ++ y ∷ back)) × IsCopy x y × All P front × All P back
around P x os bs cs ds f c b = (
  f.0,
  c.0,
  b.0,
  b.1 ∙ (ap (λ v. v ++ b.0) c.1 ∙ (append_assoc bs (c.0 ∷ []) b.0
      ∙ (ap (λ v. v ++ c.0 ∷ b.0) f.1 ∙ append_assoc os f.0 (c.0 ∷ b.0)))),
  c.2,
  f.2,
  b.2,
)

-- These are faults of it.
pub whole : (bs : List ℕ) (s : FormatString) (x : Finding) (xs ys : List Finding) → IsString bs s
    → IsInside bs s.token.now s.start x
    → (front : List Finding) × (y : Finding) × (back : List Finding)
    × (ys ≡ xs ++ (front ++ y ∷ back)) × IsCopy x y
    × All (HasOneOf s.token.now s.start (offered_edits s.literal)) front
    × All (HasOneOf s.token.now s.start (offered_edits s.literal)) back
    → (zs : List Finding) × (ys ≡ xs ++ zs) × AreOfString bs x zs
whole bs s x xs ys h i r = (
  r.0 ++ r.1 ∷ r.2,
  r.3,
  (r.0, r.1, r.2, refl, r.4, others bs s x r.0 h i r.5, others bs s x r.2 h i r.6),
)

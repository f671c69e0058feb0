-- Rounds that follow each other.
use Rattle.std.proofs.Common.{◌≡◌, ◌++◌, ◌-◌, ◌<◌, ℕ, zero, suc, Bool, List, []}
use Rattle.std.proofs.Common.{append_assoc, arith, inl, inr, refl, subst, sym}
use Rattle.format_calls.specs.Rows.{Entry}
use Rattle.source_report.specs.declared.report.Report.{Report}
use Rattle.file_fixes.specs.FileFixes.{AreRounds, IsLast, IsRound}

-- Where no round follows, nothing changes.
pub stay : (es : List Entry) (is_new : Bool) (n : ℕ) (bs : List ℕ) (r : Report)
    → IsLast es is_new bs r → AreRounds es is_new n bs r bs r []
unfolding AreRounds
stay es is_new zero bs r h = (refl, refl, refl)
stay es is_new (suc n) bs r h = inl (refl, refl, refl, h)

-- Nor does it in no round.
pub stop : (es : List Entry) (is_new : Bool) (n : ℕ) (bs : List ℕ) (r : Report) → n ≡ 0
    → AreRounds es is_new n bs r bs r []
unfolding AreRounds
stop es is_new zero bs r e = (refl, refl, refl)
stop es is_new (suc n) bs r e = absurd cc

-- A round and at most m rounds more are at most m + 1 rounds.
pub go-on : (es : List Entry) (is_new : Bool) (n m : ℕ) (bs ds cs : List ℕ) (r p q : Report)
    (us vs : List (List ℕ)) → n ≡ suc m → IsRound es is_new bs r ds p us
    → AreRounds es is_new m ds p cs q vs → AreRounds es is_new n bs r cs q (us ++ vs)
unfolding AreRounds
go-on es is_new n m bs ds cs r p q us vs e round rounds =
    subst (λ k. AreRounds es is_new k bs r cs q (us ++ vs)) (sym e)
    (inr (ds, p, us, vs, refl, round, rounds))

-- What follows from n further rounds follows from those that are left after the first of them.
pub one-more : (es : List Entry) (is_new : Bool) (n most : ℕ) (bs ds ks : List ℕ)
    (r p k : Report) (us vs : List (List ℕ)) → 0 < n → IsRound es is_new ds p ks k vs
    → ((cs : List ℕ) (q : Report) (ws : List (List ℕ)) → AreRounds es is_new n ds p cs q ws
    → AreRounds es is_new most bs r cs q (us ++ ws))
    → (cs : List ℕ) (q : Report) (ws : List (List ℕ)) → AreRounds es is_new (n - 1) ks k cs q ws
    → AreRounds es is_new most bs r cs q ((us ++ vs) ++ ws)
one-more es is_new n most bs ds ks r p k us vs some round before cs q ws h =
    let e : n ≡ suc (n - 1) = omega (arith, some) in
    subst (AreRounds es is_new most bs r cs q) (sym (append_assoc us vs ws))
    (before cs q (vs ++ ws) (go-on es is_new n (n - 1) ds ks cs p k q vs ws e round h))

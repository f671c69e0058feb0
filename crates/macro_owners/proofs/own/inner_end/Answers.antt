use Rattle.std.proofs.Common.{◌≡◌, arith, inl}
use Rattle.std.proofs.lemmas.Option.{none-some, same_Some}
use Rattle.macro_owners.proofs.own.inner_end.Goals as goal
use Rattle.macro_owners.proofs.own.inner_end.Goals.{
  else-index-close-via-else-index-close,
  else-index-close-via-then-index-close+else-close-end,
}

pub returns-in_default-clause-inner : goal.returns-in_default-clause-inner
returns-in_default-clause-inner c = λ b p l.
    absurd (none-some _ (c.in_default.ensures.each b (inl p)))

pub returns-then-close-end-clause-inner : goal.returns-then-close-end-clause-inner
returns-then-close-end-clause-inner c = λ b p l.
    let e : c.in-Some.close ≡ b = same_Some _ _ (c.in-Some.ensures.each b (inl p)) in
    omega (arith, e)

pub returns-else-index-close-clause-inner : goal.returns-else-index-close-clause-inner
returns-else-index-close-clause-inner c = λ b p l.
    let e : c.in-Some.close ≡ b = same_Some _ _ (c.in-Some.ensures.each b (inl p)) in
    elim c.else-index-close.branch [
      | else-index-close-via-then-index-close+else-close-end w ↦
          let h = w.if-close-end.false in omega (arith, e, h)
      | else-index-close-via-else-index-close w ↦
          let h = w.if-index-close.false in absurd (omega (arith, e, h, l))
    ]

use Rattle.std.proofs.Common.{rules, arith, refl}
use Rattle.rust_tokens.proofs.Covering.{lexed-covers}
use Rattle.rust_tokens.proofs.Files.{lexed-more, lexed-start}
use Rattle.rust_tokens.proofs.Readings.{place-token}
use Rattle.rust_tokens.proofs.lexer.tokens.Goals as goal

pub overflow_sub-token : goal.overflow_sub-token
overflow_sub-token c = omega (arith, c.loop-step.invariant.lexed.9)

pub overflow_sub-token-in-Some : goal.overflow_sub-token-in-Some
overflow_sub-token-in-Some c =
    let b = c.in-Some.ensures.begins in
    omega (arith, c.loop-step.invariant.lexed.9, b.4, b.5)

pub overflow_sub-token-in-Some-2 : goal.overflow_sub-token-in-Some-2
overflow_sub-token-in-Some-2 c =
    let b = c.in-Some.ensures.begins in
    omega (arith, c.loop-step.invariant.lexed.9, b.4, b.5)

pub loop-step-preserved : goal.loop-step-preserved
loop-step-preserved c =
    let b = c.in-Some.ensures.begins in
    record {
      lexed = rw (c.in_ok-push.ensures.items)
          (lexed-more _ _ _ _ b.0 _ c.loop-step.invariant.lexed b.1
          (omega (arith, b.4, b.5))
          (λ at h. place-token b.0 _ _ _ _ _ _ at b.2 b.3 b.4 b.5 h));
      utf8 = search rules;
    }

pub loop-step-init : goal.loop-step-init
loop-step-init c =
    let m = c.after_mark-unmarked_text.ensures.marked in
    let s = c.after_shebang-rest.ensures.shebanged in
    record {
      lexed = lexed-start _ _ _ _ m.0 s.0 m.1 m.2 m.3 s.1 s.2 c.after_shebang-rest.ensures.within
          (rw (
            c.in_ok-add_unless_empty-2.ensures,
            c.in_ok-add_unless_empty.ensures,
            c.new-list.ensures.items,
          ) refl);
      utf8 = search rules;
    }

pub returns-clause-covers : goal.returns-clause-covers
returns-clause-covers c =
    lexed-covers _ _ _ c.loop-step.invariant.lexed c.loop-step.invariant.utf8
    (c.in_default.ensures.none refl)

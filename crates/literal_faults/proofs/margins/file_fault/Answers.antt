use Rattle.std.proofs.Common.{◌≡◌, ◌+◌, ◌-◌, arith, sym, subst, chars, length}
use Rattle.std.proofs.lemmas.Bool.{false≢true}
use Rattle.literal_faults.specs.Faults.{IsFault}
use Rattle.literal_faults.proofs.Snippets.{place, source-within}
use Rattle.literal_faults.proofs.margins.file_fault.Goals as goal

pub overflow_sub-result : goal.overflow_sub-result
overflow_sub-result c = source-within _ _ c.snippet_of-snippet.ensures.is_source

pub returns-clause-fault : goal.returns-clause-fault
returns-clause-fault c =
    let s = c.snippet_of-snippet.result in
    let f = c.in_ok-fault.fault in
    let n = length c.args.file.now - length s.source.now + s.start in
    let same : n + f.offset - n ≡ f.offset = omega arith in (
      s.source.now,
      s.text.now,
      s.start,
      c.snippet_of-snippet.ensures,
      (
        λ a. false≢true (sym (c.in_ok-fault.ensures.literal.1 a)),
        omega arith,
        subst (λ m. IsFault (chars s.text.now) (record { kind = f.kind; offset = m })) (sym same)
            c.in_ok-fault.ensures.fault,
      ),
    )

pub returns-clause-boundary : goal.returns-clause-boundary
returns-clause-boundary c =
    place _ _ _ _ _ c.snippet_of-snippet.ensures c.in_ok-fault.ensures.boundary

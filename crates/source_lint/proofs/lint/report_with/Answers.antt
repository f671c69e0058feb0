use Rattle.source_lint.proofs.lint.report_with.Goals as goal

pub returns-clause-report : goal.returns-clause-report
returns-clause-report c = λ es ms is_new ls l r b.
    let a = c.in_ok-put_attributes.ensures.read ls l in
    record {
      leaves = ls;
      are_leaves = l;
      of_calls = c.args.readings.findings.items;
      of_attributes = a.0;
      findings = a.1;
      reads_attributes = a.2;
      reads = r;
      breaks = b;
    }

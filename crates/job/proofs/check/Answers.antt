use mathlib.Core.Path.{◌≡◌, sym, ap, ◌∙◌}
use mathlib.Core.List.{[]}
use Rattle.std.proofs.lemmas.Result.{err_from_is_err_and}
use Rattle.spec.specs.Check.{short, wrong_version, over_limit, wrong_offset, wrong_entry, wrong_page, wrong_owner, wrong_record, wrong_op, wrong_turn, job_fault}
use Rattle.laws.specs.Codec.Rows.{limits_said}
use Rattle.job.proofs.Refused.{told, untold, row_hit, row_next, passed, rows_end, long-enough, heads}
use Rattle.job.proofs.check.Goals as goal

pub returns-in_err-refuses-clause-fault : goal.returns-in_err-refuses-clause-fault
unfolding job_fault
returns-in_err-refuses-clause-fault c =
    let p = err_from_is_err_and c.from_residual.result c.from_residual.ensures.1 in
    rw (p.1, p.2)
    (row_hit 1 short _ _ c.short.ensures c.in_err-refuses.ensures)

pub wrong_version-requires : goal.wrong_version-requires
wrong_version-requires c =
    long-enough _ (passed 1 short [] _ c.short.ensures c.in_ok-refuses.ensures)

pub returns-in_err-refuses-2-clause-fault : goal.returns-in_err-refuses-2-clause-fault
unfolding job_fault
returns-in_err-refuses-2-clause-fault c =
    let p = err_from_is_err_and c.from_residual-in_err-refuses-2.result c.from_residual-in_err-refuses-2.ensures.1 in
    rw (p.1, p.2)
    (row_next 1 short _ _ c.short.ensures c.in_ok-refuses.ensures
    (row_hit 2 wrong_version _ _ c.wrong_version.ensures c.in_err-refuses-2.ensures))

pub read-h-requires : goal.read-h-requires
read-h-requires c =
    long-enough _ (passed 1 short [] _ c.short.ensures c.in_ok-refuses.ensures)

pub returns-in_err-refuses-3-clause-fault : goal.returns-in_err-refuses-3-clause-fault
unfolding job_fault
returns-in_err-refuses-3-clause-fault c =
    let p = err_from_is_err_and c.from_residual-in_err-refuses-3.result c.from_residual-in_err-refuses-3.ensures.1 in
    rw (p.1, p.2)
    (row_next 1 short _ _ c.short.ensures c.in_ok-refuses.ensures
    (row_next 2 wrong_version _ _ c.wrong_version.ensures c.in_ok-refuses-2.ensures
    (row_hit 3 over_limit _ _ c.over_limit.ensures c.in_err-refuses-3.ensures)))

pub wrong_offset-requires : goal.wrong_offset-requires
wrong_offset-requires c = (
  long-enough _ (passed 1 short [] _ c.short.ensures c.in_ok-refuses.ensures),
  c.read-h.ensures,
  rw c.read-h.ensures ((limits_said _).0 (passed 3 over_limit [] _ c.over_limit.ensures c.in_ok-refuses-3.ensures)),
)

pub returns-in_err-refuses-4-clause-fault : goal.returns-in_err-refuses-4-clause-fault
unfolding job_fault
returns-in_err-refuses-4-clause-fault c =
    let p = err_from_is_err_and c.from_residual-in_err-refuses-4.result c.from_residual-in_err-refuses-4.ensures.1 in
    rw (p.1, p.2)
    (row_next 1 short _ _ c.short.ensures c.in_ok-refuses.ensures
    (row_next 2 wrong_version _ _ c.wrong_version.ensures c.in_ok-refuses-2.ensures
    (row_next 3 over_limit _ _ c.over_limit.ensures c.in_ok-refuses-3.ensures
    (row_hit 4 wrong_offset _ _ c.wrong_offset.ensures c.in_err-refuses-4.ensures))))

pub headed-reader-requires : goal.headed-reader-requires
headed-reader-requires c =
    rw (c.new.ensures.0, c.new.ensures.1)
    (heads _ _ c.read-h.ensures (passed 1 short [] _ c.short.ensures c.in_ok-refuses.ensures)
    (passed 2 wrong_version [] _ c.wrong_version.ensures c.in_ok-refuses-2.ensures)
    (passed 3 over_limit [] _ c.over_limit.ensures c.in_ok-refuses-3.ensures)
    (passed 4 wrong_offset [] _ c.wrong_offset.ensures c.in_ok-refuses-4.ensures))

pub returns-in_err-refuses-5-clause-fault : goal.returns-in_err-refuses-5-clause-fault
unfolding job_fault
returns-in_err-refuses-5-clause-fault c =
    let p = err_from_is_err_and c.from_residual-in_err-refuses-5.result c.from_residual-in_err-refuses-5.ensures.1 in
    let at : c.headed-reader.result.job.now ≡ c.args.job.now = ap (λ r. r.now) (c.headed-reader.ensures.0 ∙ c.new.ensures.0) in
    rw (p.1, p.2)
    (row_next 1 short _ _ c.short.ensures c.in_ok-refuses.ensures
    (row_next 2 wrong_version _ _ c.wrong_version.ensures c.in_ok-refuses-2.ensures
    (row_next 3 over_limit _ _ c.over_limit.ensures c.in_ok-refuses-3.ensures
    (row_next 4 wrong_offset _ _ c.wrong_offset.ensures c.in_ok-refuses-4.ensures
    (row_hit 5 wrong_entry _ _ (c.wrong_entry.ensures ∙ ap wrong_entry at) c.in_err-refuses-5.ensures)))))

pub returns-in_err-wrong_page-clause-fault : goal.returns-in_err-wrong_page-clause-fault
unfolding job_fault
returns-in_err-wrong_page-clause-fault c =
    let p = err_from_is_err_and c.from_residual-in_err-wrong_page.result c.from_residual-in_err-wrong_page.ensures.1 in
    let at : c.headed-reader.result.job.now ≡ c.args.job.now = ap (λ r. r.now) (c.headed-reader.ensures.0 ∙ c.new.ensures.0) in
    rw (p.1, p.2)
    (row_next 1 short _ _ c.short.ensures c.in_ok-refuses.ensures
    (row_next 2 wrong_version _ _ c.wrong_version.ensures c.in_ok-refuses-2.ensures
    (row_next 3 over_limit _ _ c.over_limit.ensures c.in_ok-refuses-3.ensures
    (row_next 4 wrong_offset _ _ c.wrong_offset.ensures c.in_ok-refuses-4.ensures
    (row_next 5 wrong_entry _ _ (c.wrong_entry.ensures ∙ ap wrong_entry at) c.in_ok-refuses-5.ensures
    (told wrong_page _ _ (c.in_err-wrong_page.ensures ∙ ap wrong_page at)))))))

pub invariant_of-pages : goal.invariant_of-pages
invariant_of-pages c =
    record {
      paged = record {
        heads = c.headed-reader.result.heads;
        entries = passed 5 wrong_entry [] _ c.wrong_entry.ensures c.in_ok-refuses-5.ensures;
        pages = sym c.in_ok-wrong_page.ensures;
      };
    }

pub returns-in_err-refuses-6-clause-fault : goal.returns-in_err-refuses-6-clause-fault
unfolding job_fault
returns-in_err-refuses-6-clause-fault c =
    let p = err_from_is_err_and c.from_residual-in_err-refuses-6.result c.from_residual-in_err-refuses-6.ensures.1 in
    let at : c.headed-reader.result.job.now ≡ c.args.job.now = ap (λ r. r.now) (c.headed-reader.ensures.0 ∙ c.new.ensures.0) in
    rw (p.1, p.2)
    (row_next 1 short _ _ c.short.ensures c.in_ok-refuses.ensures
    (row_next 2 wrong_version _ _ c.wrong_version.ensures c.in_ok-refuses-2.ensures
    (row_next 3 over_limit _ _ c.over_limit.ensures c.in_ok-refuses-3.ensures
    (row_next 4 wrong_offset _ _ c.wrong_offset.ensures c.in_ok-refuses-4.ensures
    (row_next 5 wrong_entry _ _ (c.wrong_entry.ensures ∙ ap wrong_entry at) c.in_ok-refuses-5.ensures
    (untold wrong_page _ _ (c.in_ok-wrong_page.ensures ∙ ap wrong_page at)
    (row_hit 7 wrong_owner _ _ (c.wrong_owner.ensures ∙ ap wrong_owner at) c.in_err-refuses-6.ensures)))))))

pub returns-in_err-refuses-7-clause-fault : goal.returns-in_err-refuses-7-clause-fault
unfolding job_fault
returns-in_err-refuses-7-clause-fault c =
    let p = err_from_is_err_and c.from_residual-in_err-refuses-7.result c.from_residual-in_err-refuses-7.ensures.1 in
    let at : c.headed-reader.result.job.now ≡ c.args.job.now = ap (λ r. r.now) (c.headed-reader.ensures.0 ∙ c.new.ensures.0) in
    rw (p.1, p.2)
    (row_next 1 short _ _ c.short.ensures c.in_ok-refuses.ensures
    (row_next 2 wrong_version _ _ c.wrong_version.ensures c.in_ok-refuses-2.ensures
    (row_next 3 over_limit _ _ c.over_limit.ensures c.in_ok-refuses-3.ensures
    (row_next 4 wrong_offset _ _ c.wrong_offset.ensures c.in_ok-refuses-4.ensures
    (row_next 5 wrong_entry _ _ (c.wrong_entry.ensures ∙ ap wrong_entry at) c.in_ok-refuses-5.ensures
    (untold wrong_page _ _ (c.in_ok-wrong_page.ensures ∙ ap wrong_page at)
    (row_next 7 wrong_owner _ _ (c.wrong_owner.ensures ∙ ap wrong_owner at) c.in_ok-refuses-6.ensures
    (row_hit 8 wrong_record _ _ (c.wrong_record.ensures ∙ ap wrong_record at) c.in_err-refuses-7.ensures))))))))

pub returns-in_err-refuses-8-clause-fault : goal.returns-in_err-refuses-8-clause-fault
unfolding job_fault
returns-in_err-refuses-8-clause-fault c =
    let p = err_from_is_err_and c.from_residual-in_err-refuses-8.result c.from_residual-in_err-refuses-8.ensures.1 in
    let at : c.headed-reader.result.job.now ≡ c.args.job.now = ap (λ r. r.now) (c.headed-reader.ensures.0 ∙ c.new.ensures.0) in
    rw (p.1, p.2)
    (row_next 1 short _ _ c.short.ensures c.in_ok-refuses.ensures
    (row_next 2 wrong_version _ _ c.wrong_version.ensures c.in_ok-refuses-2.ensures
    (row_next 3 over_limit _ _ c.over_limit.ensures c.in_ok-refuses-3.ensures
    (row_next 4 wrong_offset _ _ c.wrong_offset.ensures c.in_ok-refuses-4.ensures
    (row_next 5 wrong_entry _ _ (c.wrong_entry.ensures ∙ ap wrong_entry at) c.in_ok-refuses-5.ensures
    (untold wrong_page _ _ (c.in_ok-wrong_page.ensures ∙ ap wrong_page at)
    (row_next 7 wrong_owner _ _ (c.wrong_owner.ensures ∙ ap wrong_owner at) c.in_ok-refuses-6.ensures
    (row_next 8 wrong_record _ _ (c.wrong_record.ensures ∙ ap wrong_record at) c.in_ok-refuses-7.ensures
    (row_hit 9 wrong_op _ _ (c.wrong_op.ensures ∙ ap wrong_op at) c.in_err-refuses-8.ensures)))))))))

pub returns-in_err-refuses-9-clause-fault : goal.returns-in_err-refuses-9-clause-fault
unfolding job_fault
returns-in_err-refuses-9-clause-fault c =
    let p = err_from_is_err_and c.from_residual-in_err-refuses-9.result c.from_residual-in_err-refuses-9.ensures.1 in
    let at : c.headed-reader.result.job.now ≡ c.args.job.now = ap (λ r. r.now) (c.headed-reader.ensures.0 ∙ c.new.ensures.0) in
    rw (p.1, p.2)
    (row_next 1 short _ _ c.short.ensures c.in_ok-refuses.ensures
    (row_next 2 wrong_version _ _ c.wrong_version.ensures c.in_ok-refuses-2.ensures
    (row_next 3 over_limit _ _ c.over_limit.ensures c.in_ok-refuses-3.ensures
    (row_next 4 wrong_offset _ _ c.wrong_offset.ensures c.in_ok-refuses-4.ensures
    (row_next 5 wrong_entry _ _ (c.wrong_entry.ensures ∙ ap wrong_entry at) c.in_ok-refuses-5.ensures
    (untold wrong_page _ _ (c.in_ok-wrong_page.ensures ∙ ap wrong_page at)
    (row_next 7 wrong_owner _ _ (c.wrong_owner.ensures ∙ ap wrong_owner at) c.in_ok-refuses-6.ensures
    (row_next 8 wrong_record _ _ (c.wrong_record.ensures ∙ ap wrong_record at) c.in_ok-refuses-7.ensures
    (row_next 9 wrong_op _ _ (c.wrong_op.ensures ∙ ap wrong_op at) c.in_ok-refuses-8.ensures
    (row_hit 10 wrong_turn _ _ (c.wrong_turn.ensures ∙ ap wrong_turn at) c.in_err-refuses-9.ensures))))))))))

pub returns-clause-fault : goal.returns-clause-fault
unfolding job_fault
returns-clause-fault c =
    let at : c.headed-reader.result.job.now ≡ c.args.job.now = ap (λ r. r.now) (c.headed-reader.ensures.0 ∙ c.new.ensures.0) in
    row_next 1 short _ _ c.short.ensures c.in_ok-refuses.ensures
    (row_next 2 wrong_version _ _ c.wrong_version.ensures c.in_ok-refuses-2.ensures
    (row_next 3 over_limit _ _ c.over_limit.ensures c.in_ok-refuses-3.ensures
    (row_next 4 wrong_offset _ _ c.wrong_offset.ensures c.in_ok-refuses-4.ensures
    (row_next 5 wrong_entry _ _ (c.wrong_entry.ensures ∙ ap wrong_entry at) c.in_ok-refuses-5.ensures
    (untold wrong_page _ _ (c.in_ok-wrong_page.ensures ∙ ap wrong_page at)
    (row_next 7 wrong_owner _ _ (c.wrong_owner.ensures ∙ ap wrong_owner at) c.in_ok-refuses-6.ensures
    (row_next 8 wrong_record _ _ (c.wrong_record.ensures ∙ ap wrong_record at) c.in_ok-refuses-7.ensures
    (row_next 9 wrong_op _ _ (c.wrong_op.ensures ∙ ap wrong_op at) c.in_ok-refuses-8.ensures
    (row_next 10 wrong_turn _ _ (c.wrong_turn.ensures ∙ ap wrong_turn at) c.in_ok-refuses-9.ensures
    (rows_end _))))))))))

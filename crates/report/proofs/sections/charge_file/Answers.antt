use Rattle.std.proofs.Common.{refl, sym, ◌∙◌}
use borrow.Author.Tests.{eq-eqb, ne_eqb}
use Rattle.spec.specs.Basics.{if}
use Rattle.spec.specs.Bytes.{long}
use Rattle.spec.specs.Result.{file_part, file_in}
use Rattle.report.proofs.sections.charge_file.Goals as goal

pub returns-then-file-eq0-clause-file : goal.returns-then-file-eq0-clause-file
unfolding file_in if
returns-then-file-eq0-clause-file c = rw (eq-eqb (long c.args.res.now 16) 0 (sym c.u32_at-file.ensures ∙ c.if-file-eq0.true)) refl

pub returns-clause-file : goal.returns-clause-file
unfolding file_in file_part if
returns-clause-file c =
    let file = c.u32_at-file.ensures in
    rw (ne_eqb (long c.args.res.now 16) 0 (λ z. c.if-file-eq0.false (file ∙ z)), file, c.u32_at-total.ensures) refl

pub returns-clause-sound : goal.returns-clause-sound
unfolding file_part
returns-clause-sound c =
    let file = c.u32_at-file.ensures in
    rw (file, c.u32_at-total.ensures) ((c.requires.sound (λ z. c.if-file-eq0.false (file ∙ z))).file)

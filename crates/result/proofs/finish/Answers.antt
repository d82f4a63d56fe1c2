use native.Mathlib.Omega.{arith}
use Rattle.spec.specs.Bytes.{byte}
use Rattle.result.specs.FileLaws.{file-length}
use Rattle.result.specs.FinishLaws.{without-file, with_file}
use Rattle.result.proofs.finish.Goals as goal

pub returns-then-under-ne0 : goal.returns-then-under-ne0
returns-then-under-ne0 c =
    λ s y.
    let log = c.write_log-lines.ensures in
    without-file y log c.if-under-ne0.true c.write_header.ensures (omega arith)

pub returns : goal.returns
unfolding byte
returns c =
    λ s y.
    let n = c.file_length in
    let log = c.write_log-lines.ensures in
    let none = c.if-under-ne0.false in
    let file = c.write_file.ensures in
    let length = file-length y.file (omega arith) (omega arith) (omega arith) (omega arith) (λ k. omega (arith, c.type_inv.work k)) in
    with_file y log n.result none (file s.file y.file) (omega arith) c.write_header-2.ensures (omega arith)

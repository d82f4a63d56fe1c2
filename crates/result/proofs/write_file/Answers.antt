use Rattle.spec.specs.Bytes.{byte}
use Rattle.result.specs.FileLaws.{file_pieces}
use native.Mathlib.Omega.{arith}
use Rattle.result.proofs.write_file.Goals as goal

pub returns : goal.returns
unfolding byte
returns c =
    λ f h.
    let a = c.args in
    let u = c.used-used in
    let n = c.entries_at in
    file_pieces h (omega arith) a.res.now a.at u.result n.result
    c.put_file.ensures
    c.save_file.ensures
    u.ensures.0
    n.ensures.0
    (omega arith)
    (λ k. omega (arith, c.type_inv.work k))

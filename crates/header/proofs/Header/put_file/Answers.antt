use Prim.Native.Nat.{◌+◌, ◌*◌}
use native.Mathlib.Omega.{arith}
use Rattle.header.specs.FileLaws.{file_header_lem}
use Rattle.header.proofs.Header.put_file.Goals as goal

pub returns : goal.returns
returns c =
    let a = c.args in
    let n = c.table_at-table in
    let e = c.file_length-end in
    file_header_lem a.out.now a.at a.depth a.capacity a.pages a.used n.result e.result
    c.put_four_u16.ensures
    c.clear.ensures
    c.put_four_u32.ensures
    c.put_u32.ensures
    (omega arith)
    (omega arith)
    (omega arith)
    e.ensures.0

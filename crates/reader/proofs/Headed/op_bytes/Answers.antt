use Rattle.std.proofs.Common.{◌∙◌, ◌*◌, ◌≡◌, length, arith}
use Rattle.reader.specs.PartLaws.{length-ops, op_part_in}
use Rattle.reader.proofs.Chunks.{chunk_at}
use Rattle.reader.proofs.Headed.op_bytes.Goals as goal

pub bounds-as_chunks-i : goal.bounds-as_chunks-i
bounds-as_chunks-i c =
    let n : length c.operations.result.now ≡ 10 * c.args.self.header.ops = rw c.operations.ensures (length-ops c.args.self.heads) in
    rw c.as_chunks.ensures.front_len (omega (arith, n, c.requires))

pub returns : goal.returns
returns c =
    let n : length c.operations.result.now ≡ 10 * c.args.self.header.ops = rw c.operations.ensures (length-ops c.args.self.heads) in
    rw (c.as_chunks.ensures.front, ← c.args.self.heads.counts)
    (chunk_at 10 _ c.operations.result.now c.args.i (omega (arith, n, c.requires)) ∙ rw c.operations.ensures (op_part_in c.args.self.heads c.args.i c.requires))

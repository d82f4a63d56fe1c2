use Rattle.std.proofs.Common.{◌∙◌, ap, arith}
use Rattle.spec.specs.Decode.{op_of}
use Rattle.reader.specs.Parts.{op_at}
use Rattle.reader.proofs.Chunks.{chunk_at}
use Rattle.reader.proofs.op_at.Goals as goal

pub returns : goal.returns
unfolding op_at
returns c =
    c.op_of.ensures ∙ ap op_of (rw c.as_chunks.ensures.front (chunk_at 10 _ c.args.ops.now c.args.i (omega (arith, c.requires))))

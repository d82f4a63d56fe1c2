use Rattle.spec.specs.Decode.{op_of}
use Rattle.reader.proofs.Numbers.{or_search}
use Rattle.reader.proofs.op_of.Goals as goal

pub returns : goal.returns
unfolding op_of
returns c = rw (c.unwrap_or.ensures, c.kind_of.ensures, or_search, c.u8_at.ensures.0, c.u32_at.ensures, c.u32_at-2.ensures)

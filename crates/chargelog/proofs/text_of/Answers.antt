use Rattle.std.proofs.Common.{arith}
use Rattle.chargelog.proofs.Laws.{is_told, text_says}
use Rattle.chargelog.proofs.text_of.Goals as goal

pub unwrap-requires : goal.unwrap-requires
unwrap-requires c = is_told c.print.result (λ short e. let room = rw e at c.print.ensures in omega (arith, room.0))

pub returns : goal.returns
returns c = let printed = rw c.unwrap.ensures at c.print.ensures in text_says printed.1 (omega arith) (omega arith) (omega arith)

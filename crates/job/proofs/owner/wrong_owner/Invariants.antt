use Prim.Native.Nat.{◌^◌}
use Rattle.job.specs.Owner.{LowestOf}
use Rattle.job.proofs.Foreign.{up_to}
use Rattle.job.proofs.owner.wrong_owner.Given as goal

abbrev pub invariant-loop-k : goal.invariant-loop-k
invariant-loop-k l = LowestOf (up_to l.pages.reader.job.now l.k) 0 (2 ^ l.pages.reader.header.depth) l.first

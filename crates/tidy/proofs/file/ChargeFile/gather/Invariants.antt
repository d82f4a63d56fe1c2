-- `ChargeFile::gather` meets its contract: the records before entry j are in, and the page that entry j names comes next.
use Prim.Native.Nat.{◌-◌}
use Rattle.spec.specs.Decode.{file_of}
use Rattle.tidy.proofs.Gather.{Gathers}
use Rattle.tidy.proofs.file.ChargeFile.gather.Given as goal

abbrev pub invariant-loop-j : goal.invariant-loop-j
invariant-loop-j l = Gathers (file_of l.self.reader.job.now) l.from l.to l.initial.out l.out l.n l.j

abbrev pub decreases-loop-j : goal.decreases-loop-j
decreases-loop-j l = l.to - l.j

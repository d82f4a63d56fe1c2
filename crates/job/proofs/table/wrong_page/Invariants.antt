use mathlib.Core.List.{List, []}
use Rattle.std.specs.Prelude.{Option}
use Prim.Native.Nat.{ℕ, suc}
use Rattle.spec.specs.Decode.{header_of, page_parts}
use Rattle.spec.specs.Check.{Fault, page_fault}
use Rattle.laws.specs.Codec.Passed.{Passed}
use Rattle.job.proofs.table.wrong_page.Given as goal

abbrev pub fault : List ℕ → ℕ → List ℕ → Option Fault
fault b k p = page_fault (header_of b) (suc k) p

abbrev pub pages : List ℕ → List (List ℕ)
pages b = page_parts (header_of b) b

abbrev pub invariant-loop-k : goal.invariant-loop-k
invariant-loop-k l = Passed (fault l.reader.job.now) (pages l.reader.job.now) [] l.k

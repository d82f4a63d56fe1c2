use mathlib.Core.List.{List}
use Rattle.std.specs.Prelude.{Option}
use Prim.Native.Nat.{ℕ, suc}
use Rattle.spec.specs.File.{Page, zero_page, pages_in_use}
use Rattle.spec.specs.Decode.{header_of, file_of}
use Rattle.spec.specs.Check.{record_fault_in}
use Rattle.laws.specs.Codec.Passed.{Passed}
use Rattle.job.proofs.records.wrong_record.Given as goal

abbrev pub fault : List ℕ → ℕ → Page → Option ℕ
fault b k p = record_fault_in (header_of b) (suc k) p

abbrev pub pages : List ℕ → List Page
pages b = pages_in_use (file_of b)

abbrev pub invariant-loop-k : goal.invariant-loop-k
invariant-loop-k l = Passed (fault l.pages.reader.job.now) (pages l.pages.reader.job.now) zero_page l.k

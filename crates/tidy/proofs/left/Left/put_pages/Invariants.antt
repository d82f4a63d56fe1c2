-- `Left::put_pages` meets its contract: the pages passed are written.
use mathlib.Core.Path.{◌≡◌}
use lib.ListN.{take}
use Rattle.spec.specs.Basics.{each}
use Rattle.spec.specs.Encode.{page_bytes}
use Rattle.spec.specs.Tidy.{pages_left}
use Rattle.laws.specs.Tidy.Entries.{start_of}
use Rattle.wire.specs.Over.{over}
use Rattle.tidy.specs.Charge.{file_in}
use Rattle.tidy.proofs.left.Left.put_pages.Given as goal

abbrev pub invariant-loop-k : goal.invariant-loop-k
invariant-loop-k l = record {
  at : l.j ≡ start_of l.self.file.reader.header.depth l.left l.k;
  written : l.table ≡ over l.initial.table 0 (each (page_bytes l.self.file.reader.header.capacity) (take l.k (pages_left (file_in l.self.file))));
}

use Rattle.std.proofs.Common.{◌≡◌, map, length, ◌*◌}
use Rattle.std.specs.Iterator.Adapters.{enumerate_source, enumerate_count}
use Rattle.std.specs.Slice.Iter.{chunks_exact_rest, chunks_exact_size}
use Rattle.spec.specs.Bytes.{parts}
use Rattle.spec.specs.Decode.{page_of}
use Rattle.spec.specs.Report.{page_lines}
use Rattle.text.specs.Added.{Added}
use Rattle.text.specs.Sections.{Taken}
use Rattle.report.proofs.sections.page_lines.Given as goal

abbrev pub invariant-loop-i : goal.invariant-loop-i
invariant-loop-i l =
    (goal.iterator-loop-i).can_next l.i-iterator
    × (goal.iterator-loop-i).is_finite l.i-iterator
    × (enumerate_count l.i-iterator ≡ length l.yielded)
    × (chunks_exact_size (enumerate_source l.i-iterator) ≡ l.size)
    × Taken l.size (length l.yielded) l.pages (chunks_exact_rest (enumerate_source l.i-iterator))
    × Added (230 * length l.yielded) (page_lines 1 (map page_of (parts (length l.yielded) l.size l.pages))) l.initial.text l.text

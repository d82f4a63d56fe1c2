use Rattle.std.proofs.Common.{◌≡◌, map, length, ◌*◌}
use Rattle.std.specs.Slice.Iter.{chunks_exact_rest, chunks_exact_size}
use Rattle.spec.specs.Basics.{each}
use Rattle.spec.specs.Bytes.{parts}
use Rattle.spec.specs.Result.{line_of}
use Rattle.spec.specs.Report.{at_line}
use Rattle.text.specs.Added.{Added}
use Rattle.text.specs.Sections.{Taken}
use Rattle.report.proofs.sections.at_lines.Given as goal

abbrev pub invariant-loop-line : goal.invariant-loop-line
invariant-loop-line l =
    (goal.iterator-loop-line).can_next l.line-iterator
    × (goal.iterator-loop-line).is_finite l.line-iterator
    × (chunks_exact_size l.line-iterator ≡ 4)
    × Taken 4 (length l.yielded) l.log (chunks_exact_rest l.line-iterator)
    × Added (28 * length l.yielded) (each at_line (map line_of (parts (length l.yielded) 4 l.log))) l.initial.text l.text

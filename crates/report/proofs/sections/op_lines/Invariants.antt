use Rattle.std.proofs.Common.{◌≡◌, map, length, ◌*◌, ◌/◌}
use Rattle.std.specs.Iterator.Adapters.{enumerate_source, enumerate_count, zip_first, zip_second}
use Rattle.std.specs.Slice.Iter.{chunks_exact_rest, chunks_exact_size}
use Rattle.spec.specs.Bytes.{parts}
use Rattle.spec.specs.Decode.{op_of}
use Rattle.spec.specs.Result.{answer_of}
use Rattle.spec.specs.Report.{op_lines}
use Rattle.text.specs.Added.{Added}
use Rattle.text.specs.Sections.{Taken}
use Rattle.report.proofs.sections.op_lines.Given as goal

abbrev pub invariant-loop-i : goal.invariant-loop-i
invariant-loop-i l =
    (goal.iterator-loop-i).can_next l.i-iterator
    × (goal.iterator-loop-i).is_finite l.i-iterator
    × (enumerate_count l.i-iterator ≡ length l.yielded)
    × (chunks_exact_size (zip_first (enumerate_source l.i-iterator)) ≡ 10)
    × Taken 10 (length l.yielded) l.ops (chunks_exact_rest (zip_first (enumerate_source l.i-iterator)))
    × (chunks_exact_size (zip_second (enumerate_source l.i-iterator)) ≡ 8)
    × Taken 8 (length l.yielded) l.answers (chunks_exact_rest (zip_second (enumerate_source l.i-iterator)))
    × Added (74 * length l.yielded) (op_lines 0 (map op_of (parts (length l.ops / 10) 10 l.ops)) (map answer_of (parts (length l.yielded) 8 l.answers))) l.initial.text l.text

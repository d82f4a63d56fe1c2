use Rattle.std.proofs.Common.{◌≡◌, map, length, ◌*◌}
use Rattle.std.specs.Slice.Iter.{chunks_exact_rest, chunks_exact_size}
use Rattle.spec.specs.Basics.{each}
use Rattle.spec.specs.Bytes.{parts}
use Rattle.spec.specs.Decode.{record_of}
use Rattle.spec.specs.Report.{record_word}
use Rattle.text.specs.Added.{Added}
use Rattle.text.specs.Sections.{Taken}
use Rattle.pageline.proofs.record_words.Given as goal

abbrev pub invariant-loop-record : goal.invariant-loop-record
invariant-loop-record l =
    (goal.iterator-loop-record).can_next l.record-iterator
    × (goal.iterator-loop-record).is_finite l.record-iterator
    × (chunks_exact_size l.record-iterator ≡ 8)
    × Taken 8 (length l.yielded) l.records (chunks_exact_rest l.record-iterator)
    × Added (22 * length l.yielded) (each record_word (map record_of (parts (length l.yielded) 8 l.records))) l.initial.text l.text

-- What the parts of an accepted job say: how long they are, and that they hold the job's entries, pages, operations and turns.
use Prim.Native.Nat.{ℕ, suc, ◌+◌, ◌-◌, ◌*◌, ◌^◌, ◌<◌, ◌≤◌}
use Rattle.std.specs.Prelude.{◌≡◌, length, drop}
use Rattle.std.proofs.Math.Path.{sym}
use Rattle.std.proofs.Common.{ap, ◌∙◌}
use mathlib.Core.List.{List, [], map}
use native.Mathlib.Omega.{arith}
use Rattle.std.proofs.Math.Nat.{add-sub_cancel_left, mul-suc, mul-le-mul_left}
use Rattle.std.proofs.Math.ListN.{get_or, take}
use Rattle.spec.specs.Bytes.{word}
use Rattle.spec.specs.File.{entry_at}
use Rattle.spec.specs.Job.{Header as Counts, no_op, page_size, table_offset, ops_offset, turns_offset, total, entry_place, page_place, op_place, turn_place}
use Rattle.spec.specs.Decode.{header_of, op_parts, op_of, job_of}
use Rattle.laws.specs.Codec.Parts.{word_in}
use Rattle.laws.specs.Codec.Places.{entry_there, op_part, turn_there}
use Rattle.wire.specs.Parts.{length_part, part-part}
use Rattle.header.specs.declared.Header.{Header}
use Rattle.header.specs.Counts.{counts_of, Heads}
use Rattle.header.specs.Sections.{ops_at}
use Rattle.reader.specs.Parts.{directory_in, table_in, ops_in, turns_in, op_at, turn_at}

module _ {h : Header} {b : List ℕ} (e : Heads h b) where
  abbrev c : Counts
  c = counts_of h

  -- "The sections follow in that order with no gap"
  pub in_order : (32 ≤ table_offset c) × (table_offset c ≤ ops_offset c) × (ops_offset c ≤ turns_offset c) × (turns_offset c ≤ total c) × (total c ≤ length b)
  unfolding table_offset ops_offset turns_offset total
  in_order = (omega arith, omega arith, omega arith, omega arith, omega (arith, e.size))

  pub length-directory : length (directory_in c b) ≡ 2 * 2 ^ h.depth
  unfolding directory_in table_offset ops_offset turns_offset total
  length-directory = rw (add-sub_cancel_left 32 (2 * 2 ^ h.depth)) (length_part b 32 (2 * 2 ^ h.depth) (omega (arith, e.size)))

  pub length-table : length (table_in c b) ≡ page_size h.capacity * h.pages
  unfolding table_in ops_offset turns_offset total
  length-table =
      rw (add-sub_cancel_left (table_offset c) (page_size h.capacity * h.pages))
      (length_part b (table_offset c) (page_size h.capacity * h.pages) (omega (arith, e.size)))

  pub length-ops : length (ops_in c b) ≡ 10 * h.ops
  unfolding ops_in turns_offset total
  length-ops = rw (add-sub_cancel_left (ops_offset c) (10 * h.ops)) (length_part b (ops_offset c) (10 * h.ops) (omega (arith, e.size)))

  pub length-turns : length (turns_in c b) ≡ 2 * h.turns
  unfolding turns_in total
  length-turns = rw (add-sub_cancel_left (turns_offset c) (2 * h.turns)) (length_part b (turns_offset c) (2 * h.turns) (omega (arith, e.size)))

  pub entry_in : (j : ℕ) → j < 2 ^ h.depth → word (directory_in c b) (2 * j) ≡ entry_at (job_of b).file j
  unfolding directory_in table_offset job_of entry_place
  entry_in j l =
      rw (add-sub_cancel_left 32 (2 * 2 ^ h.depth)) (word_in (2 * 2 ^ h.depth) 32 b (2 * j) (omega arith))
      ∙ sym (entry_there b j (rw (← e.counts) l))

  pub page_in_lem
      : (k : ℕ)
      → k < h.pages
      → take (page_size h.capacity) (drop (page_size h.capacity * k) (table_in c b)) ≡ take (page_size h.capacity) (drop (page_place c (suc k)) b)
  unfolding table_in ops_offset turns_offset total page_place
  page_in_lem k l =
      let n = page_size h.capacity in
      let z : suc k - 1 ≡ k = omega arith in
      let fits : n * k + n ≤ n * h.pages = omega (arith, mul-le-mul_left n l, mul-suc n k) in
      rw (add-sub_cancel_left (table_offset c) (n * h.pages), z) (part-part b (table_offset c) (n * h.pages) (n * k) n fits (omega (arith, e.size)))

  pub op_part_in : (i : ℕ) → i < h.ops → take 10 (drop (10 * i) (ops_in c b)) ≡ get_or (op_parts c b) i []
  unfolding ops_in turns_offset total op_place
  op_part_in i l =
      rw (add-sub_cancel_left (ops_offset c) (10 * h.ops))
      (part-part b (ops_offset c) (10 * h.ops) (10 * i) 10 (omega arith) (omega (arith, e.size)) ∙ sym (op_part c b i l))

  pub op_in : (i : ℕ) → i < h.ops → op_at (ops_in c b) i ≡ get_or (job_of b).ops i no_op
  unfolding op_at job_of
  op_in i l =
      let same : op_of (get_or (op_parts c b) i []) ≡ get_or (map op_of (op_parts (header_of b) b)) i no_op = rw (← e.counts) (sym (ops_at (op_parts c b) i)) in
      ap op_of (op_part_in i l) ∙ same

  pub turn_in : (t : ℕ) → t < h.turns → turn_at (turns_in c b) t ≡ get_or (job_of b).turns t 0
  unfolding turn_at turns_in total turn_place
  turn_in t l =
      let there : word b (turns_offset c + 2 * t) ≡ get_or (job_of b).turns t 0 = rw e.counts (sym (turn_there b t (rw (← e.counts) l))) in
      rw (add-sub_cancel_left (turns_offset c) (2 * h.turns)) (word_in (2 * h.turns) (turns_offset c) b (2 * t) (omega arith)) ∙ there

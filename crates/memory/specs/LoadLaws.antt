-- What is read of the memory once a job's file is loaded: the job's entries and pages, its pages in use, and no lock.
use Rattle.std.specs.Prelude.{◌≡◌, refl, List, ℕ, ◌+◌, ◌-◌, ◌*◌, ◌≤◌, ◌<◌, length, take, drop}
use Rattle.std.proofs.Common.{◌∙◌, inl, inr, zero-add, mul-add, arith}
use Rattle.spec.specs.Bytes.{word}
use Rattle.spec.specs.Job.{page_size}
use Rattle.wire.specs.Over.{over}
use Rattle.wire.specs.Reads.{word_over}
use Rattle.wire.specs.Parts.{part_inside}
use Rattle.memory.specs.Memory.{entry_in, lock_in, used_in, place_of, part_in, with_used}
use Rattle.memory.specs.Within.{Within, Loads}
use Rattle.memory.specs.Load.{loaded}
use Rattle.memory.specs.Places.{place-from, pages_end}
use Rattle.memory.specs.Beside.{Beside, beside, entry_kept, used-kept, part_kept, within-kept}
use Rattle.memory.specs.Written.{locks-written, lock_same, used-written, used_same}

-- page x is page number x - 1 behind page 1
one_more : (size x : ℕ) → 1 ≤ x → size * x ≡ size + size * (x - 1)
one_more size x h =
    let e : 1 + (x - 1) ≡ x = omega arith in
    omega (arith, rw e at (mul-add size 1 (x - 1)))

place-next : (c x : ℕ) → 1 ≤ x → place_of c x ≡ place_of c 1 + page_size c * (x - 1)
unfolding place_of
place-next c x h = omega (arith, one_more (page_size c) x h)

-- ---- the memory, step by step: with the directory, with the pages, and with the number of pages in use

module _ {w d p : List ℕ} {c : ℕ} (o : Loads w d p c) (u : ℕ) where
  abbrev with_directory : List ℕ
  with_directory = over w 0 d

  abbrev with_table : List ℕ
  with_table = over with_directory (place_of c 1) p

  directory-written : Beside 0 (length d) w with_directory
  directory-written = beside w d 0 (length d) refl

  table-written : Beside (place_of c 1) (length p) with_directory with_table
  table-written = beside with_directory p (place_of c 1) (length p) refl

  table-size : length with_table ≡ length w
  table-size = table-written.size ∙ directory-written.size

  in_use : Beside 1024 2 with_table (with_used with_table u)
  in_use = used-written with_table u

  unlocked : Beside 512 257 (with_used with_table u) (loaded w d p c u)
  unfolding loaded
  unlocked = locks-written (with_used with_table u) 0 257 0

  pub loaded_size : length (loaded w d p c u) ≡ length w
  loaded_size = unlocked.size ∙ in_use.size ∙ table-size

  pub loaded_entry : (j : ℕ) → 2 * j + 2 ≤ length d → entry_in (loaded w d p c u) j ≡ word d (2 * j)
  unfolding entry_in
  loaded_entry j h =
      let read = word_over d w 0 (2 * j) h (omega (arith, o.size, o.directory)) in
      entry_kept unlocked j (inl (omega (arith, o.directory)))
      ∙ entry_kept in_use j (inl (omega (arith, o.directory)))
      ∙ entry_kept table-written j (inl (omega (arith, o.directory, place-from c 1)))
      ∙ rw (zero-add (2 * j)) at read

  pub loaded_lock : (x : ℕ) → x ≤ 256 → lock_in (loaded w d p c u) x ≡ 0
  unfolding loaded
  loaded_lock x h =
      lock_same (with_used with_table u) 0 257 0 x (omega (arith, in_use.size, table-size, o.size)) (omega arith) (omega arith) (omega arith)

  pub loaded_used : u < 65536 → used_in (loaded w d p c u) ≡ u
  loaded_used h = used-kept unlocked (inr (omega arith)) ∙ used_same with_table u (omega (arith, table-size, o.size)) h

  pub loaded_part
      : (x : ℕ)
      → 1 ≤ x
      → x ≤ 256
      → page_size c * x ≤ length p
      → part_in c (loaded w d p c u) x ≡ take (page_size c) (drop (page_size c * (x - 1)) p)
  unfolding part_in
  loaded_part x h k l =
      let i : Within with_table c x = record { size = omega (arith, table-size, o.size); capacity = o.capacity; number = k } in
      part_kept unlocked (within-kept in_use i) (inr (omega (arith, place-from c x)))
      ∙ part_kept in_use i (inr (omega (arith, place-from c x)))
      ∙ rw (place-next c x h)
      (part_inside with_directory p (place_of c 1) (page_size c * (x - 1)) (page_size c) (omega (arith, one_more (page_size c) x h))
      (omega (arith, pages_end c 256 o.capacity (omega arith), directory-written.size, o.size, o.pages)))

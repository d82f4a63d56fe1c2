-- A job's file in the memory, and a table of blank rows: what the first turn finds.
use mathlib.Core.Path.{◌≡◌, sym, ap, ◌∙◌}
use mathlib.Core.List.{List, [], map}
use mathlib.Core.Bool.{false}
use Prim.Native.Nat.{ℕ, zero, suc, ◌-◌, ◌*◌, ◌^◌, ◌≤◌, ◌<◌}
use native.Mathlib.Omega.{arith}
use native.Mathlib.Nat.{mul-le-mul_left}
use lib.Pow.{pow_mono}
use lib.ListN.{length, get_or, take, drop, replicate, length-replicate, get_or-replicate, length-drop}
use Rattle.spec.specs.File.{zero_page, page_at}
use Rattle.spec.specs.Job.{page_size, page_place}
use Rattle.spec.specs.Encode.{page_bytes, header_for}
use Rattle.spec.specs.Decode.{page_parts, file_of, job_of}
use Rattle.spec.specs.Check.{work_size}
use Rattle.laws.specs.Codec.Tools.{get_or_map}
use Rattle.laws.specs.Codec.Rows.{counted}
use Rattle.laws.specs.Codec.Forth.{encode-decode}
use Rattle.laws.specs.Codec.Sections.{head_of, pages-written}
use Rattle.laws.specs.Codec.Proper.{file_sized}
use Rattle.laws.specs.Codec.InUse.{page_behind}
use Rattle.laws.specs.Codec.Places.{page_part}
use Rattle.laws.specs.Turns.States.{state_at-zero}
use Rattle.header.specs.declared.Header.{Header}
use Rattle.header.specs.Counts.{counts_of, Heads}
use Rattle.memory.specs.Memory.{part_in}
use Rattle.memory.specs.Within.{Loads}
use Rattle.memory.specs.Load.{loaded}
use Rattle.memory.specs.LoadLaws.{loaded_size, loaded_entry, loaded_lock, loaded_used, loaded_part}
use Rattle.turn.specs.Rows.{blank_row}
use Rattle.simulation.specs.Shown.{Picture}
use Rattle.simulation.specs.Begun.{no_lock, start_shown, start-row}
use Rattle.reader.specs.Parts.{directory_in, table_in}
use Rattle.reader.specs.PartLaws.{length-directory, length-table, entry_in, page_in_lem}
use Rattle.table.specs.Turns.{both}
use Rattle.run.specs.Table.{Accepts, Running}
use Rattle.run.proofs.Known.{proper, heads, ops_are, depth_is, capacity_is, pages_are, used_is}

-- what loading asks
pub loads_in
    : {h : Header} {b : List ℕ}
    → Heads h b
    → (w : List ℕ)
    → work_size ≤ length w
    → Loads w (directory_in (counts_of h) b) (table_in (counts_of h) b) h.capacity
loads_in {h} hs w l =
    let q = hs.limits in
    record {
      size = l;
      directory = omega (arith, length-directory hs, pow_mono {i = h.depth} {j = 8} q.depth);
      capacity = q.capacity.1;
      pages = omega (arith, length-table hs, mul-le-mul_left (page_size h.capacity) q.pages.1);
    }

module _ {h : Header} {b : List ℕ} (a : Accepts h b) where
  head_same : head_of (job_of b) ≡ counts_of h
  unfolding header_for job_of file_of
  head_same = rw (a.counts, (counted b).ops, (counted b).turns)

  parts_are : page_parts (counts_of h) b ≡ map (page_bytes h.capacity) (drop 1 (job_of b).file.table)
  parts_are =
      rw (← head_same, ← capacity_is a)
      (rw (encode-decode b a.bytes a.accepted) at (pages-written (job_of b) (file_sized (job_of b).file (proper a).file)))

  -- page k + 1 as it stands in the job
  page-bytes
      : (k : ℕ)
      → k < h.pages
      → page_bytes h.capacity (page_at (job_of b).file (suc k)) ≡ take (page_size h.capacity) (drop (page_place (counts_of h) (suc k)) b)
  page-bytes k l =
      let many : k < length (drop 1 (job_of b).file.table) = rw length-drop (omega (arith, (proper a).file.fit.pages, pages_are a)) in
      ap (page_bytes h.capacity) (sym (page_behind (job_of b).file k))
      ∙ sym (get_or_map (page_bytes h.capacity) (drop 1 (job_of b).file.table) k zero_page [] many)
      ∙ ap (λ (ps : List (List ℕ)). get_or ps k []) (sym parts_are)
      ∙ page_part (counts_of h) b k l

  module _ (w : List ℕ) (l : work_size ≤ length w) where
    abbrev u : List ℕ
    u = loaded w (directory_in (counts_of h) b) (table_in (counts_of h) b) h.capacity h.used

    page : (x : ℕ) → 1 ≤ x → x ≤ h.pages → part_in h.capacity u x ≡ page_bytes h.capacity (page_at (job_of b).file x)
    page zero n m = absurd (omega arith)
    page (suc k) n m =
        let z : suc k - 1 ≡ k = omega arith in
        let fits : page_size h.capacity * suc k ≤ length (table_in (counts_of h) b) = rw (length-table (heads a)) (mul-le-mul_left (page_size h.capacity) m) in
        rw z at (loaded_part (loads_in (heads a) w l) h.used (suc k) n (omega (arith, (heads a).limits.pages.1)) fits)
        ∙ page_in_lem (heads a) k m
        ∙ sym (page-bytes k m)

    file_loaded : Picture (job_of b).file (replicate (suc (job_of b).file.limit) false) u
    file_loaded =
        let q = (heads a).limits in
        let o = loads_in (heads a) w l in
        record {
          long = omega (arith, loaded_size o h.used, o.size);
          entries = λ j n.
              let m : j < 2 ^ h.depth = rw (depth_is a) at n in
              loaded_entry o h.used j (omega (arith, length-directory (heads a))) ∙ entry_in (heads a) j m;
          locks = λ x n. loaded_lock o h.used x (omega (arith, pages_are a, q.pages.1)) ∙ sym (no_lock (suc (job_of b).file.limit) x);
          used = loaded_used o h.used (omega (arith, q.used.1, q.pages.1)) ∙ sym (used_is a);
          pages = λ x n m. rw (capacity_is a) (page x n (rw (pages_are a) at m));
        }

    pub begun : (n : ℕ) → h.ops ≤ n → Running (job_of b) 0 (both (replicate n blank_row) u)
    begun n m =
        record {
          shown = rw (state_at-zero (job_of b)) (start_shown (job_of b).file (length (job_of b).ops) _ file_loaded);
          table = λ q k.
              rw (state_at-zero (job_of b), get_or-replicate n q blank_row blank_row (omega (arith, ops_are a)))
              (sym (start-row (job_of b).file (length (job_of b).ops) q k));
          room = rw length-replicate (omega (arith, ops_are a));
        }

-- What rows 5, 12, 6 and 13 tell where they do not hold: entries name pages in use, and page x is what its bytes show.
use Prim.Native.Nat.{ℕ, suc, ◌-◌, ◌^◌, ◌<◌, ◌≤◌}
use mathlib.Core.Path.{◌≡◌, ◌∙◌}
use mathlib.Core.List.{List, []}
use native.Mathlib.Omega.{arith}
use lib.ListN.{length, get_or, drop, length-map}
use lib.Seq.{length-take-le, get_or-take}
use Rattle.spec.specs.Bytes.{byte}
use Rattle.spec.specs.File.{zero_page, page_at, entry_at, pages_in_use}
use Rattle.spec.specs.Job.{page_size}
use Rattle.spec.specs.Decode.{header_of, page_parts, page_of, file_of, job_of}
use Rattle.spec.specs.Check.{wrong_entry, wrong_page}
use Rattle.laws.specs.Codec.InUse.{page_behind}
use Rattle.laws.specs.Codec.Owner.{entries_said}
use Rattle.laws.specs.Codec.Pages.{PageFine, pages_said, page_at_lem}
use Rattle.header.specs.declared.Header.{Header}
use Rattle.header.specs.Sections.{entries-count, pages-count}
use Rattle.job.specs.Owner.{Paged}
use Rattle.job.specs.Records.{Small}

-- page x has the bytes s, which rows 12, 6 and 13 do not refuse
pub record PageIs (b : List ℕ) (x : ℕ) (s : List ℕ) : Type 0 where
  pub is : page_at (file_of b) x ≡ page_of s
  pub fine : PageFine (header_of b) x s

module _ {h : Header} {b : List ℕ} (e : Paged h b) where
  pub page_is : (x : ℕ) (s : List ℕ) → 1 ≤ x → x ≤ h.pages → s ≡ get_or (page_parts (header_of b) b) (x - 1) [] → PageIs b x s
  unfolding wrong_page
  page_is x s l u p =
      let z : suc (x - 1) ≡ x = omega arith in
      let f = (pages_said (header_of b) (page_parts (header_of b) b)).0 e.pages (x - 1) (rw (pages-count e.heads) (omega arith)) in
      record { is = rw (p, ← page_at_lem b (x - 1), z); fine = rw p (rw z at f) }

  pub entry-is
      : (j r : ℕ) → j < 2 ^ h.depth → r ≡ get_or (job_of b).file.directory j 0 → (r ≡ entry_at (file_of b) j) × (1 ≤ r) × (r ≤ h.used)
  unfolding job_of file_of entry_at wrong_entry
  entry-is j r l p =
      let n = (entries_said (file_of b)).0 e.entries j (rw (entries-count e.heads) l) in
      let u : (header_of b).used ≡ h.used = rw (← e.heads.counts) in
      (p, omega arith, omega arith)

  pub page-depth : (x : ℕ) (s : List ℕ) → PageIs b x s → byte s 0 ≤ h.depth
  page-depth x s p = let g : (header_of b).g ≡ h.depth = rw (← e.heads.counts) in omega (arith, p.fine.deep)

  pub page-small : (x : ℕ) (s : List ℕ) → PageIs b x s → length s ≡ page_size h.capacity → Small s
  page-small x s p n =
      let g = page-depth x s p in
      let c : (header_of b).c ≡ h.capacity = rw (← e.heads.counts) in
      let m = e.heads.limits in
      let q = p.fine.count in
      record { deep = omega (arith, m.depth); count = omega (arith, m.capacity.1); room = omega arith }

  -- the pages in use, by number
  pub in_use : length (pages_in_use (file_of b)) ≡ h.used
  unfolding pages_in_use file_of
  in_use =
      let u : (header_of b).used ≡ h.used = rw (← e.heads.counts) in
      length-take-le _ _ (rw (length-map, pages-count e.heads) (omega (arith, e.heads.limits.used.1))) ∙ u

  pub in_use_at : (k : ℕ) → k < h.used → get_or (pages_in_use (file_of b)) k zero_page ≡ page_at (file_of b) (suc k)
  unfolding pages_in_use file_of
  in_use_at k l =
      let u : (header_of b).used ≡ h.used = rw (← e.heads.counts) in
      get_or-take (header_of b).used (drop 1 (file_of b).table) k zero_page (omega arith) ∙ page_behind (file_of b) k

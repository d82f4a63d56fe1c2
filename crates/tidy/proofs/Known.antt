-- What the header and the proper file that tidying is given tell: its numbers, its entries, and the pages that they name.
use Prim.Native.Nat.{ℕ, suc, ◌-◌, ◌*◌, ◌^◌, ◌<◌, ◌≤◌}
use mathlib.Core.Path.{◌≡◌, refl, sym, ap, ◌∙◌}
use mathlib.Core.List.{List, []}
use native.Mathlib.Omega.{arith}
use lib.Pow.{pow_mono}
use lib.ListN.{length, get_or}
use Rattle.spec.specs.Bytes.{byte}
use Rattle.spec.specs.Proper.{FileOk}
use Rattle.spec.specs.File.{Page, page_at, entry_at}
use Rattle.spec.specs.Job.{page_size}
use Rattle.spec.specs.Decode.{header_of, page_parts, page_of, file_of, job_of}
use Rattle.laws.specs.Codec.Pages.{page_at_lem}
use Rattle.spec.specs.Tidy.{first_entry}
use Rattle.laws.specs.Codec.Accepted.{file_ok}
use Rattle.laws.specs.Codec.AsBytes.{are_bytes}
use Rattle.laws.specs.Codec.Rows.{accepted-rows}
use Rattle.laws.specs.Codec.Forth.{part_forth}
use Rattle.laws.specs.Tidy.Entries.{page_on, records_at}
use Rattle.laws.specs.Tidy.Spans as spans
use Rattle.header.specs.declared.Header.{Header}
use Rattle.page.specs.View.{records_all, records-length}
use Rattle.tidy.specs.Given.{Given, Shows}

-- a page's bytes tell its depth, and how many records it has
pub shown_depth : (s : List ℕ) → byte s 0 ≡ (page_of s).depth
unfolding page_of
shown_depth s = refl

pub count_shown : (s : List ℕ) → byte s 1 ≡ length (page_of s).records
count_shown s = sym (ap length (records_all s) ∙ records-length s 0 (byte s 1))

module _ {h : Header} {b : List ℕ} (e : Given h b) where
  -- the file is proper
  pub ok : FileOk (file_of b)
  ok = file_ok b e.accepted

  -- a directory has at most 256 entries
  pub entries-most : 2 ^ h.depth ≤ 256
  entries-most = pow_mono e.heads.limits.depth

  pub depth_is : (file_of b).g ≡ h.depth
  unfolding file_of
  depth_is = rw (← e.heads.counts)

  pub capacity_is : (file_of b).c ≡ h.capacity
  unfolding file_of
  capacity_is = rw (← e.heads.counts)

  pub pages_is : (file_of b).limit ≡ h.pages
  unfolding file_of
  pages_is = rw (← e.heads.counts)

  pub used_is : (file_of b).used ≡ h.used
  unfolding file_of
  used_is = rw (← e.heads.counts)

  -- entry j names a page in use
  pub entry-names : (j r : ℕ) → j < 2 ^ h.depth → r ≡ get_or (job_of b).file.directory j 0 → (r ≡ entry_at (file_of b) j) × (1 ≤ r) × (r ≤ h.used)
  unfolding job_of entry_at
  entry-names j r l p =
      let n = ok.fit.entries j (rw depth_is l) in
      let u = used_is in
      (p, omega (arith, n.0), omega (arith, n.1))

  -- whose bytes these are
  pub page_shown
      : (j x : ℕ) (s : List ℕ)
      → j < 2 ^ h.depth
      → x ≡ get_or (job_of b).file.directory j 0
      → s ≡ get_or (page_parts (header_of b) b) (x - 1) []
      → length s ≡ page_size h.capacity
      → Shows h (page_on (file_of b) j) s
  unfolding page_on page_of file_of
  page_shown j x s l p q n =
      let r = entry-names j x l p in
      let z : suc (x - 1) ≡ x = omega (arith, r.1) in
      let is : page_of s ≡ page_at (file_of b) x = rw q (sym (rw z at (page_at_lem b (x - 1)))) in
      let same = part_forth b (are_bytes b e.bytes) ((accepted-rows b).0 e.accepted) (x - 1) (omega (arith, r.1, r.2, pages_is, e.heads.limits.used.1)) in
      let right = ok.pages x (omega (arith, r.1), omega (arith, r.2, used_is)) in
      record {
        is = is ∙ rw r.0;
        written = rw (← r.0, ← is, ← capacity_is, q) same;
        size = n;
        deep = omega (arith, right.deep, ap (λ (y : Page). y.depth) is, depth_is);
        few = omega (arith, count_shown s, right.room, ap (λ (y : Page). length y.records) is, capacity_is);
      }

  -- a page's records count at its first entry
  module _ (j : ℕ) {s : List ℕ} (there : Shows h (page_on (file_of b) j) s) (p run : ℕ) (pattern : p ≡ (page_of s).pattern) (is : run ≡ 2 ^ (h.depth - (page_of s).depth)) where
    first : first_entry (file_of b).g (page_on (file_of b) j) ≡ p * run
    unfolding first_entry
    first = rw (← there.is, ← pattern, depth_is, is)

    pub at_first : (n : ℕ) → n ≡ length (page_of s).records → p * run ≡ j → (n ≡ records_at (file_of b) j) × (n ≤ 8)
    at_first n c z =
        let same = ap (λ (q : Page). length q.records) there.is in
        (c ∙ same ∙ sym (spans.at_first (file_of b) j (first ∙ z)), omega (arith, count_shown s, there.few, e.heads.limits.capacity.1))

    pub at_later : (p * run ≡ j → ⊥) → 0 ≡ records_at (file_of b) j
    at_later z = sym (spans.at_later (file_of b) j (λ q. z (sym first ∙ q)))

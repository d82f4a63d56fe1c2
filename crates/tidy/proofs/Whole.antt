-- Header, directory and pages, one behind another, are the tidied file's bytes.
use Prim.Native.Nat.{ℕ, zero, suc, ◌+◌, ◌-◌, ◌*◌, ◌^◌}
use mathlib.Core.Path.{◌≡◌, sym, ap, ◌∙◌}
use mathlib.Core.List.{List, [], ◌++◌, append-nil}
use native.Mathlib.Omega.{arith}
use native.Mathlib.Nat.{add_comm, sub-zero, mul-zero, mul-suc}
use lib.ListN.{length, replicate, replicate-append-replicate}
use Rattle.spec.specs.Basics.{each}
use Rattle.spec.specs.Bytes.{two}
use Rattle.spec.specs.File.{Page, File, zero_page}
use Rattle.spec.specs.Job.{page_size}
use Rattle.spec.specs.Encode.{header_bytes, header_for, page_bytes, encode_job, encode_file}
use Rattle.spec.specs.Decode.{file_of}
use Rattle.spec.specs.Tidy.{pages_left, owners_from, file_with, tidy_file, tidy_bytes}
use Rattle.laws.specs.Tidy.Wanted.{Wanted}
use Rattle.laws.specs.Codec.Parts.{each_join}
use Rattle.laws.specs.Codec.Sections.{length_header}
use Rattle.laws.specs.Tidy.Entries.{depths_left, spread}
use Rattle.laws.specs.Tidy.Starts.{spread-length}
use Rattle.header.specs.declared.Header.{Header}
use Rattle.header.specs.File.{file_header}
use Rattle.wire.specs.Over.{over}
use Rattle.wire.specs.Joined.{three}
use Rattle.tidy.specs.Given.{Given}
use Rattle.tidy.proofs.Known.{capacity_is, pages_is}
use Rattle.tidy.proofs.Table.{length_twos, as_many, fills, owners}

-- "pages no longer in use are zero"
abbrev zeros : ℕ → List ℕ
zeros n = replicate n 0

zero-page : (c : ℕ) → page_bytes c zero_page ≡ replicate (page_size c) 0
unfolding page_bytes two each
zero-page c = ap (λ n. zeros 4 ++ zeros (8 * n)) (sub-zero c) ∙ replicate-append-replicate 4 (8 * c) 0

zero-pages : (c n : ℕ) → each (page_bytes c) (replicate n zero_page) ≡ replicate (page_size c * n) 0
unfolding each
zero-pages c zero = rw (mul-zero (page_size c))
zero-pages c (suc n) =
    rw (zero-page c, zero-pages c n, mul-suc (page_size c) n) (replicate-append-replicate (page_size c) (page_size c * n) 0 ∙ ap (λ m. replicate m 0) (add_comm (page_size c) (page_size c * n)))

-- a file made of some pages, in three parts
parts
    : (f : File) (ps : List Page) (d : ℕ)
    → header_bytes (file_header d f.c f.limit (length ps)) ++ each two (owners_from (2 ^ d) d ps 0)
    ++ (each (page_bytes f.c) ps ++ zeros (page_size f.c * (f.limit - length ps)))
    ≡ encode_file (file_with d f ps)
unfolding encode_file encode_job header_for file_with each
parts f ps d =
    let H : List ℕ = header_bytes (file_header d f.c f.limit (length ps)) in
    let D : List ℕ = each two (owners_from (2 ^ d) d ps 0) in
    let T : List ℕ = each (page_bytes f.c) (ps ++ replicate (f.limit - length ps) zero_page) in
    let t : each (page_bytes f.c) ps ++ zeros (page_size f.c * (f.limit - length ps)) ≡ T
    = rw (← zero-pages f.c (f.limit - length ps)) (sym (each_join (page_bytes f.c) ps _)) in
    ap (λ (x : List ℕ). H ++ D ++ x) t ∙ sym (append-nil (H ++ D ++ T ++ []) ∙ append-nil (H ++ D ++ T))

module _ {h : Header} {b : List ℕ} (e : Given h b) (left : List ℕ) (is : left ≡ depths_left (file_of b) 0) (d : ℕ) (w : Wanted d (file_of b)) where
  abbrev pub head : List ℕ
  head = header_bytes (file_header d h.capacity h.pages (length left))

  abbrev pub directory : List ℕ
  directory = each two (spread d left 1)

  abbrev pub table : List ℕ
  table = each (page_bytes h.capacity) (pages_left (file_of b)) ++ replicate (page_size h.capacity * (h.pages - length (pages_left (file_of b)))) 0

  pub whole : head ++ directory ++ table ≡ tidy_bytes d b
  unfolding tidy_bytes tidy_file
  whole =
      rw (as_many e left is, owners e left is d (omega (arith, w.most)) w.least, ← capacity_is e, ← pages_is e)
      (parts (file_of b) (pages_left (file_of b)) d)

  directory-length : length directory ≡ 2 * 2 ^ d
  directory-length = length_twos (spread d left 1) ∙ rw (← spread-length d left 1, (fills e left is d w.least).total)

  pub written
      : {s₁ s₂ s₃ : List ℕ} (s : List ℕ) (place : ℕ)
      → s₁ ≡ over s 0 head
      → s₂ ≡ over s₁ 32 directory
      → s₃ ≡ over s₂ place table
      → place ≡ 32 + 2 * 2 ^ d
      → s₃ ≡ over s 0 (tidy_bytes d b)
  written s place p q r at =
      three s head directory table 0 32 place p q r (omega (arith, length_header (file_header d h.capacity h.pages (length left)))) (omega (arith, directory-length)) ∙ ap (over s 0) whole

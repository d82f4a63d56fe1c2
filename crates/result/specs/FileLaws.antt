-- The charge file: its header, directory and pages as they are written are the file's bytes.
use Rattle.std.specs.Prelude.{◌≡◌, length, get_or, drop}
use Rattle.std.proofs.Common.{sym, ap, ◌∙◌, mul-zero, length-drop, take-add, get_or-drop}
use mathlib.Core.List.{List, [], ◌∷◌, ◌++◌, append_assoc, append-nil}
use Prim.Native.Nat.{ℕ, suc, ◌+◌, ◌*◌, ◌^◌, ◌≤◌, ◌<◌}
use native.Mathlib.Omega.{arith}
use Rattle.std.proofs.Math.Pow.{pow_mono}
use Rattle.std.proofs.Math.ListN.{take, length-append}
use Rattle.std.proofs.Math.Seq.{drop-drop, length-take-le}
use Rattle.spec.specs.Basics.{each}
use Rattle.spec.specs.Bytes.{byte, word, two}
use Rattle.spec.specs.File.{File, zero_page, page_at, entry_at}
use Rattle.spec.specs.Job.{page_size}
use Rattle.spec.specs.Encode.{header_bytes, header_for, page_bytes, encode_job, encode_file}
use Rattle.spec.specs.Check.{work_size}
use Rattle.laws.specs.Codec.Numbers.{two_read}
use Rattle.laws.specs.Codec.Pieces.{two_bytes}
use Rattle.laws.specs.Codec.Sections.{length_header}
use Rattle.laws.specs.Codec.Parts.{next_place}
use Rattle.wire.specs.Over.{over}
use Rattle.wire.specs.OverLaws.{over-over}
use Rattle.wire.specs.Parts.{length_part}
use Rattle.memory.specs.Memory.{entry_in, used_in, place_of, part_in}
use Rattle.memory.specs.Load.{saved}
use Rattle.memory.specs.Places.{pages_end}
use Rattle.header.specs.File.{file_header, file_size}
use Rattle.result.specs.Finish.{FileShown}

-- members whose bytes stand one behind another
stand
    : {A : Type 0} (enc : A → List ℕ) (size : ℕ) (d : A) (xs : List A) (w : List ℕ)
    → ((j : ℕ) → j < length xs → enc (get_or xs j d) ≡ take size (drop (size * j) w))
    → each enc xs ≡ take (size * length xs) w
unfolding each
stand enc size d [] w h = rw (mul-zero size)
stand enc size d (x ∷ xs) w h =
    let first : enc x ≡ take size w = rw (mul-zero size) at (h 0 (omega arith)) in
    rw (next_place size (length xs), take-add size (size * length xs) w, first)
    (ap (λ (l : List ℕ). take size w ++ l) (stand enc size d xs (drop size w) (λ j l. h (suc j) (omega arith) ∙ later j)))
  where
    later : (j : ℕ) → take size (drop (size * suc j) w) ≡ take size (drop (size * j) (drop size w))
    later j = rw (next_place size j, drop-drop (size * j) size w)

-- two bytes are those of their number
two_stands : (w : List ℕ) (p : ℕ) → ((k : ℕ) → byte w k < 256) → p + 2 ≤ length w → two (word w p) ≡ take 2 (drop p w)
two_stands w p b h = two_read w p (b p) (b (p + 1)) ∙ (two_bytes w p h).same

-- a file that the memory shows
module _ {f : File} {g c P : ℕ} {w : List ℕ} (h : FileShown f g c P w) (long : work_size ≤ length w) where
  directory-bytes : g ≤ 8 → ((k : ℕ) → byte w k < 256) → each two f.directory ≡ take (2 * 2 ^ g) w
  unfolding entry_in entry_at
  directory-bytes small b =
      let few : 2 ^ g ≤ 2 ^ 8 = pow_mono small in
      rw (← h.directory)
      (stand two 2 0 f.directory w (λ j l. rw (← h.entries j (omega (arith, h.directory))) (two_stands w (2 * j) b (omega (arith, h.directory)))))

  page-bytes : (j : ℕ) → j < P → page_bytes c (get_or (drop 1 f.table) j zero_page) ≡ take (page_size c) (drop (page_size c * j) (drop (place_of c 1) w))
  unfolding part_in page_at place_of
  page-bytes j l =
      let z : 5122 + (4 + 8 * c) * (1 + j) ≡ 5122 + (4 + 8 * c) * 1 + (4 + 8 * c) * j = omega arith in
      rw (get_or-drop 1 f.table j zero_page, drop-drop (page_size c * j) (place_of c 1) w, ← z) (sym (h.pages (1 + j) (omega arith) (omega arith)))

  table-bytes : each (page_bytes c) (drop 1 f.table) ≡ take (page_size c * P) (drop (place_of c 1) w)
  table-bytes =
      let n : length (drop 1 f.table) ≡ P = length-drop 1 f.table ∙ (omega (arith, h.table)) in
      rw (← n) (stand (page_bytes c) (page_size c) zero_page (drop 1 f.table) (drop (place_of c 1) w) (λ j l. page-bytes j (omega arith)))

  file-bytes : g ≤ 8 → ((k : ℕ) → byte w k < 256) → header_bytes (file_header g c P (used_in w)) ++ saved w (2 ^ g) c P ≡ encode_file f
  unfolding saved encode_file encode_job header_for each
  file-bytes small b =
      let H : List ℕ = header_bytes (file_header g c P (used_in w)) in
      let D : List ℕ = take (2 * 2 ^ g) w in
      let T : List ℕ = take (page_size c * P) (drop (place_of c 1) w) in
      rw (h.depth, h.capacity, h.limit, ← h.used, directory-bytes small b, table-bytes)
      (sym (append-nil (H ++ D ++ T ++ []) ∙ append-nil (H ++ D ++ T) ∙ append_assoc H D T))

  pub file-length : g ≤ 8 → c ≤ 8 → P ≤ 256 → ((k : ℕ) → byte w k < 256) → length (encode_file f) ≡ file_size g c P
  unfolding saved
  file-length small few pages b =
      let n : 2 ^ g ≤ 2 ^ 8 = pow_mono small in
      let head = length_header (file_header g c P (used_in w)) in
      let entries = length-take-le (2 * 2 ^ g) w (omega arith) in
      let table = length_part w (place_of c 1) (page_size c * P) (omega (arith, pages_end c P few pages)) in
      rw (← file-bytes small b, length-append, length-append) (omega arith)

  -- the header, and directory and pages behind it
  pub file_pieces
      : {s₁ s₂ : List ℕ} (s : List ℕ) (at u n : ℕ)
      → s₁ ≡ over s at (header_bytes (file_header g c P u))
      → s₂ ≡ over s₁ (at + 32) (saved w n c P)
      → u ≡ used_in w
      → n ≡ 2 ^ g
      → g ≤ 8
      → ((k : ℕ) → byte w k < 256)
      → s₂ ≡ over s at (encode_file f)
  file_pieces s at u n p q e i small b =
      let H : List ℕ = header_bytes (file_header g c P u) in
      let z : at + 32 ≡ at + length H = rw length_header in
      q ∙ rw (p, over-over H (saved w n c P) s at (at + 32) z, ← file-bytes small b, e, i)

-- Where an entry, a page, an operation and a turn stand in the bytes of a job whose header is h, and that they lie within them.
use Prim.Native.Nat.{ℕ, suc, ◌+◌, ◌-◌, ◌*◌, ◌^◌, ◌<◌, ◌≤◌}
use Rattle.std.specs.Prelude.{◌≡◌, List, [], map, length, get_or, take, drop}
use Rattle.std.proofs.Math.Path.{sym}
use native.Mathlib.Omega.{arith}
use Rattle.std.proofs.Math.Nat.{mul-suc, mul-le-mul_left}
use Rattle.std.proofs.Common.{length-drop, length-take-le}
use Rattle.std.proofs.Math.ListN.{get_or-map}
use Rattle.spec.specs.Basics.{if}
use Rattle.spec.specs.Bytes.{byte, word, long}
use Rattle.spec.specs.File.{entry_at}
use Rattle.spec.specs.Job.{no_op, kind_of, page_size, op_size, table_offset, ops_offset, turns_offset, total, entry_place, page_place, op_place, turn_place}
use Rattle.spec.specs.Decode.{header_of, number_of, op_of, page_parts, op_parts, turn_parts, job_of}
use Rattle.laws.specs.Codec.Parts.{length-parts}
use Rattle.laws.specs.Codec.Places as places
use Rattle.laws.specs.Codec.Rows.{counted}
use Rattle.header.specs.declared.Header.{Header}
use Rattle.header.specs.Counts.{counts_of, Heads}

-- n bytes at a place are p
pub record Part (b : List ℕ) (at n : ℕ) (p : List ℕ) : Type 0 where
  pub room : at + n ≤ length b
  pub is : take (at + n - at) (drop at b) ≡ p
  pub size : length (take (at + n - at) (drop at b)) ≡ n

-- a number of 2 bytes at a place is n
pub record Number (b : List ℕ) (at n : ℕ) : Type 0 where
  pub room : at + 2 ≤ length b
  pub is : word b at ≡ n

part : (b : List ℕ) (at n : ℕ) {p : List ℕ} → at + n ≤ length b → p ≡ take n (drop at b) → Part b at n p
part b at n l e =
    let z : at + n - at ≡ n = omega arith in
    record { room = l; is = rw (z, e); size = rw z (length-take-le n (drop at b) (rw length-drop (omega arith))) }

-- what is read of the parts of a section, part by part
pub numbers_at : (ps : List (List ℕ)) (j : ℕ) → get_or (map number_of ps) j 0 ≡ number_of (get_or ps j [])
unfolding number_of word byte
numbers_at ps j = get_or-map number_of ps j []

pub ops_at : (ps : List (List ℕ)) (i : ℕ) → get_or (map op_of ps) i no_op ≡ op_of (get_or ps i [])
unfolding op_of kind_of if long word byte
ops_at ps i = get_or-map op_of ps i []

module _ {h : Header} {b : List ℕ} (e : Heads h b) where
  -- how many there are
  pub entries-count : length (job_of b).file.directory ≡ 2 ^ h.depth
  unfolding job_of
  entries-count = rw ((counted b).directory, ← e.counts)

  pub pages-count : length (page_parts (header_of b) b) ≡ h.pages
  unfolding page_parts
  pages-count = rw (← e.counts) (length-parts h.pages (page_size h.capacity) (drop (table_offset (counts_of h)) b))

  pub ops-count : length (op_parts (header_of b) b) ≡ h.ops
  unfolding op_parts
  ops-count = rw (← e.counts) (length-parts h.ops op_size (drop (ops_offset (counts_of h)) b))

  pub turns-count : length (turn_parts (header_of b) b) ≡ h.turns
  unfolding turn_parts
  turns-count = rw (← e.counts) (length-parts h.turns 2 (drop (turns_offset (counts_of h)) b))

  -- where each stands
  pub entry_there : (j : ℕ) → j < 2 ^ h.depth → Number b (32 + 2 * j) (get_or (job_of b).file.directory j 0)
  unfolding job_of entry_at entry_place total turns_offset ops_offset table_offset
  entry_there j l = let s = e.size in record { room = omega arith; is = sym (places.entry_there b j (rw (← e.counts) l)) }

  pub page_there : (x at : ℕ) → 1 ≤ x → x ≤ h.pages → at ≡ page_place (counts_of h) x → Part b at (page_size h.capacity) (get_or (page_parts (header_of b) b) (x - 1) [])
  unfolding page_place total turns_offset ops_offset
  page_there x at l u p =
      let s = e.size in
      let m = mul-suc (page_size h.capacity) (x - 1) in
      let v : suc (x - 1) ≤ h.pages = omega arith in
      let q = mul-le-mul_left (page_size h.capacity) v in
      let z : suc (x - 1) ≡ x = omega arith in
      part b at _ (omega arith) (rw (← e.counts, p) (rw z at (places.page_part (counts_of h) b (x - 1) v)))

  pub op_there : (i at : ℕ) → i < h.ops → at ≡ op_place (counts_of h) i → Part b at op_size (get_or (op_parts (header_of b) b) i [])
  unfolding op_place total turns_offset
  op_there i at l p = let s = e.size in part b at op_size (omega arith) (rw (← e.counts, p) (places.op_part (counts_of h) b i l))

  pub turn_there : (t at : ℕ) → t < h.turns → at ≡ turn_place (counts_of h) t → Number b at (get_or (job_of b).turns t 0)
  unfolding turn_place total
  turn_there t at l p =
      let s = e.size in
      let w = places.turn_there b t (rw (← e.counts) l) in
      record { room = omega arith; is = rw (p, e.counts) (sym w) }

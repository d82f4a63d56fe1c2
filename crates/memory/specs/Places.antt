-- Where the pages stand: inside the memory, and one behind another; and what a page's part is.
use Rattle.std.specs.Prelude.{◌≡◌, List, ℕ, ◌+◌, ◌*◌, ◌≤◌, ◌<◌, length}
use Rattle.std.proofs.Common.{ap, ◌∙◌, mul-le-mul, mul-le-mul_left, mul-suc, arith}
use Rattle.spec.specs.Bytes.{byte}
use Rattle.spec.specs.Job.{page_size}
use Rattle.spec.specs.Check.{work_size}
use Rattle.laws.specs.Codec.Pages.{records-count}
use Rattle.wire.specs.Parts.{length_part}
use Rattle.page.specs.Room.{room, room-size, Sound, sound}
use Rattle.memory.specs.Memory.{pages_at, place_of, part_in, page_in}
use Rattle.memory.specs.Within.{Within}

pub pages-fit : (c x : ℕ) → c ≤ 8 → x ≤ 256 → page_size c * x ≤ 17408
pages-fit c x h k =
    let s : page_size c ≤ 68 = omega arith in
    mul-le-mul s k

-- behind everything else
pub place-from : (c x : ℕ) → pages_at ≤ place_of c x
unfolding place_of
place-from c x = omega arith

place-fits : (c x : ℕ) → c ≤ 8 → x ≤ 256 → place_of c x + page_size c ≤ work_size
unfolding place_of
place-fits c x h k = omega (arith, pages-fit c x h k)

-- all pages
pub pages_end : (c n : ℕ) → c ≤ 8 → n ≤ 256 → place_of c 1 + page_size c * n ≤ work_size
unfolding place_of
pages_end c n h k = omega (arith, pages-fit c n h k)

-- a later page stands behind
pub place_behind : (c x y : ℕ) → x < y → place_of c x + page_size c ≤ place_of c y
unfolding place_of
place_behind c x y h = omega (arith, mul-le-mul_left (page_size c) h, mul-suc (page_size c) x)

-- the count that a page's bytes have is its records'
pub part_count : (c : ℕ) (w : List ℕ) (x : ℕ) → length (page_in c w x).records ≡ byte (part_in c w x) 1
unfolding page_in
part_count c w x = records-count (part_in c w x)

module _ {w : List ℕ} {c x : ℕ} (o : Within w c x) where
  pub part_fits : place_of c x + page_size c ≤ length w
  part_fits = omega (arith, place-fits c x o.capacity o.number, o.size)

  pub part_length : length (part_in c w x) ≡ page_size c
  unfolding part_in
  part_length = length_part w (place_of c x) (page_size c) part_fits

  pub part_room : room (length (part_in c w x)) ≡ c
  part_room = ap room part_length ∙ room-size c

  pub part_sound : length (page_in c w x).records ≤ c → Sound (part_in c w x)
  part_sound h = sound c (part_in c w x) part_length (omega (arith, part_count c w x)) (omega (arith, o.capacity))

-- What a page function asks of the bytes that are lent to it.
use Rattle.std.specs.Prelude.{◌≡◌, List, ℕ, ◌-◌, ◌/◌, ◌≤◌, ◌<◌, length}
use Rattle.std.proofs.Common.{arith}
use Rattle.spec.specs.Bytes.{byte}
use Rattle.spec.specs.Job.{record_size, page_size}

-- the capacity of a page of n bytes
unfoldable pub room : ℕ → ℕ
room n = (n - 4) / record_size

pub room-size : (c : ℕ) → room (page_size c) ≡ c
unfolding room
room-size c = omega arith

-- what a writer asks: the bytes are a page of some capacity, they count no more records than that, and a byte can count that many
pub record Sound (s : List ℕ) : Type 0 where
  pub size : length s ≡ page_size (room (length s))
  pub few : byte s 1 ≤ room (length s)
  pub small : room (length s) < 256

pub sound : (c : ℕ) (s : List ℕ) → length s ≡ page_size c → byte s 1 ≤ c → c < 256 → Sound s
sound c s e h k =
    let r : room (length s) ≡ c = rw e (room-size c) in
    record { size = rw r e; few = omega arith; small = omega arith }

-- Bytes that are parts of one size from beginning to end, such as a switch's log or a tariff: how many parts there are, and each as a slice gives it.
use Rattle.std.specs.Prelude.{ℕ, suc, ◌+◌, ◌-◌, ◌*◌, ◌/◌, ◌<◌, ◌≤◌, ◌≡◌, List, [], map, length, get_or, take, drop}
use Rattle.std.proofs.Common.{sym, ap, ◌∙◌, arith, le-div_iff_mul-le, length-drop, length-take-le}
use Rattle.std.proofs.lemmas.List.{length-map}
use Rattle.std.proofs.Math.ListN.{get_or-map}
use Rattle.spec.specs.Bytes.{byte, word, long, parts}
use Rattle.spec.specs.SwitchLog.{logged_size, no_logged, logged_of, switch_log}
use Rattle.spec.specs.Tariff.{band_size, no_band, band_of, bands_of}
use Rattle.laws.specs.Codec.Parts.{length-parts, part_at}

-- part i of the bytes b, as a slice gives it: r is what is read of it
pub record There {A : Type 0} (of : List ℕ → A) (size : ℕ) (b : List ℕ) (i : ℕ) (r : A) : Type 0 where
  pub room : size * i + size ≤ length b
  pub is : of (take (size * i + size - size * i) (drop (size * i) b)) ≡ r
  pub long : length (take (size * i + size - size * i) (drop (size * i) b)) ≡ size

module _ {A : Type 0} (of : List ℕ → A) (size : ℕ) (b : List ℕ) where
  count : length (map of (parts (length b / size) size b)) ≡ length b / size
  count = rw (length-map, length-parts)

  room : (i : ℕ) → 0 < size → i < length b / size → size * i + size ≤ length b
  room i z l = let m = (le-div_iff_mul-le {k = size} {x = suc i} {y = length b} z).0 l in omega arith

  there : (i : ℕ) → 0 < size → i < length b / size → There of size b i (get_or (map of (parts (length b / size) size b)) i (of []))
  there i z l =
      let e : size * i + size - size * i ≡ size = omega arith in
      let m = room i z l in
      record {
        room = m;
        is =
            rw e (ap of (sym (part_at (length b / size) size b i l)) ∙ sym (get_or-map of (parts (length b / size) size b) i []));
        long = rw e (length-take-le size (drop (size * i) b) (rw length-drop (omega arith)));
      }

-- the records of a log
pub log-count : (l : List ℕ) → length (switch_log l) ≡ length l / logged_size
unfolding switch_log
log-count l = count logged_of logged_size l

pub logged_there : (l : List ℕ) (i : ℕ) → i < length (switch_log l) → There logged_of logged_size l i (get_or (switch_log l) i no_logged)
unfolding switch_log logged_of long word byte
logged_there l i u = there logged_of logged_size l i (omega arith) (rw log-count at u)

-- the bands of a tariff
pub bands_count : (t : List ℕ) → length (bands_of t) ≡ length t / band_size
unfolding bands_of
bands_count t = count band_of band_size t

pub band_there : (t : List ℕ) (k : ℕ) → k < length (bands_of t) → There band_of band_size t k (get_or (bands_of t) k no_band)
unfolding bands_of band_of long word byte
band_there t k u = there band_of band_size t k (omega arith) (rw bands_count at u)

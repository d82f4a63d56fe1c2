-- A section that is read part by part: the part that is taken next, what is lent of the bytes, what one part more adds to the text.
use Rattle.std.specs.Prelude.{◌≡◌, refl, List, [], ◌∷◌, ◌++◌, map, ℕ, zero, suc, ◌+◌, ◌-◌, ◌*◌, ◌/◌, ◌≤◌, ◌<◌, length, get_or, take, drop}
use Rattle.std.proofs.Math.Seq.{drop-append_seam, take-append_seam}
use Rattle.std.proofs.Common.{sym, ap, ◌∙◌, length-append, mul-zero, mul_comm, mul-le-mul_left, add-one, arith, length-drop, take_all, drop-drop}
use Rattle.std.proofs.lemmas.List.{map-append, drop-take, take-take}
use Rattle.std.proofs.Math.Nat.{add-sub_cancel_left, le-div_iff_mul-le, mul-div_cancel_left}
use Rattle.spec.specs.Basics.{each}
use Rattle.spec.specs.Bytes.{parts}
use Rattle.laws.specs.Codec.Parts.{each_snoc, next_place, part_at}
use Rattle.wire.specs.Parts.{length_part}

-- places: the next part, and a part that lies within
pub one_more : (size i : ℕ) → size * (i + 1) ≡ size * i + size
one_more size i = omega arith

pub inside : (size i n : ℕ) → i < n → size * i + size ≤ size * n
inside size i n h =
    let next : i + 1 ≤ n = omega arith in
    omega (arith, one_more size i, mul-le-mul_left size next)

-- a part that is lent: n bytes from a place on, and all from a place on
pub lent : (s : List ℕ) (a n : ℕ) → take (a + n - a) (drop a s) ≡ take n (drop a s)
lent s a n = rw (add-sub_cancel_left a n)

pub lent_rest : (s : List ℕ) (a : ℕ) → take (length s - a) (drop a s) ≡ drop a s
lent_rest s a = take_all (length s - a) (drop a s) (omega (arith, length-drop a s))

-- n parts of `size` bytes each were taken from the front of s, and `rest` is behind them
pub record Taken (size n : ℕ) (s rest : List ℕ) : Type 0 where
  pub behind : rest ≡ drop (size * n) s
  pub within : size * n ≤ length s

pub none_taken : (size : ℕ) {s rest : List ℕ} → rest ≡ s → Taken size 0 s rest
none_taken size e = record { behind = rw (mul-zero size) e; within = rw (mul-zero size) (omega arith) }

-- and one more
pub one_taken
    : {size n : ℕ} {s rest x more : List ℕ}
    → Taken size n s rest
    → rest ≡ x ++ more
    → length x ≡ size
    → (x ≡ take size (drop (size * n) s)) × Taken size (n + 1) s more
one_taken {size} {n} {s} {rest} {x} {more} t e l =
    let cut : drop (size * n) s ≡ x ++ more = sym t.behind ∙ e in
    let long : length s - size * n ≡ length x + length more = sym (length-drop (size * n) s) ∙ ap length cut ∙ length-append x more in
    let back : drop size (drop (size * n) s) ≡ more = ap (drop size) cut ∙ rw (← l) (drop-append_seam x more) in (
      sym (ap (take size) cut ∙ rw (← l) (take-append_seam x more)),
      record {
        behind = sym back ∙ rw (one_more size n) (drop-drop size (size * n) s);
        within = omega (arith, one_more size n, t.within);
      },
    )

pub count_taken : {size n : ℕ} {s rest : List ℕ} → 0 < size → Taken size (n + 1) s rest → n < length s / size
count_taken {size} {n} {s} some t =
    let most : n + 1 ≤ length s / size = (le-div_iff_mul-le some).1 (omega (arith, t.within, mul_comm size (n + 1))) in
    omega arith

-- what is lent of s: n parts from place a on
parts_front : (n size : ℕ) (b : List ℕ) → parts n size (take (size * n) b) ≡ parts n size b
unfolding parts
parts_front zero size b = refl
parts_front (suc n) size b =
    rw (next_place size n, drop-take size (size * n) b, parts_front n size (drop size b), take-take size (size + size * n) b (omega arith))

module _ (s : List ℕ) (a size n : ℕ) (some : 0 < size) (within : a + size * n ≤ length s) where
  pub count_lent : length (take (a + size * n - a) (drop a s)) / size ≡ n
  count_lent = rw (lent s a (size * n), length_part s a (size * n) within) (mul-div_cancel_left n some)

  pub parts_lent : parts (length (take (a + size * n - a) (drop a s)) / size) size (take (a + size * n - a) (drop a s)) ≡ parts n size (drop a s)
  parts_lent = rw (count_lent, lent s a (size * n)) (parts_front n size (drop a s))

  pub part_lent : (k : ℕ) → k < n → take size (drop (size * k) (take (a + size * n - a) (drop a s))) ≡ take size (drop (size * k) (drop a s))
  part_lent k h =
      rw (lent s a (size * n))
      (sym (part_at n size (take (size * n) (drop a s)) k h)
      ∙ ap (λ (ps : List (List ℕ)). get_or ps k []) (parts_front n size (drop a s))
      ∙ part_at n size (drop a s) k h)

-- the first n parts and the next
next_part : (n size : ℕ) (b : List ℕ) → parts (suc n) size b ≡ parts n size b ++ (take size (drop (size * n) b) ∷ [])
unfolding parts
next_part zero size b = rw (mul-zero size)
next_part (suc n) size b =
    ap (λ (l : List (List ℕ)). take size b ∷ l) (next_part n size (drop size b))
    ∙ rw (drop-drop (size * n) size b, next_place size n)

pub parts_more : (n size : ℕ) (b : List ℕ) → parts (n + 1) size b ≡ parts n size b ++ (take size (drop (size * n) b) ∷ [])
parts_more n size b = rw add-one (next_part n size b)

pub each_more
    : {A : Type 0} (f : A → List ℕ) (dec : List ℕ → A) (n size : ℕ) (b : List ℕ)
    → each f (map dec (parts (n + 1) size b)) ≡ each f (map dec (parts n size b)) ++ f (dec (take size (drop (size * n) b)))
each_more f dec n size b = rw (parts_more n size b, map-append) (each_snoc f (map dec (parts n size b)) (dec (take size (drop (size * n) b))))

-- A page's part of the memory, lent to a page function from place `at` to place e, and come back with other bytes.
use Rattle.std.specs.Prelude.{◌≡◌, List, ◌++◌, ℕ, ◌+◌, ◌-◌, ◌≤◌, ◌<◌, take, drop}
use Rattle.std.proofs.Math.Path.{ap}
use Rattle.std.proofs.Common.{◌∙◌, arith, append_assoc, drop-drop}
use Rattle.std.specs.List.{copy_within}
use Rattle.std.proofs.Math.ListN.{length}
use Rattle.spec.specs.Job.{page_size}
use Rattle.spec.specs.File.{Page}
use Rattle.spec.specs.Encode.{page_bytes}
use Rattle.spec.specs.Decode.{page_of}
use Rattle.wire.specs.Over.{over}
use Rattle.wire.specs.OverLaws.{over_again, length_over}
use Rattle.wire.specs.Parts.{over_part, part_over}
use Rattle.page.specs.Room.{room}
use Rattle.memory.specs.Memory.{place_of, Stands, part_in, page_in, with_page}
use Rattle.memory.specs.Within.{Within}
use Rattle.memory.specs.Places.{part_fits, part_length, part_room}

-- the bytes that are lent
abbrev pub lent_part : List ℕ → ℕ → ℕ → List ℕ
lent_part w at e = take (e - at) (drop at w)

span_size : (c x : ℕ) {at e : ℕ} → at ≡ place_of c x → e ≡ place_of c x + page_size c → e - at ≡ page_size c
span_size c x a z = omega (arith, a, z)

pub lent : (c x : ℕ) {at e : ℕ} (w : List ℕ) → at ≡ place_of c x → e ≡ place_of c x + page_size c → lent_part w at e ≡ part_in c w x
unfolding part_in
lent c x w a z = rw (span_size c x a z, a)

-- the memory with other bytes for those that were lent
abbrev pub lent_back : List ℕ → ℕ → ℕ → List ℕ → List ℕ
lent_back w at e t = take at w ++ (t ++ drop (e - at) (drop at w))

-- The page function has made the page's bytes those of f of the page, where f may ask for the capacity. This carries every page writer over
-- to the memory.
pub rewritten
    : {w : List ℕ} {c x at e : ℕ} (f : ℕ → Page → Page) (t : List ℕ)
    → Within w c x
    → Stands c x at e
    → length t ≡ length (lent_part w at e)
    → t ≡ page_bytes (room (length (lent_part w at e))) (f (room (length (lent_part w at e))) (page_of (lent_part w at e)))
    → lent_back w at e t ≡ with_page c w x (f c (page_in c w x))
unfolding with_page page_in
rewritten {w} {c} {x} f t o i l h =
    let s = lent c x w i.begins i.ends in
    let size : length t ≡ page_size c = rw s at l ∙ part_length o in
    rw (span_size c x i.begins i.ends, i.begins) (over_part w t (place_of c x) (page_size c) size (part_fits o))
    ∙ ap (over w (place_of c x)) (rw (s, part_room o) at h)

-- ---- the same for a page that is cut out of a copy: w' is w with a copy of page x in the place of a later page y

pub page-before : {w : List ℕ} {c x y : ℕ} → Within w c y → x < y → Within w c x
page-before o h = record { size = o.size; capacity = o.capacity; number = omega (arith, o.number) }

pub copied
    : {w w' : List ℕ} {c x y at e : ℕ}
    → Within w c y
    → x < y
    → Stands c x at e
    → w' ≡ copy_within w at e (place_of c y)
    → w' ≡ over w (place_of c y) (part_in c w x)
copied {w} {c} {x} {y} o h i k =
    k
    ∙ rw (lent c x w i.begins i.ends, span_size c x i.begins i.ends, append_assoc)
    (rw drop-drop at (over_part w (part_in c w x) (place_of c y) (page_size c) (part_length (page-before o h)) (part_fits o)))

module _ {w w' : List ℕ} {c x y at e : ℕ} (o : Within w c y) (h : x < y) (k : w' ≡ over w (place_of c y) (part_in c w x)) (i : Stands c y at e) where
  pub lent_copy : lent_part w' at e ≡ part_in c w x
  lent_copy =
      lent c y w' i.begins i.ends
      ∙ rw k (unfold part_in in part_over w (part_in c w x) (place_of c y) (page_size c) (part_length (page-before o h)) (part_fits o))

  pub rewritten_copy
      : (f : ℕ → Page → Page) (t : List ℕ)
      → length t ≡ length (lent_part w' at e)
      → t ≡ page_bytes (room (length (lent_part w' at e))) (f (room (length (lent_part w' at e))) (page_of (lent_part w' at e)))
      → lent_back w' at e t ≡ with_page c w y (f c (page_in c w x))
  unfolding with_page page_in
  rewritten_copy f t l m =
      let b = page-before o h in
      let s = lent_copy in
      let size : length t ≡ page_size c = rw s at l ∙ part_length b in
      let long : length w' ≡ length w = ap length k ∙ length_over w (place_of c y) (part_in c w x) in
      let fits : place_of c y + page_size c ≤ length w' = omega (arith, part_fits o) in
      let over_copy : over w' (place_of c y) t ≡ over w (place_of c y) t = rw k (over_again (part_in c w x) t w (place_of c y) (omega (arith, part_length b))) in
      rw (span_size c y i.begins i.ends, i.begins)
      (over_part w' t (place_of c y) (page_size c) size fits ∙ over_copy ∙ ap (over w (place_of c y)) (rw (s, part_room b) at m))

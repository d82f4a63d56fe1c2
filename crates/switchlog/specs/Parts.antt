-- The parts of some bytes as the library's chunks, what is read of each, and the length of bytes that are not whole parts.
use Rattle.std.specs.Prelude.{ℕ, zero, suc, ◌<◌, ◌≡◌, refl, Bool, true, false, List, [], map, length, get_or, drop}
use Rattle.std.proofs.Common.{sym, ap, ◌∙◌}
use Rattle.std.proofs.lemmas.List.{length-map}
use Rattle.std.specs.Bool.{then_some}
use Rattle.std.specs.Simd.{first_chunks}
use Rattle.spec.specs.Basics.{when}
use Rattle.spec.specs.Bytes.{parts}
use Rattle.laws.specs.Codec.Tools.{get_or_map}

pub chunks_are_parts : (size n : ℕ) (b : List ℕ) → first_chunks size n b ≡ parts n size b
unfolding parts
chunks_are_parts size zero b = refl
chunks_are_parts size (suc n) b = rw (chunks_are_parts size n (drop size b))

-- xs is what is read of the parts bs, in order
module _ {A : Type 0} (of : List ℕ → A) (bs : List (List ℕ)) (xs : List A) (e : map of bs ≡ xs) where
  pub reads-count : length xs ≡ length bs
  reads-count = sym (ap length e) ∙ length-map bs of

  pub reads_at : (k : ℕ) (d : A) → k < length bs → of (get_or bs k []) ≡ get_or xs k d
  reads_at k d l = sym (get_or_map of bs k [] d l) ∙ ap (λ (ys : List A). get_or ys k d) e

-- a place that is told where a test holds
pub then_some-when : (t : Bool) (p : ℕ) → then_some t p ≡ when t p
unfolding when
then_some-when true p = refl
then_some-when false p = refl

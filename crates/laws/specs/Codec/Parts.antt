-- A section as a list of parts: what a part is by its place in the bytes, the parts of what is written one behind another, and the bytes that
-- the parts come to.
use Prim.Native.Nat.{ℕ, zero, suc, ◌+◌, ◌*◌, ◌<◌, ◌≤◌}
use Rattle.std.specs.Prelude.{◌≡◌, length, get_or, take, drop}
use Rattle.std.proofs.Math.Path.{refl, sym, ap}
use Rattle.std.proofs.Common.{ap₂, ◌∙◌, arith, mul-zero, add_assoc, length-append, length-take, length-drop, get_or-take, get_or-drop, drop-drop, take_at, drop_at, length-take-le}
use mathlib.Core.List.{List, [], ◌∷◌, ◌++◌, map, append_assoc, append-nil}
use Rattle.std.proofs.Math.Seq.{take-add}
use Rattle.spec.specs.Basics.{each, Each, end, next}
use Rattle.spec.specs.Bytes.{byte, word, long, parts}

-- places
pub next_place : (size i : ℕ) → size * suc i ≡ size + size * i
next_place size i = omega arith

pub length-parts : (n size : ℕ) (b : List ℕ) → length (parts n size b) ≡ n
unfolding parts
length-parts zero size b = refl
length-parts (suc n) size b = ap suc (length-parts n size (drop size b))

pub part_at : (n size : ℕ) (b : List ℕ) (i : ℕ) → i < n → get_or (parts n size b) i [] ≡ take size (drop (size * i) b)
unfolding parts
part_at zero size b i l = absurd (omega arith)
part_at (suc n) size b zero l = rw (mul-zero size)
part_at (suc n) size b (suc i) l =
    part_at n size (drop size b) i (omega arith) ∙ rw (drop-drop (size * i) size b, next_place size i)

-- part i of a section that begins at place p
pub part_place : (n size p : ℕ) (b : List ℕ) (i : ℕ) → i < n → get_or (parts n size (drop p b)) i [] ≡ take size (drop (p + size * i) b)
part_place n size p b i l = part_at n size (drop p b) i l ∙ ap (take size) (drop-drop (size * i) p b)

-- a number in a part, by its place in the whole
pub byte_in : (size p : ℕ) (b : List ℕ) (k : ℕ) → k < size → byte (take size (drop p b)) k ≡ byte b (p + k)
unfolding byte
byte_in size p b k l = get_or-take size (drop p b) k 0 l ∙ get_or-drop p b k 0

pub word_in : (size p : ℕ) (b : List ℕ) (k : ℕ) → k + 2 ≤ size → word (take size (drop p b)) k ≡ word b (p + k)
unfolding word
word_in size p b k l = rw (byte_in size p b k (omega arith), byte_in size p b (k + 1) (omega arith), add_assoc)

pub long_in : (size p : ℕ) (b : List ℕ) (k : ℕ) → k + 4 ≤ size → long (take size (drop p b)) k ≡ long b (p + k)
unfolding long
long_in size p b k l = rw (word_in size p b k (omega arith), word_in size p b (k + 2) (omega arith), add_assoc)

-- each part is as long as it should be
pub parts-size : (n size : ℕ) (b : List ℕ) → size * n ≤ length b → Each (λ p. length p ≡ size) (parts n size b)
unfolding parts
parts-size zero size b l = end
parts-size (suc n) size b l =
    let m = next_place size n in
    next (length-take-le size b (omega arith)) (parts-size n size (drop size b) (rw length-drop (omega arith)))

-- and, whatever the bytes, no longer
pub parts-short : (n size : ℕ) (b : List ℕ) → Each (λ p. length p ≤ size) (parts n size b)
unfolding parts
parts-short zero size b = end
parts-short (suc n) size b = next {x = take size b} (rw length-take (omega arith)) (parts-short n size (drop size b))

-- what is written one behind another: two lists of things, and one thing more
module _ {A : Type 0} (enc : A → List ℕ) where
  pub each_join : (xs ys : List A) → each enc (xs ++ ys) ≡ each enc xs ++ each enc ys
  unfolding each
  each_join [] ys = refl
  each_join (x ∷ xs) ys = rw (each_join xs ys) (sym (append_assoc (enc x) (each enc xs) (each enc ys)))

  pub each_snoc : (xs : List A) (x : A) → each enc (xs ++ (x ∷ [])) ≡ each enc xs ++ enc x
  unfolding each
  each_snoc xs x = each_join xs (x ∷ []) ∙ ap (λ y. each enc xs ++ y) (append-nil (enc x))

-- things of one size
module _ {A : Type 0} (enc : A → List ℕ) (size : ℕ) where
  pub length_each : (xs : List A) → Each (λ x. length (enc x) ≡ size) xs → length (each enc xs) ≡ size * length xs
  unfolding each
  length_each [] end = sym (mul-zero size)
  length_each (x ∷ xs) (next e es) = rw (length-append, e, length_each xs es, next_place size (length xs))

  pub parts_each : (xs : List A) (post : List ℕ) → Each (λ x. length (enc x) ≡ size) xs → parts (length xs) size (each enc xs ++ post) ≡ map enc xs
  unfolding each parts
  parts_each [] post end = refl
  parts_each (x ∷ xs) post (next e es) = rw append_assoc (ap₂ ◌∷◌ (take_at (enc x) _ size e) (ap (parts (length xs) size) (drop_at (enc x) _ size e) ∙ parts_each xs post es))

  pub each_parts
      : (dec : List ℕ → A) (n : ℕ) (b : List ℕ) → Each (λ p. enc (dec p) ≡ p) (parts n size b) → each enc (map dec (parts n size b)) ≡ take (size * n) b
  unfolding each parts
  each_parts dec zero b end = rw (mul-zero size)
  each_parts dec (suc n) b (next e es) = rw (e, each_parts dec n (drop size b) es, next_place size n, take-add size (size * n) b)

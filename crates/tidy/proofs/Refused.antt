-- What is refused of an accepted file: 18, 19 and 11, as the code tests them.
use Prim.Native.Nat.{ℕ, suc, ◌<◌, ◌≤◌}
use mathlib.Core.Path.{◌≡◌, refl, ap, ◌∙◌}
use mathlib.Core.Bool.{true, false, ◌||◌}
use Rattle.std.specs.List.{list_any}
use mathlib.Core.List.{List, [], ◌∷◌, map}
use Rattle.std.specs.Prelude.{None, Some}
use lib.ListN.{length}
use lib.Dec.{ltb}
use borrow.Author.Tests.{lt-ltb, le-ltb}
use Rattle.spec.specs.Basics.{when, or_else, any_of}
use Rattle.spec.specs.File.{Page}
use Rattle.spec.specs.Job.{max_depth, table_offset, ops_offset, file_length}
use Rattle.spec.specs.Encode.{header_for}
use Rattle.spec.specs.Decode.{file_of}
use Rattle.spec.specs.Check.{numbered}
use Rattle.spec.specs.Tidy.{pages_left, file_with, tidy_file, tidy_bytes, is_deeper, wrong_depth, small_out}
use Rattle.laws.specs.Tidy.Wanted.{Wanted}
use Rattle.laws.specs.Codec.Tools.{failed, or_else_none, numbered-none}
use Rattle.laws.specs.Codec.Sizes.{length-file}
use Rattle.laws.specs.Tidy.File.{tidy_ok}
use Rattle.laws.specs.Tidy.Bytes.{wanted_said}
use Rattle.laws.specs.Tidy.Entries.{depths_left}
use Rattle.laws.specs.Tidy.Depths.{depths_left_lem}
use Rattle.header.specs.declared.Header.{Header}
use Rattle.header.specs.File.{file_size}
use Rattle.tidy.specs.Given.{Given}
use Rattle.tidy.specs.Call.{output_fault}
use Rattle.tidy.proofs.Known.{ok, capacity_is, pages_is}

-- a look at the depths is refusal 19's walk over the pages left
deeper_pages : (d x : ℕ) (ps : List Page) → list_any (ltb d) (map (λ (q : Page). q.depth) ps) ≡ any_of (is_deeper d) x ps
unfolding any_of is_deeper
deeper_pages d x [] = refl
deeper_pages d x (p ∷ ps) = ap (λ r. ltb d p.depth || r) (deeper_pages d (suc x) ps)

-- an accepted file, whose pages left have these depths
module _ {h : Header} {b : List ℕ} (e : Given h b) (left : List ℕ) (is : left ≡ depths_left (file_of b) 0) (d room : ℕ) where
  deeper_is : list_any (ltb d) left ≡ any_of (is_deeper d) 1 (pages_left (file_of b))
  deeper_is = rw (is, depths_left_lem (file_of b) (ok e)) (deeper_pages d 1 (pages_left (file_of b)))

  wrong_depth_lem : (ltb max_depth d || list_any (ltb d) left) ≡ true → wrong_depth d b ≡ Some 0
  unfolding wrong_depth when
  wrong_depth_lem t = rw (← deeper_is, t)

  -- 19
  pub too_deep : (ltb max_depth d || list_any (ltb d) left) ≡ true → Some (record { number = 19; place = 0 }) ≡ output_fault room d b
  unfolding numbered or_else
  too_deep t = rw (wrong_depth_lem t)

  right_depth : d ≤ max_depth → list_any (ltb d) left ≡ false → wrong_depth d b ≡ None
  unfolding wrong_depth when
  right_depth l t = rw (← deeper_is, t, le-ltb max_depth d l)

  pub wanted : d ≤ max_depth → list_any (ltb d) left ≡ false → Wanted d (file_of b)
  wanted l t = (wanted_said d b).0 (right_depth l t)

  pub tidied-length : Wanted d (file_of b) → length (tidy_bytes d b) ≡ file_size d h.capacity h.pages
  unfolding tidy_bytes tidy_file file_with header_for file_length ops_offset table_offset
  tidied-length w = length-file (tidy_file d (file_of b)) (tidy_ok (file_of b) (ok e) d w) ∙ rw (capacity_is e, pages_is e)

  -- 11, or none
  module _ (l : d ≤ max_depth) (t : list_any (ltb d) left ≡ false) where
    pub too_small : room < file_size d h.capacity h.pages → Some (record { number = 11; place = 0 }) ≡ output_fault room d b
    unfolding numbered or_else small_out when
    too_small u = rw (right_depth l t, tidied-length (wanted l t), lt-ltb _ _ u)

    pub enough : file_size d h.capacity h.pages ≤ room → None ≡ output_fault room d b
    unfolding numbered or_else small_out when
    enough u = rw (right_depth l t, tidied-length (wanted l t), le-ltb _ _ u)

-- a call that neither 19 nor 11 refuses
module _ (room d : ℕ) (b : List ℕ) (passed : output_fault room d b ≡ None) where
  neither : (wrong_depth d b ≡ None) × (small_out room d b ≡ None)
  neither =
      let o = (or_else_none (numbered 19 (wrong_depth d b)) (numbered 11 (small_out room d b))).0 passed in
      ((numbered-none 19 (wrong_depth d b)).0 o.0, (numbered-none 11 (small_out room d b)).0 o.1)

  pub passed_wanted : Wanted d (file_of b)
  passed_wanted = (wanted_said d b).0 neither.0

  pub passed_room : {h : Header} → Given h b → (left : List ℕ) → left ≡ depths_left (file_of b) 0 → file_size d h.capacity h.pages ≤ room
  unfolding small_out
  passed_room e left is = rw (← tidied-length e left is d room passed_wanted) (simp failed at neither.1)

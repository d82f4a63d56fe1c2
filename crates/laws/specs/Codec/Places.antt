-- Where each part of a section stands in the bytes, for code that reads at places: entry j at `entry_place j`, page x at `page_place h x`,
-- operation i at `op_place h i`, turn t at `turn_place h t`, record r of the page at p at `record_place p r`.
use Prim.Native.Nat.{ℕ, suc, ◌+◌, ◌-◌, ◌*◌, ◌^◌, ◌<◌}
use Rattle.std.specs.Prelude.{◌≡◌, List, [], get_or, take, drop}
use Rattle.std.proofs.Common.{ap, ◌∙◌, add-zero}
use native.Mathlib.Omega.{arith}
use Rattle.std.proofs.Math.ListN
use Rattle.spec.specs.declared.Rec.{Rec}
use Rattle.spec.specs.Bytes.{byte, word, parts}
use Rattle.spec.specs.File.{entry_at}
use Rattle.spec.specs.Job.{Header, entry_size, record_size, page_size, op_size, turn_size, directory_offset, table_offset, ops_offset, turns_offset, entry_place, page_place, op_place, turn_place}
use Rattle.spec.specs.Decode.{header_of, entry_parts, page_parts, op_parts, turn_parts, number_of, record_of, page_of, file_of, job_of}
use Rattle.laws.specs.Codec.Tools.{get_or_map}
use Rattle.laws.specs.Codec.Parts.{length-parts, part_place, word_in}

module _ (h : Header) (b : List ℕ) where
  pub entry_part : (j : ℕ) → j < 2 ^ h.g → get_or (entry_parts h b) j [] ≡ take entry_size (drop (entry_place j) b)
  unfolding entry_parts entry_place
  entry_part j l = part_place (2 ^ h.g) entry_size directory_offset b j l

  pub page_part : (k : ℕ) → k < h.limit → get_or (page_parts h b) k [] ≡ take (page_size h.c) (drop (page_place h (suc k)) b)
  unfolding page_parts page_place
  page_part k l =
      let e : suc k - 1 ≡ k = omega arith in
      rw e (part_place h.limit (page_size h.c) (table_offset h) b k l)

  pub op_part : (i : ℕ) → i < h.ops → get_or (op_parts h b) i [] ≡ take op_size (drop (op_place h i) b)
  unfolding op_parts op_place
  op_part i l = part_place h.ops op_size (ops_offset h) b i l

  pub turn_part : (t : ℕ) → t < h.turns → get_or (turn_parts h b) t [] ≡ take turn_size (drop (turn_place h t) b)
  unfolding turn_parts turn_place
  turn_part t l = part_place h.turns turn_size (turns_offset h) b t l

-- an entry, and a turn, is the number at its place
number_there : (p : ℕ) (b : List ℕ) → number_of (take 2 (drop p b)) ≡ word b p
unfolding number_of
number_there p b = word_in 2 p b 0 (omega arith) ∙ ap (word b) (add-zero p)

pub entry_there : (b : List ℕ) (j : ℕ) → j < 2 ^ (header_of b).g → entry_at (file_of b) j ≡ word b (entry_place j)
unfolding entry_at file_of number_of word byte
entry_there b j l = ListN.get_or-map number_of (entry_parts (header_of b) b) j [] ∙ ap number_of (entry_part (header_of b) b j l) ∙ number_there (entry_place j) b

pub turn_there : (b : List ℕ) (t : ℕ) → t < (header_of b).turns → get_or (job_of b).turns t 0 ≡ word b (turn_place (header_of b) t)
unfolding job_of number_of word byte
turn_there b t l = ListN.get_or-map number_of (turn_parts (header_of b) b) t [] ∙ ap number_of (turn_part (header_of b) b t l) ∙ number_there (turn_place (header_of b) t) b

-- record i of a page
pub record_part : (s : List ℕ) (i : ℕ) (d : Rec) → i < byte s 1 → get_or (page_of s).records i d ≡ record_of (take record_size (drop (4 + record_size * i) s))
unfolding page_of
record_part s i d l =
    get_or_map record_of (parts (byte s 1) 8 (drop 4 s)) i [] d (rw length-parts l) ∙ ap record_of (part_place (byte s 1) 8 4 s i l)

-- Job E's file is proper, so demand 3 is not empty.
use Rattle.std.specs.Prelude.{ℕ, zero, suc, ◌<◌, ◌≡◌, refl, [], ◌∷◌, true, get_or}
use Rattle.std.proofs.Common.{◌∙◌, arith}
use Rattle.spec.specs.Basics.{if, end, next}
use Rattle.spec.specs.Key.{index, begins}
use Rattle.spec.specs.File.{File, zero_page, page_at, entry_at}
use Rattle.spec.specs.Proper.{flat, rise, PageNo, PageOk, FileOk}
use Rattle.laws.specs.Key.{index-lt}

abbrev pub file_e : File
file_e =
    record {
      g = 1;
      c = 2;
      limit = 2;
      used = 1;
      directory = 1 ∷ 1 ∷ [];
      table =
          zero_page
          ∷ record { depth = 0; pattern = 0; records = record { call = 2; charge = 50 } ∷ record { call = 3; charge = 70 } ∷ [] }
          ∷ zero_page
          ∷ [];
    }

zero-index : (k : ℕ) → index 0 k ≡ 0
zero-index k = let h = index-lt 0 k (omega arith) in omega arith

dir_one : (e : ℕ) → e < 2 → get_or file_e.directory e 0 ≡ 1
dir_one zero l = refl
dir_one (suc zero) l = refl
dir_one (suc (suc e)) l = absurd (omega arith)

pub file_e_ok : FileOk file_e
unfolding page_at entry_at if begins
file_e_ok =
    record {
      fit =
          record {
            depth = omega arith;
            capacity = (omega arith, omega arith);
            most = omega arith;
            least = omega arith;
            within = omega arith;
            size = refl;
            pages = refl;
            entries = λ j l. let e = dir_one j l in omega arith;
          };
      pages = pages;
      names = names;
      owner = λ e x l p z. dir_one e l ∙ (omega arith);
      unused = unused;
    }
  where
    names : (e : ℕ) → e < 2 → begins 1 (page_at file_e (entry_at file_e e)).depth (page_at file_e (entry_at file_e e)).pattern e ≡ true
    names zero l = refl
    names (suc zero) l = refl
    names (suc (suc e)) l = absurd (omega arith)

    unused : (x : ℕ) → (PageNo file_e x → ⊥) → page_at file_e x ≡ zero_page
    unused zero n = refl
    unused (suc zero) n = absurd (n (omega arith))
    unused (suc (suc zero)) n = refl
    unused (suc (suc (suc x))) n = refl

    pages : (x : ℕ) → PageNo file_e x → PageOk 1 2 (page_at file_e x)
    pages zero p = absurd (omega arith)
    pages (suc zero) p =
        record {
          deep = omega arith;
          small = omega arith;
          room = omega arith;
          homed = next (zero-index 2) (next (zero-index 3) end);
          calls_rise = let low : 2 < 3 = omega arith in rise (next low end) (rise end flat);
        }
    pages (suc (suc x)) p = absurd (omega arith)

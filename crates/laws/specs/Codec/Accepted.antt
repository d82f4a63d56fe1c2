-- A job that no row refuses comes with a proper file, and its turns name its operations.
use Prim.Native.Nat.{ℕ, zero, suc, ◌<◌, ◌≤◌}
use Rattle.std.specs.Prelude.{◌≡◌, ◌↔◌, List, [], true, length, get_or, None}
use Rattle.std.proofs.Math.Path.{refl}
use Rattle.std.proofs.Common.{◌∙◌}
use native.Mathlib.Omega.{arith}
use Rattle.std.proofs.Math.Decide.{dec_lt}
use Rattle.std.proofs.Math.ListN.{get_or-eq_default}
use Rattle.spec.specs.Basics.{Each}
use Rattle.spec.specs.File.{zero_page, page_at, entry_at}
use Rattle.spec.specs.Decode.{header_of, page_parts, turn_parts, number_of, file_of, job_of}
use Rattle.spec.specs.Check.{over_limit, wrong_entry, wrong_page, wrong_owner, wrong_record, wrong_turn, job_fault}
use Rattle.spec.specs.Proper.{PageNo, Fit, PageOk, FileOk}
use Rattle.laws.specs.Codec.Tools.{each_map}
use Rattle.laws.specs.Codec.Rows.{Rows, accepted-rows, limits_said, counted}
use Rattle.laws.specs.Codec.Owner.{entries_said, Owners, owners_said}
use Rattle.laws.specs.Codec.Records.{records_said}
use Rattle.laws.specs.Codec.Zeros.{zeros}
use Rattle.laws.specs.Codec.Pages.{PageFine, pages_said, page_proper, zero-page, length-pages, page_at_lem}
use Rattle.laws.specs.Codec.Ops.{turns_said}

-- rows 3 and 5
fit : (b : List ℕ) → over_limit b ≡ None → wrong_entry b ≡ None → Fit (file_of b)
unfolding file_of wrong_entry entry_at
fit b r3 r5 =
    let l = (limits_said b).0 r3 in
    let n = counted b in
    record {
      depth = l.depth;
      capacity = l.capacity;
      most = l.pages.1;
      least = l.used.0;
      within = l.used.1;
      size = n.directory;
      pages = n.table;
      entries = λ j u. (entries_said (file_of b)).0 r5 j (rw n.directory u);
    }

-- ROW 7, WITH NO WORD OF TESTS: of the pages in use, the pattern of page x begins entry e exactly if entry e names page x
pub owner_said : (b : List ℕ) → over_limit b ≡ None → wrong_entry b ≡ None → wrong_owner b ≡ None ↔ Owners (file_of b)
unfolding wrong_owner
owner_said b r3 r5 = owners_said (file_of b) (fit b r3 r5)

module _ (b : List ℕ) (rows : Rows b) where
  proper : Fit (file_of b)
  proper = fit b rows.r3 rows.r5

  -- rows 12, 6 and 13
  pub fine : (k : ℕ) → k < (header_of b).limit → PageFine (header_of b) (suc k) (get_or (page_parts (header_of b) b) k [])
  unfolding wrong_page
  fine k l = (pages_said (header_of b) (page_parts (header_of b) b)).0 rows.r6 k (rw length-pages l)

  -- and 8
  page_ok : (x : ℕ) → PageNo (file_of b) x → PageOk (file_of b).g (file_of b).c (page_at (file_of b) x)
  unfolding file_of wrong_record
  page_ok zero n = absurd (omega arith)
  page_ok (suc k) n =
      let r = (records_said (header_of b) (file_of b) proper.within proper.pages).0 rows.r8 (suc k) n in
      rw page_at_lem (page_proper (fine k (omega (arith, proper.within))) (rw page_at_lem at r))

  -- row 13: a page that is not in use
  unused : (x : ℕ) → (PageNo (file_of b) x → ⊥) → page_at (file_of b) x ≡ zero_page
  unfolding file_of page_at zeros
  unused zero h = refl
  unused (suc k) h = page_at_lem b k ∙ zero-page (get_or (page_parts (header_of b) b) k []) (by (dec_lt k (header_of b).limit))
    where
      past : suc k ≤ (header_of b).used → ⊥
      past u = h (omega arith, u)

      by : Dec (k < (header_of b).limit) → zeros (get_or (page_parts (header_of b) b) k []) ≡ true
      by (yes l) = (fine k l).unused (omega (arith, past))
      by (no l) = rw (get_or-eq_default (page_parts (header_of b) b) [] {n = k} (rw length-pages (omega arith)))

-- THE FILE OF AN ACCEPTED JOB IS PROPER
pub accepted-file : (b : List ℕ) → job_fault b ≡ None → FileOk (job_of b).file
unfolding job_of entry_at
accepted-file b e =
    let rows = (accepted-rows b).0 e in
    let f = proper b rows in
    let o = (owner_said b rows.r3 rows.r5).0 rows.r7 in
    record {
      fit = f;
      pages = page_ok b rows;
      names = λ e l. (o e (entry_at (file_of b) e) l (f.entries e l)).1 refl;
      owner = λ e x l n. (o e x l n).0;
      unused = unused b rows;
    }

-- AND ITS TURNS NAME ITS OPERATIONS
pub accepted-turns : (b : List ℕ) → job_fault b ≡ None → Each (λ t. t < length (job_of b).ops) (job_of b).turns
unfolding job_of wrong_turn
accepted-turns b e =
    let us = turn_parts (header_of b) b in
    rw (counted b).ops ((each_map number_of us).1 ((turns_said (header_of b) us).0 ((accepted-rows b).0 e).r10))

pub file_ok : (b : List ℕ) → job_fault b ≡ None → FileOk (file_of b)
unfolding job_of
file_ok b e = accepted-file b e

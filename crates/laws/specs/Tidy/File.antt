-- THE TIDIED FILE: it is proper, its pages are numbered by their first entry, and it holds the same calls with the same charges.
use Rattle.std.specs.Prelude.{ℕ, ◌^◌, ◌≤◌, ◌<◌, ◌≡◌, ◌↔◌, length}
use Rattle.std.proofs.Math.Path.{refl}
use Rattle.std.proofs.Common.{sym, ◌∙◌, arith}
use Rattle.spec.specs.declared.Rec.{Rec}
use Rattle.spec.specs.Basics.{Each, Has}
use Rattle.spec.specs.File.{File, page_at, entry_at, find_in, contents}
use Rattle.spec.specs.PlainList.{NoneTwice}
use Rattle.spec.specs.Proper.{PageOk, FileOk}
use Rattle.spec.specs.Tidy.{file_with, tidy_file, pages_left}
use Rattle.laws.specs.Tidy.Wanted.{Wanted}
use Rattle.laws.specs.Tools.{each_imp}
use Rattle.laws.specs.Codec.Tools.{each_imp₂}
use Rattle.laws.specs.Codec.InUse.{any_page}
use Rattle.laws.specs.Codec.Back.{RecFits}
use Rattle.laws.specs.Codec.Proper.{RecordsFit}
use Rattle.laws.specs.Turns.Pages.{empty_ok}
use Rattle.laws.specs.Turns.Records.{same_has}
use Rattle.laws.specs.Turns.Contents.{contents_lookup, contents_twice}
use Rattle.laws.specs.Turns.Lookup.{lookup}
use Rattle.laws.specs.Tidy.Tiles.{Tiles}
use Rattle.laws.specs.Tidy.Laid.{laid_every, laid_ok, laid_lookup, laid_rise}
use Rattle.laws.specs.Tidy.Twins.{joined_each}
use Rattle.laws.specs.Tidy.Left.{pages_left_lem}
use Rattle.laws.specs.Tidy.Kept.{left_tiles, left_each, left_right, left_few}

-- what a file holds has no call twice
pub holds-once : (f : File) → FileOk f → NoneTwice (contents f)
holds-once f ok = contents_twice f (any_page f (PageOk f.g f.c) ok (empty_ok f.g f.c) ok.pages)

module _ (f : File) (ok : FileOk f) (d : ℕ) (w : Wanted d f) where
  pub left_part : Tiles 0 0 (pages_left f)
  left_part = left_tiles (pages_left_lem f ok)

  left_ok : Each (PageOk d f.c) (pages_left f)
  left_ok =
      each_imp₂ (λ q h r. record { deep = h; small = r.ok.small; room = r.ok.room; homed = r.ok.homed; calls_rise = r.ok.calls_rise }) w.least
      (left_right f ok)

  pub few : length (pages_left f) ≤ f.limit
  few = omega (arith, left_few f ok, ok.fit.within)

  -- IT IS PROPER
  pub tidy_ok : FileOk (tidy_file d f)
  unfolding tidy_file
  tidy_ok = laid_ok d f (pages_left f) ok.fit w.most left_part left_ok few

  -- its pages are numbered by their first entry, and all but directory and pages is as it was
  pub tidy_numbered : (i j : ℕ) → i ≤ j → j < 2 ^ d → entry_at (tidy_file d f) i ≤ entry_at (tidy_file d f) j
  unfolding tidy_file
  tidy_numbered = laid_rise d f (pages_left f) ok.fit w.most left_part left_ok few

  pub tidy_keeps : ((tidy_file d f).g ≡ d) × ((tidy_file d f).c ≡ f.c) × ((tidy_file d f).limit ≡ f.limit) × ((tidy_file d f).used ≤ f.used)
  unfolding tidy_file file_with
  tidy_keeps = (refl, refl, refl, left_few f ok)

  -- what joining keeps of records
  tidy_records
      : (P : Rec → Type 0)
      → ((x : ℕ) → (0 < x) × (x ≤ f.used) → Each P (page_at f x).records)
      → (x : ℕ)
      → (0 < x) × (x ≤ (tidy_file d f).used)
      → Each P (page_at (tidy_file d f) x).records
  unfolding tidy_file
  tidy_records P h =
      laid_every d f (pages_left f) ok.fit w.most left_part left_ok few (λ q. Each P q.records)
      (left_each (λ q. Each P q.records) h (λ l p a b t few x y. joined_each a b x y) (pages_left_lem f ok))

  pub tidy_fits : RecordsFit f → RecordsFit (tidy_file d f)
  tidy_fits = tidy_records RecFits

  -- IT HOLDS THE SAME CALLS WITH THE SAME CHARGES
  tidy_lookup : (k : ℕ) → lookup (tidy_file d f) k ≡ lookup f k
  unfolding tidy_file
  tidy_lookup =
      laid_lookup d f (pages_left f) ok.fit w.most left_part left_ok few (λ k o. o ≡ lookup f k) (each_imp (λ q r. r.finds) (left_right f ok))

  pub same_find : (k : ℕ) → find_in (contents (tidy_file d f)) k ≡ find_in (contents f) k
  same_find k = contents_lookup (tidy_file d f) tidy_ok.fit k ∙ tidy_lookup k ∙ sym (contents_lookup f ok.fit k)

  pub tidy_holds : (r : Rec) → Has r (contents (tidy_file d f)) ↔ Has r (contents f)
  tidy_holds r = (
    same_has _ _ (holds-once (tidy_file d f) tidy_ok) same_find r,
    same_has _ _ (holds-once f ok) (λ k. sym (same_find k)) r,
  )

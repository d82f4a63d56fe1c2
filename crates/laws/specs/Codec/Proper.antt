-- What a job must be, with no word of bytes: its file is proper, its numbers fit, its counts are within the limits. Such a job fits its fields.
use Rattle.std.specs.Prelude.{ℕ, suc, ◌^◌, ◌<◌, ◌≤◌, ◌≡◌, List, [], ◌∷◌, length, get_or, drop}
use Rattle.std.proofs.Common.{ap, ◌∙◌, arith, length-drop, pow_mono}
use Rattle.spec.specs.declared.Kind.TheVariants.{Search}
use Rattle.spec.specs.declared.Op.{Op}
use Rattle.spec.specs.Basics.{Each, end}
use Rattle.spec.specs.File.{Page, File, zero_page, page_at}
use Rattle.spec.specs.Job.{Job, file_job, max_ops, max_turns}
use Rattle.spec.specs.Proper.{PageNo, PageOk, FileOk}
use Rattle.laws.specs.Tools.{each_imp}
use Rattle.laws.specs.Codec.Tools.{each_places}
use Rattle.laws.specs.Codec.InUse.{page_behind, any_page}
use Rattle.laws.specs.Codec.Sections.{Sized}
use Rattle.laws.specs.Codec.Back.{RecFits, PageFits, OpFits, FileFits, JobFits}
use Rattle.laws.specs.Turns.Pages.{empty_ok}

-- every record of a page in use fits 32 bits
abbrev pub RecordsFit : File → Type 0
RecordsFit f = (x : ℕ) → PageNo f x → Each RecFits (page_at f x).records

pub record OpProper (o : Op) : Type 0 where
  pub fits : OpFits o
  pub charge : o.kind ≡ Search → o.charge ≡ 0

pub record JobProper (j : Job) : Type 0 where
  pub file : FileOk j.file
  pub records : RecordsFit j.file
  pub op_count : length j.ops ≤ max_ops
  pub ops : Each OpProper j.ops
  pub turn_count : length j.turns ≤ max_turns
  pub turns : Each (λ t. t < length j.ops) j.turns

-- the same of every page of the table, by its place
every_page : (f : File) (P : Page → Type 0) → FileOk f → P zero_page → ((x : ℕ) → PageNo f x → P (page_at f x)) → Each P (drop 1 f.table)
every_page f P ok zeroed used =
    (each_places (drop 1 f.table) zero_page).1 (λ k l. rw page_behind (any_page f P ok zeroed used (suc k)))

pub pages_proper : (f : File) → FileOk f → Each (PageOk f.g f.c) (drop 1 f.table)
pages_proper f ok = every_page f (PageOk f.g f.c) ok (empty_ok f.g f.c) ok.pages

pub file_sized : (f : File) → FileOk f → Sized f
file_sized f ok =
    record {
      directory = ok.fit.size;
      table = length-drop 1 f.table ∙ omega (arith, ok.fit.pages);
      room = each_imp (λ p h. h.room) (pages_proper f ok);
    }

-- a table whose place 0 is not used
front : (t : List Page) → 0 < length t → get_or t 0 zero_page ≡ zero_page → t ≡ zero_page ∷ drop 1 t
front [] l e = absurd (omega arith)
front (p ∷ t) l e = ap (λ q. q ∷ t) e

file-fits : (f : File) → FileOk f → RecordsFit f → FileFits f
unfolding page_at
file-fits f ok fits =
    let h = ok.fit in
    record {
      limit = omega (arith, h.most);
      used = omega (arith, h.most, h.within);
      size = h.size;
      entries = (each_places f.directory 0).1 (λ j l. let n = h.entries j (rw h.size at l) in omega (arith, h.most, h.within));
      front = front f.table (omega (arith, h.pages)) (ok.unused 0 (λ n. omega arith));
      count = (file_sized f ok).table;
      pages = every_page f (PageFits f.c) ok (record { pattern = omega arith; count = omega arith; records = end }) page;
    }
  where
    page : (x : ℕ) → PageNo f x → PageFits f.c (page_at f x)
    page x n =
        let p = ok.pages x n in
        let m : 2 ^ (page_at f x).depth ≤ 2 ^ 8 = pow_mono {j = 8} (omega (arith, p.deep, ok.fit.depth)) in
        record { pattern = omega (arith, p.small); count = p.room; records = fits x n }

pub job-fits : (j : Job) → JobProper j → JobFits j
job-fits j P =
    record {
      file = file-fits j.file P.file P.records;
      op_count = omega (arith, P.op_count);
      ops = each_imp (λ o h. h.fits) P.ops;
      turn_count = omega (arith, P.turn_count);
      turns = each_imp (λ t l. omega (arith, P.op_count)) P.turns;
    }

-- a charge file, as a job
pub file_proper : (f : File) → FileOk f → RecordsFit f → JobProper (file_job f)
file_proper f ok fits = record { file = ok; records = fits; op_count = omega arith; ops = end; turn_count = omega arith; turns = end }

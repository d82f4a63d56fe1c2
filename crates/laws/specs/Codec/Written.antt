-- Every proper job, written, is accepted: no row of the table holds of its bytes. A charge file is one with no operations and no turns.
use Rattle.std.specs.Prelude.{ℕ, suc, ◌+◌, ◌-◌, ◌*◌, ◌<◌, ◌≤◌, ◌≡◌, refl, true, length, get_or, None}
use Rattle.std.proofs.Common.{sym, ap, ◌∙◌, arith, drop_at}
use mathlib.Core.List.{List, [], ◌∷◌, ◌++◌, map}
use Rattle.std.proofs.Math.ListN.{drop, length-map}
use Rattle.spec.specs.declared.Kind.{Kind}
use Rattle.spec.specs.declared.Kind.TheVariants.{Search, Insert, Delete}
use Rattle.spec.specs.declared.Op.{Op}
use Rattle.spec.specs.Basics.{if, each}
use Rattle.spec.specs.Bytes.{byte, word, long, two, four}
use Rattle.spec.specs.File.{Page, File, zero_page, entry_at}
use Rattle.spec.specs.Job.{Job, file_job, Header, kind_number, kind_of, table_offset, ops_offset, turns_offset, total}
use Rattle.spec.specs.Encode.{header_bytes, record_bytes, page_bytes, op_bytes, header_for, encode_job, encode_file}
use Rattle.spec.specs.Decode.{header_of, job_of}
use Rattle.spec.specs.Check.{wrong_entry, wrong_page, wrong_owner, wrong_record, wrong_op, wrong_turn, job_fault}
use Rattle.spec.specs.Proper.{PageOk, FileOk}
use Rattle.laws.specs.Tools.{each_imp}
use Rattle.laws.specs.Codec.Tools.{get_or_map, each_map, each_places}
use Rattle.laws.specs.Codec.Numbers.{word_two, long_four}
use Rattle.laws.specs.Codec.Zeros.{zeros, zeros_replicate}
use Rattle.laws.specs.Codec.Rows.{accepted-rows, Limits, limits_said, Laid, header_said}
use Rattle.laws.specs.Codec.InUse.{page_behind}
use Rattle.laws.specs.Codec.Owner.{entries_said, owners_said}
use Rattle.laws.specs.Codec.Records.{records_said}
use Rattle.laws.specs.Codec.Pages.{PageFine, pages_said}
use Rattle.laws.specs.Codec.Ops.{OpFine, ops_said, turns_said}
use Rattle.laws.specs.Codec.Sections.{length-records, head_of, header_first, length-job, pages-written, ops-written, turns-written}
use Rattle.laws.specs.Codec.Back.{kind_back, JobFits, number_back, sized, head_back, file_back, decode-encode}
use Rattle.laws.specs.Codec.Longest.{total_most}
use Rattle.laws.specs.Codec.Proper.{RecordsFit, OpProper, JobProper, pages_proper, job-fits, file_proper}

-- a page's bytes pass rows 12, 6 and 13
rest_zero : (c : ℕ) (p : Page) → zeros (drop (4 + 8 * length p.records) (page_bytes c p)) ≡ true
unfolding page_bytes two
rest_zero c p =
    ap zeros (drop_at (p.depth ∷ length p.records ∷ two p.pattern ++ each record_bytes p.records) _ (4 + 8 * length p.records) front)
    ∙ zeros_replicate (8 * (c - length p.records))
  where
    front : length (p.depth ∷ length p.records ∷ two p.pattern ++ each record_bytes p.records) ≡ 4 + 8 * length p.records
    front = let e = length-records p.records in omega arith

unused-zero : (c : ℕ) → zeros (page_bytes c zero_page) ≡ true
unfolding page_bytes two zeros each
unused-zero c = zeros_replicate (8 * (c - 0))

page_passes
    : (h : Header) (x : ℕ) (p : Page) → PageOk h.g h.c p → p.pattern < 65536 → (h.used < x → p ≡ zero_page) → PageFine h x (page_bytes h.c p)
unfolding page_bytes byte word two
page_passes h x p ok l unused =
    record {
      deep = ok.deep;
      small = rw (word_two p.pattern [] l) ok.small;
      count = ok.room;
      rest = rest_zero h.c p;
      unused = λ u. rw (unused u) (unused-zero h.c);
    }

-- an operation's bytes pass row 9
pub op_passes : (o : Op) → OpProper o → OpFine (op_bytes o)
unfolding op_bytes kind_number kind_of if long word byte four two
op_passes o P =
    record {
      kind = kind o.kind;
      spare = refl;
      charge = λ n. long_four o.charge [] P.fits.charge ∙ P.charge (sym (kind_back o.kind) ∙ ap kind_of n);
    }
  where
    kind : (k : Kind) → (1 ≤ kind_number k) × (kind_number k ≤ 3)
    kind Search = omega arith
    kind Insert = omega arith
    kind Delete = omega arith

-- a header's bytes pass rows 1, 2 and 4
header_passes
    : (h : Header) (rest : List ℕ)
    → header_of (header_bytes h ++ rest) ≡ h
    → length (header_bytes h ++ rest) ≡ total h
    → total h < 4294967296
    → Laid (header_bytes h ++ rest)
unfolding header_bytes long word byte four two total turns_offset ops_offset table_offset
header_passes h rest e size l =
    record {
      header = omega arith;
      first = refl;
      directory = refl;
      table = long_four (table_offset h) [] (omega arith) ∙ ap table_offset (sym e);
      ops = long_four (ops_offset h) [] (omega arith) ∙ ap ops_offset (sym e);
      turns = long_four (turns_offset h) [] (omega arith) ∙ ap turns_offset (sym e);
      whole = long_four (total h) [] l ∙ ap total (sym e);
      size = size ∙ ap total (sym e);
    }

module _ (j : Job) (P : JobProper j) where
  fits : JobFits j
  fits = job-fits j P

  ok : FileOk j.file
  ok = P.file

  limits : Limits (head_of j)
  unfolding header_for
  limits =
      let f = ok.fit in
      record {
        depth = f.depth;
        capacity = f.capacity;
        pages = omega (arith, f.least, f.within, f.most);
        used = (f.least, f.within);
        ops = P.op_count;
        turns = P.turn_count;
      }

  laid : Laid (encode_job j)
  laid =
      let s = sized j fits in
      let e = header_first j s in
      let t = total_most (head_of j) limits in
      rw e (header_passes (head_of j) _ (rw e at (head_back j fits)) (rw e at (length-job j s)) (omega arith))

  r5 : wrong_entry (encode_job j) ≡ None
  unfolding wrong_entry entry_at
  r5 = rw (file_back j fits) ((entries_said j.file).1 (λ e l. ok.fit.entries e (rw ok.fit.size at l)))

  r6 : wrong_page (encode_job j) ≡ None
  unfolding wrong_page header_for
  r6 = rw (head_back j fits, pages-written j (sized j fits)) ((pages_said (head_of j) _).1 (λ k l. passes k (rw length-map at l)))
    where
      ps : List Page
      ps = drop 1 j.file.table

      passes : (k : ℕ) → k < length ps → PageFine (head_of j) (suc k) (get_or (map (page_bytes j.file.c) ps) k [])
      passes k l =
          rw (get_or_map (page_bytes j.file.c) ps k zero_page [])
          (page_passes (head_of j) (suc k) (get_or ps k zero_page) ((each_places ps zero_page).0 (pages_proper j.file ok) k l)
          ((each_places ps zero_page).0 fits.file.pages k l).pattern
          (λ u. page_behind j.file k ∙ ok.unused (suc k) (λ n. omega arith)))

  r7 : wrong_owner (encode_job j) ≡ None
  unfolding wrong_owner entry_at
  r7 =
      rw (file_back j fits)
      ((owners_said j.file ok.fit).1 (λ e x l n. (ok.owner e x l n, λ (q : entry_at j.file e ≡ x). rw q at (ok.names e l))))

  r8 : wrong_record (encode_job j) ≡ None
  unfolding wrong_record
  r8 =
      rw (file_back j fits)
      ((records_said _ j.file ok.fit.within ok.fit.pages).1 (λ x n. let p = ok.pages x n in record { homed = p.homed; calls_rise = p.calls_rise }))

  r9 : wrong_op (encode_job j) ≡ None
  unfolding wrong_op
  r9 =
      rw (head_back j fits, ops-written j (sized j fits))
      ((ops_said _ _).1 ((each_map op_bytes j.ops).1 (each_imp op_passes P.ops)))

  r10 : wrong_turn (encode_job j) ≡ None
  unfolding wrong_turn header_for
  r10 =
      rw (head_back j fits, turns-written j (sized j fits))
      ((turns_said _ _).1 ((each_map two j.turns).1 (each_imp (λ t l. rw (number_back t (omega (arith, P.op_count))) l) P.turns)))

  -- A PROPER JOB IS ACCEPTED
  pub proper_accepted : job_fault (encode_job j) ≡ None
  proper_accepted =
      let head = (header_said (encode_job j)).1 laid in
      let r3 = (limits_said (encode_job j)).1 (rw (head_back j fits) limits) in
      (accepted-rows (encode_job j)).1
      (record { r1 = head.0; r2 = head.1; r3 = r3; r4 = head.2; r5 = r5; r6 = r6; r7 = r7; r8 = r8; r9 = r9; r10 = r10 })

-- A CHARGE FILE IS ACCEPTED, AND COMES BACK
pub file-accepted : (f : File) → FileOk f → RecordsFit f → job_fault (encode_file f) ≡ None
unfolding encode_file
file-accepted f ok fits = proper_accepted (file_job f) (file_proper f ok fits)

pub file_comes_back : (f : File) → FileOk f → RecordsFit f → job_of (encode_file f) ≡ file_job f
unfolding encode_file
file_comes_back f ok fits = decode-encode (file_job f) (job-fits (file_job f) (file_proper f ok fits))

-- TIDYING OF BYTES: when a call is not refused, and that what is then written keeps all that is claimed.
use Rattle.std.specs.Prelude.{ℕ, suc, ◌≤◌, ◌≡◌, refl, ◌↔◌, List, false, length, None}
use Rattle.std.proofs.Math.Path.{ap}
use Rattle.std.proofs.Common.{◌∙◌, arith}
use Rattle.spec.specs.Basics.{any_of, Each}
use Rattle.spec.specs.Bytes.{AreBytes}
use Rattle.spec.specs.File.{Page, File, zero_page}
use Rattle.spec.specs.Job.{Header, Job, file_job, max_depth}
use Rattle.spec.specs.Encode.{header_for, encode_file}
use Rattle.spec.specs.Decode.{header_of, file_of, job_of}
use Rattle.spec.specs.Check.{job_fault}
use Rattle.spec.specs.Proper.{FileOk}
use Rattle.spec.specs.Claims.{IsFile}
use Rattle.spec.specs.Tidy.{pages_left, tidy_file, tidy_bytes, ops_present, is_deeper, wrong_depth, small_out, tidy_fault}
use Rattle.laws.specs.Tidy.Wanted.{Wanted}
use Rattle.spec.specs.Tidied.{Joined, Tidied, Tidies, longest_file}
use Rattle.laws.specs.Tools.{each_imp}
use Rattle.laws.specs.Codec.Tools.{failed, or_else_none, numbered-none, each_places}
use Rattle.laws.specs.Codec.Told.{tells_either}
use Rattle.laws.specs.Codec.Numbered.{Above0, Numbered, above0, job-numbered}
use Rattle.laws.specs.Codec.Walk.{any_from_1, any_none}
use Rattle.laws.specs.Codec.Longest.{file-most}
use Rattle.laws.specs.Codec.Proper.{RecordsFit, job-fits, file_proper}
use Rattle.laws.specs.Codec.Back.{head_back}
use Rattle.laws.specs.Codec.Sizes.{length-file}
use Rattle.laws.specs.Codec.Written.{file-accepted, file_comes_back}
use Rattle.laws.specs.Codec.AsBytes.{written-bytes}
use Rattle.laws.specs.Codec.Exact.{accepted_proper}
use Rattle.laws.specs.Demand3.{demand3}
use Rattle.laws.specs.Tidy.Kept.{left_right}
use Rattle.laws.specs.Tidy.File.{holds-once, tidy_ok, tidy_keeps, tidy_fits, tidy_holds}
use Rattle.laws.specs.Tidy.Ends.{none_left}
use Rattle.laws.specs.Tidy.Again.{left_again, tidy_again}
use Rattle.laws.specs.Tidy.Order.{any_order_lem}
use Rattle.laws.specs.Tidy.Reached.{left_reached}
use Rattle.laws.specs.Tidy.Numbered.{left_order, only_left, tidy_entries}

-- the file's own depth and every greater one may be wanted
pub own_depth : (f : File) → FileOk f → (d : ℕ) → f.g ≤ d → d ≤ max_depth → Wanted d f
own_depth f ok d l u = record { most = u; least = each_imp (λ q r. omega (arith, r.ok.deep)) (left_right f ok) }

-- refusal 19 is just that the depth may not be wanted
no_deeper : (d : ℕ) (ps : List Page) → any_of (is_deeper d) 1 ps ≡ false ↔ Each (λ q. q.depth ≤ d) ps
unfolding is_deeper
no_deeper d ps =
    rw any_from_1
    (simp (any_none (λ k. is_deeper d (suc k)) ps zero_page, failed) (λ h. (each_places ps zero_page).1 h, λ h. (each_places ps zero_page).0 h))

pub wanted_said : (d : ℕ) (b : List ℕ) → wrong_depth d b ≡ None ↔ Wanted d (file_of b)
unfolding wrong_depth
wanted_said d b = simp (failed, no_deeper) (λ h. record { most = h.0; least = h.1 }, λ w. (w.most, w.least))

-- A CALL IS NOT REFUSED exactly if the file is accepted, has no operations, may have the wanted depth, and the output has room
pub record NotRefused (room d : ℕ) (b : List ℕ) : Type 0 where
  pub accepted : job_fault b ≡ None
  pub no_ops : (header_of b).ops ≡ 0
  pub wanted : Wanted d (file_of b)
  pub enough : length (tidy_bytes d b) ≤ room

pub done_said : (room d : ℕ) (b : List ℕ) → tidy_fault room d b ≡ None ↔ NotRefused room d b
unfolding tidy_fault ops_present small_out
done_said room d b =
    simp (or_else_none, numbered-none, wanted_said, failed) (
      λ h. record { accepted = h.0; no_ops = h.1.0; wanted = h.1.1.0; enough = h.1.1.1 },
      λ t. (t.accepted, (t.no_ops, (t.wanted, t.enough))),
    )

-- no number is 0: where 0 is told, nothing is refused
pub fault_numbered : (room d : ℕ) (b : List ℕ) → Numbered (tidy_fault room d b)
unfolding tidy_fault
fault_numbered room d b =
    tells_either Above0 _ _ (job-numbered b)
    (tells_either Above0 _ _ (above0 18 _ refl) (tells_either Above0 _ _ (above0 19 _ refl) (above0 11 _ refl)))

-- however the pages are joined
pub joined : (f : File) → FileOk f → Joined f
joined f ok =
    record {
      reached = left_reached f ok;
      no_pair = none_left f ok;
      any_order = any_order_lem f ok;
      numbered = left_order f ok;
      no_other = only_left f ok;
    }

module _ (d : ℕ) (b : List ℕ) (bytes : AreBytes b) (accepted : job_fault b ≡ None) (no_ops : (header_of b).ops ≡ 0) (w : Wanted d (file_of b)) where
  abbrev f : File
  f = file_of b

  proper : (FileOk f) × RecordsFit f
  unfolding job_of
  proper = let p = accepted_proper b bytes accepted in (p.file, p.records)

  ok : FileOk (tidy_file d f)
  ok = tidy_ok f proper.0 d w

  fits : RecordsFit (tidy_file d f)
  fits = tidy_fits f proper.0 d w proper.1

  is_file_lem : IsFile (tidy_bytes d b) (tidy_file d f)
  unfolding tidy_bytes
  is_file_lem = (file-accepted (tidy_file d f) ok fits, file_comes_back (tidy_file d f) ok fits)

  pub file-says : file_of (tidy_bytes d b) ≡ tidy_file d f
  unfolding job_of
  file-says = ap (λ (j : Job). j.file) is_file_lem.1

  most : length (tidy_bytes d b) ≤ longest_file
  unfolding tidy_bytes header_for
  most =
      rw (length-file (tidy_file d f) ok)
      (file-most (header_for (tidy_file d f) 0 0)
      (record {
        depth = ok.fit.depth;
        capacity = ok.fit.capacity;
        pages = omega (arith, ok.fit.least, ok.fit.within, ok.fit.most);
        used = (ok.fit.least, ok.fit.within);
        ops = omega arith;
        turns = omega arith;
      }))

  -- the tidied file has the same pages left, so the same comes of it
  same_left : pages_left (file_of (tidy_bytes d b)) ≡ pages_left f
  same_left = rw file-says (left_again f proper.0 d w)

  same_bytes : (e : ℕ) → tidy_bytes e (tidy_bytes d b) ≡ tidy_bytes e b
  unfolding tidy_bytes
  same_bytes e = ap (λ x. encode_file (tidy_file e x)) file-says ∙ ap encode_file (tidy_again f proper.0 d w e)

  no_ops_lem : (header_of (tidy_bytes d b)).ops ≡ 0
  unfolding tidy_bytes encode_file header_for
  no_ops_lem = ap (λ (h : Header). h.ops) (head_back (file_job (tidy_file d f)) (job-fits (file_job (tidy_file d f)) (file_proper (tidy_file d f) ok fits)))

  same_fault : (room e : ℕ) → tidy_fault room e (tidy_bytes d b) ≡ tidy_fault room e b
  unfolding tidy_fault ops_present wrong_depth small_out
  same_fault room e = rw (is_file_lem.0, accepted, no_ops_lem, no_ops, same_left, same_bytes e)

  tidied_of : Tidied d b
  unfolding tidy_bytes encode_file
  tidied_of =
      record {
        joined = joined f proper.0;
        entries = tidy_entries f proper.0 d w;
        keeps = tidy_keeps f proper.0 d w;
        bytes = written-bytes (file_job (tidy_file d f)) (file_proper (tidy_file d f) ok fits);
        accepted = is_file_lem;
        most = most;
        holds = λ r. rw file-says (tidy_holds f proper.0 d w r);
        once = rw file-says (holds-once (tidy_file d f) ok);
        again = λ room e. (same_fault room e, same_bytes e);
        explained = λ k post kb ka same. demand3 k post kb ka;
      }

-- WHAT TIDYING KEEPS
pub tidied : Tidies
tidied room d b bytes e =
    let t = (done_said room d b).0 e in
    tidied_of d b bytes t.accepted t.no_ops t.wanted

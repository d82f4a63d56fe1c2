-- How long the written things are: a job, a charge file, a result.
use Rattle.std.specs.Prelude.{ℕ, ◌+◌, ◌*◌, ◌≡◌, refl, List, length}
use Rattle.std.proofs.Common.{◌∙◌, arith, length-append}
use Rattle.std.proofs.lemmas.List.{length-map}
use Rattle.spec.specs.Basics.{each}
use Rattle.spec.specs.Bytes.{two, four}
use Rattle.spec.specs.File.{File}
use Rattle.spec.specs.Job.{file_job, turns_offset, total, file_length}
use Rattle.spec.specs.Encode.{header_for, encode_file}
use Rattle.spec.specs.Decode.{job_of}
use Rattle.spec.specs.Result.{Told, Line, Result, answer_size, line_size, answers_offset, log_offset, file_offset, file_bytes, result_of, result, answer_bytes, line_bytes, result_header, encode_result}
use Rattle.spec.specs.Outcome.{result_bytes}
use Rattle.spec.specs.Proper.{FileOk}
use Rattle.laws.specs.Codec.Tools.{every}
use Rattle.laws.specs.Codec.Parts.{length_each}
use Rattle.laws.specs.Codec.Sections.{length-job}
use Rattle.laws.specs.Codec.Proper.{file_sized}

-- a charge file is as long as the header of its job tells
pub length-file : (f : File) → FileOk f → length (encode_file f) ≡ file_length (header_for f 0 0)
unfolding encode_file file_length total turns_offset header_for
length-file f ok = let e = length-job (file_job f) (file_sized f ok) in omega arith

-- a result: 24 bytes, 8 an answer, 4 a line of the log, and the charge file
pub length-answer : (a : Told) → length (answer_bytes a) ≡ answer_size
unfolding answer_bytes two four
length-answer a = refl

pub length_line : (l : Line) → length (line_bytes l) ≡ line_size
unfolding line_bytes two
length_line l = refl

pub length-result_header : (r : Result) → length (result_header r) ≡ answers_offset
unfolding result_header two four
length-result_header r = refl

pub length-answers : (xs : List Told) → length (each answer_bytes xs) ≡ answer_size * length xs
length-answers xs = length_each answer_bytes answer_size xs (every length-answer xs)

pub length-lines : (ls : List Line) → length (each line_bytes ls) ≡ line_size * length ls
length-lines ls = length_each line_bytes line_size ls (every length_line ls)

pub length-result : (r : Result) → length (encode_result r) ≡ 24 + 8 * length r.answers + 4 * length r.log + length (file_bytes r.file)
unfolding encode_result
length-result r = rw (length-append, length-append, length-append, length-result_header, length-answers, length-lines)

-- the total that a job's result tells is its length
pub bytes_total : (b : List ℕ) → length (result_bytes b) ≡ (result (job_of b)).total
unfolding result_bytes result result_of file_offset log_offset
bytes_total b = length-result (result (job_of b)) ∙ rw length-map

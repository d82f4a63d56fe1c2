-- What is said of the bytes of a record, piece by piece. No contract cites this file.
use Rattle.std.proofs.Common.{◌≡◌, refl, List, ◌++◌, map, ℕ, ◌+◌, ◌-◌, ◌*◌, ◌/◌, length, take, drop, append_assoc, arith, ◌≤◌}
use Rattle.spec.specs.Basics.{each}
use Rattle.spec.specs.Bytes.{byte, word, long, parts, text}
use Rattle.spec.specs.Decode.{record_of, page_of}
use Rattle.spec.specs.Report.{decimal, newline, record_word, page_line}
use Rattle.text.specs.Sections.{parts_lent}

pub record_said
    : (r : List ℕ) (call charge : ℕ)
    → call ≡ long r 0
    → charge ≡ long r 4
    → (text " " ++ decimal call) ++ (text "=" ++ decimal charge) ≡ record_word (record_of r)
unfolding record_word record_of
record_said r call charge is-call is-charge = rw (is-call, is-charge) (simp append_assoc refl)

pub page_said
    : (x : ℕ) (p : List ℕ) (depth pattern n : ℕ)
    → depth ≡ byte p 0
    → pattern ≡ word p 2
    → n ≡ byte p 1
    → 4 + 8 * n ≤ length p
    → (text "page " ++ decimal x)
    ++ (text " depth " ++ decimal depth)
    ++ (text " pattern " ++ decimal pattern)
    ++ text " :"
    ++ each record_word (map record_of (parts (length (take (4 + 8 * n - 4) (drop 4 p)) / 8) 8 (take (4 + 8 * n - 4) (drop 4 p))))
    ++ newline
    ≡ page_line x (page_of p)
unfolding page_line page_of
page_said x p depth pattern n is-depth is-pattern is-n within =
    rw (parts_lent p 4 8 n (omega arith) within, is-depth, is-pattern, is-n) (simp append_assoc refl)

-- A text that was printed is the one that is meant, and lies within its buffer; and what was read of an input decides what is printed for it.
use Rattle.std.proofs.Common.{◌≡◌, refl, sym, ap, ◌∙◌, List, ℕ, suc, ◌+◌, ◌≤◌, ◌++◌, arith, length, take, drop, length-append, Option, None, Some, IfSome, Result, Ok, Err, OnOk, true}
use Rattle.std.specs.Result.{is_ok}
use Rattle.std.proofs.Math.Seq.{length-take-le, take_at, take-append-add, take-append-le}
use borrow.Rule.Slice.PartMut.{put_mid, post_of}
use Rattle.spec.specs.Check.{Lent, work_size, first_fault}
use Rattle.spec.specs.Report.{printed, printed_by}
use Rattle.laws.specs.Codec.Longest.{longest, front_decides}
use Rattle.print.specs.declared.NoRoom.{NoRoom}
use Rattle.print.specs.Printed.{Stands}
use Rattle.print.specs.Enough.{most_result, enough-printed}
use Rattle.chargelog.specs.Input.{Says, Shows, Answers}

-- a text that stands in a buffer
shown : {x s t : List ℕ} {n : ℕ} → Stands x s t n → take n t ≡ x
shown {x} {s} {t} {n} w = ap (take n) w.bytes ∙ take_at x (drop n s) n (sym w.count)

count : {x s t : List ℕ} {n : ℕ} → Stands x s t n → n ≤ length t
count {x} {s} {t} {n} w = omega (arith, w.count, ap length w.bytes ∙ length-append x (drop n s))

pub text_says :
    {b o p : List ℕ} {l : Lent} {n : ℕ} → Stands (printed_by (first_fault l b) b) o p n
    → most_result ≤ l.output → 256 ≤ l.rows → work_size ≤ l.work → Says b p n
text_says {b} {o} {p} {l} {n} stands result rows work =
    let text : take n p ≡ printed b = shown stands ∙ enough-printed b l result rows work in
    let within : n ≤ length p = count stands in
    record {
      within = within;
      counts = sym (length-take-le n p within);
      text = text;
      input = λ whole read. text ∙ ap printed read ∙ front_decides whole;
    }

-- a text is told, where none is refused
pub is_told : {A E : Type 0} (r : Result A E) → ((e : E) → r ≡ Err e → ⊥) → is_ok r ≡ true
is_told (Ok n) never = refl
is_told (Err e) never = absurd (never e refl)

-- a read puts n bytes more behind the first a
pub take_read :
    (a k n : ℕ) (s t : List ℕ) → a ≤ length s → n ≤ length t → take (a + n) (put_mid a k s t) ≡ take a s ++ take n t
take_read a k n s t within fits =
    let after = post_of a k s in
    ap (λ m. take (m + n) (take a s ++ (t ++ after))) (sym (length-take-le a s within))
    ∙ take-append-add (take a s) (t ++ after) n
    ∙ ap (λ l. take a s ++ l) (take-append-le n t after fits)

-- a buffer that has a byte more than the longest job
pub answers :
    (known : Option (List ℕ)) (t : List ℕ) (n : ℕ) (old new : Option (List ℕ))
    → length t ≡ suc longest → IfSome known (λ whole. take n t ≡ take (length t) whole)
    → Shows (take n t) old new → Answers known old new
answers None t n old new full first shows = tt
answers (Some whole) t n old new full first shows = shows whole (first ∙ ap (λ k. take k whole) full)

-- what stands beside another error
pub ok_told : {T D E : Type 0} (r : Result T D) (s : Result T E) (x : T)
    → ((y : T) → r ≡ Ok y → s ≡ Ok y) → is_ok s ≡ is_ok r → s ≡ Ok x → r ≡ Ok x
ok_told (Ok y) s x same variant e = let told = same y refl in let z : y ≡ x = cc in ap Ok z
ok_told (Err d) s x same variant e = let z : is_ok s ≡ true = ap is_ok e in absurd (cc)

-- another error says as much
pub on_ok_kept : {T D E : Type 0} (P : Type 0) (r : Result T D) (s : Result T E) → is_ok s ≡ is_ok r → OnOk r P → OnOk s P
on_ok_kept P (Ok x) (Ok y) e p = p
on_ok_kept P (Err x) (Ok y) e p = absurd (cc)
on_ok_kept P (Ok x) (Err y) e p = tt
on_ok_kept P (Err x) (Err y) e p = tt

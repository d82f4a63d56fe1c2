-- What the rows that were passed tell, and what the answer of a row makes the check's answer.
use Prim.Native.Nat.{ℕ, ◌≤◌}
use mathlib.Core.Path.{◌≡◌, refl, sym, ◌∙◌}
use mathlib.Core.List.{List, [], ◌∷◌}
use Rattle.std.specs.Prelude.{Option, None, Some, Bool, true, false, nat_lt}
use Rattle.std.specs.Bool.{then_some}
use lib.ListN.{length}
use Rattle.spec.specs.Basics.{when, or_else}
use Rattle.spec.specs.Job.{header_size}
use Rattle.spec.specs.Decode.{header_of}
use Rattle.spec.specs.Check.{short, wrong_version, over_limit, wrong_offset, numbered, Fault, TableRow, row, first_row}
use Rattle.laws.specs.Codec.Tools.{when-none, ltb_no, numbered-none}
use Rattle.laws.specs.Codec.Rows.{limits_said, header_said}
use Rattle.header.specs.declared.Header.{Header}
use Rattle.header.specs.Counts.{counts_of, Heads}

-- a row of the table, and those behind it: the answer r is that of all of them
module _ (t : TableRow) (rs : List TableRow) (b : List ℕ) where
  pub told : {f : Fault} → Some f ≡ t b → Some f ≡ first_row (t ∷ rs) b
  unfolding first_row or_else
  told e = rw (← e)

  pub untold : {r : Option Fault} → None ≡ t b → r ≡ first_row rs b → r ≡ first_row (t ∷ rs) b
  unfolding first_row or_else
  untold e f = rw (← e) f

-- a row of one number, n, of which the code was told o
module _ (n : ℕ) (t : List ℕ → Option ℕ) (rs : List TableRow) (b : List ℕ) {o : Option ℕ} (e : o ≡ t b) where
  pub row_hit : {f : Fault} → Some f ≡ numbered n o → Some f ≡ first_row (row n t ∷ rs) b
  row_hit w = told (row n t) rs b (rw e at w)

  pub row_next : {r : Option Fault} → None ≡ numbered n o → r ≡ first_row rs b → r ≡ first_row (row n t ∷ rs) b
  row_next w f = untold (row n t) rs b (rw e at w) f

  pub passed : None ≡ numbered n o → t b ≡ None
  passed w = (numbered-none n (t b)).0 (sym (rw e at w))

pub rows_end : (b : List ℕ) → None ≡ first_row [] b
unfolding first_row
rows_end b = refl

-- the last row tells what it finds
pub last_row : (t : TableRow) (b : List ℕ) → t b ≡ first_row (t ∷ []) b
unfolding first_row or_else
last_row t b = by (t b)
  where
    by : (o : Option Fault) → o ≡ or_else o None
    by None = refl
    by (Some f) = refl

-- what rows 1 to 4 leave
pub long-enough : (b : List ℕ) → short b ≡ None → header_size ≤ length b
unfolding short
long-enough b e = (ltb_no _ _).0 ((when-none _ _).0 e)

pub heads : (h : Header) (b : List ℕ) → counts_of h ≡ header_of b → short b ≡ None → wrong_version b ≡ None → over_limit b ≡ None → wrong_offset b ≡ None → Heads h b
heads h b e r1 r2 r3 r4 =
    record { counts = e; limits = rw e ((limits_said b).0 r3); size = rw e ((header_said b).0 (r1, r2, r4)).size }

-- a test's place, as the language's library and the table say it
pub then-when : (b : Bool) (x : ℕ) → then_some b x ≡ when b x
unfolding when
then-when true x = refl
then-when false x = refl

-- a count that is told not to be above another
pub not-above : (k p : ℕ) {c n : ℕ} {o : Option ℕ} → o ≡ then_some (nat_lt c n) p → None ≡ numbered k o → n ≤ c
not-above k p {c = c} {n = n} {o = o} e w =
    let m : when (nat_lt c n) p ≡ None = sym (then-when (nat_lt c n) p) ∙ sym e ∙ (numbered-none k o).0 (sym w) in
    (ltb_no c n).0 ((when-none (nat_lt c n) p).0 m)

-- Row 7: the entries that a page begins and that name another, and the faults of all pages together.
use Prim.Native.Nat.{ℕ, zero, suc, ◌+◌, ◌-◌, ◌*◌, ◌%◌, ◌^◌, ◌<◌, ◌≤◌}
use mathlib.Core.Path.{◌≡◌, refl, sym, ap, ◌∙◌}
use mathlib.Core.Bool.{Bool, false, ◌||◌, and-false, or-false, or_assoc}
use mathlib.Core.List.{List, [], ◌∷◌}
use native.Mathlib.Omega.{arith}
use native.Mathlib.Decide.{dec_lt}
use native.Mathlib.Numerals.{add-one, one-add}
use lib.ListN.{length, get_or, take}
use lib.Seq.{take-length}
use lib.Pow.{pow_mono}
use Rattle.std.specs.Prelude.{Option, None, Some, option_map}
use Rattle.spec.specs.Basics.{any_of}
use Rattle.spec.specs.Bytes.{byte, word}
use Rattle.spec.specs.Key.{begins}
use Rattle.spec.specs.File.{zero_page, page_at, entry_at, pages_in_use}
use Rattle.spec.specs.Job.{entry_place}
use Rattle.spec.specs.Decode.{page_of, file_of, job_of}
use Rattle.spec.specs.Check.{owns, owns_too, bad_owner, owner_fault, wrong_owner}
use Rattle.header.specs.declared.Header.{Header}
use Rattle.header.specs.Sections.{entries-count}
use Rattle.job.specs.Owner.{Paged, stray, other, foreign, NonePass, LowestOf}
use Rattle.job.proofs.Sizes.{shifted}
use Rattle.laws.specs.Codec.Passed.{clear_hit, clear_all}
use Rattle.job.proofs.Pages.{PageIs, page-depth, in_use, in_use_at}
use Rattle.job.proofs.Begun.{run, first, begun, below_begun, above_begun, begun_end}

-- the test holds of one of the first k members; and of the next one
any_take
    : {A : Type 0} (f : ℕ → A → Bool) (i : ℕ) (l : List A) (d : A) (k : ℕ)
    → k < length l
    → any_of f i (take (suc k) l) ≡ (any_of f i (take k l) || f (i + k) (get_or l k d))
unfolding any_of
any_take f i [] d k u = absurd (omega arith)
any_take f i (x ∷ l) d zero u = let z : i + 0 ≡ i = omega arith in rw (z, or-false)
any_take f i (x ∷ l) d (suc k) u =
    let z : i + suc k ≡ suc i + k = omega arith in
    rw (z, any_take f (suc i) l d k (omega arith)) (sym (or_assoc (f i x) (any_of f (suc i) (take k l)) (f (suc i + k) (get_or l k d))))

-- page x begins the entries from .. to: what the walk over them tells
pub record Span (h : Header) (b : List ℕ) (x from to : ℕ) : Type 0 where
  pub order : from ≤ to
  pub within : to ≤ 2 ^ h.depth
  pub small : 2 ^ h.depth ≤ 256
  pub tells : (r : Option ℕ) → LowestOf (other b x) from to r → LowestOf (foreign b x) 0 (2 ^ h.depth) r

-- the faults of the first k pages
pub up_to : List ℕ → ℕ → ℕ → Bool
up_to b k j = stray b j || any_of (owns_too (file_of b).g j (entry_at (file_of b) j)) 1 (take k (pages_in_use (file_of b)))

module _ {h : Header} {b : List ℕ} (e : Paged h b) where
  pub owns_is : (x j : ℕ) (s : List ℕ) → PageIs b x s → owns (file_of b).g j (page_at (file_of b) x) ≡ begins h.depth (byte s 0) (word s 2) j
  unfolding owns page_of file_of
  owns_is x j s p = rw (p.is, ← e.heads.counts)

  module _ (x : ℕ) (s : List ℕ) (p : PageIs b x s) where
    abbrev from : ℕ
    from = first h.depth (byte s 0) (word s 2)

    abbrev to : ℕ
    to = from + run h.depth (byte s 0) (word s 2)

    -- the entries before the walk's stop are no faults of page x
    passed : (r q : ℕ) → r ≤ to → NonePass (other b x) from r → q < r → foreign b x q ≡ false
    unfolding foreign owns_too other
    passed r q m w l = by (dec_lt q from)
      where
        by : Dec (q < from) → foreign b x q ≡ false
        by (yes f) = rw (owns_is x q s p, below_begun h.depth (byte s 0) (word s 2) q f, and-false)
        by (no f) = rw (w q (omega (arith, f)) l)

    tells : to ≤ 2 ^ h.depth → (r : Option ℕ) → LowestOf (other b x) from to r → LowestOf (foreign b x) 0 (2 ^ h.depth) r
    unfolding foreign owns_too other
    tells n None w = λ q a l. by q (dec_lt q to)
      where
        by : (q : ℕ) → Dec (q < to) → foreign b x q ≡ false
        by q (yes f) = passed to q (omega arith) w f
        by q (no f) = rw (owns_is x q s p, above_begun h.depth (byte s 0) (word s 2) q (omega (arith, f)), and-false)
    tells n (Some r) w =
        record {
          least = omega arith;
          most = omega (arith, w.most);
          before = λ q a z. passed r q (omega (arith, w.most)) w.before z;
          here = rw (w.here, owns_is x r s p, begun h.depth (byte s 0) (word s 2) r w.least w.most);
        }

    -- as the code reads them
    pub span : (d w : ℕ) → d ≡ byte s 0 → w ≡ word s 2 → let n = 1 * 2 ^ (h.depth - d) % 2 ^ 64 in Span h b x (w * n) (w * n + n)
    span d w ed ew =
        let k = page-depth e x s p in
        let m : 2 ^ h.depth ≤ 2 ^ 8 = pow_mono e.heads.limits.depth in
        let i = begun_end h.depth (byte s 0) (word s 2) k p.fine.small in
        rw (ed, ew, shifted (h.depth - byte s 0) (omega (arith, e.heads.limits.depth)))
        (record { order = omega arith; within = i; small = m; tells = tells i })

  -- all pages together
  pub up_none : (j : ℕ) → up_to b 0 j ≡ stray b j
  unfolding up_to any_of
  up_none j = or-false (stray b j)

  pub up_more : (k j : ℕ) → k < h.used → up_to b (k + 1) j ≡ (up_to b k j || foreign b (k + 1) j)
  unfolding up_to foreign
  up_more k j l =
      let a = any_take (owns_too (file_of b).g j (entry_at (file_of b) j)) 1 (pages_in_use (file_of b)) zero_page k (rw (in_use e) l) in
      rw (add-one k, rw (one-add, in_use_at e k l) at a) (sym (or_assoc (stray b j) _ _))

  pub up_all : (k j : ℕ) → k ≡ h.used → up_to b k j ≡ bad_owner (file_of b) j (entry_at (file_of b) j)
  unfolding up_to stray bad_owner
  up_all k j l =
      let p = pages_in_use (file_of b) in
      ap (λ q. stray b j || any_of (owns_too (file_of b).g j (entry_at (file_of b) j)) 1 q) (ap (λ n. take n p) (l ∙ sym (in_use e)) ∙ take-length p)

  -- the lowest of all faults is what row 7 asks for
  pub owner_told : (k : ℕ) (r : Option ℕ) → k ≡ h.used → LowestOf (up_to b k) 0 (2 ^ h.depth) r → option_map entry_place r ≡ wrong_owner b
  unfolding job_of wrong_owner owner_fault entry_at
  owner_told k None u w =
      clear_all (bad_owner (file_of b)) (file_of b).directory 0 entry_place (2 ^ h.depth) (rw (entries-count e.heads) (omega arith))
      (λ q z. sym (up_all k q u) ∙ w q (omega arith) z)
  owner_told k (Some r) u w =
      clear_hit (bad_owner (file_of b)) (file_of b).directory 0 entry_place r _ (rw (entries-count e.heads) w.most)
      (λ q z. sym (up_all k q u) ∙ w.before q (omega arith) z)
      (sym (up_all k r u) ∙ w.here) refl

-- A part of the tables that is written at once is a row of numbers. Assumes nothing.
use Rattle.std.proofs.Common.{◌≡◌, refl, sym, ap, ◌∙◌, ℕ, zero, suc, ◌+◌, ◌-◌, ◌<◌, ◌≤◌, max, List, length, take, set, replicate, arith, add-one}
use Rattle.std.specs.List.{fold}
use Rattle.std.proofs.lemmas.List.{ext_get_or, places, get_or-replicate, length-replicate}
use Rattle.std.proofs.lemmas.List.Sums.{fold_more}
use Rattle.std.proofs.Math.Decide.{dec_lt}
use borrow.Rule.Slice.PartMut.{put_mid}
use Rattle.rules.specs.Basics.{at, most}
use Rattle.layout.specs.Layout.{due_at}
use Rattle.seats.specs.Words.{with_row, length-row, row_other, row_at}
use Rattle.seats.specs.Due.{without_due}

-- numbers that are those of the row within it, and unchanged below and above
pub row_ext : (to m : ℕ) (f : ℕ → ℕ) (words ys : List ℕ) → length ys ≡ length words → to + m ≤ length words → ((k : ℕ) → k < to → at ys k ≡ at words k)
    → ((p : ℕ) → p < m → at ys (to + p) ≡ f p) → ((k : ℕ) → to + m ≤ k → at ys k ≡ at words k) → ys ≡ with_row to f m words
row_ext to m f words ys long fits low mid high = ext_get_or 0 ys (with_row to f m words) (omega (arith, long, length-row to f words m))
    (λ k h. go k (dec_lt k to) (dec_lt k (to + m)))
  where
    go : (k : ℕ) → Dec (k < to) → Dec (k < to + m) → at ys k ≡ at (with_row to f m words) k
    go k (yes l) d = low k l ∙ sym (row_other to f words m k (λ p h e. omega arith))
    go k (no n) (yes l) =
        let e : k ≡ to + (k - to) = omega arith in
        rw e (mid (k - to) (omega arith) ∙ sym (row_at to f words m (k - to) (omega arith) fits))
    go k (no n) (no l) = high k (omega arith) ∙ sym (row_other to f words m k (λ p h e. omega arith))

-- a part that is written over
pub row_mid : (to m : ℕ) (f : ℕ → ℕ) (words xs : List ℕ) → length xs ≡ m → to + m ≤ length words → ((p : ℕ) → p < m → at xs p ≡ f p)
    → put_mid to m words xs ≡ with_row to f m words
row_mid to m f words xs long fits same = row_ext to m f words (put_mid to m words xs) (grind (arith, places)) fits (λ k h. grind (arith, places))
    (λ p h. grind (arith, places, same)) (λ k h. grind (arith, places))

-- the due sets that are filled with 0
zero_row : (words : List ℕ) (k : ℕ) → with_row due_at (λ _. 0) k words ≡ without_due words k
unfolding with_row without_due
zero_row words zero = refl
zero_row words (suc k) = ap (λ (x : List ℕ). set x (due_at + k) 0) (zero_row words k)

pub due_filled : (words : List ℕ) (k : ℕ) → due_at + k ≤ length words → put_mid due_at k words (replicate k 0) ≡ without_due words k
due_filled words k fits = row_mid due_at k (λ _. 0) words (replicate k 0) (length-replicate k 0) fits (λ p h. get_or-replicate k p 0 0 h) ∙ zero_row words k

-- the greatest of the first numbers, one behind the other
pub fold-most : (f : ℕ → ℕ) (xs : List ℕ) (n : ℕ) → n ≤ length xs → fold (λ a x. max a (f x)) 0 (take n xs) ≡ most (λ i. f (at xs i)) n
unfolding most
fold-most f xs zero h = refl
fold-most f xs (suc n) h =
    let e = fold_more (λ (a x : ℕ). max a (f x)) 0 xs n 0 (omega arith) in
    rw add-one at e ∙ omega (arith, fold-most f xs n (omega arith))

-- Bytes put into a buffer one piece behind the other, and the bytes of a row. Assumes nothing.
use Rattle.std.specs.Prelude.{◌≡◌, ℕ, suc, ◌+◌, ◌-◌, ◌≤◌, take}
use Rattle.std.proofs.Math.Path.{refl, sym, ap, ap₂}
use Rattle.std.proofs.Common.{◌∙◌, arith, length-append, drop_of_length-le, drop-drop, take_at, drop_at}
use mathlib.Core.List.{List, [], ◌∷◌, ◌++◌, append_assoc, append-nil}
use Rattle.std.proofs.Math.ListN.{length, drop, length-drop}
use Rattle.std.proofs.Math.Seq.{take_all}
use borrow.Rule.Slice.PartMut.{put_mid, mid_of}
use Rattle.rules.specs.Basics.{at}
use Rattle.rules.specs.Numbers.{word, low, high, signed, unsigned, centimetres}
use Rattle.rules.specs.Fields.{field}
use Rattle.rules.specs.JobFile.{job_of}
use Rattle.rules.specs.Table.{row_bytes}
use Rattle.levels.specs.Levels.{rounded}
use Rattle.writer.specs.Written.{fixed_bytes, row_with}

-- a job's row is its fixed bytes and its name
pub row-bytes : (start board : ℕ) (v : List ℕ) → 2 ≤ length v → length v ≤ 14
    → row_bytes (row_with start board v) ≡ fixed_bytes (length v + 2) start board (rounded (word (at v 0) (at v 1))) ++ drop 2 v
unfolding row_bytes row_with fixed_bytes field job_of rounded
row-bytes start board v h l =
    let e : low (suc (suc (suc (suc (length (drop 2 v)))))) ≡ length v + 2 = unfold low in omega (arith, length-drop 2 v) in
    let q : high (suc (suc (suc (suc (length (drop 2 v)))))) ≡ 0 = unfold high in omega (arith, length-drop 2 v) in
    λ i. 17 ∷ e i ∷ q i ∷ start ∷ board ∷ low (unsigned (centimetres (signed (word (at v 0) (at v 1)))))
    ∷ high (unsigned (centimetres (signed (word (at v 0) (at v 1))))) ∷ drop 2 v

pub row-length : (start board : ℕ) (v : List ℕ) → 2 ≤ length v → length (row_bytes (row_with start board v)) ≡ length v + 5
unfolding row_bytes row_with field job_of
row-length start board v h = omega (arith, length-drop 2 v)

-- p has w in front of what l had from a on; r is put behind w
pub put-behind : (w r l p q : List ℕ) (a k : ℕ) → length w ≡ a → a + length r ≤ length l → p ≡ w ++ drop a l → k ≡ length p - a
    → q ≡ r ++ drop (length r) (mid_of a k p)
    → put_mid a k p q ≡ (w ++ r) ++ drop (a + length r) l
put-behind w r l p q a k lw fits ep ek eq =
    ap₂ (λ (x y : List ℕ). x ++ y) front (ap₂ (λ (x y : List ℕ). x ++ y) (eq ∙ ap (λ (x : List ℕ). r ++ drop (length r) x) middle) nothing
    ∙ append-nil (r ++ drop (length r) (drop a l)))
    ∙ sym (append_assoc w r (drop (length r) (drop a l))) ∙ ap (λ (x : List ℕ). (w ++ r) ++ x) (drop-drop (length r) a l)
  where
    size : length p ≡ length l
    size = ap length ep ∙ length-append w (drop a l) ∙ omega (arith, length-drop a l)

    front : take a p ≡ w
    front = ap (take a) ep ∙ take_at w (drop a l) a lw

    behind : drop a p ≡ drop a l
    behind = ap (drop a) ep ∙ drop_at w (drop a l) a lw

    middle : mid_of a k p ≡ drop a l
    middle = ap (take k) behind ∙ take_all k (drop a l) (omega (arith, length-drop a l, size))

    nothing : drop k (drop a p) ≡ []
    nothing = let h : length (drop a p) ≤ k = omega (arith, length-drop a p) in drop_of_length-le (drop a p) h

-- ---- the row of a job, put in two pieces: p after the fixed bytes, q what the name is copied to

module _ (start board : ℕ) (v : List ℕ) (long : 3 ≤ length v) where
  name : List ℕ
  name = take (length v - 2) (drop 2 v)

  name-is : name ≡ drop 2 v
  unfolding name
  name-is = take_all (length v - 2) (drop 2 v) (omega (arith, length-drop 2 v))

  pub row-size : (r : ℕ) → r ≡ length (take (length v - 2) (drop 2 v)) → r + 7 ≡ length (row_bytes (row_with start board v))
  unfolding name
  row-size r e = omega (arith, e, ap length name-is, length-drop 2 v, row-length start board v (omega arith))

  pub row_put : (l p q : List ℕ) (level k r n : ℕ) → length v ≤ 14 → 19 ≤ length l → r ≡ length (take (length v - 2) (drop 2 v))
      → level ≡ rounded (word (at v 0) (at v 1))
      → p ≡ fixed_bytes (length v + 2) start board level ++ drop 7 l → k ≡ length p - 7 → n ≡ length (take (length v - 2) (drop 2 v)) → q
      ≡ take n (take (length v - 2) (drop 2 v)) ++ drop n (mid_of 7 k p)
      → put_mid 7 k p q ≡ row_bytes (row_with start board v) ++ drop (r + 7) l
  unfolding name fixed_bytes
  row_put l p q level k r n short fits er el ep ek en eq =
      let size : length (drop 2 v) ≡ n = omega (arith, en, ap length name-is) in
      let last : 7 + length (drop 2 v) ≡ r + 7 = omega (arith, er, en, size) in
      put-behind (fixed_bytes (length v + 2) start board level) (drop 2 v) l p q 7 k refl (omega (arith, length-drop 2 v)) ep ek
      (eq ∙ ap₂ (λ (x y : List ℕ). x ++ y) (take_all n name (omega (arith, en)) ∙ name-is) (ap (λ (m : ℕ). drop m (mid_of 7 k p)) (sym size)))
      ∙ ap₂ (λ (x y : List ℕ). x ++ y) (ap (λ (z : ℕ). fixed_bytes (length v + 2) start board z ++ drop 2 v) el
      ∙ sym (row-bytes start board v (omega arith) short)) (ap (λ (m : ℕ). drop m l) last)

-- The loops that write the job file of a number. Assumes nothing.
use Rattle.std.specs.Prelude.{◌≡◌, true, false, ℕ, ◌+◌, ◌*◌, ◌-◌, ◌/◌, ◌%◌, ◌≤◌, take, drop}
use Rattle.std.proofs.Math.Path.{refl, sym, ap}
use Rattle.std.proofs.Common.{ap₂, ◌∙◌, arith, length-drop, drop_of_length-le, drop-drop}
use mathlib.Core.List.{List, [], ◌∷◌, ◌++◌, append_assoc, append-nil}
use Rattle.std.proofs.Math.ListN.{length}
use borrow.Rule.Slice.PartMut.{put_mid, mid_of, post_of}
use Rattle.rules.specs.Basics.{choose, range, joined}
use Rattle.rules.specs.Fields.{field}
use Rattle.rules.specs.Needs.{Need}
use Rattle.rules.specs.SmallGates.{bit, need_bit, pairs, needs_of, job_field, need_field, gate_file}
use Rattle.laws.specs.Lists.{take_rest}
use Rattle.laws.specs.Counting.{range-below}
use Rattle.laws.specs.Writing.{put, length-put, put-append, put-between, put_front, joined-filter, joined-map, joined_same}
use Rattle.laws.specs.SmallGates.{of-bit}
use Rattle.laws.specs.SmallFiles.{length-needs, length-jobs, gate-file-length}
use Rattle.needsets.specs.Files.{head_bytes, place_bytes}

-- what is written at the front of the part from entry i on is written from entry i on
pub put-part : (i k : ℕ) (xs l ys : List ℕ) → length xs ≡ k → i + k ≤ length l
    → ys ≡ xs ++ drop k (mid_of i (length l - i) l) → put_mid i (length l - i) l ys ≡ put i xs l
put-part i k xs l ys long h e =
    let rest : drop k (mid_of i (length l - i) l) ≡ drop (i + length xs) l =
    ap (drop k) (take_rest i l) ∙ drop-drop k i l ∙ ap (λ (n : ℕ). drop (i + n) l) (sym long) in
    let none : post_of i (length l - i) l ≡ [] = drop_of_length-le (drop i l) {i = length l - i} (omega (arith, length-drop i l)) in
    ap₂ (λ (y z : List ℕ). take i l ++ (y ++ z)) (e ∙ ap (λ (r : List ℕ). xs ++ r) rest) none
    ∙ ap (λ (y : List ℕ). take i l ++ y) (append-nil (xs ++ drop (i + length xs) l)) ∙ sym (put-between i xs l (omega arith))

-- the length of that part
pub part-long : (i : ℕ) (l : List ℕ) → length (mid_of i (length l - i) l) ≡ length l - i
part-long i l = ap length (take_rest i l) ∙ length-drop i l

-- a job takes six bytes, a need five
pub job-size : (i : ℕ) → length (job_field i) ≡ 6
unfolding job_field field
job-size i = refl

pub need-size : (d : Need) → length (need_field d) ≡ 5
unfolding need_field field
need-size d = refl

module _ (n m : ℕ) where
  -- a place with a need, and one without
  pub place-need : (j : ℕ) → bit m j ≡ true → place_bytes n m j ≡ need_field (j / n, j % n)
  unfolding place_bytes choose
  place-need j h = rw h refl

  pub place_none : (j : ℕ) → bit m j ≡ false → place_bytes n m j ≡ []
  unfolding place_bytes choose
  place_none j h = rw h refl

  -- the places give the needs
  pub places-are : joined (place_bytes n m) (range (n * n) 0) ≡ joined need_field (needs_of n m)
  unfolding needs_of pairs place_bytes
  places-are =
      joined_same (place_bytes n m) (λ j. choose (bit m (need_bit n (j / n, j % n))) (need_field (j / n, j % n)) []) (range (n * n) 0)
      (λ j w. ap (λ (i : ℕ). choose (bit m i) (need_field (j / n, j % n)) []) (sym (of-bit n j ((range-below (n * n) j).0 w)).2))
      ∙ sym (joined-map (λ d. choose (bit m (need_bit n d)) (need_field d) []) (λ j. (j / n, j % n)) (range (n * n) 0))
      ∙ sym (joined-filter (λ d. bit m (need_bit n d)) need_field (pairs n))

  -- ---- the whole file

  abbrev job_bytes : List ℕ
  job_bytes = joined job_field (range n 0)

  abbrev need_bytes : List ℕ
  need_bytes = joined need_field (needs_of n m)

  file-parts : gate_file n m ≡ head_bytes n ++ (job_bytes ++ need_bytes)
  unfolding gate_file head_bytes
  file-parts = sym (append_assoc (field 1 (1 ∷ [])) (field 2 (n ∷ [])) (job_bytes ++ need_bytes))

  pub file-size : length (gate_file n m) ≡ 8 + length job_bytes + length need_bytes
  file-size = omega (arith, gate-file-length n m, length-jobs n 0, length-needs (needs_of n m))

  -- header and limit, then the jobs, then the needs
  module _ (file₀ file₁ : List ℕ) (fits : length (gate_file n m) ≤ length file₀) (head : file₁ ≡ head_bytes n ++ drop 8 file₀) where
    head-put : file₁ ≡ put 0 (head_bytes n) file₀
    unfolding head_bytes field
    head-put = head ∙ sym (put_front (head_bytes n) file₀ (omega (arith, file-size, fits)))

    pub head-long : length file₁ ≡ length file₀
    head-long = ap length head-put ∙ length-put 0 (head_bytes n) file₀

    module _ (file₂ : List ℕ) (jobs : file₂ ≡ put 8 job_bytes file₁) where
      pub jobs-long : length file₂ ≡ length file₀
      jobs-long = ap length jobs ∙ length-put 8 job_bytes file₁ ∙ head-long

      pub file-written : (file₃ : List ℕ) → file₃ ≡ put (8 + length job_bytes) need_bytes file₂ → file₃ ≡ gate_file n m ++ drop (length (gate_file n m)) file₀
      unfolding head_bytes field
      file-written file₃ needs =
          needs ∙ ap (put (8 + length job_bytes) need_bytes) (jobs ∙ ap (put 8 job_bytes) head-put)
          ∙ sym (put-append 8 job_bytes need_bytes (put 0 (head_bytes n) file₀)) ∙ sym (put-append 0 (head_bytes n) (job_bytes ++ need_bytes) file₀)
          ∙ ap (λ (xs : List ℕ). put 0 xs file₀) (sym file-parts) ∙ put_front (gate_file n m) file₀ fits

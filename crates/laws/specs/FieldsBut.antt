-- A job file with fields left out: its bytes, its length, and how it is read beside the whole file. Assumes nothing.
use Rattle.std.specs.Prelude.{◌≡◌, Bool, true, false, take, T, leb, ltb}
use Rattle.std.proofs.Math.Path.{refl, ap}
use Rattle.std.proofs.Common.{sym, ◌∙◌}
use mathlib.Core.List.{List, [], ◌∷◌, ◌++◌}
use Prim.Native.Nat.{ℕ, zero, suc, ◌+◌, ◌-◌, ◌≤◌, ◌<◌}
use native.Mathlib.Omega.{arith}
use Rattle.std.proofs.Math.ListN.{length, drop, length-append, length-take, length-drop}
use Rattle.std.proofs.Math.Seq.{drop-cons}
use Rattle.rules.specs.Sizes.{max_file}
use Rattle.rules.specs.Basics.{choose, at}
use Rattle.rules.specs.Numbers.{Bytes, word, low, high}
use Rattle.rules.specs.Fields.{Answer, got, after, part, field, field_end, value, whole, over_fields, fields_but}
use Rattle.rules.specs.JobFile.{JobFile, read_field, no_fields, complete, read_file}
use Rattle.laws.specs.Tests.{T-leb, by-choice}
use Rattle.laws.specs.Numbers.{bytes-at, bytes-join, bytes_take, bytes_drop, split-word}
use Rattle.laws.specs.Fields.{ask-got, after-got, GotBeside, got-beside, ask-beside, after-beside, whole_is, after-head, length-value}
use Rattle.laws.specs.FileParts.{read_from, ask_field, read_from-field}

-- ---- a whole field

module _ (bs : List ℕ) (bytes : Bytes bs) (a : ℕ) (h : T (whole bs a)) where
  -- its head says how long its value is
  pub head-length : (length (value bs a) < 65536) × (low (length (value bs a)) ≡ at bs (a + 1)) × (high (length (value bs a)) ≡ at bs (a + 2))
  unfolding field_end
  head-length =
      let w = split-word (at bs (a + 1)) (at bs (a + 2)) (bytes-at bs bytes (a + 1)) (bytes-at bs bytes (a + 2)) in
      let e : length (value bs a) ≡ word (at bs (a + 1)) (at bs (a + 2)) = omega (arith, length-value bs a h) in
      rw e (w.2, w.0, w.1)

  -- its bytes are those of the field with its tag and its value
  pub field_is : part bs a (field_end bs a) ≡ field (at bs a) (value bs a)
  unfolding part field value
  field_is =
      let w = (whole_is bs a).0 h in
      let size : field_end bs a - a ≡ suc (suc (suc (field_end bs a - (a + 3)))) = omega (arith, after-head bs a) in
      let head = head-length in
      rw (head.1, head.2, size, next a (a + 1) (omega arith), next (a + 1) (a + 2) (omega arith), next (a + 2) (a + 3) (omega arith)) refl
    where
      next : (i j : ℕ) → (j ≡ suc i) × (i < length bs) → drop i bs ≡ at bs i ∷ drop j bs
      next i j (e, l) = drop-cons bs i 0 l ∙ ap (λ (k : ℕ). at bs i ∷ drop k bs) (sym e)

-- ---- the bytes that are left

module _ (out : ℕ → Bool) (bs : List ℕ) where
  -- they are bytes
  pub fields_but-bytes : Bytes bs → (k a : ℕ) → Bytes (fields_but out k bs a)
  unfolding fields_but part
  fields_but-bytes bytes zero a = tt
  fields_but-bytes bytes (suc k) a =
      let rest = fields_but-bytes bytes k (field_end bs a) in
      by-choice Bytes (ltb a (length bs)) (λ _. by-choice Bytes (out a) (λ _. rest) (λ _.
      bytes-join (part bs a (field_end bs a)) _ (bytes_take (field_end bs a - a) (drop a bs) (bytes_drop a bs bytes)) rest)) (λ _. tt)

  -- there are no more of them than before
  fields_but-length : (k a : ℕ) → length (fields_but out k bs a) ≤ length bs - a
  unfolding fields_but part
  fields_but-length zero a = omega arith
  fields_but-length (suc k) a =
      let rest = fields_but-length k (field_end bs a) in
      let size = length-take (field_end bs a - a) (drop a bs) in
      by-choice (λ (l : List ℕ). length l ≤ length bs - a) (ltb a (length bs)) (λ _. by-choice (λ (l : List ℕ). length l ≤ length bs - a) (out a)
      (λ _. omega (arith, after-head bs a))
      (λ _. omega (arith, after-head bs a, size, length-drop a bs, length-append (take (field_end bs a - a) (drop a bs)) (fields_but out k bs (field_end bs a)))))
      (λ _. omega arith)

-- ---- two readings in step, one of all fields and one of those that are left, the first not refused

module _ (out : ℕ → Bool) (bs : List ℕ) (bytes : Bytes bs) (R : JobFile → JobFile → Type 0)
    (left_out : (s t u : JobFile) (a : ℕ) → T (out a) → R s t → ask_field s (at bs a) (value bs a) ≡ got u → R u t)
    (kept : (s t u : JobFile) (a : ℕ) → (T (out a) → ⊥) → R s t → ask_field s (at bs a) (value bs a) ≡ got u
    → GotBeside R u (ask_field t (at bs a) (value bs a))) where
  -- where each field that is left out and each that is kept keep R between them, so do all
  fields_but-beside : (k a : ℕ) (s t u : JobFile) → R s t → over_fields (read_field bs) k bs a s ≡ got u → GotBeside R u (read_from (fields_but out k bs a) 0 t)
  unfolding over_fields fields_but choose read_field
  fields_but-beside zero a s t u r e = got-beside R s t r e
  fields_but-beside (suc k) a s t u r e = go (ltb a (length bs)) e (λ x y. fields_but-beside k (field_end bs a) x y u)
    where
      rest : JobFile → Answer JobFile
      rest = over_fields (read_field bs) k bs (field_end bs a)

      behind : List ℕ
      behind = fields_but out k bs (field_end bs a)

      go : (b : Bool) → choose b (after (read_field bs s a) rest) (got s) ≡ got u
          → ((x y : JobFile) → R x y → rest x ≡ got u → GotBeside R u (read_from behind 0 y))
          → GotBeside R u (read_from (choose b (choose (out a) behind (part bs a (field_end bs a) ++ behind)) []) 0 t)
      go false e next = got-beside R s t r e
      go true e next =
          let w = after-got (read_field bs s a) rest u e in
          let q = ask-got (whole bs a) 3 _ w.0 w.1 in
          by-choice (λ (l : List ℕ). GotBeside R u (read_from l 0 t)) (out a) (λ o. next w.0 t (left_out s t w.0 a o r q.1) w.2) (λ o.
          rw (field_is bs bytes a q.0, read_from-field (at bs a) (value bs a) behind (head-length bs bytes a q.0).0 t)
          (after-beside R (read_field bs s a) (ask_field t (at bs a) (value bs a)) rest (read_from behind 0)
          (λ x h. kept s t x a o r (ask-got (whole bs a) 3 _ x h).1) next e))

  -- so a readable file is readable with these fields left out, where R holds at the start and question 10 keeps it
  pub read_file-but : R no_fields no_fields → ((s t u : JobFile) → R s t → complete s ≡ got u → GotBeside R u (complete t))
      → (f : JobFile) → read_file bs ≡ got f → GotBeside R f (read_file (fields_but out (length bs) bs 0))
  unfolding read_file
  read_file-but start end f =
      ask-beside R (leb (length bs) max_file) (leb (length left) max_file) 2
      (λ h. (T-leb (length left) max_file).1 (omega (arith, (T-leb (length bs) max_file).0 h, fields_but-length out bs (length bs) 0)))
      (after-beside R (over_fields (read_field bs) (length bs) bs 0 no_fields) (read_from left 0 no_fields) complete complete
      (λ x. fields_but-beside (length bs) 0 no_fields no_fields x start) (λ x y. end x y f))
    where
      left : List ℕ
      left = fields_but out (length bs) bs 0

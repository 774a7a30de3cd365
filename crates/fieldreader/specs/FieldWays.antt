-- The ways out of the field reader, by what it has tested. Assumes nothing.
use Rattle.std.specs.Prelude.{◌≡◌, ◌≢◌, Bool, true, false, ◌&&◌, leb, List, ℕ, ◌+◌, ◌-◌, ◌*◌, ◌<◌, length, T, Some, None, Ok, Err}
use Rattle.std.proofs.Common.{⊎_elim, refl, sym, ap, ◌∙◌, arith}
use Rattle.rules.specs.Basics.{choose, at}
use Rattle.rules.specs.Numbers.{word}
use Rattle.rules.specs.Fields.{field_end, value, whole}
use Rattle.rules.specs.JobFile.{field_row, known_tag, in_place, length_ok}
use Rattle.laws.specs.Tests.{T_true, T_false, tests}
use Rattle.laws.specs.JobFile.{known_is}
use Rattle.laws.specs.Fields.{whole_is, length-value}
use Rattle.refusals.specs.declared.Refusal.TheVariants.{CutField, UnknownTag, MisplacedTag, BadValue}
use Rattle.fieldreader.specs.declared.FieldRow.{FieldRow}
use Rattle.fieldreader.specs.Reader.{as_row, row_of, field_at}

-- a known tag that is none of 1 to 6
pub last-tag : (tag : ℕ) → tag ≢ 1 → tag ≢ 2 → tag ≢ 3 → tag ≢ 4 → tag ≢ 5 → tag ≢ 6 → T (known_tag tag) → 9 ≡ tag
last-tag tag a b c d e f t = ⊎_elim (λ w. absurd (omega arith)) sym ((known_is tag).0 t)

-- a tag that has no row is not known
pub no-row : (tag : ℕ) → row_of tag ≡ None → known_tag tag ≡ false
unfolding row_of choose
no-row tag e = go (known_tag tag) e
  where
    go : (b : Bool) → choose b (Some (as_row (field_row tag))) None ≡ None → b ≡ false
    go true e = absurd (let z : ◌≡◌ {A = ℕ} 0 1 = cc in omega arith)
    go false e = refl

-- and one that has a row is
pub has-row : (tag : ℕ) (r : FieldRow) → row_of tag ≡ Some r → (known_tag tag ≡ true) × (as_row (field_row tag) ≡ r)
unfolding row_of choose
has-row tag r e = go (known_tag tag) e
  where
    go : (b : Bool) → choose b (Some (as_row (field_row tag))) None ≡ Some r → (b ≡ true) × (as_row (field_row tag) ≡ r)
    go true e = (refl, cc)
    go false e = absurd (let z : ◌≡◌ {A = ℕ} 0 1 = cc in omega arith)

module _ (bs : List ℕ) (a k : ℕ) where
  pub not-whole : whole bs a ≡ false → Err CutField ≡ field_at bs a k
  unfolding field_at choose
  not-whole w = simp w

  -- no room for the head
  pub short-head : a < length bs → length bs - a < 3 → Err CutField ≡ field_at bs a k
  short-head h l = not-whole (T_false (whole bs a) (λ t. omega (arith, (whole_is bs a).0 t)))

  -- or for the value: x and y are the bytes of the length
  pub short-value : (x y : ℕ) → x ≡ at bs (a + 1) → y ≡ at bs (a + 2) → length bs - (a + 3) < x + 256 * y → Err CutField ≡ field_at bs a k
  unfolding field_end word
  short-value x y ex ey l = not-whole (T_false (whole bs a) (λ t. omega (arith, (whole_is bs a).0 t, ex, ey)))

  module _ (w : whole bs a ≡ true) where
    pub unknown-tag : row_of (at bs a) ≡ None → Err UnknownTag ≡ field_at bs a k
    unfolding field_at choose
    unknown-tag e = let n = no-row (at bs a) e in simp (w, n)

    module _ (r : FieldRow) (row : row_of (at bs a) ≡ Some r) where
      pub misplaced : in_place k (at bs a) ≡ false → Err MisplacedTag ≡ field_at bs a k
      unfolding field_at choose
      misplaced p = let n = (has-row (at bs a) r row).0 in simp (w, n, p)

      module _ (placed : in_place k (at bs a) ≡ true) (len : ℕ) (len_is : len ≡ word (at bs (a + 1)) (at bs (a + 1 + 1))) where
        end_is : field_end bs a ≡ a + 3 + len
        unfolding field_end
        end_is = let next : a + 1 + 1 ≡ a + 2 = omega arith in let e = rw next at len_is in rw e refl

        size_is : length (value bs a) ≡ len
        size_is = omega (arith, length-value bs a ((T_true (whole bs a)).1 w), end_is)

        -- b says whether the row allows the length
        allowed : (b : Bool) → b ≡ leb r.least len && leb len r.greatest → length_ok (at bs a) (length (value bs a)) ≡ b
        unfolding length_ok
        allowed b e = rw size_is (ap (λ (x : FieldRow). leb x.least len && leb len x.greatest) (has-row (at bs a) r row).1 ∙ sym e)

        pub wrong-length : leb r.least len && leb len r.greatest ≡ false → Err BadValue ≡ field_at bs a k
        unfolding field_at choose
        wrong-length e = let n = (has-row (at bs a) r row).0 in let l = allowed false (sym e) in simp (w, n, placed, l)

        pub length-below : len < r.least → Err BadValue ≡ field_at bs a k
        length-below l = wrong-length (T_false (leb r.least len && leb len r.greatest) (λ t. let w = simp tests at t in omega arith))

        pub length_above : r.greatest < len → Err BadValue ≡ field_at bs a k
        length_above l = wrong-length (T_false (leb r.least len && leb len r.greatest) (λ t. let w = simp tests at t in omega arith))

        pub found : leb r.least len && leb len r.greatest ≡ true → Ok (record { tag = at bs a; start = a + 3; end = a + 3 + len }) ≡ field_at bs a k
        unfolding field_at choose
        found e = let n = (has-row (at bs a) r row).0 in let l = allowed true (sym e) in simp (w, n, placed, l, end_is)

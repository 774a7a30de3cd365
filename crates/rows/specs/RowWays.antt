-- The ways out of the readers of the head and of a row, by what they have tested. Assumes nothing.
use Rattle.std.specs.Prelude.{◌≡◌, ◌↔◌, Some, None, Bool, true, false, ◌&&◌, List, ℕ, ◌+◌, ◌-◌, ◌≤◌, ◌<◌, take, drop, T, leb, eqb}
use Rattle.std.proofs.Math.Path.{sym, ap}
use Rattle.std.proofs.Common.{◌∙◌, arith, length-drop, drop-drop}
use borrow.Author.Tests.{eq-eqb, ne_eqb}
use Rattle.std.proofs.Math.ListN.{length}
use Rattle.rules.specs.Basics.{at, all}
use Rattle.rules.specs.Fields.{field_end, value, whole}
use Rattle.rules.specs.JobFile.{name_byte, name_ok}
use Rattle.rules.specs.Table.{head_ok}
use Rattle.laws.specs.Lists.{take_rest}
use Rattle.laws.specs.Tests.{T_and, T-leb, T-eqb, T_true, choose_yes, choose_no}
use Rattle.laws.specs.Fields.{whole_is, after-head, length-value}
use Rattle.laws.specs.Decoded.{is_row}
use Rattle.rows.specs.Rows.{row_answer}

-- ---- the head

module _ (bs : List ℕ) where
  pub head-not-whole : whole bs 0 ≡ false → false ≡ head_ok bs
  unfolding head_ok
  head-not-whole e = simp e

  module _ (w : whole bs 0 ≡ true) where
    pub head_in : 3 ≤ length bs
    head_in = ((whole_is bs 0).0 ((T_true (whole bs 0)).1 w)).0

    pub other-head : (at bs 0 ≡ 16 → ⊥) → false ≡ head_ok bs
    unfolding head_ok
    other-head n = simp (w, ne_eqb (at bs 0) 16 n)

    module _ (tag : at bs 0 ≡ 16) (v : List ℕ) (v-is : v ≡ value bs 0) where
      pub other-size : (length v ≡ 3 → ⊥) → false ≡ head_ok bs
      unfolding head_ok
      other-size n = simp (w, eq-eqb (at bs 0) 16 tag, ne_eqb (length (value bs 0)) 3 (λ e. n (ap length v-is ∙ e)))

      pub edition-in : length v ≡ 3 → 3 < length bs
      edition-in e = let t = (T_true (whole bs 0)).1 w in omega (arith, ap length v-is, length-value bs 0 t, (whole_is bs 0).0 t, after-head bs 0)

      pub edition-by : length v ≡ 3 → eqb (at bs 3) 1 ≡ head_ok bs
      unfolding head_ok
      edition-by e = simp (w, eq-eqb (at bs 0) 16 tag, eq-eqb (length (value bs 0)) 3 (sym (ap length v-is) ∙ e))

-- a table with a head has its six bytes
pub head-long : (bs : List ℕ) → T (head_ok bs) → 6 ≤ length bs
unfolding head_ok
head-long bs h =
    let w = (T_and (whole bs 0) (eqb (at bs 0) 16 && (eqb (length (value bs 0)) 3 && eqb (at bs 3) 1))).0 h in
    let u = (T_and (eqb (at bs 0) 16) (eqb (length (value bs 0)) 3 && eqb (at bs 3) 1)).0 w.1 in
    let s = (T_and (eqb (length (value bs 0)) 3) (eqb (at bs 3) 1)).0 u.1 in
    omega (arith, (T-eqb (length (value bs 0)) 3).0 s.0, length-value bs 0 w.0, (whole_is bs 0).0 w.0, after-head bs 0)

-- ---- a row

-- what it takes to be a row
pub record IsRow (bs : List ℕ) (a : ℕ) : Type 0 where
  pub is_whole : T (whole bs a)
  pub tag : at bs a ≡ 17
  pub sizes : (5 ≤ length (value bs a)) × (length (value bs a) ≤ 16)
  pub name : T (all name_byte (drop 4 (value bs a)))

name-is : (v : List ℕ) → T (name_ok (drop 4 v)) ↔ ((5 ≤ length v) × (length v ≤ 16) × T (all name_byte (drop 4 v)))
unfolding name_ok
name-is v = (
  λ h. let w = (T_and (leb 1 n) (leb n 12 && bytes)).0 h in
      let u = (T_and (leb n 12) bytes).0 w.1 in
      (omega (arith, (T-leb 1 n).0 w.0, length-drop 4 v), omega (arith, (T-leb n 12).0 u.0, length-drop 4 v), u.1),
  λ h. (T_and (leb 1 n) (leb n 12 && bytes)).1 (
    (T-leb 1 n).1 (omega (arith, length-drop 4 v)),
    (T_and (leb n 12) bytes).1 ((T-leb n 12).1 (omega (arith, length-drop 4 v)), h.2),
  ),
)
  where
    n : ℕ
    n = length (drop 4 v)

    bytes : Bool
    bytes = all name_byte (drop 4 v)

pub row_is : (bs : List ℕ) (a : ℕ) → T (is_row bs a) ↔ IsRow bs a
unfolding is_row
row_is bs a = (
  λ h. let w = (T_and (whole bs a) (eqb (at bs a) 17 && name_ok (drop 4 (value bs a)))).0 h in
      let u = (T_and (eqb (at bs a) 17) (name_ok (drop 4 (value bs a)))).0 w.1 in
      let n = (name-is (value bs a)).0 u.1 in
      record { is_whole = w.0; tag = (T-eqb (at bs a) 17).0 u.0; sizes = (n.0, n.1); name = n.2 },
  λ r. (T_and (whole bs a) (eqb (at bs a) 17 && name_ok (drop 4 (value bs a)))).1 (
    r.is_whole,
    (T_and (eqb (at bs a) 17) (name_ok (drop 4 (value bs a)))).1
        ((T-eqb (at bs a) 17).1 r.tag, (name-is (value bs a)).1 (r.sizes.0, r.sizes.1, r.name)),
  ),
)

module _ (bs : List ℕ) (a : ℕ) where
  no_row : (IsRow bs a → ⊥) → None ≡ row_answer bs a
  unfolding row_answer
  no_row n = sym (choose_no (is_row bs a) _ _ (λ t. n ((row_is bs a).0 t)))

  pub row-not-whole : whole bs a ≡ false → None ≡ row_answer bs a
  row-not-whole e = no_row (λ r. rw e at r.is_whole)

  pub other_tag : (at bs a ≡ 17 → ⊥) → None ≡ row_answer bs a
  other_tag n = no_row (λ r. n r.tag)

  -- v is the row's value
  module _ (v : List ℕ) (v-is : v ≡ value bs a) where
    pub row-short : length v < 5 → None ≡ row_answer bs a
    row-short l = no_row (λ r. omega (arith, ap length v-is, r.sizes))

    pub row-long : 16 < length v → None ≡ row_answer bs a
    row-long l = no_row (λ r. omega (arith, ap length v-is, r.sizes))

    -- its name, behind the level
    name-part : drop 2 (take (length v - 2) (drop 2 v)) ≡ drop 4 (value bs a)
    name-part = ap (drop 2) (take_rest 2 v) ∙ drop-drop 2 2 v ∙ ap (drop 4) v-is

    pub bad-name : all name_byte (drop 2 (take (length v - 2) (drop 2 v))) ≡ false → None ≡ row_answer bs a
    bad-name e = no_row (λ r. rw (sym (ap (all name_byte) name-part) ∙ e) at r.name)

    module _ (w : whole bs a ≡ true) where
      pub row_ends : a + 3 + length v ≤ length bs
      row_ends = let t = (T_true (whole bs a)).1 w in omega (arith, ap length v-is, length-value bs a t, (whole_is bs a).0 t, after-head bs a)

      pub row-found : at bs a ≡ 17 → 5 ≤ length v → length v ≤ 16 → all name_byte (drop 2 (take (length v - 2) (drop 2 v))) ≡ true
          → Some (a + 3 + length v) ≡ row_answer bs a
      unfolding row_answer
      row-found t l m e =
          let h = (T_true (whole bs a)).1 w in
          ap Some (omega (arith, ap length v-is, length-value bs a h, after-head bs a))
          ∙ sym (choose_yes (is_row bs a) (Some (field_end bs a)) None
          ((row_is bs a).1 record {
            is_whole = h;
            tag = t;
            sizes = (omega (arith, ap length v-is), omega (arith, ap length v-is));
            name = (T_true
                (all name_byte (drop 4 (value bs a)))).1 (sym (ap (all name_byte) name-part) ∙ e);
          }))

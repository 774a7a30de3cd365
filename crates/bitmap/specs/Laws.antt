-- What callers use of the bitmap: its length, and the marks after one is set and after bytes are cleared. Assumes nothing.
use Rattle.std.specs.Prelude.{◌≡◌, Bool, false, ◌||◌, List, ℕ, ◌*◌, ◌/◌, ◌%◌, ◌^◌, ◌<◌, ◌≤◌, eqb, length, drop, replicate}
use Rattle.std.proofs.Common.{sym, ap, ap₂, subst, ◌∙◌, arith, eq-eqb, ne_eqb, length-set, length-drop, length-append, get_or-set_same, get_or-set_other}
use Rattle.std.proofs.Math.Bool.{or-false}
use Rattle.std.proofs.Math.Decide.{ℕ_discrete}
use Rattle.std.specs.Int.Bits.{bit_or}
use Rattle.std.proofs.lemmas.List.{get_or-replicate, length-replicate}
use Rattle.std.proofs.Math.ListN.{get_or-append}
use Rattle.rules.specs.Basics.{at}
use Rattle.jobset.specs.Sets.{digit, one, union, with, member}
use Rattle.jobset.specs.Membership.{member-with}
use Rattle.jobset.specs.Digits.{digit-zero}
use Rattle.bitmap.specs.Marks.{is_marked, with_mark, cleared}

-- a mark set keeps the length
pub length-with_mark : (l : List ℕ) (k : ℕ) → length (with_mark l k) ≡ length l
unfolding with_mark
length-with_mark l k = length-set l (k / 8) (bit_or (at l (k / 8)) (2 ^ (k % 8)))

-- mark k is set, and every other is as before
pub marked-with_mark : (l : List ℕ) (k j : ℕ) → k < 8 * length l → is_marked (with_mark l k) j ≡ (is_marked l j || eqb j k)
unfolding is_marked with_mark with union one member
marked-with_mark l k j h = go (ℕ_discrete (j / 8) (k / 8)) (ℕ_discrete (j % 8) (k % 8))
  where
    byte : ℕ
    byte = bit_or (at l (k / 8)) (2 ^ (k % 8))

    same : eqb (digit (at (with_mark l k) (k / 8)) (j % 8)) 1 ≡ (eqb (digit (at l (k / 8)) (j % 8)) 1 || eqb (j % 8) (k % 8))
    same =
        ap (λ (n : ℕ). eqb (digit n (j % 8)) 1) (get_or-set_same l (k / 8) byte 0 (omega arith))
        ∙ member-with (record { bits = at l (k / 8) }) (k % 8) (j % 8)

    go : Dec (j / 8 ≡ k / 8) → Dec (j % 8 ≡ k % 8) → eqb (digit (at (with_mark l k) (j / 8)) (j % 8)) 1 ≡ (eqb (digit (at l (j / 8)) (j % 8)) 1 || eqb j k)
    go (yes e) d =
        ap (λ (n : ℕ). eqb (digit (at (with_mark l k) n) (j % 8)) 1) e ∙ same
        ∙ ap₂ (λ (n : ℕ) (b : Bool). eqb (digit (at l n) (j % 8)) 1 || b) (sym e) (place e d)
      where
        place : j / 8 ≡ k / 8 → Dec (j % 8 ≡ k % 8) → eqb (j % 8) (k % 8) ≡ eqb j k
        place e (yes f) = eq-eqb (j % 8) (k % 8) f ∙ sym (eq-eqb j k (omega arith))
        place e (no n) = ne_eqb (j % 8) (k % 8) n ∙ sym (ne_eqb j k (λ p. n (ap (λ (x : ℕ). x % 8) p)))
    go (no n) d =
        ap (λ (x : ℕ). eqb (digit x (j % 8)) 1) (get_or-set_other l (k / 8) (j / 8) byte 0 n)
        ∙ sym (or-false (eqb (digit (at l (j / 8)) (j % 8)) 1))
        ∙ ap (λ (b : Bool). eqb (digit (at l (j / 8)) (j % 8)) 1 || b) (sym (ne_eqb j k (λ p. n (ap (λ (x : ℕ). x / 8) p))))

-- after n bytes are cleared none of their marks is set
pub marked-cleared : (n : ℕ) (l : List ℕ) (k : ℕ) → k < 8 * n → is_marked (cleared n l) k ≡ false
unfolding is_marked cleared
marked-cleared n l k h =
    let e : k / 8 < n = omega arith in
    let f : k / 8 < length {A = ℕ} (replicate n 0) = subst (λ (m : ℕ). k / 8 < m) (sym (length-replicate n 0)) e in
    ap (λ (x : ℕ). eqb (digit x (k % 8)) 1) (get_or-append (replicate n 0) (drop n l) 0 (k / 8) f ∙ get_or-replicate n (k / 8) 0 0 e)
    ∙ ap (λ (d : ℕ). eqb d 1) (digit-zero (k % 8))

-- bytes cleared keep the length
pub length-cleared : (n : ℕ) (l : List ℕ) → n ≤ length l → length (cleared n l) ≡ length l
unfolding cleared
length-cleared n l h = simp (length-append, length-replicate, length-drop) (omega arith)

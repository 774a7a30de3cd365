-- Threes of a list, one after the other. Assumes nothing.
use Rattle.std.specs.Prelude.{◌≡◌, List, ℕ, ◌+◌, ◌*◌, ◌/◌, ◌≤◌, ◌<◌, ◌++◌, length, drop}
use Rattle.std.proofs.Common.{sym, ap, ◌∙◌, arith, drop-drop, length-drop, length-append, get_or-drop}
use Rattle.std.proofs.Math.ListN.{get_or-append}
use Rattle.std.proofs.Math.Seq.{drop-append_seam}
use Rattle.rules.specs.Basics.{at}

module _ (l x r : List ℕ) (i : ℕ) (e : drop (3 * i) l ≡ x ++ r) (h : length x ≡ 3) where
  -- another three is there
  pub three-in : i < length l / 3
  three-in = omega (arith, sym (length-drop (3 * i) l) ∙ ap length e ∙ length-append x r)

  -- its third entry
  pub third : at x 2 ≡ at l (3 * i + 2)
  third = sym (get_or-append x r 0 2 (omega arith)) ∙ ap (λ (k : List ℕ). at k 2) (sym e) ∙ get_or-drop (3 * i) l 2 0

  -- and what follows it
  pub rest-is : drop (3 * (i + 1)) l ≡ r
  rest-is =
      let n : 3 * (i + 1) ≡ 3 * i + length x = omega arith in
      ap (λ (k : ℕ). drop k l) n ∙ sym (drop-drop (length x) (3 * i) l) ∙ ap (drop (length x)) e ∙ drop-append_seam x r

-- the last three is behind
pub threes-end : (l : List ℕ) (i : ℕ) → length (drop (3 * i) l) < 3 → length l / 3 ≤ i
threes-end l i h = omega (arith, length-drop (3 * i) l)

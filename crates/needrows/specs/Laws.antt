-- Rows that are changed: a need more, and a row cleared. Assumes nothing.
use Rattle.std.specs.Prelude.{◌≡◌, Bool, false, ◌&&◌, ◌||◌, List, [], ◌++◌, ℕ, ◌+◌, ◌-◌, ◌*◌, ◌/◌, ◌%◌, ◌<◌, ◌≤◌, take, drop}
use Rattle.std.proofs.Common.{sym, ◌∙◌, append-nil, drop_of_length-le}
use Rattle.std.proofs.Math.Path.{ap, ap₂}
use Rattle.std.proofs.Math.Decide.{dec_lt}
use native.Mathlib.Omega.{arith}
use Rattle.std.proofs.Math.Dec.{eqb}
use Rattle.std.proofs.Math.ListN.{length, length-append, length-drop, get_or-append}
use Rattle.std.proofs.Math.Seq.{length-take-le, get_or-take, get_or-append-add}
use borrow.Rule.Slice.PartMut.{put_mid, mid_of, post_of}
use Rattle.rules.specs.Basics.{at}
use Rattle.rules.specs.Needs.{Need, NeedsIn, givesb, insert_need}
use Rattle.laws.specs.Tests.{tests, T_false, bool-ext}
use Rattle.laws.specs.Lists.{take_rest}
use Rattle.laws.specs.Needs.{insert-gives}
use Rattle.laws.specs.Program.{gives-is}
use Rattle.jobset.specs.Sets.{digit}
use Rattle.bitmap.specs.Marks.{is_marked, with_mark, cleared}
use Rattle.bitmap.specs.Laws.{length-with_mark, marked-with_mark, marked-cleared, length-cleared}
use Rattle.needrows.specs.Rows.{row_bytes, row_bits, without_row, RowsAre}

-- ---- a need more

-- two marks are one where the givers and the takers are
same-mark : (a b g k : ℕ) → b < row_bits → k < row_bits → eqb (row_bits * g + k) (row_bits * a + b) ≡ (eqb a g && eqb b k)
same-mark a b g k h l = bool-ext (eqb (row_bits * g + k) (row_bits * a + b)) (eqb a g && eqb b k)
    (λ t. let e = simp tests at t in simp tests (omega arith))
    (λ t. let e = simp tests at t in simp tests (omega arith))

pub rows-add : (rows : List ℕ) (n : ℕ) (needs : List Need) (a b : ℕ) → row_bytes * a + row_bytes ≤ length rows → b < row_bits → RowsAre rows n needs
    → RowsAre (with_mark rows (row_bits * a + b)) n (insert_need needs (a, b))
rows-add rows n needs a b fits h are g k g-in l =
    marked-with_mark rows (row_bits * a + b) (row_bits * g + k) (omega arith)
    ∙ ap₂ (λ (x y : Bool). x || y) (are g k g-in l) (same-mark a b g k h l) ∙ sym (insert-gives needs (a, b) g k)

-- the number of bytes stays
pub length-add : (rows : List ℕ) (a b : ℕ) → length (with_mark rows (row_bits * a + b)) ≡ length rows
length-add rows a b = length-with_mark rows (row_bits * a + b)

-- ---- a row cleared

-- a part that is cleared at its front and put back
pub part-cleared : (i : ℕ) (l ys : List ℕ) → ys ≡ cleared row_bytes (mid_of i (length l - i) l)
    → put_mid i (length l - i) l ys ≡ take i l ++ cleared row_bytes (drop i l)
part-cleared i l ys e =
    let none : post_of i (length l - i) l ≡ [] = drop_of_length-le (drop i l) {i = length l - i} (omega (arith, length-drop i l)) in
    ap₂ (λ (y z : List ℕ). take i l ++ (y ++ z)) (e ∙ ap (cleared row_bytes) (take_rest i l)) none
    ∙ ap (λ (y : List ℕ). take i l ++ y) (append-nil (cleared row_bytes (drop i l)))

module _ (rows : List ℕ) (job : ℕ) (fits : row_bytes * job + row_bytes ≤ length rows) where
  before : List ℕ
  before = take (row_bytes * job) rows

  behind : List ℕ
  behind = cleared row_bytes (drop (row_bytes * job) rows)

  length_before : length before ≡ row_bytes * job
  unfolding before
  length_before = length-take-le (row_bytes * job) rows (omega arith)

  length-behind : length behind ≡ length rows - row_bytes * job
  unfolding behind
  length-behind = length-cleared row_bytes (drop (row_bytes * job) rows) (omega (arith, length-drop (row_bytes * job) rows)) ∙ length-drop (row_bytes * job) rows

  -- the number of bytes stays
  pub length-without_row : length (without_row rows job) ≡ length rows
  unfolding without_row before behind
  length-without_row = omega (arith, length-append before behind, length_before, length-behind)

  -- the marks before the row stay
  pub marked-before : (k : ℕ) → k < row_bits * job → is_marked (without_row rows job) k ≡ is_marked rows k
  unfolding is_marked without_row before behind
  marked-before k h = ap (λ (x : ℕ). eqb (digit x (k % 8)) 1)
      (get_or-append before behind 0 (k / 8) (omega (arith, length_before)) ∙ get_or-take (row_bytes * job) rows (k / 8) 0 (omega arith))

  -- those of the row are gone
  pub marked_row : (k : ℕ) → k < row_bits → is_marked (without_row rows job) (row_bits * job + k) ≡ false
  unfolding is_marked without_row before behind
  marked_row k h =
      let e : (row_bits * job + k) / 8 ≡ length before + k / 8 = omega (arith, length_before) in
      let f : (row_bits * job + k) % 8 ≡ k % 8 = omega arith in
      ap₂ (λ (x y : ℕ). eqb (digit x y) 1) (ap (at (before ++ behind)) e ∙ get_or-append-add before behind (k / 8) 0) f
      ∙ marked-cleared row_bytes (drop (row_bytes * job) rows) k (omega arith)

-- the row of the next job
pub rows-clear : (rows : List ℕ) (n : ℕ) (needs : List Need) → row_bytes * n + row_bytes ≤ length rows → NeedsIn n needs → RowsAre rows n needs
    → RowsAre (without_row rows n) (n + 1) needs
rows-clear rows n needs fits needs-in are g k g-in l = go (dec_lt g n)
  where
    go : Dec (g < n) → is_marked (without_row rows n) (row_bits * g + k) ≡ givesb needs g k
    go (yes h) = marked-before rows n fits (row_bits * g + k) (omega arith) ∙ are g k h l
    go (no h) =
        let e : g ≡ n = omega arith in
        ap (λ (x : ℕ). is_marked (without_row rows n) (row_bits * x + k)) e ∙ marked_row rows n fits k l
        ∙ sym (T_false (givesb needs g k) (λ t. h (needs-in g k ((gives-is needs g k).0 t)).0))

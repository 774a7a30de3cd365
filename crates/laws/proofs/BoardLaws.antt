-- The boards given keep the rules, are as many as the fullest slot has jobs, and no assignment that keeps the rules has fewer. Assumes nothing.
-- The definitions are in specs/BoardLaws.antt; here are the theorems that depend on what a must-fail edit breaks.
use Rattle.std.specs.Prelude.{◌≡◌, ◌≢◌, ◌↔◌, List, length, replicate}
use Rattle.std.proofs.Common.{arith}
use Prim.Native.Nat.{ℕ, suc, ◌+◌, ◌≤◌, ◌<◌}
use Rattle.std.proofs.Math.Nat.{zero-add}
use Rattle.rules.specs.Basics.{at, count, largest}
use Rattle.rules.specs.Needs.{Need, Gives, NeedsIn}
use Rattle.rules.specs.Program.{slots, Fits, Kept}
use Rattle.rules.specs.Windows.{width}
use Rattle.rules.specs.Boards.{BoardRules, slot_boards, boards, in_slot, fullest, Capped, Runs}
use Rattle.laws.specs.Counting.{most-ge, most-le, at-largest, largest-lt}
use Rattle.laws.specs.BoardRules.{rules-kept, sweep-inv}
use Rattle.laws.specs.BoardWords.{GivenBoards}
use Rattle.laws.specs.BoardStep.{Given, none-given}
use Rattle.laws.proofs.BoardSlots.{slot-given}
use Rattle.laws.specs.BoardLaws.{fullest-least, width-capped, Boarded, apart-capped}

module _ (n : ℕ) (needs : List Need) (needs-in : NeedsIn n needs) (t : List ℕ) (len : length t ≡ n) (kept : Kept (Gives needs) (at t)) where
  all-given : Given n needs t (fullest n t) (slots t) (boards n needs t)
  unfolding boards fullest
  all-given = rw zero-add at (sweep-inv (λ s b. Given n needs t (fullest n t) s b) (slot_boards n needs t) (slots t) 0
      (λ s b _ h g. slot-given n needs needs-in t kept (fullest n t) s (most-ge (λ s. count (in_slot t s) n) (slots t) s (omega arith)) b g)
      (replicate n 0) (none-given n needs t (fullest n t)))

  early : (i : ℕ) → i < n → at t i < slots t
  unfolding slots
  early i h = omega (arith, at-largest t i (omega (arith, len)))

  -- each job has a board
  pub boards-length : length (boards n needs t) ≡ n
  boards-length = all-given.len

  -- boards count from 1
  pub boards-low : (i : ℕ) → i < n → 1 ≤ at (boards n needs t) i
  boards-low i h = all-given.low i h (early i h)

  -- "A job with a giver in the slot before takes that giver's board"
  pub boards-inherit : (g k : ℕ) → Gives needs g k → at t g + 1 ≡ at t k → at (boards n needs t) k ≡ at (boards n needs t) g
  boards-inherit g k a e = all-given.inherits g k a (early k (needs-in g k a).1) e

  -- the boards are given as document 01's words say: "A job with a giver in the slot before takes that giver's board.
  -- The others, in rising number, take the lowest boards left in that slot" (law `boards-exactly`: no other boards are)
  pub boards-given : GivenBoards n needs t (boards n needs t)
  boards-given = record { len = boards-length; handed-on = boards-inherit; others = λ i h k. all-given.lowest i h (early i h) k }

  -- the rules with boards are kept (17, 18)
  pub boards-rules : BoardRules n needs t (boards n needs t)
  boards-rules = record {
    apart = λ i j l k e v. all-given.apart i j l k (early i l) e v;
    same = λ g k a e. kept.later g k a;
    other = λ g k a d. let far : at t g + 1 ≢ at t k = λ e. d (boards-inherit g k a e) in omega (arith, kept.later g k a);
  }

  -- "So boards is the count of the fullest slot"
  pub boards-count : largest (boards n needs t) ≡ fullest n t
  boards-count = omega (
    arith,
    fullest-least n t (boards n needs t) boards-length boards-low boards-rules.apart,
    largest-lt (boards n needs t) (suc (fullest n t)) (omega arith) (λ i h. let l : i < n = omega (arith, boards-length) in
        omega (arith, all-given.bound i l (early i l))),
  )

  -- no boards that keep the rules are fewer
  pub boards-least : (c : List ℕ) → length c ≡ n → ((i : ℕ) → i < n → 1 ≤ at c i) → BoardRules n needs t c → largest (boards n needs t) ≤ largest c
  boards-least c l low rules = omega (arith, boards-count, fullest-least n t c l low rules.apart)

  -- a bound on the jobs of each slot is one on the boards
  boards-at-most : (w : ℕ) → ((s : ℕ) → s < slots t → count (in_slot t s) n ≤ w) → largest (boards n needs t) ≤ w
  unfolding fullest
  boards-at-most w h = omega (arith, boards-count, most-le (λ s. count (in_slot t s) n) (slots t) w h)

  -- so c boards are enough where no slot has more jobs (document 02, request 13)
  pub boards-capped : (c : ℕ) → Capped n c t → largest (boards n needs t) ≤ c
  boards-capped c k = boards-at-most c (λ s _. k.few s)

  -- and the boards: a file of width 8 needs at most 8
  pub boards-width : (L : ℕ) → Fits n L t → largest (boards n needs t) ≤ width n needs L
  boards-width L fits = boards-capped (width n needs L) (width-capped n needs needs-in t len kept L fits)

-- ---- c boards (document 02, request 13; questions 16 to 18)

-- a start list has such boards exactly where it keeps the rules and no slot has more than c jobs
pub boarded-is : (n : ℕ) (needs : List Need) → NeedsIn n needs → (c : ℕ) (t : List ℕ) → length t ≡ n → ((b : List ℕ) × Boarded n needs c t b) ↔ Runs n needs c t
boarded-is n needs needs-in c t len = (
  λ w. let b = w.0 in let k = w.1 in
      record { kept = rules-kept n needs t b needs-in k.rules; capped = apart-capped n c t b k.len k.low k.few k.rules.apart },
  λ r. (
    boards n needs t,
    record {
      len = boards-length n needs needs-in t len r.kept;
      low = boards-low n needs needs-in t len r.kept;
      few = boards-capped n needs needs-in t len r.kept c r.capped;
      rules = boards-rules n needs needs-in t len r.kept;
    },
  ),
)

-- The placing by places gives the boards of the rules. Assumes nothing.
use Rattle.std.specs.Prelude.{◌≡◌, take}
use Rattle.std.proofs.Math.Path.{sym, ap}
use Rattle.std.proofs.Common.{◌∙◌, length-take, get_or-take}
use mathlib.Core.List.{List}
use Prim.Native.Nat.{ℕ, zero, suc, ◌≤◌, ◌<◌}
use Rattle.std.proofs.Math.Decide.{dec_lt}
use native.Mathlib.Omega.{arith}
use Rattle.std.proofs.Math.ListN.{length-replicate, get_or-eq_default}
use Rattle.rules.specs.Sizes.{max_jobs}
use Rattle.rules.specs.Basics.{at, most, largest}
use Rattle.rules.specs.Needs.{Need}
use Rattle.rules.specs.Boards.{boards}
use Rattle.laws.specs.Counting.{most-ge, most-le, at-largest, largest-lt}
use Rattle.laws.specs.Lists.{zeros-at}
use Rattle.laws.specs.BoardWords.{GivenBoards, lowest-same}
use Rattle.laws.proofs.BoardLaws.{boards-length}
use Rattle.laws.proofs.BoardsOnly.{boards-only}
use Rattle.layout.specs.Layout.{tables_in}
use Rattle.slotboards.specs.Placing.{place_slots, blank, Placeable, Plan, Boarded}
use Rattle.slotboards.specs.Near.{in-slots}
use Rattle.slotboards.specs.SlotLaws.{Given, slot-given}

module _ {n : ℕ} {words path : List ℕ} {count : ℕ} (P : Plan n words path count) where
  open P use {needs, able}

  -- the start list
  abbrev pub t : List ℕ
  t = P.starts

  -- slot by slot
  pub slots-given : (s : ℕ) → s ≤ count → Given n needs t s (place_slots (tables_in words) path s blank)
  unfolding place_slots blank
  slots-given zero l = record {
    size = length-replicate {A = ℕ} max_jobs 0;
    small = λ x. omega (arith, zeros-at max_jobs x);
    behind = λ i k. zeros-at max_jobs i;
    handed = λ g i b k e. absurd (omega arith);
    lowest = λ i k v w. absurd (omega arith);
  }
  slots-given (suc s) l = slot-given P s l (place_slots (tables_in words) path s blank) (slots-given s (omega arith))

  -- all slots
  out : List ℕ
  out = place_slots (tables_in words) path count blank

  out-given : Given n needs t count out
  unfolding out
  out-given = slots-given count (omega arith)

  out-take : (i : ℕ) → i < n → at (take n out) i ≡ at out i
  out-take i l = get_or-take n out i 0 l

  -- the boards of the jobs are given as the words say
  out-words : GivenBoards n needs t (take n out)
  out-words = record {
    len = let few = able.few in length-take n out ∙ omega (arith, out-given.size);
    handed-on = λ g k a e. let w = able.needs-in g k a in
        out-take k w.1 ∙ out-given.handed g k a (in-slots P k w.1) e ∙ sym (out-take g w.0);
    others = λ i l k. let w = out-given.lowest i l (in-slots P i l) k in
        rw (out-take i l) (lowest-same n needs t out (take n out) i (at out i) (λ j v _ _. sym (out-take j v)) w);
  }

  -- so they are those of the rules, and 0 behind them
  pub board-is : (i : ℕ) → at (place_slots (tables_in words) path count blank) i ≡ at (boards n needs t) i
  unfolding out
  board-is i = go (dec_lt i n)
    where
      go : Dec (i < n) → at out i ≡ at (boards n needs t) i
      go (yes l) = sym (out-take i l) ∙ ap (λ (b : List ℕ). at b i) (boards-only n needs able.needs-in t able.len able.kept (take n out) out-words)
      go (no l) =
          let len = boards-length n needs able.needs-in t able.len able.kept in
          out-given.behind i (omega arith) ∙ sym (get_or-eq_default (boards n needs t) 0 {n = i} (omega arith))

  -- the largest
  pub count-is : most (at (place_slots (tables_in words) path count blank)) n ≡ largest (boards n needs t)
  unfolding out
  count-is = let len = boards-length n needs able.needs-in t able.len able.kept in omega (
    arith,
    most-le (at out) n (largest (boards n needs t)) (λ i l. omega (arith, board-is i, at-largest (boards n needs t) i (omega arith))),
    largest-lt (boards n needs t) (suc (most (at out) n)) (omega arith) (λ i l. omega (arith, board-is i, most-ge (at out) n i (omega arith))),
  )

-- for every needs and starts
pub boarded : (n : ℕ) (words path : List ℕ) (count : ℕ) (a : List ℕ) (largest-is : ℕ) → a ≡ place_slots (tables_in words) path count blank
    → largest-is ≡ most (at a) n → Boarded n words path count largest-is a
boarded n words path count a largest-is e f = record {
  count-is = λ needs t h. f ∙ (rw e (count-is (plan needs t h)));
  board-is = λ needs t h i. rw e (board-is (plan needs t h) i);
}
  where
    plan : (needs : List Need) (t : List ℕ) → Placeable n needs t words path count → Plan n words path count
    plan needs t h = record { needs = needs; starts = t; able = h }

-- The name bytes of a value, one after the other. Assumes nothing.
use Rattle.std.specs.Prelude.{◌≡◌, true, false, ◌&&◌, List, ℕ, ◌+◌, ◌≤◌, ◌<◌, length, drop}
use Rattle.std.proofs.Common.{arith, add-one, drop_of_length-le}
use borrow.Author.Tests.{le-leb, lt-leb}
use Rattle.std.proofs.Math.Seq.{drop-cons}
use Rattle.rules.specs.Basics.{at, all}
use Rattle.rules.specs.JobFile.{name_byte}

module _ (v : List ℕ) (i : ℕ) (h : i < length v) where
  -- the byte at i, and those behind it
  name-from : all name_byte (drop i v) ≡ name_byte (at v i) && all name_byte (drop (i + 1) v)
  unfolding all
  name-from = rw (add-one, drop-cons v i 0 h)

  pub low_byte : at v i < 33 → all name_byte (drop i v) ≡ false
  unfolding name_byte
  low_byte l = rw (name-from, lt-leb 33 (at v i) l)

  pub high_byte : 126 < at v i → all name_byte (drop i v) ≡ false
  unfolding name_byte
  high_byte l = rw (name-from, lt-leb (at v i) 126 l, le-leb 33 (at v i) (omega arith))

  pub name-byte : 33 ≤ at v i → at v i ≤ 126 → all name_byte (drop i v) ≡ all name_byte (drop (i + 1) v)
  unfolding name_byte
  name-byte l m = rw (name-from, le-leb 33 (at v i) l, le-leb (at v i) 126 m)

pub name-end : (v : List ℕ) (i : ℕ) → length v ≤ i → all name_byte (drop i v) ≡ true
unfolding all
name-end v i h = rw (drop_of_length-le v h)

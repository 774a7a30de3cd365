-- The array of tables: how large its numbers are, and what each step of the code writes into it. Assumes nothing.
use Rattle.std.specs.Prelude.{◌≡◌, List, length, set}
use Rattle.std.proofs.Math.Path.{refl}
use Rattle.std.proofs.Common.{ap, ◌∙◌, arith, get_or-set_same}
use Prim.Native.Nat.{ℕ, zero, suc, ◌+◌, ◌*◌, ◌≤◌, ◌<◌}
use Rattle.std.proofs.Math.Decide.{dec_lt, ℕ_discrete}
use Rattle.std.proofs.Math.ListN.{length-set}
use Rattle.std.proofs.Math.Seq.{set_out, get_or-set_other}
use Rattle.rules.specs.Sizes.{max_width, max_limit}
use Rattle.rules.specs.Basics.{at}
use Rattle.jobset.specs.declared.Set.{Set}
use Rattle.jobset.specs.Sets.{set_at, with}
use Rattle.layout.specs.Layout.{held_at, ends_at, marks_at, prev_at, who_at, slots_at, three_at, table_words, ThreesIn, place_sets}
use Rattle.threes.specs.Threes.{entry}
use Rattle.jobset.specs.Bounds.{with-lt}
use Rattle.seats.specs.Bytes.{same_set}

-- what holds of the new number, where it is read, and of the old one, holds of what stands there
pub at_set : (P : ℕ → Type 0) (l : List ℕ) (k v j : ℕ) → (j ≡ k → P v) → P (at l j) → P (at (set l k v) j)
at_set P l k v j f g = go (ℕ_discrete j k) (dec_lt k (length l))
  where
    go : Dec (j ≡ k) → Dec (k < length l) → P (at (set l k v) j)
    go (yes e) (yes h) = rw (e, get_or-set_same l k v 0 h) (f e)
    go (yes e) (no h) = rw (set_out l k v (omega arith)) g
    go (no e) d = rw (get_or-set_other l k j v 0 e) g

-- ---- how large the numbers are

-- sets of places below 8 are numbers below 256, jobs are below n; and the base-three numbers stand in their region
pub record Small (n : ℕ) (words : List ℕ) : Type 0 where
  pub len : length words ≡ table_words
  pub sets : (k : ℕ) → k < marks_at → at words k < place_sets
  pub prevs : (k : ℕ) → prev_at ≤ k → k < who_at → at words k < place_sets
  pub jobs : (k : ℕ) → who_at ≤ k → k < slots_at → at words k < n
  pub threes : ThreesIn words

pub small-set : (n : ℕ) (words : List ℕ) (k v : ℕ) → Small n words → k < three_at → (k < marks_at → v < place_sets)
    → (prev_at ≤ k → k < who_at → v < place_sets) → (who_at ≤ k → k < slots_at → v < n) → Small n (set words k v)
small-set n words k v s t a b c = record {
  len = length-set words k v ∙ s.len;
  sets = λ j h. at_set (λ x. x < place_sets) words k v j (λ e. a (omega arith)) (s.sets j h);
  prevs = λ j h l. at_set (λ x. x < place_sets) words k v j (λ e. b (omega arith) (omega arith)) (s.prevs j h l);
  jobs = λ j h l. at_set (λ x. x < n) words k v j (λ e. c (omega arith) (omega arith)) (s.jobs j h l);
  threes = λ b h. get_or-set_other words k (three_at + b) v 0 (λ e. omega arith) ∙ s.threes b h;
}

-- ---- a row of numbers

-- f p is written at `to` + p, for each p below m
unfoldable pub with_row : ℕ → (ℕ → ℕ) → ℕ → List ℕ → List ℕ
with_row to f zero words = words
with_row to f (suc m) words = set (with_row to f m words) (to + m) (f m)

module _ (to : ℕ) (f : ℕ → ℕ) (words : List ℕ) where
  pub length-row : (m : ℕ) → length (with_row to f m words) ≡ length words
  unfolding with_row
  length-row zero = refl
  length-row (suc m) = length-set (with_row to f m words) (to + m) (f m) ∙ length-row m

  pub row_other : (m k : ℕ) → ((p : ℕ) → p < m → ¬ (k ≡ to + p)) → at (with_row to f m words) k ≡ at words k
  unfolding with_row
  row_other zero k n = refl
  row_other (suc m) k n = get_or-set_other (with_row to f m words) (to + m) k (f m) 0 (n m (omega arith)) ∙ row_other m k (λ p h. n p (omega arith))

  pub row_at : (m p : ℕ) → p < m → to + m ≤ length words → at (with_row to f m words) (to + p) ≡ f p
  unfolding with_row
  row_at zero p h l = absurd (omega arith)
  row_at (suc m) p h l = go (ℕ_discrete p m) (λ q. row_at m p q (omega arith))
    where
      go : Dec (p ≡ m) → (p < m → at (with_row to f m words) (to + p) ≡ f p) → at (set (with_row to f m words) (to + m) (f m)) (to + p) ≡ f p
      go (yes e) r = rw e (get_or-set_same (with_row to f m words) (to + m) (f m) 0 (omega (arith, length-row m)))
      go (no e) r = get_or-set_other (with_row to f m words) (to + m) (to + p) (f m) 0 (λ z. e (omega arith)) ∙ r (omega arith)

  -- from the givers of jobs on
  pub small_row : (n m : ℕ) → Small n words → marks_at ≤ to → to + m ≤ three_at → ((p : ℕ) → p < m → prev_at ≤ to + p → to + p < who_at → f p < place_sets)
      → ((p : ℕ) → p < m → who_at ≤ to + p → to + p < slots_at → f p < n) → Small n (with_row to f m words)
  unfolding with_row
  small_row n zero s a t g j = s
  small_row n (suc m) s a t g j =
      small-set n (with_row to f m words) (to + m) (f m) (small_row n m s a (omega arith) (λ p h. g p (omega arith)) (λ p h. j p (omega arith)))
      (omega arith) (λ l. absurd (omega arith)) (g m (omega arith)) (j m (omega arith))

-- the base-three numbers of all bytes
unfoldable pub with_threes : List ℕ → List ℕ
with_threes words = with_row three_at entry place_sets words

-- ---- one place more in a set

unfoldable pub with_place : List ℕ → ℕ → ℕ → List ℕ
with_place words k p = set words k (with (set_at words k) p).bits

pub length-place : (words : List ℕ) (k p : ℕ) → length (with_place words k p) ≡ length words
unfolding with_place
length-place words k p = length-set words k (with (set_at words k) p).bits

pub place_same : (words : List ℕ) (k p : ℕ) → k < length words → set_at (with_place words k p) k ≡ with (set_at words k) p
unfolding with_place
place_same words k p h = same_set (get_or-set_same words k (with (set_at words k) p).bits 0 h)

pub place_other : (words : List ℕ) (k p j : ℕ) → ¬ (j ≡ k) → at (with_place words k p) j ≡ at words j
unfolding with_place
place_other words k p j n = get_or-set_other words k j (with (set_at words k) p).bits 0 n

pub small-place : (n : ℕ) (words : List ℕ) (k p : ℕ) → Small n words → k < marks_at → p < max_width → Small n (with_place words k p)
unfolding with_place
small-place n words k p s h l = small-set n words k (with (set_at words k) p).bits s (omega arith) (λ _. with-lt max_width (set_at words k) p (s.sets k h) l)
    (λ a b. absurd (omega arith)) (λ a b. absurd (omega arith))

-- ---- a job takes a place

-- in slot `slot`, at place p, until its window ends with `last`; `givers` are the places of its givers
unfoldable pub seated : List ℕ → ℕ → ℕ → ℕ → ℕ → ℕ → List ℕ
seated words slot job p last givers = set (set (with_place (with_place words (held_at + slot) p) (ends_at + last) p) (prev_at + max_width * slot + p) givers)
    (who_at + max_width * slot + p) job

-- what then stands where
pub record Seated (n : ℕ) (words : List ℕ) (slot job p last givers : ℕ) (after : List ℕ) : Type 0 where
  pub small : Small n after
  pub held : set_at after (held_at + slot) ≡ with (set_at words (held_at + slot)) p
  pub ends : set_at after (ends_at + last) ≡ with (set_at words (ends_at + last)) p
  pub prev : at after (prev_at + max_width * slot + p) ≡ givers
  pub who : at after (who_at + max_width * slot + p) ≡ job
  pub other : (k : ℕ) → ¬ (k ≡ held_at + slot) → ¬ (k ≡ ends_at + last) → ¬ (k ≡ prev_at + max_width * slot + p) → ¬ (k ≡ who_at + max_width * slot + p)
      → at after k ≡ at words k

pub seated-is : (n : ℕ) (words : List ℕ) (slot job p last givers : ℕ) → Small n words → slot < max_limit → last ≤ max_limit → p < max_width → job < n
    → givers < place_sets
    → Seated n words slot job p last givers (seated words slot job p last givers)
unfolding seated
seated-is n words slot job p last givers s a b c d e = record {
  small = small-set n three (who_at + max_width * slot + p) job (small-set n two (prev_at + max_width * slot + p) givers
      (small-place n one (ends_at + last) p (small-place n words (held_at + slot) p s (omega arith) c) (omega arith) c) (omega arith)
      (λ h. e) (λ h l. e) (λ h l. absurd (omega arith))) (omega arith) (λ h. absurd (omega arith)) (λ h l. absurd (omega arith)) (λ h l. d);
  held = same_set (past4 (held_at + slot) (λ z. omega arith) ∙ past3 (held_at + slot) (λ z. omega arith) ∙ past2 (held_at + slot) (λ z. omega arith))
      ∙ place_same words (held_at + slot) p (omega (arith, s.len));
  ends = same_set (past4 (ends_at + last) (λ z. omega arith) ∙ past3 (ends_at + last) (λ z. omega arith)) ∙ place_same one (ends_at + last) p
      (omega (arith, s.len, length-place words (held_at + slot) p))
      ∙ ap (λ (S : Set). with S p) (same_set (past1 (ends_at + last) (λ z. omega arith)));
  prev = past4 (prev_at + max_width * slot + p) (λ z. omega arith) ∙ get_or-set_same two (prev_at + max_width * slot + p) givers 0
      (omega (arith, s.len, length-place words (held_at + slot) p, length-place one (ends_at + last) p));
  who = get_or-set_same three (who_at + max_width * slot + p) job 0
      (omega (
        arith,
        s.len,
        length-place words (held_at + slot) p,
        length-place one (ends_at + last) p,
        length-set two (prev_at + max_width * slot + p) givers,
      ));
  other = λ k h l m r. past4 k r ∙ past3 k m ∙ past2 k l ∙ past1 k h;
}
  where
    one : List ℕ
    one = with_place words (held_at + slot) p

    two : List ℕ
    two = with_place one (ends_at + last) p

    three : List ℕ
    three = set two (prev_at + max_width * slot + p) givers

    past1 : (k : ℕ) → ¬ (k ≡ held_at + slot) → at one k ≡ at words k
    past1 k = place_other words (held_at + slot) p k

    past2 : (k : ℕ) → ¬ (k ≡ ends_at + last) → at two k ≡ at one k
    past2 k = place_other one (ends_at + last) p k

    past3 : (k : ℕ) → ¬ (k ≡ prev_at + max_width * slot + p) → at three k ≡ at two k
    past3 k = get_or-set_other two (prev_at + max_width * slot + p) k givers 0

    past4 : (k : ℕ) → ¬ (k ≡ who_at + max_width * slot + p) → at (set three (who_at + max_width * slot + p) job) k ≡ at three k
    past4 k = get_or-set_other three (who_at + max_width * slot + p) k job 0

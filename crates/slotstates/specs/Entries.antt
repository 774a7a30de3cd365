-- "The number of a slot is the entry for done or running plus the entry for running" (document 02, request 11). Assumes nothing.
use Rattle.std.specs.Prelude.{◌≡◌, refl, ◌↔◌, ◌⊎◌, true, ℕ, zero, suc, ◌+◌, ◌≤◌, ◌<◌, length}
use Rattle.std.proofs.Common.{sym, ap, ◌∙◌, inr, arith}
use Rattle.std.proofs.Math.Logic.{inl, ⊎_elim}
use mathlib.Core.List.{List, [], ◌∷◌}
use Rattle.std.proofs.Math.Decide.{dec_lt, ℕ_discrete}
use Rattle.rules.specs.Sizes.{max_width}
use Rattle.rules.specs.Basics.{at}
use Rattle.rules.specs.Needs.{Need}
use Rattle.rules.specs.Windows.{width}
use Rattle.rules.specs.States.{held_jobs, state_digits, state_number}
use Rattle.laws.specs.States.{held-few}
use Rattle.jobset.specs.declared.Set.{Set}
use Rattle.jobset.specs.Sets.{member, empty, with}
use Rattle.jobset.specs.Membership.{member-empty, with-same, with-other}
use Rattle.jobset.specs.Tests.{present}
use Rattle.threes.specs.Threes.{entry, number_of}
use Rattle.slotstates.specs.declared.Ranks.{Ranks}
use Rattle.slotstates.specs.Ranks.{no_ranks, ranked, ranked_all, ranked-later, ranked-earlier, ranked-now, ranked-count}
use Rattle.slotstates.specs.Ranks.{none-counted, none_number, number-all, counted-fit}

-- ---- one job more

-- the set R has the members of S, and i exactly where P holds
abbrev Adds : Set → Set → ℕ → Type 0 → Type 0
Adds S R i P = (k : ℕ) → (member R k ≡ true) ↔ ((member S k ≡ true) ⊎ ((k ≡ i) × P))

adds-yes : (S R : Set) (i : ℕ) {P : Type 0} → R ≡ with S i → P → Adds S R i P
adds-yes S R i {P} e p k = rw e (go (ℕ_discrete k i))
  where
    go : Dec (k ≡ i) → (member (with S i) k ≡ true) ↔ ((member S k ≡ true) ⊎ ((k ≡ i) × P))
    go (yes q) = (λ _. inr (q, p), λ _. rw q (with-same S i))
    go (no n) = (λ m. inl (sym (with-other S i k n) ∙ m), λ w. ⊎_elim (λ m. with-other S i k n ∙ m) (λ c. absurd (n c.0)) w)

adds-no : (S R : Set) (i : ℕ) {P : Type 0} → R ≡ S → (P → ⊥) → Adds S R i P
adds-no S R i e n k = rw e (λ m. inl m, λ w. ⊎_elim (λ m. m) (λ c. absurd (n c.1)) w)

module _ (s t : ℕ) (z : Ranks) where
  abbrev after : Ranks
  after = ranked s t z

  -- a job that has begun
  begun-adds : Adds z.begun after.begun z.count (t ≤ s)
  begun-adds = go (dec_lt s t) (dec_lt t s)
    where
      go : Dec (s < t) → Dec (t < s) → Adds z.begun after.begun z.count (t ≤ s)
      go (yes l) d = adds-no z.begun after.begun z.count (sym (ap (λ (r : Ranks). r.begun) (ranked-later s t z l))) (λ h. omega arith)
      go (no l) (yes e) =
          adds-yes z.begun after.begun z.count (sym (ap (λ (r : Ranks). r.begun) (ranked-earlier s t z (omega arith) _ refl e))) (omega arith)
      go (no l) (no e) =
          adds-yes z.begun after.begun z.count (sym (ap (λ (r : Ranks). r.begun) (ranked-now s t z (omega arith) _ refl (omega arith) _ refl)))
          (omega arith)

  -- a job that is running
  running-adds : Adds z.running after.running z.count (t ≡ s)
  running-adds = go (dec_lt s t) (dec_lt t s)
    where
      go : Dec (s < t) → Dec (t < s) → Adds z.running after.running z.count (t ≡ s)
      go (yes l) d = adds-no z.running after.running z.count (sym (ap (λ (r : Ranks). r.running) (ranked-later s t z l))) (λ h. omega arith)
      go (no l) (yes e) =
          adds-no z.running after.running z.count (sym (ap (λ (r : Ranks). r.running) (ranked-earlier s t z (omega arith) _ refl e)))
          (λ h. omega arith)
      go (no l) (no e) =
          adds-yes z.running after.running z.count (sym (ap (λ (r : Ranks). r.running) (ranked-now s t z (omega arith) _ refl (omega arith) _ refl)))
          (omega arith)

-- ---- all jobs of a slot

module _ (P : ℕ → Type 0) (S : Ranks → Set) (s : ℕ) (adds : (t : ℕ) (z : Ranks) → Adds (S z) (S (ranked s t z)) z.count (P t)) (start : ℕ → ℕ) where
  -- the ranks of those that pass, from the count up, are new
  all-add : (is : List ℕ) (z : Ranks) (k : ℕ) → (member (S (ranked_all start s is z)) k ≡ true)
      ↔ ((member (S z) k ≡ true) ⊎ ((j : ℕ) × (k ≡ z.count + j) × (j < length is) × P (start (at is j))))
  unfolding ranked_all
  all-add [] z k = (λ m. inl m, λ w. ⊎_elim (λ m. m) (λ c. absurd (omega (arith, c.2))) w)
  all-add (i ∷ is) z k = let more = all-add is (ranked s (start i) z) k in (λ m. to (more.0 m), λ w. more.1 (from w))
    where
      count-is : (ranked s (start i) z).count ≡ z.count + 1
      count-is = ranked-count s (start i) z

      Later : Type 0
      Later = (j : ℕ) × (k ≡ (ranked s (start i) z).count + j) × (j < length is) × P (start (at is j))

      Among : Type 0
      Among = (j : ℕ) × (k ≡ z.count + j) × (j < suc (length is)) × P (start (at (i ∷ is) j))

      to : (member (S (ranked s (start i) z)) k ≡ true) ⊎ Later → (member (S z) k ≡ true) ⊎ Among
      to (inl m) = ⊎_elim (λ a. inl a) (λ c. inr (0, omega (arith, c.0), omega arith, c.1)) ((adds (start i) z k).0 m)
      to (inr (j, e, l, p)) = inr (suc j, omega (arith, e, count-is), omega arith, p)

      from : (member (S z) k ≡ true) ⊎ Among → (member (S (ranked s (start i) z)) k ≡ true) ⊎ Later
      from (inl m) = inl ((adds (start i) z k).1 (inl m))
      from (inr (zero, e, l, p)) = inl ((adds (start i) z k).1 (inr (omega (arith, e), p)))
      from (inr (suc j, e, l, p)) = inr (j, omega (arith, e, count-is), omega arith, p)

  -- so from none on, rank k is a member exactly where the k-th job passes
  ranks-are : S no_ranks ≡ empty → (is : List ℕ) (k : ℕ) → (member (S (ranked_all start s is no_ranks)) k ≡ true) ↔ ((k < length is) × P (start (at is k)))
  ranks-are none is k = let w = all-add is no_ranks k in (λ m. to (w.0 m), λ h. w.1 (inr (k, omega arith, h.0, h.1)))
    where
      to : (member (S no_ranks) k ≡ true) ⊎ ((j : ℕ) × (k ≡ 0 + j) × (j < length is) × P (start (at is j))) → (k < length is) × P (start (at is k))
      to (inl m) = absurd (present (member empty k) (sym (ap (λ (R : Set). member R k) none) ∙ m) (member-empty k))
      to (inr (j, e, l, p)) = let q : k ≡ j = omega (arith, e) in rw q (l, p)

-- ---- the number

-- the sets of ranks, and the number: rank k is that of the k-th of the slot's jobs; in slot s a job is done or running where it starts no later
pub record ByEntries (held : List ℕ) (t : List ℕ) (s number : ℕ) : Type 0 where
  pub begun : Set
  pub running : Set
  pub begun-is : (k : ℕ) → (member begun k ≡ true) ↔ ((k < length held) × (at t (at held k) ≤ s))
  pub running-is : (k : ℕ) → (member running k ≡ true) ↔ ((k < length held) × (at t (at held k) ≡ s))
  pub bytes : (begun.bits < 256) × (running.bits < 256)
  pub number_is : number ≡ entry begun.bits + entry running.bits

pub by_entries : (n : ℕ) (needs : List Need) (L : ℕ) (t : List ℕ) (s : ℕ) → s < L → width n needs L ≤ max_width
    → ByEntries (held_jobs n needs L s) t s (state_number n needs L t s)
unfolding state_digits number_of
by_entries n needs L t s h w =
    let few = held-few n needs L s h in
    let r = number-all (at t) s (held_jobs n needs L s) no_ranks none-counted (omega (arith, few, w)) in
    record {
      begun = (ranked_all (at t) s (held_jobs n needs L s) no_ranks).begun;
      running = (ranked_all (at t) s (held_jobs n needs L s) no_ranks).running;
      begun-is = ranks-are (λ i. i ≤ s) (λ z. z.begun) s (begun-adds s) (at t) refl (held_jobs n needs L s);
      running-is = ranks-are (λ i. i ≡ s) (λ z. z.running) s (running-adds s) (at t) refl (held_jobs n needs L s);
      bytes = counted-fit _ r.0 (omega (arith, r.1, few, w));
      number_is = omega (arith, r.2, none_number);
    }

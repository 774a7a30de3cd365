-- How many jobs one slot can get: all that is forced and one for each tying place. By counting: of candidates, at most one for each tying
-- place, there are at most so many, and where all that is forced and one for each tying place is among them, at least so many. Assumes nothing.
use Rattle.std.specs.Prelude.{◌≡◌, refl, ◌⊎◌, Bool, true, false, not, ℕ, suc, ◌+◌, ◌≤◌, ◌<◌, T, length}
use Rattle.std.proofs.Common.{⊎_elim, arith}
use mathlib.Core.List.{List, [], ◌∷◌, Memᴰ}
use Rattle.rules.specs.Basics.{choose, filter, range, Distinct}
use Rattle.laws.specs.Tests.{T_true, T_not}
use Rattle.laws.specs.Lists.{filter-mem, filter-mem⁻¹, filter-rising, range-rising}
use Rattle.laws.specs.Counting.{passing, pigeonhole, pigeonhole-by, rising-distinct, filter-distinct}
use Rattle.jobset.specs.declared.Set.{Set}
use Rattle.jobset.specs.Sets.{member, size, members}
use Rattle.jobset.specs.Members.{members-passing, in_members}
use Rattle.jobset.specs.Size.{size-members}
use Rattle.places.specs.Rows.{Loose, number-low}

-- a list in two parts
parts-length : (t : ℕ → Bool) (ps : List ℕ) → length ps ≡ length (filter t ps) + length (filter (λ p. not (t p)) ps)
unfolding filter choose
parts-length t [] = refl
parts-length t (p ∷ ps) = go (t p) (parts-length t ps)
  where
    go : (b : Bool) → length ps ≡ length (filter t ps) + length (filter (λ p. not (t p)) ps)
        → suc (length ps) ≡ length (choose b (p ∷ filter t ps) (filter t ps)) + length
        (choose (not b) (p ∷ filter (λ p. not (t p)) ps) (filter (λ p. not (t p)) ps))
    go true e = omega arith
    go false e = omega arith

pub members-distinct : (S : Set) → Distinct (members S)
members-distinct S = rw (members-passing S) (rising-distinct (passing (member S) 64) (filter-rising (member S) (range 64 0) (range-rising 64 0)))

-- a set of places below 64 has as many as its list
pub size_is : (S : Set) → ((p : ℕ) → member S p ≡ true → p < 64) → size S ≡ length (members S)
size_is S f = size-members S (number-low S 64 f)

-- ---- jobs and their places are as many

-- ---- candidates

-- each tied place has one near place, which is tying; each tying place is near to a tied one; no place is forced and tied
pub record Ties (forced tied tying : Set) (near : ℕ → Set) : Type 0 where
  pub near_of : (p : ℕ) → member tied p ≡ true → (k : ℕ) × (member (near p) k ≡ true) × (member tying k ≡ true)
  pub near-one : (p k l : ℕ) → member tied p ≡ true → member (near p) k ≡ true → member (near p) l ≡ true → k ≡ l
  pub taker-of : (k : ℕ) → member tying k ≡ true → (p : ℕ) × (member tied p ≡ true) × (member (near p) k ≡ true)
  pub other : (p : ℕ) → member forced p ≡ true → member tied p ≡ true → ⊥
  pub forced-low : (p : ℕ) → member forced p ≡ true → p < 64
  pub tying-low : (p : ℕ) → member tying p ≡ true → p < 64

module _ (forced tied tying : Set) (near : ℕ → Set) (ties : Ties forced tied tying near) (ps : List ℕ) (d : Distinct ps) where
  abbrev ours : List ℕ
  ours = filter (member forced) ps

  abbrev rest : List ℕ
  rest = filter (λ p. not (member forced p)) ps

  not-forced : (p : ℕ) → T (not (member forced p)) → member forced p ≡ true → ⊥
  not-forced p t e = (T_not (member forced p)).0 t ((T_true (member forced p)).1 e)

  pub fit-most : ((p : ℕ) → Memᴰ p ps → (member forced p ≡ true) ⊎ (member tied p ≡ true)) → Loose near ps → length ps ≤ size forced + size tying
  fit-most f loose = omega (arith, parts-length (member forced) ps, a, b, size_is forced ties.forced-low, size_is tying ties.tying-low)
    where
      a : length ours ≤ length (members forced)
      a = pigeonhole ours (members forced) (filter-distinct (member forced) ps d)
          (λ p m. let w = (T_true (member forced p)).0 (filter-mem⁻¹ (member forced) ps p m).1 in (in_members forced p).1 (ties.forced-low p w, w))

      tied_of : (p : ℕ) → Memᴰ p rest → Memᴰ p ps × (member tied p ≡ true)
      tied_of p m = let w = filter-mem⁻¹ (λ p. not (member forced p)) ps p m in (w.0, ⊎_elim (λ e. absurd (not-forced p w.1 e)) (λ e. e) (f p w.0))

      b : length rest ≤ length (members tying)
      b = pigeonhole-by (λ (p k : ℕ). member (near p) k ≡ true) rest (members tying) (filter-distinct (λ p. not (member forced p)) ps d)
          (λ p m. let w = ties.near_of p (tied_of p m).1 in (w.0, (in_members tying w.0).1 (ties.tying-low w.0 w.2, w.2), w.1))
          (λ p q k x y. loose p q k (tied_of p x).0 (tied_of q y).0)

  pub fit-least : ((p : ℕ) → member forced p ≡ true → Memᴰ p ps)
      → ((k : ℕ) → member tying k ≡ true → (p : ℕ) × Memᴰ p ps × (member tied p ≡ true) × (member (near p) k ≡ true))
      → size forced + size tying ≤ length ps
  fit-least f g = omega (arith, parts-length (member forced) ps, a, b, size_is forced ties.forced-low, size_is tying ties.tying-low)
    where
      a : length (members forced) ≤ length ours
      a = pigeonhole (members forced) ours (members-distinct forced) (λ p m. let w = ((in_members forced p).0 m).1 in
          filter-mem (member forced) ps p (f p w) ((T_true (member forced p)).1 w))

      b : length (members tying) ≤ length rest
      b = pigeonhole-by (λ (k p : ℕ). (member (near p) k ≡ true) × (member tied p ≡ true)) (members tying) rest (members-distinct tying)
          (λ k m. let w = g k ((in_members tying k).0 m).1 in (
            w.0,
            filter-mem (λ p. not (member forced p)) ps w.0 w.1
                ((T_not (member forced w.0)).1 (λ t. ties.other w.0 ((T_true (member forced w.0)).0 t) w.2)),
            (w.3, w.2),
          ))
          (λ k l p x y u v. ties.near-one p k l u.1 u.0 v.0)

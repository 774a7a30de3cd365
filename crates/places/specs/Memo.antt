-- The search over places with a bitmap of the states that have no plan, and that the bitmap changes nothing. The key of a state tells it
-- from every other, so a marked state is the very state that was found to have none. Assumes nothing.
-- More of what holds: proofs/Memo.antt.
use Rattle.std.specs.Prelude.{◌≡◌, Bool, ◌⊎◌}
use Rattle.std.proofs.Math.Path.{refl, ap}
use Rattle.std.proofs.Common.{sym, ◌∙◌, true≢false, ⊎_elim}
use Rattle.std.proofs.Math.Bool.{true, false}
use Rattle.std.proofs.lemmas.Bool.{false≢true}
use mathlib.Core.List.{List, [], ◌∷◌, ◌++◌, Memᴰ}
use Prim.Native.Nat.{ℕ, zero, suc, ◌+◌, ◌-◌, ◌*◌, ◌/◌, ◌^◌, ◌<◌, ◌≤◌}
use native.Mathlib.Omega.{arith}
use Rattle.std.proofs.Math.Decide.{dec_lt}
use Rattle.rules.specs.Basics.{choose}
use Rattle.laws.specs.Tests.{by-choice}
use Rattle.jobset.specs.declared.Set.{Set}
use Rattle.jobset.specs.Sets.{member, empty, minus, is_subset, Subset}
use Rattle.jobset.specs.Membership.{member-empty, in-union, in-minus}
use Rattle.jobset.specs.Inclusion.{right-subset-union}
use Rattle.bitmap.specs.Marks.{is_marked, with_mark}
use Rattle.jobset.specs.Tests.{present}
use Rattle.threes.specs.Threes.{threes_to, threes, number_of, Eight}
use Rattle.threes.proofs.Threes.{number-injective}
use Rattle.places.specs.Seats.{at_place}
use Rattle.places.specs.Windows.{Windows, in_held, Seats}
use Rattle.places.specs.Tables.{Tables, Shows}
use Rattle.places.specs.Slot.{carried}
use Rattle.places.specs.Model.{Plan, no_plan, finished, slot_then, Tries, done_after, key}

-- ---- the model with a bitmap

-- what a search gives: the plan, the bitmap after it, and a log of the keys of the states that it opened, which nothing reads
pub record Explored : Type 0 where
  pub plan : Plan
  pub dead : List ℕ
  pub opened : List ℕ

-- an answer without opening a state
abbrev pub at_once : Plan → List ℕ → Explored
at_once plan dead = record { plan = plan; dead = dead; opened = [] }

-- a try that led to a plan, after a slot with the set S
unfoldable pub hit : Set → Explored → Explored
hit S e = record { plan = slot_then S e.plan; dead = e.dead; opened = e.opened }

-- a try that led to no plan, and the tries after it
unfoldable pub miss_then : Explored → Explored → Explored
miss_then e rest = record { plan = rest.plan; dead = rest.dead; opened = e.opened ++ rest.opened }

-- the tries of the state with key k, which is marked where they led to no plan
unfoldable pub opening : ℕ → Explored → Explored
opening k e = record { plan = e.plan; dead = choose e.plan.ok e.dead (with_mark e.dead k); opened = k ∷ e.opened }

-- as `try_all`, each try with the bitmap that the one before left
unfoldable pub explore_all : (Set → List ℕ → Explored) → List Set → List ℕ → Explored
explore_all go [] dead = at_once no_plan dead
explore_all go (S ∷ Ss) dead = choose (go S dead).plan.ok (hit S (go S dead)) (miss_then (go S dead) (explore_all go Ss (go S dead).dead))

-- as `find`, but a state that is marked is not opened
unfoldable pub explored : Tables → (ℕ → ℕ) → Tries → ℕ → ℕ → Set → Set → List ℕ → Explored
explored A base tries zero s done ran dead = at_once (choose (is_subset (A.due s) done) finished no_plan) dead
explored A base tries (suc k) s done ran dead =
    let tried = explore_all (λ S b. explored A base tries k (suc s) (done_after A s done S) S b) (tries s done ran) dead in
    choose (is_subset (A.due s) done)
    (choose (is_marked dead (key base s done ran)) (at_once no_plan dead) (opening (key base s done ran) tried)) (at_once no_plan dead)

-- ---- rows of marks

-- the places of the slot before s
abbrev pub before : Tables → ℕ → Set
before A zero = empty
before A (suc s) = A.held s

-- what the marks ask of the tables and of the rows: what does not end stays, places are below 8, and a row has room for the numbers of its slot
pub record Rows (A : Tables) (base : ℕ → ℕ) (slots : ℕ) : Type 0 where
  pub stay : (s : ℕ) → s < slots → Subset (minus (before A s) (A.ends s)) (A.held s)
  pub eight : (s : ℕ) → s < slots → Eight (A.held s)
  pub row : (s : ℕ) → s < slots → base s + (threes (before A s) + threes (before A s)) < base (suc s)

-- rows by the places in use, as bytes: each starts so many bytes behind the one before
unfoldable pub row_start : Tables → ℕ → ℕ
row_start A zero = 0
row_start A (suc s) = row_start A s + threes (before A s) / 4 + 1

unfoldable pub sized_rows : Tables → ℕ → ℕ
sized_rows A s = 8 * row_start A s

-- a set within another has no greater sum
threes-mono : (k : ℕ) (S R : Set) → Subset S R → threes_to k S ≤ threes_to k R
unfolding threes_to
threes-mono zero S R h = omega arith
threes-mono (suc k) S R h = go (member S k) (member R k) (λ m. unfold Subset in h k m) (threes-mono k S R h)
  where
    go : (x y : Bool) → (x ≡ true → y ≡ true) → threes_to k S ≤ threes_to k R → threes_to k S + choose x (3 ^ k) 0 ≤ threes_to k R + choose y (3 ^ k) 0
    go true true f l = unfold choose in omega arith
    go true false f l = absurd (false≢true (f refl))
    go false true f l = unfold choose in omega arith
    go false false f l = unfold choose in omega arith

pub number-le : (d r F : Set) → Subset d F → Subset r d → number_of d r ≤ threes F + threes F
unfolding number_of threes Subset
number-le d r F a b = omega (arith, threes-mono 8 d F (unfold Subset in a), threes-mono 8 r F (unfold Subset in λ p m. a p (b p m)))

-- tables that show the windows have what is asked
module _ (W : Windows) (Z : Seats W) (limit : ℕ) (A : Tables) (sh : Shows W Z limit A) (slots : ℕ) (le : slots ≤ limit) where
  shows_stay : (s : ℕ) → s < slots → Subset (minus (before A s) (A.ends s)) (A.held s)
  unfolding Subset
  shows_stay zero h p m = absurd (present (member empty p) ((in-minus empty (A.ends 0) p).0 m).0 (member-empty p))
  shows_stay (suc s) h p m =
      let w = (in-minus (A.held s) (A.ends (suc s)) p).0 m in
      let v = at_place (sh.held-is s (omega arith)) p w.0 in
      let n : ¬ (W.d v.0 ≡ suc s) = λ e. present (member (A.ends (suc s)) p) (ap (member (A.ends (suc s))) (sym v.2)
      ∙ (sh.ends_is (suc s) (omega arith)).from v.0 v.1 e) w.1 in
      let z = (in_held W s v.0).0 v.1 in
      ap (member (A.held (suc s))) (sym v.2)
      ∙ (sh.held-is (suc s) (omega arith)).from v.0 ((in_held W (suc s) v.0).1 (z.0, omega (arith, z.1), omega (arith, z.2))) tt

  shows-eight : (s : ℕ) → s < slots → Eight (A.held s)
  shows-eight s h p m = let v = (sh.held-is s (omega arith)).bound p m in omega (arith, Z.low s v.0 v.1, v.2)

  pub sized_rows_lem : Rows A (sized_rows A) slots
  unfolding sized_rows row_start
  sized_rows_lem = record { stay = shows_stay; eight = shows-eight; row = λ s h. omega arith }

-- ---- the states that a search reaches, and their keys

-- the state before slot s, with `left` slots left: of the places of the slot before, and what ran is done
pub record Reached (A : Tables) (slots left s : ℕ) (done ran : Set) : Type 0 where
  pub total : left + s ≡ slots
  pub of-slot : Subset done (before A s)
  pub included : Subset ran done

-- two states with one key are the same
pub record Same (left s left' s' : ℕ) (d r e q : Set) : Type 0 where
  pub slot : s ≡ s'
  pub slots-left : left ≡ left'
  pub done : d ≡ e
  pub ran : r ≡ q

module _ (A : Tables) (base : ℕ → ℕ) (slots : ℕ) (R : Rows A base slots) where
  eight-before : (s : ℕ) → s ≤ slots → Eight (before A s)
  eight-before zero h p m = absurd (present (member empty p) m (member-empty p))
  eight-before (suc s) h p m = R.eight s (omega arith) p m

  -- the key is one of its slot's row
  pub key-slot : (left s : ℕ) (done ran : Set) → 0 < left → Reached A slots left s done ran → (base s ≤ key base s done ran)
      × (key base s done ran < base (suc s))
  unfolding key
  key-slot left s done ran p z = omega (arith, number-le done ran (before A s) z.of-slot z.included, R.row s (omega (arith, z.total)))

  -- rows do not overlap
  pub base-le : (k s : ℕ) → k + s ≤ slots → base s ≤ base (k + s)
  base-le zero s h = let e : 0 + s ≡ s = omega arith in rw e (omega arith)
  base-le (suc k) s h = let e : suc k + s ≡ suc (k + s) = omega arith in rw e (omega (arith, base-le k s (omega arith), R.row (k + s) (omega arith)))

  rows_apart : (s s' : ℕ) → s < s' → s' ≤ slots → base (suc s) ≤ base s'
  rows_apart s s' l h = let e : s' - suc s + suc s ≡ s' = omega arith in rw e at (base-le (s' - suc s) (suc s) (omega arith))

  pub key-injective : (left s left' s' : ℕ) (d r e q : Set) → 0 < left → 0 < left' → Reached A slots left s d r → Reached A slots left' s' e q → key base s d r
      ≡ key base s' e q → Same left s left' s' d r e q
  key-injective left s left' s' d r e q p p' X Y h = go (dec_lt s s') (dec_lt s' s)
    where
      k-X : (base s ≤ key base s d r) × (key base s d r < base (suc s))
      k-X = key-slot left s d r p X

      k-Y : (base s' ≤ key base s' e q) × (key base s' e q < base (suc s'))
      k-Y = key-slot left' s' e q p' Y

      small : (z : ℕ) (x y : Set) → z ≤ slots → Subset x (before A z) → Eight x
      small z x y l a k m = eight-before z l k (unfold Subset in a k m)

      same : s ≡ s' → Same left s left' s' d r e q
      same z =
          let n : number_of d r ≡ number_of e q = unfold key in (let b : base s ≡ base s' = ap base z in omega arith) in
          let w = number-injective d r e q (small s d d (omega (arith, X.total)) X.of-slot) (small s' e e (omega (arith, Y.total)) Y.of-slot)
          X.included Y.included n in
          record { slot = z; slots-left = omega (arith, X.total, Y.total); done = w.0; ran = w.1 }

      go : Dec (s < s') → Dec (s' < s) → Same left s left' s' d r e q
      go (yes l) o = absurd (omega (arith, k-X, k-Y, rows_apart s s' l (omega (arith, Y.total))))
      go (no l) (yes o) = absurd (omega (arith, k-X, k-Y, rows_apart s' s o (omega (arith, X.total))))
      go (no l) (no o) = same (omega arith)

-- the sets tried are of the places of their slot
abbrev pub TriesHeld : Tables → Tries → ℕ → Type 0
TriesHeld A tries slots = (s : ℕ) → s < slots → (done ran S : Set) → Memᴰ S (tries s done ran) → Subset S (A.held s)

-- the state after a slot with such a set
pub reached-next : (A : Tables) (base : ℕ → ℕ) (slots : ℕ) → Rows A base slots → (k s : ℕ) (done ran S : Set) → Reached A slots (suc k) s done ran
    → Subset S (A.held s) → Reached A slots k (suc s) (done_after A s done S) S
unfolding done_after carried Subset
reached-next A base slots R k s done ran S z e = record {
  total = omega (arith, z.total);
  of-slot = λ p m. ⊎_elim (λ a. let w = (in-minus done (A.ends s) p).0 a in
      R.stay s (omega (arith, z.total)) p ((in-minus (before A s) (A.ends s) p).1 (z.of-slot p w.0, w.1))) (e p)
      ((in-union (minus done (A.ends s)) S p).0 m);
  included = right-subset-union (minus done (A.ends s)) S;
}

-- ---- an answer without a plan has no sets

abbrev Empty : Explored → Type 0
Empty e = e.plan.ok ≡ false → e.plan ≡ no_plan

pub empty-all : (go : Set → List ℕ → Explored) (Ss : List Set) (dead : List ℕ) → (explore_all go Ss dead).plan.ok ≡ false → (explore_all go Ss dead).plan ≡ no_plan
unfolding explore_all hit miss_then slot_then
empty-all go [] dead = λ e. refl
empty-all go (S ∷ Ss) dead = by-choice Empty (go S dead).plan.ok (λ o e. absurd (true≢false e)) (λ o. empty-all go Ss (go S dead).dead)

-- The search over places step by step, as code meets it: the answers at once, then the sets of the row by falling numbers; sets that leave
-- out a job that is due need not be tried. Assumes nothing.
use Rattle.std.specs.Prelude.{◌≡◌, refl, true, false}
use Rattle.std.proofs.Common.{ap₂, ◌∙◌, add-one, arith}
use mathlib.Core.List.{List, [], ◌∷◌, Memᴰ}
use Prim.Native.Nat.{ℕ, zero, suc, ◌+◌, ◌-◌, ◌<◌}
use Rattle.rules.specs.Basics.{choose}
use Rattle.jobset.specs.declared.Set.{Set}
use Rattle.jobset.specs.Sets.{is_subset}
use Rattle.bitmap.specs.Marks.{is_marked}
use Rattle.places.specs.Tables.{Tables}
use Rattle.places.specs.Model.{no_plan, finished, Tries, done_after, key}
use Rattle.places.specs.Memo.{Explored, at_once, hit, miss_then, opening, explore_all, explored}

-- ---- at a state

-- what follows a slot with the set S
unfoldable pub following : Tables → (ℕ → ℕ) → Tries → ℕ → ℕ → Set → Set → List ℕ → Explored
following A base tries left s done S dead = explored A base tries (left - 1) (s + 1) (done_after A s done S) S dead

following-suc : (A : Tables) (base : ℕ → ℕ) (tries : Tries) (k s : ℕ) (done : Set) → following A base tries (suc k) s done
    ≡ (λ S dead. explored A base tries k (suc s) (done_after A s done S) S dead)
unfolding following
following-suc A base tries k s done = ap₂ (λ (m z : ℕ). λ (S : Set) (dead : List ℕ). explored A base tries m z (done_after A s done S) S dead) (omega arith)
    (add-one s)

module _ (A : Tables) (base : ℕ → ℕ) (tries : Tries) (s : ℕ) (done ran : Set) (dead : List ℕ) where
  -- a job that is due is not done
  pub explored-late : (left : ℕ) → is_subset (A.due s) done ≡ false → explored A base tries left s done ran dead ≡ at_once no_plan dead
  unfolding explored choose
  explored-late zero h = rw (h)
  explored-late (suc left) h = rw (h)

  -- no slot is left
  pub explored-end : is_subset (A.due s) done ≡ true → explored A base tries 0 s done ran dead ≡ at_once finished dead
  unfolding explored choose
  explored-end h = rw (h)

  -- the state is marked
  pub explored-marked : (left : ℕ) → 0 < left → is_subset (A.due s) done ≡ true → is_marked dead (key base s done ran) ≡ true
      → explored A base tries left s done ran dead ≡ at_once no_plan dead
  unfolding explored choose
  explored-marked zero p i m = absurd (omega arith)
  explored-marked (suc left) p i m = rw (i, m)

  -- the state is opened
  pub explored-open : (left : ℕ) → 0 < left → is_subset (A.due s) done ≡ true → is_marked dead (key base s done ran) ≡ false
      → explored A base tries left s done ran dead ≡ opening (key base s done ran) (explore_all (following A base tries left s done) (tries s done ran) dead)
  unfolding explored choose
  explored-open zero p i m = absurd (omega arith)
  explored-open (suc left) p i m = rw (i, m, following-suc A base tries left s done)

-- ---- at a set

-- the same answer and the same bitmap
pub record Same (x y : Explored) : Type 0 where
  pub plan : x.plan ≡ y.plan
  pub dead : x.dead ≡ y.dead

-- one set alone
pub one_hit : (goes : Set → List ℕ → Explored) (S : Set) (dead : List ℕ) → (goes S dead).plan.ok ≡ true → explore_all goes (S ∷ []) dead ≡ hit S (goes S dead)
unfolding explore_all choose
one_hit goes S dead e = rw (e)

pub one-miss : (goes : Set → List ℕ → Explored) (S : Set) (dead : List ℕ) → (goes S dead).plan.ok ≡ false
    → Same (at_once no_plan (goes S dead).dead) (explore_all goes (S ∷ []) dead)
unfolding explore_all choose miss_then
one-miss goes S dead e = rw (e) (record { plan = refl; dead = refl })

-- where every set is late at once nothing is found
pub all-late : (goes : Set → List ℕ → Explored) (Ss : List Set) (dead : List ℕ) → ((S : Set) → Memᴰ S Ss → goes S dead ≡ at_once no_plan dead)
    → Same (at_once no_plan dead) (explore_all goes Ss dead)
unfolding explore_all choose miss_then
all-late goes [] dead f = record { plan = refl; dead = refl }
all-late goes (S ∷ Ss) dead f = let e = f S (Memᴰ.head refl) in let r = all-late goes Ss dead (λ R m. f R (Memᴰ.tail m)) in
    rw (e) (record { plan = r.plan; dead = r.dead })

pub same-trans : {x y z : Explored} → Same x y → Same y z → Same x z
same-trans a b = record { plan = a.plan ∙ b.plan; dead = a.dead ∙ b.dead }
